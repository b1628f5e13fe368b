-- Decimal numbers without leading zeros (document 01, "The receiver program").
use Rattle.std.specs.Prelude.{List, [], ◌∷◌, ◌++◌, Bool, ◌&&◌, ◌||◌, not, ℕ, zero, suc, ◌+◌, ◌-◌, ◌*◌, ◌/◌, ◌%◌, ltb, leb, eqb, length, get_or, Option, Some, None}
use Rattle.octets.specs.Tests.{pick, every, all_below}

-- the digit 0
abbrev pub digit_zero : ℕ
digit_zero = 0x30

abbrev pub is_digit : ℕ → Bool
is_digit x = leb digit_zero x && leb x (digit_zero + 9)

-- the value of the first n digits
unfoldable pub value_to : List ℕ → ℕ → ℕ
value_to xs zero = 0
value_to xs (suc n) = 10 * value_to xs n + (get_or xs n 0 - digit_zero)

abbrev pub decimal_value : List ℕ → ℕ
decimal_value xs = value_to xs (length xs)

-- digits, at least one, of which the first is 0 only where it is alone; their value is at most `most`
unfoldable pub is_decimal : ℕ → List ℕ → Bool
is_decimal most xs =
    every
    (leb 1 (length xs) ∷ all_below (λ i. is_digit (get_or xs i 0)) (length xs) ∷ (eqb (length xs) 1 || not (eqb (get_or xs 0 0) digit_zero))
    ∷ leb (decimal_value xs) most ∷ [])

-- the number of a field, where the field is one and is at most `most`
unfoldable pub number_in : ℕ → List ℕ → Option ℕ
number_in most xs = pick (is_decimal most xs) (Some (decimal_value xs)) None

-- the last digits of a number, as many as it has and no more than k: those of its tenth part, and its remainder
unfoldable pub last_digits : ℕ → ℕ → List ℕ
last_digits zero n = []
last_digits (suc k) n = pick (ltb n 10) [] (last_digits k (n / 10)) ++ ((digit_zero + n % 10) ∷ [])

-- a number as text; it has no more than n + 1 digits
unfoldable pub decimal : ℕ → List ℕ
decimal n = last_digits (suc n) n
