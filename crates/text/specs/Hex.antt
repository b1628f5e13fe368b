-- Octets in upper-case hex, two digits each (document 01, "The receiver program").
use Rattle.std.specs.Prelude.{List, Bool, ◌&&◌, ◌||◌, ℕ, ◌+◌, ◌-◌, ◌*◌, ◌/◌, ◌%◌, ltb, leb, eqb, length, get_or}
use Rattle.octets.specs.Tests.{pick, all_below}
use Rattle.octets.specs.Lists.{tab}
use Rattle.text.specs.Decimal.{digit_zero, is_digit}

-- the digit A, which is worth 10
abbrev pub digit_a : ℕ
digit_a = 0x41

-- A to F
abbrev pub is_letter_digit : ℕ → Bool
is_letter_digit x = leb digit_a x && leb x (digit_a + 5)

abbrev pub is_hex_digit : ℕ → Bool
is_hex_digit x = is_digit x || is_letter_digit x

-- what a hex digit is worth; any other octet is worth nothing
unfoldable pub hex_value : ℕ → ℕ
hex_value x = pick (is_digit x) (x - digit_zero) (pick (is_letter_digit x) (10 + (x - digit_a)) 0)

-- the hex digit that is worth n
unfoldable pub hex_digit : ℕ → ℕ
hex_digit n = pick (ltb n 10) (digit_zero + n) (digit_a + (n - 10))

-- the digits of n octets
unfoldable pub is_hex : ℕ → List ℕ → Bool
is_hex n xs = eqb (length xs) (2 * n) && all_below (λ i. is_hex_digit (get_or xs i 0)) (2 * n)

-- the first n octets that they stand for, high digit first
unfoldable pub hex_octets : List ℕ → ℕ → List ℕ
hex_octets xs n = tab (λ i. 16 * hex_value (get_or xs (2 * i) 0) + hex_value (get_or xs (2 * i + 1) 0)) n

-- the octets that a field of hex stands for
abbrev pub octets_in : List ℕ → List ℕ
octets_in field = hex_octets field (length field / 2)

-- octets as text
unfoldable pub hex_text : List ℕ → List ℕ
hex_text xs = tab (λ k. hex_digit (get_or xs (k / 2) 0 / pick (eqb (k % 2) 0) 16 1 % 16)) (2 * length xs)

-- the most octets that are read of a field: a record has at most 32, a published vector 64
abbrev pub most_octets : ℕ
most_octets = 64

-- what reading a field leaves in lent octets: as they were where the length is wrong
unfoldable pub read_hex : List ℕ → List ℕ → List ℕ
read_hex field out = pick (eqb (length field) (2 * length out)) (hex_octets field (length out)) out
