-- Octets and their bits, the most significant first.
use Rattle.std.specs.Prelude.{List, [], ◌∷◌, ℕ, zero, suc, ◌+◌, ◌-◌, ◌*◌, ◌/◌, ◌%◌, ◌^◌, ◌<◌, get_or}

-- bit n of a list of octets: bit 0 is the top bit of the first; past the end a bit is 0
abbrev pub bit : List ℕ → ℕ → ℕ
bit xs n = get_or xs (n / 8) 0 / 2 ^ (7 - n % 8) % 2

-- a bit turned over by a bit: their exclusive or
abbrev pub flip : ℕ → ℕ → ℕ
flip a b = (a + b) % 2

-- the octet whose bits are f 0 to f 7
unfoldable pub octet : (ℕ → ℕ) → ℕ
octet f = 128 * f 0 + 64 * f 1 + 32 * f 2 + 16 * f 3 + 8 * f 4 + 4 * f 5 + 2 * f 6 + f 7

-- the n octets whose bit k is f k
unfoldable pub octets_from : ℕ → (ℕ → ℕ) → List ℕ
octets_from zero f = []
octets_from (suc n) f = octet f ∷ octets_from n (λ k. f (k + 8))

-- each value of f is a bit
abbrev pub Bits : (ℕ → ℕ) → Type 0
Bits f = (k : ℕ) → f k < 2

-- each element is an octet
abbrev pub Octets : List ℕ → Type 0
Octets xs = (i : ℕ) → get_or xs i 0 < 256
