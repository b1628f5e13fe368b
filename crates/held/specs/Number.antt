-- A number in lent octets, the most significant octet first.
use Rattle.std.specs.Prelude.{List, [], ◌∷◌, ℕ, ◌+◌, ◌*◌, ◌/◌, ◌%◌, get_or}

-- in two octets
abbrev pub two_of : ℕ → List ℕ
two_of x = x / 256 % 256 ∷ x % 256 ∷ []

-- in four
abbrev pub four_of : ℕ → List ℕ
four_of x = x / 16777216 % 256 ∷ x / 65536 % 256 ∷ x / 256 % 256 ∷ x % 256 ∷ []

-- from octet i on
abbrev pub two_at : List ℕ → ℕ → ℕ
two_at o i = 256 * get_or o i 0 + get_or o (i + 1) 0

abbrev pub four_at : List ℕ → ℕ → ℕ
four_at o i = 16777216 * get_or o i 0 + 65536 * get_or o (i + 1) 0 + 256 * get_or o (i + 2) 0 + get_or o (i + 3) 0
