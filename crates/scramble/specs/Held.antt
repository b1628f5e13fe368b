-- Bits held as a number, the first on top. Only the contracts of this crate's own functions cite it.
use Rattle.std.specs.Prelude.{List, ℕ, zero, suc, ◌+◌, ◌*◌, ◌/◌, ◌%◌, ◌^◌}
use Rattle.octets.specs.Bits.{flip}
use Rattle.scramble.specs.Sequence.{P}

-- the k bits s n, s (n + 1), .. as a number
unfoldable pub as_number : (ℕ → ℕ) → ℕ → ℕ → ℕ
as_number s n zero = 0
as_number s n (suc k) = as_number s n k * 2 + s (n + k)

-- the fifteen bits P n to P (n + 14)
unfoldable pub held : List ℕ → ℕ → ℕ
held key n = as_number (P key) n 15

-- fifteen bits moved one place on: the first drops out, and the exclusive or of the first two comes in last
unfoldable pub moved : ℕ → ℕ
moved b = b * 2 % 2 ^ 15 + flip (b / 2 ^ 13 % 2) (b / 2 ^ 14 % 2)
