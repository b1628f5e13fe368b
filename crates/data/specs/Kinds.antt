-- The message kinds, 1 DCALL, 2 SDCALL inbound UPCH, 3 the same outbound and 4 FACCH1 (document 01, "Data"; 001, 5.4.2 and 5.4.5.1),
-- and the numbers that belong to each.
use Rattle.std.specs.Prelude.{Bool, ◌&&◌, ℕ, ◌*◌, leb, eqb}
use Rattle.octets.specs.Tests.{pick}

-- what belongs to a kind, and 0 for a number that is none
abbrev pub by_kind : ℕ → ℕ → ℕ → ℕ → ℕ → ℕ
by_kind kind dcall inbound outbound facch1 =
    pick (eqb kind 1) dcall (pick (eqb kind 2) inbound (pick (eqb kind 3) outbound (pick (eqb kind 4) facch1 0)))

unfoldable pub is_kind : ℕ → Bool
is_kind kind = leb 1 kind && leb kind 4

abbrev pub message_octets : ℕ → ℕ
message_octets kind = by_kind kind 22 16 18 10

-- the octets before those that are protected
abbrev pub head_octets : ℕ
head_octets = 2

abbrev pub protected_octets : ℕ → ℕ
protected_octets kind = by_kind kind 20 14 14 8

abbrev pub protected_bits : ℕ → ℕ
protected_bits kind = 8 * protected_octets kind
