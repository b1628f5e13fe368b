-- The scramble sequence (001, 5.3.1 and 7.2.2.1): a register of 15 stages that the key fills. A register is a number below 2 ^ 15, and its
-- lowest bit comes out first.
use Rattle.std.specs.Prelude.{List, ℕ, ◌+◌, ◌*◌, ◌/◌, ◌%◌, ◌^◌, get_or}
use Rattle.octets.specs.Lists.{iterate}
use Rattle.octets.specs.Bits.{flip}

-- the key's 15 bits as a number, high octet first
unfoldable pub key_number : List ℕ → ℕ
key_number key = (256 * get_or key 0 0 + get_or key 1 0) % 2 ^ 15

-- one step: the lowest bit goes out, and the exclusive or of the two lowest comes in at the top
unfoldable pub stepped : ℕ → ℕ
stepped r = r / 2 + 2 ^ 14 * flip (r / 2 % 2) (r % 2)

-- P0, P1, ..: the bits that come out
unfoldable pub P : List ℕ → ℕ → ℕ
P key n = iterate stepped n (key_number key) % 2
