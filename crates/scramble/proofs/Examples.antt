-- The marked example (001, 7.2.2.1): what the data test vector was turned over by.
use mathlib.Core.Path.{◌≡◌, refl}
use mathlib.Core.List.{[], ◌∷◌}
use Rattle.octets.specs.Lists.{iterate}
use Rattle.octets.specs.Bits.{octet, octets_from}
use Rattle.scramble.specs.Sequence.{key_number, stepped, P}

-- the key 000 0000 0000 0001
pub key_one : octets_from 4 (P (0x00 ∷ 0x01 ∷ [])) ≡ 0x80 ∷ 0x01 ∷ 0x00 ∷ 0x06 ∷ []
unfolding iterate octet octets_from key_number stepped P
key_one = refl
