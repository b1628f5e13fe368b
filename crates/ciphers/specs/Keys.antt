-- Which keys are allowed (document 01, "Ciphers and keys"). A key's octets come first in the list.
use Rattle.std.specs.Prelude.{ℕ, ◌+◌, ◌/◌, ◌%◌, Bool, true, false, ◌&&◌, not, List, get_or, drop, ltb, eqb}
use Rattle.sizes.specs.Ciphers.{by_cipher, key_octets}
use Rattle.octets.specs.Tests.{all_below}
use Rattle.octets.specs.Lists.{all_zero}

-- how many of an octet's eight bits are 1
abbrev pub ones : ℕ → ℕ
ones x = x % 2 + x / 2 % 2 + x / 4 % 2 + x / 8 % 2 + x / 16 % 2 + x / 32 % 2 + x / 64 % 2 + x / 128 % 2

-- the octet has odd parity
unfoldable pub odd_octet : ℕ → Bool
odd_octet x = eqb (ones x % 2) 1

-- 15 bits, high octet first, top bit 0, not zero
unfoldable pub scramble_key : List ℕ → Bool
scramble_key k = ltb (get_or k 0 0) 128 && not (eqb (get_or k 0 0) 0 && eqb (get_or k 1 0) 0)

-- odd parity in each of eight octets
unfoldable pub des_key : List ℕ → Bool
des_key k = all_below (λ i. odd_octet (get_or k i 0)) 8

-- the key is allowed for the cipher type
unfoldable pub key_allowed : ℕ → List ℕ → Bool
key_allowed c k = by_cipher c (scramble_key k) (des_key k) true false

-- an allowed key, and nothing past its length
unfoldable pub key_right : ℕ → List ℕ → Bool
key_right cipher key = key_allowed cipher key && all_zero (drop (key_octets cipher) key)
