-- The eight octets that a number of 64 bits writes, and its bits, so that a block which its bits work out is worked out.
use mathlib.Core.Path.{◌≡◌, refl}
use mathlib.Core.List.{List}
use Prim.Native.Nat.{ℕ, ◌-◌, ◌/◌, ◌%◌, ◌^◌}
use native.Mathlib.Omega.{arith}
use Rattle.octets.specs.Lists.{tab}
use Rattle.octets.specs.Bits.{bit, octet, octets_from}
use Rattle.octets.proofs.BitLaws.{bit-octets_from}
use Rattle.octets.proofs.ListLaws.{tab_same}
use Rattle.des.specs.Des.{des, enciphered, round_key}

-- bit k of a number of 64 bits, the most significant first
abbrev number_bit : ℕ → ℕ → ℕ
number_bit n k = n / 2 ^ (63 - k) % 2

-- the eight octets, and the 64 bits, that such a number writes
abbrev pub octets : ℕ → List ℕ
octets n = octets_from 8 (number_bit n)

abbrev pub bits : ℕ → List ℕ
bits n = tab (number_bit n) 64

octets-bits : (n : ℕ) → tab (bit (octets n)) 64 ≡ bits n
octets-bits n = tab_same _ _ 64 (λ k h. bit-octets_from 8 (number_bit n) (λ i. omega arith) k (omega arith))

-- so a block that its bits work out
pub octets_work : (key block out : ℕ) → enciphered (round_key (bits key)) (bits block) ≡ bits out → des (octets key) (octets block) ≡ octets out
unfolding des tab octet octets_from
octets_work key block out e = rw (octets-bits key, octets-bits block, e) refl
