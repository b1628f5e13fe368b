-- The bits of a number, the leftmost first.
use mathlib.Core.Path.{◌≡◌, sym, ◌∙◌}
use mathlib.Core.List.{List}
use Prim.Native.Nat.{ℕ, suc, ◌-◌, ◌/◌, ◌%◌, ◌^◌, ◌<◌}
use native.Mathlib.Omega.{arith}
use lib.Bits.{bit_xor}
use lib.ListN.{length, get_or}
use lib.Seq.{ext_get_or}
use Rattle.octets.specs.Bits.{flip}
use Rattle.octets.proofs.BitLaws.{xor_bit}
use Rattle.octets.proofs.ListLaws.{length-tab, get_or-tab}
use Rattle.des.specs.Des.{xor_bits}
use Rattle.joineddes.specs.Joined.{bits_in}
use Rattle.des.proofs.BitLists.{BitList, bits-tab, length_xor}

pub length-bits_in : (w x : ℕ) → length (bits_in w x) ≡ w
unfolding bits_in
length-bits_in w x = length-tab _ w

pub get_or-bits_in : (w x i : ℕ) → i < w → get_or (bits_in w x) i 0 ≡ x / 2 ^ (w - suc i) % 2
unfolding bits_in
get_or-bits_in w x i h = get_or-tab (λ i. x / 2 ^ (w - suc i) % 2) w i h

pub bits-bits_in : (w x : ℕ) → BitList (bits_in w x)
unfolding bits_in
bits-bits_in w x = bits-tab (λ i. x / 2 ^ (w - suc i) % 2) w (λ i. omega arith)

-- a list of w bits is the number's where each of them is
pub bits_in-is : (w x : ℕ) (l : List ℕ) → length l ≡ w → ((i : ℕ) → i < w → x / 2 ^ (w - suc i) % 2 ≡ get_or l i 0) → bits_in w x ≡ l
bits_in-is w x l long h =
    ext_get_or 0 (bits_in w x) l (length-bits_in w x ∙ sym long)
    (λ i b. let inside : i < w = omega (arith, length-bits_in w x) in get_or-bits_in w x i inside ∙ h i inside)

-- an exclusive or's are the sums
pub bits_in_xor : (w x y : ℕ) → bits_in w (bit_xor x y) ≡ xor_bits (bits_in w x) (bits_in w y)
unfolding xor_bits
bits_in_xor w x y =
    bits_in-is w (bit_xor x y) (xor_bits (bits_in w x) (bits_in w y)) (length_xor (bits_in w x) (bits_in w y) ∙ length-bits_in w x)
    (λ i h.
    xor_bit x y (w - suc i)
    ∙ sym (get_or-tab (λ i. flip (get_or (bits_in w x) i 0) (get_or (bits_in w y) i 0)) (length (bits_in w x)) i (omega (arith, length-bits_in w x))
    ∙ rw (get_or-bits_in w x i h, get_or-bits_in w y i h)))
