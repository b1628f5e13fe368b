-- Turning, octet by octet.
use mathlib.Core.Path.{◌≡◌, sym, ap, ap₂, ◌∙◌}
use mathlib.Core.List.{List}
use Prim.Native.Nat.{ℕ, ◌+◌, ◌-◌, ◌*◌, ◌/◌, ◌%◌, ◌^◌, ◌≤◌, ◌<◌}
use native.Mathlib.Nat.{zero-div, le_refl}
use native.Mathlib.Decide.{dec_lt}
use native.Mathlib.Omega.{arith}
use lib.Bits.{bit_xor, xor_lt, xor_zero_r}
use lib.ListN.{length, get_or, set}
use Rattle.octets.proofs.Front.{Front, front_more}
use borrow.Author.Tests.{lt-ltb, le-ltb}
use Rattle.octets.specs.Bits.{bit, flip, Octets}
use Rattle.octets.proofs.BitLaws.{flip_lt, flip-flip, flip-zero, bit_lt, octets_ext, octet_ext, bit_at, xor_bit, bit-octets_from, octets-octets_from, length-octets_from, octets_from_same}
use Rattle.octets.specs.Turn.{within, turned}

-- bits inside the width, and past it
pub within_in : (w : ℕ) (ks : ℕ → ℕ) (k : ℕ) → k < w → within w ks k ≡ ks k
unfolding within
within_in w ks k h = rw (lt-ltb _ _ h)

pub within-out : (w : ℕ) (ks : ℕ → ℕ) (k : ℕ) → w ≤ k → within w ks k ≡ 0
unfolding within
within-out w ks k h = rw (le-ltb _ _ h)

module _ (w : ℕ) (ks : ℕ → ℕ) (part : List ℕ) where
  pub length-turned : length (turned w ks part) ≡ length part
  unfolding turned
  length-turned = length-octets_from (length part) (λ k. flip (bit part k) (within w ks k))

  pub octets-turned : Octets (turned w ks part)
  unfolding turned
  octets-turned = octets-octets_from (length part) (λ k. flip (bit part k) (within w ks k)) (λ k. flip_lt (bit part k) (within w ks k))

  pub bit-turned : (k : ℕ) → k < 8 * length part → bit (turned w ks part) k ≡ flip (bit part k) (within w ks k)
  unfolding turned
  bit-turned k h = bit-octets_from (length part) (λ k. flip (bit part k) (within w ks k)) (λ k. flip_lt (bit part k) (within w ks k)) k h

  -- past the width every bit stays
  pub turned_stays : (k : ℕ) → k < 8 * length part → w ≤ k → bit (turned w ks part) k ≡ bit part k
  turned_stays k h l = bit-turned k h ∙ rw (within-out w ks k l) (flip-zero (bit part k) (bit_lt part k))

  -- an octet is turned by the octet of its bits
  pub turned-at : (j v : ℕ) → j < length part → get_or part j 0 < 256 → v < 256 → ((k : ℕ) → k < 8 → v / 2 ^ (7 - k) % 2 ≡ within w ks (8 * j + k))
      → bit_xor (get_or part j 0) v ≡ get_or (turned w ks part) j 0
  turned-at j v h o l e =
      octet_ext (bit_xor (get_or part j 0) v) (get_or (turned w ks part) j 0) (xor_lt 8 (get_or part j 0) v o l) (octets-turned j) same
    where
      same : (k : ℕ) → k < 8 → bit_xor (get_or part j 0) v / 2 ^ (7 - k) % 2 ≡ get_or (turned w ks part) j 0 / 2 ^ (7 - k) % 2
      same k hk =
          xor_bit (get_or part j 0) v (7 - k)
          ∙ ap₂ flip (sym (bit_at part j k hk)) (e k hk)
          ∙ sym (bit-turned (8 * j + k) (omega arith))
          ∙ bit_at (turned w ks part) j k hk

  -- past the width all stays
  pub turned-past : Octets part → (j : ℕ) → j < length part → w ≤ 8 * j → get_or part j 0 ≡ get_or (turned w ks part) j 0
  turned-past o j h l =
      sym (xor_zero_r (get_or part j 0)) ∙ turned-at j 0 h (o j) (omega arith) (λ k hk. nought (7 - k) ∙ sym (within-out w ks (8 * j + k) (omega arith)))
    where
      nought : (n : ℕ) → 0 / 2 ^ n % 2 ≡ 0
      nought n = omega (arith, zero-div (2 ^ n))

-- by keystreams that agree inside the width
module _ (w : ℕ) (ks ls : ℕ → ℕ) (e : (k : ℕ) → k < w → ks k ≡ ls k) where
  within_same : (k : ℕ) → within w ks k ≡ within w ls k
  within_same k = go (dec_lt k w)
    where
      go : Dec (k < w) → within w ks k ≡ within w ls k
      go (yes h) = within_in w ks k h ∙ e k h ∙ sym (within_in w ls k h)
      go (no h) = within-out w ks k (omega arith) ∙ sym (within-out w ls k (omega arith))

  pub turned-within : (part : List ℕ) → turned w ks part ≡ turned w ls part
  unfolding turned
  turned-within part =
      octets_from_same (length part) (λ k. flip (bit part k) (within w ks k)) (λ k. flip (bit part k) (within w ls k))
      (λ k. ap (flip (bit part k)) (within_same k))

pub turned_same : (w : ℕ) (ks ls : ℕ → ℕ) → ((k : ℕ) → ks k ≡ ls k) → (part : List ℕ) → turned w ks part ≡ turned w ls part
turned_same w ks ls e = turned-within w ks ls (λ k h. e k)

-- turning twice is nothing
pub turned_twice : (w : ℕ) (ks : ℕ → ℕ) (part : List ℕ) → Octets part → turned w ks (turned w ks part) ≡ part
turned_twice w ks part o =
    octets_ext (turned w ks once) part (octets-turned w ks once) o (length-turned w ks once ∙ length-turned w ks part)
    (λ k h.
    let l : k < 8 * length part = omega (arith, length-turned w ks once, length-turned w ks part) in
    bit-turned w ks once k (omega (arith, length-turned w ks part))
    ∙ ap (λ (b : ℕ). flip b (within w ks k)) (bit-turned w ks part k l)
    ∙ flip-flip (bit part k) (within w ks k) (bit_lt part k))
  where
    once : List ℕ
    once = turned w ks part

-- and so is turning no bits
pub turned_none : (ks : ℕ → ℕ) (part : List ℕ) → Octets part → turned 0 ks part ≡ part
turned_none ks part o =
    octets_ext (turned 0 ks part) part (octets-turned 0 ks part) o (length-turned 0 ks part)
    (λ k h. turned_stays 0 ks part k (omega (arith, length-turned 0 ks part)) (omega arith))

-- turned alike by keystreams that agree on the part
pub turned_alike : (v w : ℕ) (ks ls : ℕ → ℕ) (part : List ℕ) → ((k : ℕ) → k < 8 * length part → within v ks k ≡ within w ls k) → turned v ks part ≡ turned w ls part
turned_alike v w ks ls part e =
    octets_ext (turned v ks part) (turned w ls part) (octets-turned v ks part) (octets-turned w ls part) (length-turned v ks part ∙ sym (length-turned w ls part))
    (λ k h.
    let l : k < 8 * length part = omega (arith, length-turned v ks part) in
    bit-turned v ks part k l ∙ ap (flip (bit part k)) (e k l) ∙ sym (bit-turned w ls part k l))

-- every bit turned by those of as many octets: a part d that is turned below i
pub octets_more : (part key d : List ℕ) (i : ℕ) → Front (turned (8 * length part) (bit key) part) part d i → i < length part → get_or d i 0 < 256 → get_or key i 0 < 256
    → Front (turned (8 * length part) (bit key) part) part (set d i (bit_xor (get_or d i 0) (get_or key i 0))) (i + 1)
octets_more part key d i f h od ok =
    let w : ℕ = 8 * length part in
    let same : get_or d i 0 ≡ get_or part i 0 = f.left i (le_refl i) in
    front_more (turned w (bit key) part) part d i (bit_xor (get_or d i 0) (get_or key i 0)) f (omega (arith, length-turned w (bit key) part))
    (ap (λ (x : ℕ). bit_xor x (get_or key i 0)) same
    ∙ turned-at w (bit key) part i (get_or key i 0) h (omega arith) ok (λ k l. sym (bit_at key i k l) ∙ sym (within_in w (bit key) (8 * i + k) (omega arith))))
