-- Under the sample keys no session of any vector, at either rate, has zeros for the keystream of its first slot, or of its last: a block of zeros is followed
-- by the encipherment of zeros, which has a 1.
use mathlib.Core.Path.{◌≡◌, refl, sym, ap, ◌∙◌}
use mathlib.Core.Bool.{true}
use mathlib.Core.Logic.{inl, inr}
use mathlib.Core.List.{List}
use Prim.Native.Nat.{ℕ, zero, suc, ◌+◌, ◌-◌, ◌*◌, ◌/◌, ◌%◌, ◌≤◌, ◌<◌}
use native.Mathlib.Nat.{div-add-mod, mod-lt, lt_of_mul-lt-mul_left}
use native.Mathlib.Omega.{arith}
use lib.ListN.{length, replicate, length-replicate}
use Rattle.octets.specs.Tests.{all_below}
use Rattle.octets.specs.Lists.{iterate}
use Rattle.octets.specs.Bits.{bit, flip, octet, octets_from, Bits, Octets}
use Rattle.octets.proofs.TestLaws.{all-at}
use Rattle.octets.proofs.BitLaws.{octets_ext}
use Rattle.scramble.specs.Sequence.{key_number, stepped, P}
use Rattle.des.specs.Des.{des}
use Rattle.des.proofs.DesLaws.{length-des, octets-des}
use Rattle.aes.specs.Cipher as aes
use Rattle.aes.proofs.ScheduleLaws.{length-aes, octets-aes}
use Rattle.generator.specs.Generator.{aes_vector}
use Rattle.generator.proofs.VectorLaws.{octets-aes_vector}
use Rattle.sizes.specs.Ciphers.{session_slots}
use Rattle.ciphers.specs.Keystream.{used_block, feedback, stream}
use Rattle.ciphers.proofs.Chained.{Wide, wide_bounds}
use Rattle.sizes.proofs.Cases.{by_range}
use Rattle.calls.specs.Counts.{in_mask}
use Rattle.worked.proofs.DesBlocks as des_blocks
use Rattle.worked.proofs.AesBlocks as aes_blocks
use Rattle.demands.specs.Rates.{Layout, layout}
use Rattle.demands.specs.Marked.{key0001}
use Rattle.octets.proofs.Zeros.{zeros-octets, zeros-bit}
use Rattle.demands.proofs.Layouts.{by_layout, layout-slot, layout_some, layout_least}
use Rattle.demands.proofs.SampleKeys.{key_abcd, key1_f, key_of, key1_f-octets}

-- ---- a slot that is left as it came has zeros for its keystream: 196 bits of it, half rate's, are enough

pub all_words : (w : ℕ) → w < 4 → in_mask 15 w ≡ true
unfolding all_below
all_words w l = all-at (in_mask 15) 4 w l refl

unturned_bit : (a k : ℕ) → k < 2 → flip a k ≡ a → k ≡ 0
unturned_bit a k l e = omega arith

pub unturned : (r : ℕ) (ks : ℕ → ℕ) → Bits ks → (from : ℕ) (f : List ℕ)
    → ((w j : ℕ) → w < 4 → j < (layout r).speech → flip (bit f ((layout r).bits * w + j)) (ks (from + (layout r).speech * w + j)) ≡ bit f ((layout r).bits * w + j))
    → (k : ℕ) → k < 196 → ks (from + k) ≡ 0
unturned r ks b from f h k l =
    let s = (layout r).speech in
    let split = div-add-mod k s in
    let lw : k / s < 4 = lt_of_mul-lt-mul_left s (omega (arith, layout-slot r, layout_least r)) in
    let e : from + s * (k / s) + k % s ≡ from + k = omega arith in
    rw e at (unturned_bit (bit f ((layout r).bits * (k / s) + k % s)) (ks (from + s * (k / s) + k % s)) (b (from + s * (k / s) + k % s)) (h (k / s) (k % s) lw (mod-lt k (layout_some r))))

-- ---- zeros enciphered: bit 1 is 1

des-zeros : bit (des key_abcd (replicate 8 0)) 1 ≡ 1
unfolding octet octets_from
des-zeros = des_blocks.zeros

-- ---- 196 bits that have a whole block, from bit s on, and two bits of the next, are not all zeros

module _ (E : List ℕ → List ℕ) (n : ℕ) (wide : Wide n) (x : List ℕ) where
  -- used block m
  abbrev block : ℕ → List ℕ
  block m = iterate E (suc (suc m)) x

  block-bit : (m i k : ℕ) → i < 8 * n → k ≡ 8 * n * m + i → feedback E (8 * n) x k ≡ bit (block m) i
  unfolding feedback used_block
  block-bit m i k l e =
      let q : k / (8 * n) + 2 ≡ suc (suc m) = (go wide).0 in
      let r : k % (8 * n) ≡ i = (go wide).1 in
      rw (q, r)
    where
      go : Wide n → (k / (8 * n) + 2 ≡ suc (suc m)) × (k % (8 * n) ≡ i)
      go (inl h) = let l' = rw h at l in let e' = rw h at e in rw h (omega arith, omega arith)
      go (inr h) = let l' = rw h at l in let e' = rw h at e in rw h (omega arith, omega arith)

  module _ (one : bit (E (replicate n 0)) 1 ≡ 1) (long : (y : List ℕ) → length (E y) ≡ n) (octets : (m : ℕ) → Octets (block m)) where
    some_one : (from m : ℕ) → from ≤ 8 * n * m → 8 * n * suc m + 1 < from + 196 → ((k : ℕ) → k < 196 → feedback E (8 * n) x (from + k) ≡ 0) → ⊥
    unfolding iterate
    some_one from m a b z =
        let next : 8 * n * suc m ≡ 8 * n * m + 8 * n = omega arith in
        let l = long (iterate E (suc m) x) in
        let zeros : block m ≡ replicate n 0 =
        octets_ext (block m) (replicate n 0) (octets m) (zeros-octets n) (l ∙ sym (length-replicate n 0))
        (λ i h.
        let h' : i < 8 * n = omega (arith, l) in
        sym (block-bit m i (8 * n * m + i) h' refl) ∙ at (8 * n * m + i) (omega arith) (omega arith) ∙ sym (zeros-bit n i)) in
        let q : ◌≡◌ {A = ℕ} 1 0 =
        sym one ∙ ap (λ (y : List ℕ). bit (E y) 1) (sym zeros) ∙ sym (block-bit (suc m) 1 (8 * n * suc m + 1) (omega (arith, wide_bounds n wide)) refl)
        ∙ at (8 * n * suc m + 1) (omega arith) b in
        omega arith
      where
        at : (k : ℕ) → from ≤ k → k < from + 196 → feedback E (8 * n) x k ≡ 0
        at k f t =
            let e : from + (k - from) ≡ k = omega arith in
            rw e at (z (k - from) (omega arith))

-- ---- the first slot of a session, and the last

-- P0, P589 and P865 are 1
scramble_some : (v : List ℕ) → (stream 1 key0001 v 0 ≡ 0 → ⊥) × (stream 1 key0001 v 589 ≡ 0 → ⊥) × (stream 1 key0001 v 865 ≡ 0 → ⊥)
unfolding stream P iterate stepped key_number
scramble_some v = (
  λ e. let z : ◌≡◌ {A = ℕ} 1 0 = e in omega arith,
  λ e. let z : ◌≡◌ {A = ℕ} 1 0 = e in omega arith,
  λ e. let z : ◌≡◌ {A = ℕ} 1 0 = e in omega arith,
)

module _ (v : List ℕ) (o : Octets v) where
  abbrev pub Zeros : ℕ → ℕ → Type 0
  Zeros from c = (k : ℕ) → k < 196 → stream c (key_of c) v (from + k) ≡ 0

  des-some : (from m : ℕ) → from ≤ 64 * m → 64 * suc m + 1 < from + 196 → Zeros from 2 → ⊥
  unfolding stream iterate
  des-some = some_one (des key_abcd) 8 (inl refl) v des-zeros (length-des key_abcd) (λ m. octets-des key_abcd (iterate (des key_abcd) (suc m) v))

  aes-octets : (m : ℕ) → Octets (iterate (aes.aes key1_f) m (aes_vector v))
  unfolding iterate
  aes-octets zero = octets-aes_vector v o
  aes-octets (suc m) = octets-aes key1_f (iterate (aes.aes key1_f) m (aes_vector v)) key1_f-octets (aes-octets m)

  aes-some : (from m : ℕ) → from ≤ 128 * m → 128 * suc m + 1 < from + 196 → Zeros from 3 → ⊥
  unfolding stream
  aes-some = some_one (aes.aes key1_f) 16 (inr refl) (aes_vector v) aes_blocks.zeros (length-aes key1_f) (λ m. aes-octets (suc (suc m)))

  pub first_some : (c : ℕ) → (1 ≤ c) × (c ≤ 3) → Zeros 0 c → ⊥
  first_some =
      by_range (λ c. Zeros 0 c → ⊥) (λ z. (scramble_some v).0 (z 0 (omega arith))) (des-some 0 0 (omega arith) (omega arith)) (aes-some 0 0 (omega arith) (omega arith))

  abbrev LastSome : Layout → Type 0
  LastSome l = (c : ℕ) → (1 ≤ c) × (c ≤ 3) → Zeros (l.slot * (session_slots c - 1)) c → ⊥

  pub last_some : (r : ℕ) → LastSome (layout r)
  last_some =
      by_layout LastSome
      (by_range (λ c. Zeros (196 * (session_slots c - 1)) c → ⊥) (λ z. (scramble_some v).1 (z 1 (omega arith)))
      (des-some 1372 22 (omega arith) (omega arith)) (aes-some 1372 11 (omega arith) (omega arith)))
      (by_range (λ c. Zeros (288 * (session_slots c - 1)) c → ⊥) (λ z. (scramble_some v).2 (z 1 (omega arith)))
      (des-some 2016 32 (omega arith) (omega arith)) (aes-some 2016 16 (omega arith) (omega arith)))
