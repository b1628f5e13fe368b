-- No vector but zeros is followed by zeros: the shift loses nothing, since b63 always feeds back.
use mathlib.Core.Path.{◌≡◌, refl, sym, ap, ◌∙◌}
use mathlib.Core.Bool.{Bool, true, false}
use mathlib.Core.List.{List}
use Prim.Native.Nat.{ℕ, zero, suc, ◌-◌, ◌<◌}
use native.Mathlib.Decide.{dec_lt}
use native.Mathlib.Omega.{arith}
use lib.ListN.{replicate}
use Rattle.octets.specs.Lists.{all_zero, iterate}
use Rattle.octets.specs.Bits.{bit, octets_from, Bits}
use Rattle.octets.proofs.BitLaws.{bit-octets_from, length-octets_from, octets_ext}
use Rattle.octets.proofs.ListLaws.{zeros_are}
use Rattle.octets.proofs.Zeros.{zeros-all, zeros-octets, zeros-bit}
use Rattle.generator.specs.Generator.{IsVector, filled, announced, shifted, next_vector}
use Rattle.generator.proofs.VectorLaws.{bits-filled, bits-iterate}

abbrev pub NoStage : (ℕ → ℕ) → Type 0
NoStage b = (i : ℕ) → i < 64 → b i ≡ 0

shift_back : (b : ℕ → ℕ) → Bits b → NoStage (shifted b) → NoStage b
unfolding shifted
shift_back b h z i l = go (dec_lt i 63)
  where
    go : Dec (i < 63) → b i ≡ 0
    go (yes a) = z (suc i) (omega arith)
    go (no a) =
        let e : i ≡ 63 = omega arith in
        let top : b 63 ≡ 0 =
        omega (arith, h 63, z 0 (omega arith), z 62 (omega arith), z 46 (omega arith), z 38 (omega arith), z 27 (omega arith), z 15 (omega arith)) in
        rw e top

shifts_back : (n : ℕ) (b : ℕ → ℕ) → Bits b → NoStage (iterate shifted n b) → NoStage b
unfolding iterate
shifts_back zero b h z = z
shifts_back (suc n) b h z = shifts_back n b h (shift_back (iterate shifted n b) (bits-iterate n b h) z)

announced-zero : (b : ℕ → ℕ) → Bits b → all_zero (announced b) ≡ true → NoStage b
unfolding announced
announced-zero b h z i l =
    let e : 63 - (63 - i) ≡ i = omega arith in
    rw e at
    (sym (bit-octets_from 8 (λ k. b (63 - k)) (λ k. h (63 - k)) (63 - i) (omega arith))
    ∙ ap (λ (xs : List ℕ). bit xs (63 - i)) (zeros_are (octets_from 8 (λ k. b (63 - k))) 8 (length-octets_from 8 (λ k. b (63 - k))) z)
    ∙ zeros-bit 8 (63 - i))

pub filled_zero : (s : List ℕ) → IsVector s → NoStage (filled s) → s ≡ replicate 8 0
unfolding filled
filled_zero s v z =
    octets_ext s (replicate 8 0) v.octets (zeros-octets 8) v.long
    (λ k h.
    let e : 63 - (63 - k) ≡ k = omega arith in
    (rw e at (z (63 - k) (omega arith))) ∙ sym (zeros-bit 8 k))

pub next-not-zero : (s : List ℕ) → IsVector s → all_zero s ≡ false → all_zero (next_vector s) ≡ false
unfolding next_vector
next-not-zero s v n = go (all_zero (next_vector s)) refl
  where
    go : (t : Bool) → all_zero (next_vector s) ≡ t → t ≡ false
    go false e = refl
    go true e =
        let register = announced-zero (iterate shifted 64 (filled s)) (bits-iterate 64 (filled s) (bits-filled s)) e in
        let zeros = filled_zero s v (shifts_back 64 (filled s) (bits-filled s) register) in
        sym (ap all_zero zeros ∙ zeros-all 8) ∙ n
