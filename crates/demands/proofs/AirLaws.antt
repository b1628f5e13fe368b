-- What a sender that keeps the rules puts on the air opens, word by word, to what was spoken; and a protected frame keeps the rules. Over the width.
use mathlib.Core.Path.{◌≡◌, sym, ap, ◌∙◌}
use mathlib.Core.Bool.{true}
use mathlib.Core.Logic.{inl}
use mathlib.Core.List.{List}
use Prim.Native.Nat.{ℕ, ◌+◌, ◌*◌, ◌<◌}
use native.Mathlib.Decide.{dec_lt}
use native.Mathlib.Omega.{arith}
use lib.ListN.{length}
use Rattle.octets.specs.Bits.{bit, flip}
use Rattle.octets.proofs.BitLaws.{bit_lt, flip-flip}
use Rattle.sizes.specs.Frame.{word_bits, frame_octets, slot_bits}
use Rattle.voice.specs.Frame.{IsFrame, word, of_slot, protect}
use Rattle.calls.specs.Counts.{in_mask}
use Rattle.voice.proofs.FrameLaws.{protect_frame, word-bit, word_ext, speech_bit, other_bit}
use Rattle.demands.specs.Rates.{FrameAt}
use Rattle.demands.specs.Talk.{Slot, OnAir, SlotKept}
use Rattle.demands.proofs.Layouts.{layout_by}

module _ (width : ℕ) where
  pub is_frame : {f : List ℕ} → FrameAt (layout_by width) f → IsFrame width f
  is_frame h = record { long = h.long; octets = h.octets }

  pub frame_at : {f : List ℕ} → IsFrame width f → FrameAt (layout_by width) f
  frame_at h = record { long = h.long; octets = h.octets }

  pub word-bits : (w : ℕ) (f g : List ℕ) → word width w f ≡ word width w g → (j : ℕ) → j < word_bits width → bit f (word_bits width * w + j) ≡ bit g (word_bits width * w + j)
  word-bits w f g e j l = sym (word-bit width w f j l) ∙ ap (λ (xs : List ℕ). bit xs j) e ∙ word-bit width w g j l

  module _ (ks : ℕ → ℕ) (p : ℕ) (x : Slot) where
    abbrev slot : ℕ → ℕ
    slot = of_slot width ks p

    abbrev opened : List ℕ
    opened = protect width slot x.mask x.sent

    pub opened-word : SlotKept (layout_by width) ks p x → (w : ℕ) → w < 4 → in_mask x.mask w ≡ true → word width w opened ≡ word width w x.spoken
    opened-word s w hw m =
        word_ext width w hw opened x.spoken (protect_frame width slot x.mask x.sent s.sent.long) (is_frame s.spoken) (λ j h. go j h (dec_lt j width))
      where
        go : (j : ℕ) → j < word_bits width → Dec (j < width) → bit opened (word_bits width * w + j) ≡ bit x.spoken (word_bits width * w + j)
        go j h (yes l) =
            speech_bit width ks p x.mask x.sent s.sent.long w hw j l m
            ∙ ap (λ (n : ℕ). flip n (ks (slot_bits width * p + width * w + j))) (s.air.speech w j hw l m)
            ∙ flip-flip (bit x.spoken (word_bits width * w + j)) (ks (slot_bits width * p + width * w + j)) (bit_lt x.spoken (word_bits width * w + j))
        go j h (no l) = other_bit width slot x.mask x.sent s.sent.long w hw j h (inl (omega arith)) ∙ s.air.spare w j hw (omega arith) h m

    pub protected_air : length x.spoken ≡ frame_octets width → x.sent ≡ protect width slot x.mask x.spoken → OnAir (layout_by width) ks p x
    protected_air l e =
        record {
          speech = λ w j hw hj m. at (word_bits width * w + j) ∙ speech_bit width ks p x.mask x.spoken l w hw j hj m;
          spare = λ w j hw lj hj m. at (word_bits width * w + j) ∙ other_bit width slot x.mask x.spoken l w hw j hj (inl lj);
        }
      where
        at : (k : ℕ) → bit x.sent k ≡ bit (protect width slot x.mask x.spoken) k
        at k = ap (λ (f : List ℕ). bit f k) e
