-- Demand 2 for voice: the frame after a slot, bit by bit, at either end.
use mathlib.Core.Path.{◌≡◌, sym, ap, subst, ◌∙◌}
use mathlib.Core.Bool.{true, false}
use mathlib.Core.Logic.{◌⊎◌}
use mathlib.Core.List.{List}
use Prim.Native.Nat.{ℕ, ◌+◌, ◌*◌, ◌≤◌, ◌<◌}
use native.Mathlib.Omega.{arith}
use lib.ListN.{length}
use Rattle.octets.specs.Bits.{bit, flip}
use Rattle.answers.specs.Numbers.{number_of}
use Rattle.calls.specs.declared.call.Call.{Call}
use Rattle.sizes.specs.Frame.{words, word_bits, frame_octets, slot_bits}
use Rattle.voice.specs.Frame.{IsFrame, of_slot, protect}
use Rattle.calls.specs.Counts.{in_mask}
use Rattle.calls.specs.Call.{width_of}
use Rattle.voice.specs.Slot.{stream_of, voice_of}
use Rattle.voice.proofs.FrameLaws.{protect_frame, speech_bit, other_bit}
use Rattle.voice.proofs.SlotLaws.{none_long, voice_taken, done_turned, undone_stays}

module _ (c : Call) (mask : ℕ) (frame : List ℕ) where
  -- the frame afterwards
  abbrev pub after : List ℕ
  after = (voice_of c mask frame).1.1

  abbrev width : ℕ
  width = width_of c.terms

  -- the slot's bits of the keystream
  abbrev slot : ℕ → ℕ
  slot = of_slot width (stream_of c) c.position

  module _ (done : number_of (voice_of c mask frame).0 ≡ 0) where
    turned : after ≡ protect width slot mask frame
    turned = done_turned stream_of c mask frame done

    long : length frame ≡ frame_octets width
    long = none_long c mask frame (voice_taken stream_of c mask frame (omega arith))

    pub whole_frame : IsFrame width after
    whole_frame = subst (IsFrame width) (sym turned) (protect_frame width slot mask frame long)

    -- bit j of word w is turned, where it is speech and the mask has the word, by stream bit 196 p + 49 w + j, or at full rate 288 p + 72 w + j
    pub speech_turned : (w j : ℕ) → w < words → j < width → in_mask mask w ≡ true
        → bit after (word_bits width * w + j) ≡ flip (bit frame (word_bits width * w + j)) (stream_of c (slot_bits width * c.position + width * w + j))
    speech_turned w j hw hj e =
        ap (λ (f : List ℕ). bit f (word_bits width * w + j)) turned
        ∙ speech_bit width (stream_of c) c.position mask frame long w hw j hj e

    -- every other bit is as it came: the spare bits of each word, and the words outside the mask
    pub rest_stays : (w j : ℕ) → w < words → j < word_bits width → (width ≤ j) ⊎ (in_mask mask w ≡ false)
        → bit after (word_bits width * w + j) ≡ bit frame (word_bits width * w + j)
    rest_stays w j hw hj o = ap (λ (f : List ℕ). bit f (word_bits width * w + j)) turned ∙ other_bit width slot mask frame long w hw j hj o

  -- a held frame is as it came
  pub held_stays : number_of (voice_of c mask frame).0 ≡ 1 → after ≡ frame
  held_stays o = undone_stays stream_of c mask frame (λ z. omega arith)
