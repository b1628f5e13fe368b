-- Our sender leaves a word that gave way to signalling as it was spoken.
use mathlib.Core.Path.{◌≡◌, sym, ap, ◌∙◌}
use mathlib.Core.Bool.{false}
use mathlib.Core.List.{List, [], ◌∷◌}
use Prim.Native.Nat.{ℕ, ◌<◌}
use native.Mathlib.Decide.{dec_lt}
use native.Mathlib.Omega.{arith}
use Rattle.octets.specs.Lists.{Each}
use Rattle.answers.specs.Numbers.{number_of}
use Rattle.sizes.specs.Frame.{width}
use Rattle.sizes.proofs.SizeLaws.{same_width}
use Rattle.calls.specs.declared.call.Call.{Call}
use Rattle.voice.specs.Frame.{IsFrame, word, of_slot}
use Rattle.calls.specs.Counts.{in_mask}
use Rattle.calls.specs.Call.{width_of, no_call}
use Rattle.calls.specs.Opening.{start_of}
use Rattle.voice.specs.Slot.{stream_of, voice_of}
use Rattle.voice.proofs.FrameLaws.{word_stays}
use Rattle.voice.proofs.SlotLaws.{none_long, voice_taken, done_turned, undone_stays}
use Rattle.demands.specs.Rates.{Layout, layout}
use Rattle.demands.specs.OurSender.{Said, Saying, slots_made, afterwards, sessions_made, talk_made, SaidKept, AllSaid, OthersAsSpoken}
use Rattle.demands.proofs.Layouts.{layout_by, layout_is}
use Rattle.demands.proofs.AirLaws.{is_frame}

-- whatever the call, and whatever it answers: a frame that is turned has the length of the call's rate
voice_leaves : (r : ℕ) (s : Call) (mask : ℕ) (frame : List ℕ) → IsFrame (width r) frame → (w : ℕ) → w < 4 → in_mask mask w ≡ false
    → word (width r) w (voice_of s mask frame).1.1 ≡ word (width r) w frame
voice_leaves r s mask frame f w l e = go (dec_lt 0 (number_of (voice_of s mask frame).0))
  where
    go : Dec (0 < number_of (voice_of s mask frame).0) → word (width r) w (voice_of s mask frame).1.1 ≡ word (width r) w frame
    go (yes n) = ap (word (width r) w) (undone_stays stream_of s mask frame (λ z. omega arith))
    go (no n) =
        let its : width_of s.terms ≡ width r =
        same_width s.terms.rate r (sym (none_long s mask frame (voice_taken stream_of s mask frame (omega arith))) ∙ f.long) in
        ap (word (width r) w) (done_turned stream_of s mask frame (omega arith))
        ∙ rw its (word_stays (width r) (of_slot (width r) (stream_of s) s.position) mask w frame f l e)

module _ (r : ℕ) where
  abbrev its : Layout
  its = layout_by (width r)

  slots-leave : (s : Call) (xs : List Said) → Each (SaidKept its) xs → Each (OthersAsSpoken its) (slots_made s xs)
  slots-leave s [] h = tt
  slots-leave s (x ∷ xs) h =
      (voice_leaves r s x.mask x.spoken (is_frame (width r) h.0.frame), slots-leave (voice_of s x.mask x.spoken).1.0 xs h.1)

  sessions-leave : (s : Call) (xs : List Saying) → Each (λ x. Each (SaidKept its) x.slots) xs → Each (λ x. Each (OthersAsSpoken its) x.slots) (sessions_made s xs)
  sessions-leave s [] h = tt
  sessions-leave s (x ∷ xs) h = (slots-leave s x.slots h.0, sessions-leave (afterwards s x.slots) xs h.1)

pub ours-leaves : (c : ℕ) (key : List ℕ) (i r : ℕ) (v b : List ℕ) (said : List Saying) → AllSaid c r said
    → Each (λ x. Each (OthersAsSpoken (layout r)) x.slots) (talk_made c key i r v b said).sessions
ours-leaves c key i r v b said a = rw (layout_is r) (sessions-leave r (start_of no_call c i r v b).1 said (rw (layout_is r) at a.each))
