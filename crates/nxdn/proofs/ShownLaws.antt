-- What a screen shows of a call: its fifth octet is 1 exactly where a slot is turned now, and its third is the rate that a slot's frame is by.
use mathlib.Core.Path.{◌≡◌, refl}
use mathlib.Core.Bool.{Bool, true, false, ◌&&◌, not}
use mathlib.Core.List.{List, [], ◌∷◌}
use Prim.Native.Nat.{ℕ, ◌≤◌, ◌<◌}
use lib.ListN.{length, get_or}
use borrow.Author.Tests.{eq-eqb, le-ltb}
use Rattle.octets.specs.Tests.{pick}
use Rattle.answers.specs.declared.Answer.TheVariants.{Done, Held, WrongLength, Bad, NotNow, BadMask, PastLimit}
use Rattle.answers.specs.Numbers.{number_of, is_done}
use Rattle.answers.specs.Outcomes.{settled}
use Rattle.sizes.specs.Frame.{width, frame_octets}
use Rattle.calls.specs.declared.call.Call.{Call}
use Rattle.calls.specs.Call.{Standing, closed, bad, sending, receiving, standing, is_bad, stands, knows, width_in}
use Rattle.voice.specs.Slot.{is_full, top_mask, voice_refusals, stream_of, voice_by, voice_of}
use Rattle.voice.proofs.SlotLaws.{voice_taken, none_long}
use Rattle.nxdn.specs.Shown.{turns_now, shown_call}

-- a slot with a right mask and frame is answered 0 now, exactly where the fifth octet says so
module _ {S : Type 0} (x : S) (y : S) where
  turned : (s : Standing) (f : Bool)
      → is_done (settled x ((false, BadMask) ∷ (is_bad s, Bad) ∷ (not (stands s), NotNow) ∷ (f, PastLimit) ∷ (false, WrongLength) ∷ []) (pick (knows s) Done Held, y)).0
      ≡ (knows s && not f)
  turned closed f = refl
  turned bad f = refl
  turned (sending t p v) true = refl
  turned (sending t p v) false = refl
  turned (receiving t p k) f = go (knows (receiving t p k)) f
    where
      go : (k f : Bool) → is_done (settled x ((false, BadMask) ∷ (false, Bad) ∷ (false, NotNow) ∷ (f, PastLimit) ∷ (false, WrongLength) ∷ []) (pick k Done Held, y)).0 ≡ (k && not f)
      go true true = refl
      go true false = refl
      go false true = refl
      go false false = refl

pub shown_turns : (c : Call) (mask : ℕ) (frame : List ℕ) → mask ≤ top_mask → length frame ≡ frame_octets (width_in (standing c))
    → is_done (voice_of c mask frame).0 ≡ turns_now c
unfolding turns_now voice_by voice_refusals
shown_turns c mask frame m l = rw (le-ltb top_mask mask m, eq-eqb _ _ l) (turned _ _ (standing c) (is_full (standing c) c.counts))

-- a slot that is taken has a frame of the rate that is shown
pub shown_rate : (c : Call) (mask : ℕ) (frame : List ℕ) → number_of (voice_of c mask frame).0 < 2 → length frame ≡ frame_octets (width (get_or (shown_call c) 2 0))
shown_rate c mask frame l = none_long c mask frame (voice_taken stream_of c mask frame l)
