-- Where a session ends, by demand 2; and what a receiver at the other rate answers.
use mathlib.Core.Path.{◌≡◌, refl, sym, ap, ap₂, subst, ◌∙◌}
use mathlib.Core.Bool.{true}
use mathlib.Core.List.{List}
use Prim.Native.Nat.{ℕ, ◌+◌, ◌*◌, ◌≤◌}
use native.Mathlib.Omega.{arith}
use Rattle.octets.specs.Bits.{bit, flip}
use Rattle.answers.specs.declared.Answer.TheVariants.{WrongLength}
use Rattle.ciphers.specs.Keystream.{feedback, stream}
use Rattle.sizes.proofs.SizeLaws.{same_rate}
use Rattle.calls.specs.declared.call.Call.{Call}
use Rattle.calls.specs.Call.{closed_end, good_call, receiving_end}
use Rattle.voice.specs.Slot.{voice_of}
use Rattle.calls.proofs.CallLaws.{rated}
use Rattle.voice.proofs.SlotSteps.{session_over, session-lost}
use Rattle.voice.proofs.Exactly.{other_length}
use Rattle.demands.specs.Rates.{Layout, layout}
use Rattle.demands.specs.Talk.{Slot, SlotKept}
use Rattle.demands.specs.Demand2.{VoiceBits}
use Rattle.demands.specs.Demand1.{BelowLimit}
use Rattle.demands.specs.SessionEnds.{LastWord, TurnedBy, SessionEnds}
use Rattle.demands.proofs.Layouts.{layout_is, rate_is}
use Rattle.demands.proofs.Meets2.{ours_meets_2}

-- the last bit of a full-rate frame
last_bit : (call : Call) (mask : ℕ) (frame : List ℕ) → call.terms.rate ≡ 1 → LastWord call mask frame
    → TurnedBy call mask frame 287 (stream call.terms.cipher call.terms.key call.vector (288 * call.position + 216 + 71))
last_bit call mask frame rate l =
    (subst (λ (r : ℕ). VoiceBits voice_of call mask frame (layout r)) rate (ours_meets_2.voice call mask frame)).turned l.done 3 71 (omega arith) (omega arith) l.masked

module _ (call : Call) (mask : ℕ) (frame : List ℕ) (rate : call.terms.rate ≡ 1) where
  -- of a cipher, at a position
  last_of : (c p : ℕ) → call.terms.cipher ≡ c → call.position ≡ p → LastWord call mask frame
      → TurnedBy call mask frame 287 (stream c call.terms.key call.vector (288 * p + 216 + 71))
  last_of c p e q l =
      last_bit call mask frame rate l
      ∙ ap (flip (bit frame 287)) (ap₂ (λ (n m : ℕ). stream n call.terms.key call.vector (288 * m + 216 + 71)) e q)

pub session-ends : SessionEnds
unfolding stream feedback
session-ends =
    record {
      half-bits = (refl, refl, refl);
      full-bits = (refl, refl, refl);
      scramble_last = λ call mask frame rate c p l. last_of call mask frame rate 1 3 c p l;
      des-last = λ call mask frame rate c p l. last_of call mask frame rate 2 7 c p l;
      aes-last = λ call mask frame rate c p l. last_of call mask frame rate 3 7 c p l;
      next = session_over;
      next-lost = session-lost;
    }

-- ---- at the other rate

-- a slot of a sender at another rate is 2, and all stays as it was
pub other_rate : (call : Call) → good_call call ≡ true → (call.end ≡ closed_end → ⊥) → (call.end ≡ receiving_end → BelowLimit call) → (r : ℕ) → r ≤ 1 → (call.terms.rate ≡ r → ⊥)
    → (ks : ℕ → ℕ) (p : ℕ) (x : Slot) → SlotKept (layout r) ks p x → voice_of call x.mask x.sent ≡ (WrongLength, (call, x.sent))
other_rate call good o below r l n ks p x s =
    other_length call x.mask x.sent s.mask good o below
    (λ e. n (same_rate call.terms.rate (rated call good o) r (rate_is r l) (sym e ∙ s.sent.long ∙ ap (λ (y : Layout). y.frame) (layout_is r))))
