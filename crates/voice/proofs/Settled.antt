-- A slot's statement settles its outcome: any two outcomes that meet it are equal. And a refusal, any answer but 0 and 1, changes
-- nothing.
use mathlib.Core.Path.{◌≡◌, refl, ap, sym, ◌∙◌}
use mathlib.Core.List.{List}
use Prim.Native.Nat.{ℕ}
use native.Mathlib.Omega.{arith}
use Rattle.octets.specs.Bits.{bit}
use Rattle.answers.specs.declared.Answer.{Answer}
use Rattle.answers.specs.declared.Answer.TheVariants.{Done}
use Rattle.answers.proofs.OutcomeLaws.{Refusal, keeps, one-outcome}
use Rattle.calls.specs.declared.call.Call.{Call}
use Rattle.calls.specs.Counts.{plus, lost_words}
use Rattle.calls.specs.Call.{standing, written, knows}
use Rattle.voice.specs.Slot.{slot_on, lost_refusals, lost_of, voice_refusals, stream_of, voice_after, voice_by, voice_of, voice_by_octets, session_stream_of}
use Rattle.voice.proofs.SlotLaws.{taken-under-two, by_lent}

-- ---- any two outcomes are equal

module _ (a b : Answer) (x y : Call) (c : Call) where
  pub one-lost : (a, x) ≡ lost_of c → (b, y) ≡ lost_of c → (a ≡ b) × (x ≡ y)
  one-lost = one-outcome a b x y

  module _ (mask : ℕ) (frame f g : List ℕ) where
    one-slot : {o : Answer × (Call × List ℕ)} → (a, (x, f)) ≡ o → (b, (y, g)) ≡ o → (a ≡ b) × (x ≡ y) × (f ≡ g)
    one-slot p q =
        let o = one-outcome a b (x, f) (y, g) p q in
        (o.0, ap (λ (r : Call × List ℕ). r.0) o.1, ap (λ (r : Call × List ℕ). r.1) o.1)

    pub one_voice : (a, (x, f)) ≡ voice_of c mask frame → (b, (y, g)) ≡ voice_of c mask frame → (a ≡ b) × (x ≡ y) × (f ≡ g)
    one_voice = one-slot

    pub one_voice_by : (session : List ℕ) → (a, (x, f)) ≡ voice_by_octets session c mask frame → (b, (y, g)) ≡ voice_by_octets session c mask frame
        → (a ≡ b) × (x ≡ y) × (f ≡ g)
    one_voice_by session = one-slot

pub one-stream : (f g : List ℕ) (c : Call) (out : List ℕ) → f ≡ session_stream_of c out → g ≡ session_stream_of c out → f ≡ g
one-stream f g c out p q = p ∙ sym q

-- ---- a refusal changes nothing

module _ (c : Call) where
  pub lost_keeps : Refusal (lost_of c).0 → (lost_of c).1 ≡ c
  unfolding lost_of
  lost_keeps = keeps c (lost_refusals c) (Done, written (plus c.counts lost_words) (slot_on (standing c))) (omega arith)

  pub voice_by_keeps : (st : Call → ℕ → ℕ) (mask : ℕ) (frame : List ℕ) → Refusal (voice_by st c mask frame).0
      → (voice_by st c mask frame).1 ≡ (c, frame)
  unfolding voice_by
  voice_by_keeps st mask frame =
      keeps (c, frame) (voice_refusals c mask frame) (voice_after st mask frame c.counts (standing c)) (taken-under-two (knows (standing c)))

  pub voice_by_octets_keeps : (session : List ℕ) (mask : ℕ) (frame : List ℕ) → Refusal (voice_by_octets session c mask frame).0
      → (voice_by_octets session c mask frame).1 ≡ (c, frame)
  voice_by_octets_keeps session mask frame =
      by_lent session c mask frame (λ o. Refusal o.0 → o.1 ≡ (c, frame)) (λ r. refl) (voice_by_keeps (λ d. bit session) mask frame)

  pub voice_keeps : (mask : ℕ) (frame : List ℕ) → Refusal (voice_of c mask frame).0 → (voice_of c mask frame).1 ≡ (c, frame)
  voice_keeps = voice_by_keeps stream_of
