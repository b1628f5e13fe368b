-- A session's keystream, made once: a slot turned by it is the slot of the session, and it holds from slot to slot.
use mathlib.Core.Path.{◌≡◌, refl, sym, ap, ap₂, ◌∙◌}
use mathlib.Core.Bool.{Bool, true, false, true≢false}
use mathlib.Core.List.{List}
use Prim.Native.Nat.{ℕ, ◌+◌, ◌*◌, ◌≤◌, ◌<◌}
use native.Mathlib.Nat.{zero-add}
use native.Mathlib.Omega.{arith}
use lib.Dec.{ltb}
use lib.ListN.{length}
use borrow.Author.Tests.{le-ltb}
use Rattle.octets.specs.Tests.{pick}
use Rattle.octets.specs.Bits.{bit, octets_from}
use Rattle.octets.proofs.BitLaws.{bit-octets_from, length-octets_from, octets_from_same}
use Rattle.sizes.specs.Ciphers.{session_slots, scrambles}
use Rattle.ciphers.specs.Keystream.{stream}
use Rattle.sizes.proofs.SizeLaws.{slot_ranged}
use Rattle.ciphers.proofs.KeystreamLaws.{bits-stream}
use Rattle.answers.specs.declared.Answer.TheVariants.{Done, Held}
use Rattle.answers.specs.Numbers.{number_of}
use Rattle.answers.specs.Outcomes.{settled}
use Rattle.answers.proofs.OutcomeLaws.{NoneHolds, by_refusals}
use Rattle.calls.specs.declared.counts.Counts.{Counts}
use Rattle.calls.specs.declared.call.Call.{Call}
use Rattle.sizes.specs.Frame.{frame_octets, slot_bits, session_bits}
use Rattle.voice.specs.Frame.{of_slot}
use Rattle.calls.specs.Call.{good_call, known_vector, known_by, Standing, sending, receiving, standing, written, is_bad, knows, width_of}
use Rattle.calls.specs.Counts.{plus, lost_words, arrived_words}
use Rattle.calls.proofs.CountLaws.{Fits, lost-fits, arrived-fits}
use Rattle.voice.specs.Slot.{going_on, ridden, slot_on, is_full, lost_refusals, lost_of, voice_refusals, stream_of, in_slot, voice_after, voice_by, voice_of, voice_by_octets, session_stream_of, IsSession}
use Rattle.voice.proofs.FrameLaws.{protect_same}
use Rattle.calls.proofs.CallLaws.{by_stands, is-sender, knows-good, knows_inside, known-width, known_written}
use Rattle.voice.proofs.SlotLaws.{by_long, slot-fits, none_long, none-full, voice_taken, voice_done}
use Rattle.calls.proofs.GoodLaws.{read_written}
use Rattle.voice.proofs.SlotGood.{scramble_right, slot-good_if}

-- ---- a slot rests on the bits of the call's own session

module _ (st su : Call → ℕ → ℕ) (c : Call) (same : (n : ℕ) → n < session_bits (width_of c.terms) → st c n ≡ su c n) (mask : ℕ) (frame : List ℕ) where
  turned_same : knows (standing c) ≡ true → in_slot st mask frame (written c.counts (standing c)) ≡ in_slot su mask frame (written c.counts (standing c))
  turned_same k =
      let l = knows_inside c k in
      let width = width_of c.terms in
      rw (known_written c k)
      (protect_same width (of_slot width (st c) c.position) (of_slot width (su c) c.position) mask
      (λ n h. same (slot_bits width * c.position + n) (omega (arith, slot-fits width c.terms.cipher c.position l))) frame)

  frame_same : (t : Bool) → knows (standing c) ≡ t
      → pick t (in_slot st mask frame (written c.counts (standing c))) frame ≡ pick t (in_slot su mask frame (written c.counts (standing c))) frame
  frame_same true k = turned_same k
  frame_same false k = refl

  pub voice_same : voice_by st c mask frame ≡ voice_by su c mask frame
  unfolding voice_by
  voice_same =
      ap (λ (f : List ℕ). settled (c, frame) (voice_refusals c mask frame) (pick (knows (standing c)) Done Held, (written (plus c.counts (arrived_words mask (knows (standing c)))) (slot_on (standing c)), f)))
      (frame_same (knows (standing c)) refl)

-- octets that hold the session turn every slot as the session does
pub voice_by_is_voice : (c : Call) (session : List ℕ) → IsSession c session → (mask : ℕ) (frame : List ℕ)
    → voice_by_octets session c mask frame ≡ voice_of c mask frame
voice_by_is_voice c session i mask frame = by_long session c mask frame (rw (known-width c i.known) i.long) ∙ voice_same (λ d. bit session) stream_of c i.bits mask frame

-- a slot that is done, as the code does it by such octets
module _ (c : Call) (mask : ℕ) (frame : List ℕ) (done : Done ≡ (voice_of c mask frame).0) where
  none : NoneHolds (voice_refusals c mask frame)
  none = let e : 0 ≡ number_of (voice_of c mask frame).0 = ap number_of done in voice_taken stream_of c mask frame (omega arith)

  pub done_long : length frame ≡ frame_octets (width_of c.terms)
  done_long = none_long c mask frame none

  pub done_below : is_full (standing c) c.counts ≡ false
  done_below = none-full c mask frame none

pub within_done : (c : Call) (session : List ℕ) → IsSession c session → (mask : ℕ) (frame : List ℕ) → Done ≡ (voice_of c mask frame).0
    → {d : Call} → d ≡ written (plus c.counts (arrived_words mask true)) (slot_on (standing c)) → {g : List ℕ} → g ≡ in_slot (λ e. bit session) mask frame c
    → (Done, (d, g)) ≡ voice_of c mask frame
within_done c session i mask frame done on turned =
    ap₂ (λ (d : Call) (g : List ℕ). (Done, (d, g))) on (turned ∙ ap (in_slot (λ e. bit session) mask frame) (sym (known_written c i.known)))
    ∙ ap
    (λ (t : Bool).
    (pick t Done Held, (written (plus c.counts (arrived_words mask t)) (slot_on (standing c)), pick t (in_slot (λ e. bit session) mask frame (written c.counts (standing c))) frame)))
    (sym i.known)
    ∙ voice_done (λ e. bit session) c mask frame (none c mask frame done)
    ∙ voice_same (λ e. bit session) stream_of c i.bits mask frame

-- ---- a session made

module _ (c : Call) where
  pub knows_ranged : knows (standing c) ≡ true → (1 ≤ c.terms.cipher) × (c.terms.cipher ≤ 3)
  knows_ranged k = slot_ranged c.terms.cipher c.position (knows_inside c k)

  pub stream_stays : knows (standing c) ≡ false → (out : List ℕ) → out ≡ session_stream_of c out
  unfolding session_stream_of
  stream_stays e out = rw e

  pub stream-made : knows (standing c) ≡ true → (out : List ℕ) → session_stream_of c out ≡ octets_from (length out) (stream_of c)
  unfolding session_stream_of
  stream-made k out = rw k

  -- as the code writes it
  pub stream-written : knows (standing c) ≡ true → (out g : List ℕ)
      → g ≡ octets_from (length out) (λ n. stream_of c (0 + n)) → g ≡ session_stream_of c out
  stream-written k out g e =
      e
      ∙ octets_from_same (length out) (λ n. stream_of c (0 + n)) (stream_of c)
      (λ n. ap (stream_of c) (zero-add n))
      ∙ sym (stream-made k out)

  -- octets enough for a session, 196 of them or at full rate 288, hold it once it is written there
  pub session-made : knows (standing c) ≡ true → (out : List ℕ) → session_bits (width_of c.terms) ≤ 8 * length out → IsSession c (session_stream_of c out)
  session-made k out room =
      record {
        known = k;
        long = rw (stream-made k out, length-octets_from (length out) (stream_of c)) (omega arith);
        bits = λ n l.
            ap (λ (xs : List ℕ). bit xs n) (stream-made k out)
            ∙ bit-octets_from (length out) (stream_of c) (bits-stream c.terms.cipher c.terms.key c.vector) n (omega arith);
      }

-- ---- a session kept

-- scramble's bits are the same whatever the vector
scramble_same : (c : ℕ) (k v w : List ℕ) (n : ℕ) → scrambles c ≡ true → stream c k v n ≡ stream c k w n
unfolding stream
scramble_same c k v w n e = rw e

module _ (c : Call) (session : List ℕ) (i : IsSession c session) where
  -- another call of the same session
  held-as : (m : Counts) (t : Standing) → (written m t).terms ≡ c.terms → is_bad t ≡ false → good_call (written m t) ≡ true → knows t ≡ true
      → ((n : ℕ) → stream_of (written m t) n ≡ stream_of c n) → IsSession (written m t) session
  held-as m t s b g k e =
      record { known = ap knows (read_written m t b g) ∙ k; long = rw s i.long; bits = λ n l. i.bits n (rw s at l) ∙ sym (e n) }

  -- one slot on it is the same session, or the next one of scramble, whose bits are the same
  either-kept : (m : Counts) (t : Bool) (on next : Standing) → (good_call (written m on) ≡ true → IsSession (written m on) session)
      → (good_call (written m next) ≡ true → scrambles c.terms.cipher ≡ true → IsSession (written m next) session) → (written m next).position ≡ 0
      → good_call (written m (pick t on next)) ≡ true → ((written m (pick t on next)).position ≡ 0 → scrambles c.terms.cipher ≡ true)
      → IsSession (written m (pick t on next)) session
  either-kept m true on next f f' z g h = f g
  either-kept m false on next f f' z g h = f' g (h z)

  on-kept : is_full (standing c) c.counts ≡ false → (w : Counts) → Fits (knows (standing c)) w
      → ((written (plus c.counts w) (slot_on (standing c))).position ≡ 0 → scrambles c.terms.cipher ≡ true) → IsSession (written (plus c.counts w) (slot_on (standing c))) session
  unfolding slot_on
  on-kept room w fits h =
      by_stands c good (λ o e s. absurd (true≢false (sym i.known ∙ ap knows s)))
      (λ o e s.
      let on : Standing = sending c.terms (c.position + 1) c.vector in
      let next : Standing = sending c.terms 0 (going_on c.terms.cipher c.vector) in
      rw s
      (either-kept (plus c.counts w) (ltb (c.position + 1) (session_slots c.terms.cipher)) on next (λ g. held-as (plus c.counts w) on refl refl g refl (λ n. refl))
      (λ g e. held-as (plus c.counts w) next refl refl g refl (again (going_on c.terms.cipher c.vector) e)) refl (rw s at good-on) (rw s at h)))
      (λ o e s.
      let on : Standing = receiving c.terms (c.position + 1) (known_by c.known c.vector) in
      let next : Standing = receiving c.terms 0 (ridden c.terms (known_by c.known c.vector)) in
      rw s
      (either-kept (plus c.counts w) (ltb (c.position + 1) (session_slots c.terms.cipher)) on next (λ g. held-as (plus c.counts w) on refl refl g (sym (ap knows s) ∙ i.known) (own s))
      (λ g e. held-as (plus c.counts w) next refl refl g (rw e) (again (known_vector (ridden c.terms (known_by c.known c.vector))) e)) refl (rw s at good-on) (rw s at h)))
    where
      good : good_call c ≡ true
      good = knows-good c i.known

      -- a sender that goes on into another session is scramble's
      good-on : good_call (written (plus c.counts w) (slot_on (standing c))) ≡ true
      good-on =
          slot-good_if c good
          (λ e last. scramble_right c.terms.cipher c.vector (h (rw (is-sender c good e, le-ltb (c.position + 1) (session_slots c.terms.cipher) last)))) room w fits

      -- the struct of where it stands has its own bits
      own : {s : Standing} → standing c ≡ s → (n : ℕ) → stream_of (written c.counts s) n ≡ stream_of c n
      own s n = ap (λ (d : Call). stream_of d n) (sym (ap (written c.counts) s) ∙ known_written c i.known)

      again : (v : List ℕ) → scrambles c.terms.cipher ≡ true → (n : ℕ) → stream c.terms.cipher c.terms.key v n ≡ stream_of c n
      again v e n = scramble_same c.terms.cipher c.terms.key v c.vector n e

  -- so it is kept by every slot, voice or lost, but the one after which another session begins; and scramble's by every slot
  pub session-kept-lost : ((lost_of c).1.position ≡ 0 → scrambles c.terms.cipher ≡ true) → IsSession (lost_of c).1 session
  unfolding lost_of lost_refusals
  session-kept-lost =
      by_refusals (λ o. (o.1.position ≡ 0 → scrambles c.terms.cipher ≡ true) → IsSession o.1 session)
      c (lost_refusals c) (Done, written (plus c.counts lost_words) (slot_on (standing c))) (λ a m h. i)
      (λ n. on-kept n.1.1.0 lost_words (lost-fits (knows (standing c))))

  pub session-kept : (st : Call → ℕ → ℕ) (mask : ℕ) (frame : List ℕ)
      → ((voice_by st c mask frame).1.0.position ≡ 0 → scrambles c.terms.cipher ≡ true) → IsSession (voice_by st c mask frame).1.0 session
  unfolding voice_by voice_refusals
  session-kept st mask frame =
      by_refusals (λ o. (o.1.0.position ≡ 0 → scrambles c.terms.cipher ≡ true) → IsSession o.1.0 session)
      (c, frame) (voice_refusals c mask frame) (voice_after st mask frame c.counts (standing c)) (λ a m h. i)
      (λ n. on-kept n.1.1.1.0 (arrived_words mask (knows (standing c))) (arrived-fits mask (knows (standing c))))
