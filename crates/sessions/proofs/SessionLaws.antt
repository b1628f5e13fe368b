-- Lent octets that hold a session: when they are made, and what keeps them.
use mathlib.Core.Path.{◌≡◌, refl, sym, ap, subst, ◌∙◌}
use mathlib.Core.Bool.{Bool, true, false, ◌&&◌, false≢true}
use mathlib.Core.List.{List, ◌++◌}
use Rattle.std.specs.Prelude.{Result, Ok, Err, IsErr}
use Prim.Native.Nat.{ℕ, ◌-◌, ◌/◌, ◌%◌, ◌^◌, ◌≤◌, ◌<◌}
use native.Mathlib.Omega.{arith}
use lib.Dec.{leb}
use lib.ListN.{length, take, drop, length-append, get_or-append}
use lib.Seq.{length-take-le}
use borrow.Author.Tests.{le-leb, lt-leb}
use Rattle.answers.specs.declared.Answer.{Answer}
use Rattle.answers.specs.declared.Answer.TheVariants.{Done}
use Rattle.answers.specs.Outcomes.{result_of}
use Rattle.answers.proofs.ResultLaws.{is_returned}
use Rattle.sizes.specs.Ciphers.{scrambles}
use Rattle.sizes.specs.Frame.{session_octets}
use Rattle.calls.specs.declared.call.Call.{Call}
use Rattle.calls.specs.Call.{unknown_vector, good_call, standing, knows, width_of}
use Rattle.voice.specs.Slot.{lost_of, stream_of, voice_of, voice_by_octets, session_stream_of, IsSession}
use Rattle.voice.specs.declared.slot.Slot.{Slot}
use Rattle.voice.specs.Told.{slot_of}
use Rattle.calls.proofs.CallLaws.{knows_no, knows_yes}
use Rattle.voice.proofs.SessionOnce.{voice_by_is_voice, session-made, session-kept, session-kept-lost}
use Rattle.voice.proofs.ToldLaws.{slot_told}
use Rattle.sessions.specs.Session.{Cached, can_hold, call_after}

-- nothing holds what is not made
pub unmade : (c : Call) (session : List ℕ) → Cached false c session
unmade c session = record { holds = λ e. absurd (false≢true e) }

-- octets that hold a session may be followed by any
session_longer : (c : Call) (xs ys : List ℕ) → IsSession c xs → IsSession c (xs ++ ys)
session_longer c xs ys i =
    record {
      known = i.known;
      long = rw (length-append xs ys) (omega (arith, i.long));
      bits = λ n l. ap (λ (x : ℕ). x / 2 ^ (7 - n % 8) % 2) (get_or-append xs ys 0 (n / 8) (omega (arith, i.long))) ∙ i.bits n l;
    }

module _ (c : Call) (session : List ℕ) where
  -- ---- made

  pub made_can : {made : Bool} → Cached made c session → made ≡ true → true ≡ can_hold c session
  unfolding can_hold
  made_can h t = let i = h.holds t in sym (rw (i.known, le-leb (session_octets (width_of c.terms)) (length session) i.long))

  pub unknown_cannot : c.known ≡ unknown_vector → false ≡ can_hold c session
  unfolding can_hold
  unknown_cannot e = sym (rw (knows_no c e))

  pub short_cannot : length session < session_octets (width_of c.terms) → false ≡ can_hold c session
  unfolding can_hold
  short_cannot l = go (knows (standing c))
    where
      go : (k : Bool) → false ≡ (k && leb (session_octets (width_of c.terms)) (length session))
      go true = sym (rw (lt-leb (session_octets (width_of c.terms)) (length session) l))
      go false = refl

  -- a session that is written over the first octets is held, if the call is good
  pub made_holds : (n : ℕ) (first : List ℕ) {good : Bool} → first ≡ session_stream_of c (take n session) → n ≡ session_octets (width_of c.terms) → n ≤ length session
      → (c.known ≡ unknown_vector → ⊥) → good ≡ good_call c → (good ≡ can_hold c session) × Cached good c (first ++ drop n session)
  unfolding can_hold
  made_holds n first {good} e size l k g =
      let h : good ≡ knows (standing c) = g ∙ sym (knows_yes c k) in (
        go (knows (standing c)) h,
        record { holds = λ t. rw e (session_longer c _ (drop n session) (session-made c (sym h ∙ t) (take n session) (rw (length-take-le n session l) (omega arith)))) },
      )
    where
      go : (b : Bool) → good ≡ b → good ≡ (b && leb (session_octets (width_of c.terms)) (length session))
      go true p = p ∙ sym (rw (le-leb (session_octets (width_of c.terms)) (length session) (omega arith)))
      go false p = p

  -- ---- kept

  module _ {made : Bool} (h : Cached made c session) where
    -- a refusal leaves the call, so it is still in its session
    pub refused_cached : {stays : Bool} (done : Result Call Answer) → (stays ≡ true → (made ≡ true) × IsErr done) → Cached stays (call_after c done) session
    refused_cached done s = record { holds = λ t. go done (s t).1 (h.holds (s t).0) }
      where
        go : (r : Result Call Answer) → IsErr r → IsSession c session → IsSession (call_after c r) session
        go (Ok d) e i = absurd (false≢true e)
        go (Err a) e i = i

    -- a slot leaves it in its session, if it goes on
    lost-cached : {goes : Bool} {after : Call} → (goes ≡ true → (made ≡ true) × (after.position ≡ 0 → scrambles c.terms.cipher ≡ true))
        → lost_of c ≡ (Done, after) → Cached goes after session
    lost-cached s q =
        record {
          holds =
              λ t.
              subst (λ (d : Call). IsSession d session) (ap (λ (o : Answer × Call). o.1) q)
              (session-kept-lost c session (h.holds (s t).0) (λ p. (s t).1 (sym (ap (λ (o : Answer × Call). o.1.position) q) ∙ p)));
        }

    -- so does a lost one that is done
    pub lost_cached : {goes : Bool} {after : Call} {r : Result Call Answer} → r ≡ result_of (lost_of c) → r ≡ Ok after
        → (goes ≡ true → (made ≡ true) × (after.position ≡ 0 → scrambles c.terms.cipher ≡ true)) → Cached goes after session
    lost_cached e p s = lost-cached s (is_returned (lost_of c) e p)

    module _ (m : made ≡ true) (mask : ℕ) (frame : List ℕ) where
      -- a slot by octets that hold the session is the slot of the call
      pub voice_held : {o : Result Slot Answer × List ℕ} → o ≡ slot_of (voice_by_octets session c mask frame) → o ≡ slot_of (voice_of c mask frame)
      voice_held q = q ∙ ap slot_of (voice_by_is_voice c session (h.holds m) mask frame)

      pub voice_cached : {goes : Bool} {s : Slot} {f : List ℕ} → (goes ≡ true → s.call.position ≡ 0 → scrambles c.terms.cipher ≡ true)
          → (Ok s, f) ≡ slot_of (voice_of c mask frame) → Cached goes s.call session
      voice_cached {s = s} g q =
          let e : s.call ≡ (voice_of c mask frame).1.0 = (slot_told (voice_of c mask frame) (sym (ap (λ (o : Result Slot Answer × List ℕ). o.0) q))).2 in
          record {
            holds =
                λ t.
                subst (λ (d : Call). IsSession d session) (sym e)
                (session-kept c session (h.holds m) stream_of mask frame (λ p. g t (ap (λ (d : Call). d.position) e ∙ p)));
          }
