-- Receivers that demand 3 told when heard throws out, by a late entry into a DES call of three sessions: one that applies a vector at once and one that forgets
-- it, which both meet demand 3 itself, and one that keeps it too long.
use mathlib.Core.Path.{◌≡◌, refl, sym, ap, subst, ◌∙◌}
use mathlib.Core.Bool.{Bool, true, false, ◌&&◌, not}
use mathlib.Core.List.{List, [], ◌∷◌, ◌++◌}
use mathlib.Core.Logic.{inr}
use Prim.Native.Nat.{ℕ, zero, suc, ◌+◌, ◌*◌, ◌≤◌, ◌<◌}
use native.Mathlib.Numerals.{add-one}
use native.Mathlib.Omega.{arith}
use lib.Dec.{eqb}
use lib.ListN.{length, replicate}
use borrow.Author.Tests.{ne_eqb}
use Rattle.octets.specs.Lists.{Each}
use Rattle.answers.specs.declared.Answer.{Answer}
use Rattle.answers.specs.declared.Answer.TheVariants.{Done}
use Rattle.answers.specs.Numbers.{number_of}
use Rattle.answers.proofs.OutcomeLaws.{among_refuses, by_refusals}
use Rattle.sizes.specs.Ciphers.{no_vector}
use Rattle.sizes.specs.Frame.{width, frame_octets, most_words}
use Rattle.ciphers.specs.Keystream.{stream}
use Rattle.openings.specs.Ladder.{key_for}
use Rattle.openings.specs.Samples.{seed}
use Rattle.calls.specs.declared.call.Terms.{Terms}
use Rattle.calls.specs.declared.call.Call.{Call}
use Rattle.voice.specs.Frame.{of_slot}
use Rattle.calls.specs.Call.{receiving_end, strict, terms_right, vector_right, counts_right, Known, unknown, told, is_known, is_told, receiving, standing, terms_of, no_call, written, is_bad}
use Rattle.calls.specs.Counts.{no_counts, total, plus, lost_words}
use Rattle.calls.specs.Opening.{join_of}
use Rattle.voice.specs.Slot.{voice_of}
use Rattle.calls.specs.Vector.{with_vector, announce_refusals, announce_of}
use Rattle.calls.proofs.CallLaws.{good_by}
use Rattle.calls.proofs.CountLaws.{lost-fits}
use Rattle.voice.proofs.FrameLaws.{protect_frame}
use Rattle.calls.proofs.GoodLaws.{good_receiver, read_written}
use Rattle.voice.proofs.SlotSteps.{voice_at}
use Rattle.hearing.specs.declared.Hearing.{Hearing}
use Rattle.hearing.specs.Hearing.{one_kept, under_way, call_of, alone, keeping, no_hearing}
use Rattle.hearing.specs.Heard.{handed, handed_on, carried}
use Rattle.hearing.proofs.HearingLaws.{good_call_of, alone_of, alone-good, keeping-good}
use Rattle.hearing.proofs.HeardLaws.{handed-later, handed_now, heard-later}
use Rattle.nxdn.specs.Operations.{call_step}
use Rattle.demands.specs.Talk.{Slot, Session, Talk, joining, Kept, HasKey}
use Rattle.demands.specs.Notices.{Notice, hear, join, announce, lost, voice, notices_of, WithinLimit}
use Rattle.demands.specs.Log.{Receiver, Event, events}
use Rattle.demands.specs.Demand3.{Right, Meets3, ours}
use Rattle.demands.specs.Others.{four_on, turning}
use Rattle.demands.specs.ToldWhenHeard.{heard_log, Meets3Heard}
use Rattle.demands.specs.OtherHearings.{taking, at_once_hearing, deaf, clinging}
use Rattle.demands.proofs.Layouts.{ways_right}
use Rattle.demands.proofs.ToldSlots.{within_limit}
use Rattle.demands.proofs.Standing.{has_key-right, place, place_in, place_end, place-lost, place_voice, place-on, place-joined, joined-stands, place-announced, announced-stands, place_counts}
use Rattle.demands.proofs.ReceiverMeets.{ours_meets_3}
use Rattle.demands.proofs.Samples.{silence, silent_long, saying, quiet, quiet-kept}
use Rattle.demands.proofs.SampleKeys.{key_of, book_of_three, has_key}

-- a vector that is taken is the session's
announced : (s : Call) (v : List ℕ) → number_of (announce_of s v).0 ≡ 0 → (announce_of s v).1 ≡ written s.counts (with_vector v (standing s))
unfolding announce_of announce_refusals
announced s v =
    by_refusals (λ o. number_of o.0 ≡ 0 → o.1 ≡ written s.counts (with_vector v (standing s))) s (announce_refusals (standing s) v)
    (Done, written s.counts (with_vector v (standing s)))
    (λ a m e. absurd (omega (arith, among_refuses a (announce_refusals (standing s) v) refl m))) (λ n e. refl)

module _ (rt : ℕ) (lt : rt ≤ 1) where
  -- ---- the call

  abbrev session : List ℕ → Bool → List Bool → Session
  session v announced arriving = record { vector = v; announced = announced; slots = quiet rt (stream 2 (key_of 2) v) 0 arriving }

  -- whether the fifth slot arrives, the second vector's announcement, and the second session's first slot; the third vector's announcement is lost
  abbrev talk : Bool → Bool → Bool → Talk
  talk fifth announced first =
      record {
        cipher = 2;
        rate = rt;
        key = key_of 2;
        sessions = session seed false (replicate 4 false ++ (fifth ∷ replicate 3 false)) ∷ session seed announced (first ∷ replicate 7 false)
            ∷ session no_vector false (true ∷ []) ∷ [];
      }

  key : HasKey book_of_three 2 0 (key_of 2)
  key = has_key 2 (omega arith, omega arith)

  module _ (fifth announced first : Bool) where
    talk-kept : Kept (talk fifth announced first)
    talk-kept =
        record {
          rate = lt;
          key = refl;
          each = (
            record { vector = refl; slots = quiet-kept rt (stream 2 (key_of 2) seed) 0 (replicate 4 false ++ (fifth ∷ replicate 3 false)) },
            (
              record { vector = refl; slots = quiet-kept rt (stream 2 (key_of 2) seed) 0 (first ∷ replicate 7 false) },
              (record { vector = refl; slots = quiet-kept rt (stream 2 (key_of 2) no_vector) 0 (true ∷ []) }, tt),
            ),
          );
          full = (refl, (refl, omega arith));
        }

    few : WithinLimit (talk fifth announced first) (joining 0)
    few = within_limit (talk fifth announced first) (omega arith) (joining 0)

    -- of a receiver that joins in the first, the second's vector heard at once
    abbrev Heard : Receiver → Type 0
    Heard R = Each Right (heard_log false R book_of_three 0 (talk fifth announced first) (joining 0) (λ n. n))

    heard : (R : Receiver) → Meets3Heard R → Heard R
    heard R m = m (talk fifth announced first) talk-kept book_of_three 0 key (joining 0) few (λ n. n) (inr (omega arith), (inr (omega arith), tt))

  -- ---- the call as it is joined

  abbrev t : Terms
  t = terms_of 2 (key_for book_of_three 2 0) rt strict

  right : terms_right receiving_end rt strict ≡ true
  right = ways_right rt strict lt (omega arith)

  abbrev first : Call
  first = written no_counts (receiving t 4 unknown)

  first-is : join_of no_call 2 0 rt strict book_of_three ≡ (Done, first)
  first-is = place-joined book_of_three 2 0 (key_of 2) key rt strict right

  first-stands : standing first ≡ receiving t 4 unknown
  first-stands = joined-stands book_of_three 2 0 (key_of 2) key rt strict right

  -- ---- applied at once: the fifth slot is handed out, and is to be held

  abbrev known : Call
  known = written no_counts (receiving t 4 (told seed))

  known-stands : standing known ≡ receiving t 4 (told seed)
  unfolding vector_right counts_right
  known-stands =
      read_written no_counts (receiving t 4 (told seed)) refl
      (good_receiver t 4 (record { key = has_key-right book_of_three 2 0 (key_of 2) key; terms = right; place = omega arith }) (told seed) refl no_counts refl)

  at-once-is : (at_once_hearing.announce seed (join_of no_call 2 0 rt strict book_of_three).1).1 ≡ known
  at-once-is = rw (first-is, first-stands)

  abbrev came : ℕ → List ℕ
  came p = turning rt (stream 2 (key_of 2) seed) p 15 (silence rt)

  came-long : (v : List ℕ) (p : ℕ) → length (turning rt (stream 2 (key_of 2) v) p 15 (silence rt)) ≡ frame_octets (width rt)
  came-long v p = (protect_frame (width rt) (of_slot (width rt) (stream 2 (key_of 2) v) p) 15 (silence rt) (silent_long rt)).long

  known-opens : number_of (voice_of known 15 (came 4)).0 ≡ 0
  known-opens =
      ap (λ (o : Answer × (Call × List ℕ)). number_of o.0)
      (voice_at known 15 (came 4) (omega arith) (receiving t 4 (told seed)) (came-long seed 4) known-stands refl refl)

  at-once-out : Meets3Heard at_once_hearing → ⊥
  at-once-out m =
      let held = ((heard true true false at_once_hearing m).1.1.0.held refl).0 in
      let z : ◌≡◌ {A = ℕ} 0 1 = sym known-opens ∙ ap (λ (s : Call). number_of (voice_of s 15 (came 4)).0) (sym at-once-is) ∙ held in
      omega arith

  -- ---- forgotten: the second session is held, as if it had not been announced

  forgotten : (announce_of (join_of no_call 2 0 rt strict book_of_three).1 seed).1 ≡ (join_of no_call 2 0 rt strict book_of_three).1
  unfolding announce_of announce_refusals
  forgotten = rw (first-is, first-stands)

  deaf-out : Meets3Heard deaf → ⊥
  deaf-out m =
      let h = (heard false true true deaf m).1.1.1.1.1.1.0.handed refl in
      let o = ours_meets_3 (talk false false true) (talk-kept false false true) book_of_three 0 key (joining 0) (few false false true) in
      let z : ◌≡◌ {A = ℕ} 0 1 =
      sym h ∙ ap (λ (s : Call). number_of (voice_of (four_on s) 15 (came 0)).0) forgotten ∙ (o.1.1.1.1.1.0.held refl).0 in
      omega arith

  -- ---- kept too long: the third session is handed out by the second's vector, and is to be held

  abbrev log : Call → List Notice → List Event
  log d = events clinging book_of_three 2 0 rt (keeping d seed)

  -- at slot p of a session under way
  module _ (k : Known) (p : ℕ) (l : p < 8) (u : (eqb p 0 && not (is_told k)) ≡ false) (d : Call) (e : standing d ≡ place t k p)
      (room : total d.counts < most_words) where
    own : call_of (keeping d seed) ≡ d
    own =
        let o = e ∙ place_in t k p l in
        good_call_of (keeping d seed) (keeping-good d seed (good_by d (ap is_bad o)) (ap under_way o ∙ rw u))

    abbrev on : Call
    on = written (plus d.counts lost_words) (place t k (p + 1))

    on-stands : standing on ≡ place t k (p + 1)
    on-stands = place-on t k p l d e room lost_words (lost-fits (is_known k))

    on-counts : total on.counts ≡ total d.counts + 4
    on-counts = ap total (place_counts t k (plus d.counts lost_words) (p + 1)) ∙ omega arith

    -- a lost slot
    lost-clings : (clinging.lost (keeping d seed)).1 ≡ keeping (handed one_kept seed on).call seed
    unfolding carried call_step handed_on
    lost-clings = rw (own, place-lost t k p l d e room)

    -- one that arrives is handed out where its vector is known
    opens : is_known k ≡ true → (frame : List ℕ) → length frame ≡ frame_octets (width rt) → number_of (clinging.voice 15 frame (keeping d seed)).0 ≡ 0
    unfolding carried call_step
    opens q frame f = rw (own, place_voice t k p l d e room 15 frame (omega arith) f, q)

  -- a session is lost to its end, and the next one starts with the vector that is kept
  session-lost : (n p : ℕ) → p + suc n ≡ 8 → (k : Known) → (eqb p 0 && not (is_told k)) ≡ false → (left : ℕ) (ns : List Notice)
      → ((d : Call) → standing d ≡ place t (told seed) 0 → total d.counts + 4 * left ≤ 4000 → Each Right (log d ns) → ⊥)
      → (d : Call) → standing d ≡ place t k p → total d.counts + 4 * (suc n + left) ≤ 4000 → Each Right (log d (replicate (suc n) lost ++ ns)) → ⊥
  session-lost zero p f k u left ns next d e room h =
      let l : p < 8 = omega arith in
      let small : total d.counts < most_words = omega arith in
      let o = on k p l u d e small in
      let s : standing o ≡ receiving t 0 unknown = on-stands k p l u d e small ∙ place_end t k (p + 1) (omega arith) in
      let q : (handed one_kept seed o).call ≡ written o.counts (receiving t 0 (told seed)) =
      ap (λ (x : Hearing). x.call) (handed_now seed o (ap under_way s))
      ∙ ap (λ (x : Answer × Call). x.1) (place-announced book_of_three 2 0 (key_of 2) key rt strict right o unknown s seed refl refl refl) in
      next (written o.counts (receiving t 0 (told seed))) (announced-stands book_of_three 2 0 (key_of 2) key rt strict right o unknown s seed refl refl refl)
      (omega (arith, on-counts k p l u d e small))
      (subst (λ (x : Hearing). Each Right (events clinging book_of_three 2 0 rt x ns))
      (lost-clings k p l u d e small ∙ ap (λ (x : Call). keeping x seed) q) h.1)
  session-lost (suc n) p f k u left ns next d e room h =
      let l : p < 8 = omega arith in
      let small : total d.counts < most_words = omega arith in
      let o = on k p l u d e small in
      let s : standing o ≡ place t k (suc p) = on-stands k p l u d e small ∙ ap (place t k) (add-one p) in
      let v : (eqb (suc p) 0 && not (is_told k)) ≡ false = rw (ne_eqb (suc p) 0 (λ e. omega arith)) in
      let q : (handed one_kept seed o).call ≡ o =
      ap (λ (x : Hearing). x.call) (handed-later seed o (ap under_way (s ∙ place_in t k (suc p) (omega arith)) ∙ rw v)) in
      session-lost n (suc p) (omega arith) k v left ns next o s (omega (arith, on-counts k p l u d e small))
      (subst (λ (x : Hearing). Each Right (events clinging book_of_three 2 0 rt x (replicate (suc n) lost ++ ns)))
      (lost-clings k p l u d e small ∙ ap (λ (x : Call). keeping x seed) q) h.1)

  abbrev third : Slot
  third = saying turning rt (silence rt) (stream 2 (key_of 2) no_vector) 0 true

  joined_keeps : (clinging.announce seed (clinging.join 2 0 rt book_of_three no_hearing).1).1 ≡ keeping first seed
  unfolding carried call_step handed_on handed
  joined_keeps =
      rw (alone_of no_call, first-is)
      (ap (λ (o : Answer × Hearing). o.1)
      (heard-later (alone first) seed (alone-good first (good_by first (ap is_bad first-stands))) (ap under_way first-stands) refl))

  clinging-out : Meets3Heard clinging → ⊥
  clinging-out m =
      session-lost 3 4 refl unknown refl 9 (replicate 8 lost ++ (voice false third ∷ []))
      (session-lost 7 0 refl (told seed) refl 1 (voice false third ∷ [])
      (λ d e room h.
      let z : ◌≡◌ {A = ℕ} 0 1 = sym (opens (told seed) 0 (omega arith) refl d e (omega arith) refl third.sent (came-long no_vector 0)) ∙ (h.0.held refl).0 in
      omega arith))
      first first-stands (omega arith)
      (subst (λ (x : Hearing). Each Right (events clinging book_of_three 2 0 rt x (replicate 12 lost ++ (voice false third ∷ [])))) joined_keeps
      (heard false true false clinging m).1.1)

-- ---- at the half rate, say

pub at_once_heard_fails : Meets3Heard at_once_hearing → ⊥
at_once_heard_fails = at-once-out 0 (omega arith)

pub deaf_fails : Meets3Heard deaf → ⊥
deaf_fails = deaf-out 0 (omega arith)

pub clinging-heard_fails : Meets3Heard clinging → ⊥
clinging-heard_fails = clinging-out 0 (omega arith)

-- ---- the first two meet demand 3 itself, which tells a vector as its session starts

module _ (announces : List ℕ → Call → Answer × Call)
    (same : (v : List ℕ) (s : Call) → number_of (announce_of s v).0 ≡ 0 → (number_of (announces v s).0 ≡ 0) × ((announce_of s v).1 ≡ (announces v s).1)) where
  -- where ours is right all the way
  same_log : (b : List ℕ) (c i rt : ℕ) (ns : List Notice) (s : Call) → Each Right (events ours b c i rt s ns)
      → Each Right (events (taking announces) b c i rt s ns)
  same_log b c i rt [] s h = h
  same_log b c i rt (hear v ∷ ns) s h = (h.0, same_log b c i rt ns _ h.1)
  same_log b c i rt (join ∷ ns) s h = (h.0, same_log b c i rt ns _ h.1)
  same_log b c i rt (announce v ∷ ns) s h =
      let o = same v s h.0 in
      (o.0, same_log b c i rt ns _ (subst (λ (d : Call). Each Right (events ours b c i rt d ns)) o.1 h.1))
  same_log b c i rt (lost ∷ ns) s h = (h.0, same_log b c i rt ns _ h.1)
  same_log b c i rt (voice reached x ∷ ns) s h = (h.0, same_log b c i rt ns _ h.1)

  taking-meets-3 : Meets3 (taking announces)
  taking-meets-3 t k b i h e few = same_log b t.cipher i t.rate (notices_of t e) no_call (ours_meets_3 t k b i h e few)

pub at_once_meets_3 : Meets3 at_once_hearing
at_once_meets_3 = taking-meets-3 at_once_hearing.announce (λ v s e. (refl, announced s v e))

pub deaf_meets_3 : Meets3 deaf
deaf_meets_3 = taking-meets-3 deaf.announce (λ v s e. (refl, refl))
