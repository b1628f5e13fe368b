-- Our receivers meet demand 3 told when heard: a vector that is heard in the middle of a session is kept to its end, and is then the next one's.
use mathlib.Core.Path.{◌≡◌, refl, sym, ap, ◌∙◌}
use mathlib.Core.Bool.{Bool, true, false, ◌&&◌, not, or-true, true≢false}
use mathlib.Core.List.{List, [], ◌∷◌, ◌++◌}
use mathlib.Core.Logic.{◌⊎◌, inl, inr}
use Prim.Native.Nat.{ℕ, zero, suc, ◌+◌, ◌*◌, ◌≤◌, ◌<◌}
use native.Mathlib.Nat.{add-zero, zero-add}
use native.Mathlib.Numerals.{add-one}
use native.Mathlib.Omega.{arith}
use lib.Dec.{eqb}
use lib.ListN.{length, drop, length-drop, length-append, take-append-drop}
use borrow.Author.Tests.{le-ltb, ne_eqb, not-true}
use Rattle.octets.specs.Lists.{Each}
use Rattle.octets.proofs.TestLaws.{and_left, and_right}
use Rattle.answers.specs.declared.Answer.{Answer}
use Rattle.answers.specs.declared.Answer.TheVariants.{Done}
use Rattle.answers.specs.Numbers.{number_of}
use Rattle.generator.specs.Generator.{next_vector}
use Rattle.sizes.specs.Frame.{width}
use Rattle.sizes.specs.Ciphers.{key_octets, session_slots, vector_octets, no_vector, scrambles, superframe_slots}
use Rattle.ciphers.specs.Keystream.{stream}
use Rattle.openings.specs.Ladder.{session_vector, key_for}
use Rattle.calls.specs.declared.call.Terms.{Terms}
use Rattle.calls.specs.declared.call.Call.{Call}
use Rattle.calls.specs.Counts.{total}
use Rattle.calls.specs.Call.{receiving_end, by_default, strict, terms_right, good_call, Known, told, is_known, is_told, known_vector, untold, Standing, receiving, standing, terms_of, no_call, written, is_bad}
use Rattle.voice.specs.Slot.{ridden, lost_of, voice_of}
use Rattle.calls.specs.Vector.{awaits, announce_of}
use Rattle.calls.proofs.CallLaws.{good_by}
use Rattle.hearing.specs.declared.Hearing.{Hearing}
use Rattle.hearing.specs.Hearing.{none_kept, one_kept, under_way, call_of, alone, keeping, no_hearing}
use Rattle.hearing.specs.Heard.{handed, handed_on, carried, heard_of}
use Rattle.hearing.proofs.HearingLaws.{waits_not, good_call_of, alone_of, alone-good, keeping-good}
use Rattle.hearing.proofs.HeardLaws.{handed-later, handed_now, carried-alone, heard-later, heard_told}
use Rattle.nxdn.specs.Operations.{with_none, CallOperation, Open, Join, call_step}
use Rattle.demands.specs.Rates.{Layout}
use Rattle.demands.specs.Talk.{Slot, Session, Talk, WayIn, opening, joining, SlotKept, SlotsKept, SessionKept, Full, slot_counts, Kept, HasKey}
use Rattle.demands.specs.Arrivals.{all_slots, slots_from}
use Rattle.demands.specs.Notices.{Notice, join, announce, is_reached, slot_notice, slot_notices, start_notices, WithinLimit}
use Rattle.demands.specs.Log.{Event, event, events}
use Rattle.demands.specs.Demand3.{Right, ours_in}
use Rattle.demands.specs.Demand3Default.{heard_from, Successive, GeneratedOrAnnounced}
use Rattle.demands.specs.ToldWhenHeard.{heard_after, known_in, later_notices, first_heard, opening_heard, LaterPlaces, AnyPlace, heard_log, Meets3Heard, Meets3HeardDefault, hearing_with, hearing_recorder, hearing_handset}
use Rattle.demands.proofs.Layouts.{layout_by, layout_is, ways_right}
use Rattle.demands.proofs.Standing.{key_ranged, slots_some, fresh, place, place_in, place_end, place_opened, opened-stands, place-joined, joined-stands, place-announced, announced-stands, place-untold}
use Rattle.demands.proofs.Marking.{known_next, known_by}
use Rattle.demands.proofs.ToldSlots.{told_after}
use Rattle.demands.proofs.ReceiverMeets.{each-drop, slots-drop, full-drop, Knowing, slot_steps, told_on, ready-next, start_knows}

module _ (b : List ℕ) (c i : ℕ) (key : List ℕ) (h : HasKey b c i key) (long : length key ≡ key_octets c) (rt m : ℕ)
    (right : terms_right receiving_end rt m ≡ true) where
  abbrev t : Terms
  t = terms_of c (key_for b c i) rt m

  abbrev its : Layout
  its = layout_by (width rt)

  -- what it knows of a session's vector, as for its call alone
  abbrev Knows : Bool → List ℕ → Known → Type 0
  Knows = Knowing b c i key h long rt m right

  abbrev told_of : Notice → Hearing → Event × Hearing
  told_of = event (hearing_with m) b c i rt

  -- of its call alone
  abbrev told_call : Notice → Call → Event × Call
  told_call = event (ours_in m) b c i rt

  abbrev log : Hearing → List Notice → List Event
  log = events (hearing_with m) b c i rt

  -- from wherever its call stands so, with so many slots to come below the limit, what it is told is answered right
  abbrev RightFrom : (Call → Hearing) → Standing → ℕ → List Notice → Type 0
  RightFrom holds s left ns = (d : Call) → standing d ≡ s → total d.counts + 4 * left ≤ 4000000 → Each Right (log (holds d) ns)

  -- one thing that it is told, and then the others
  then-right : (n : Notice) (s : Hearing) {e : Event} {u : Hearing} → told_of n s ≡ (e, u) → Right e → (ns : List Notice) → Each Right (log u ns)
      → Each Right (log s (n ∷ ns))
  then-right n s q r ns rest = rw q (r, rest)

  -- a vector that is taken
  heard-then : (w : List ℕ) (s : Hearing) {u : Hearing} → heard_of s w ≡ (Done, u) → (ns : List Notice) → Each Right (log u ns)
      → Each Right (log s (announce w ∷ ns))
  heard-then w s q ns rest = rw q (refl, rest)

  -- ---- a slot

  -- it goes as with the call alone, and hands on what was kept
  slot-hands : (reached a : Bool) (x : Slot) (s : Hearing) (d : Call) → call_of s ≡ d → Right (told_call (slot_notice reached a x) d).0
      → told_of (slot_notice reached a x) s ≡ ((told_call (slot_notice reached a x) d).0, handed s.kept s.next (told_call (slot_notice reached a x) d).1)
  unfolding call_step carried handed_on
  slot-hands true true x s d q r = rw (q, le-ltb 1 (number_of (voice_of d x.mask x.sent).0) (omega (arith, r.handed refl)))
  slot-hands false true x s d q r = rw (q, le-ltb 1 (number_of (voice_of d x.mask x.sent).0) (omega (arith, (r.held refl).0)))
  slot-hands reached false x s d q r = rw (q, le-ltb 1 (number_of (lost_of d).0) (omega (arith, r)))

  module _ (reached : Bool) (v : List ℕ) (k : Known) (n : Knows reached v k) where
    -- slot p, with or without a vector that is kept
    slot-right : (kept : ℕ) (w : List ℕ) (p : ℕ) → p < session_slots c → (x : Slot) → SlotKept its (stream c key v) p x
        → ((d : Call) → standing d ≡ place t k p → call_of (record { call = d; kept = kept; next = w }) ≡ d)
        → (left : ℕ) (ns : List Notice) → RightFrom (handed kept w) (place t k (suc p)) left ns
        → RightFrom (λ d. record { call = d; kept = kept; next = w }) (place t k p) (suc left) (slot_notice reached x.arrived x ∷ ns)
    slot-right kept w p l x s own left ns r d q room =
        let o = slot_steps b c i key h long rt m right reached v k n p l x s d q (omega arith) x.arrived in
        let now : Hearing = record { call = d; kept = kept; next = w } in
        then-right (slot_notice reached x.arrived x) now (slot-hands reached x.arrived x now d (own d q) o.0) o.0 ns
        (r _ (rw add-one at o.1) (omega (arith, o.2)))

    -- the slots from slot p on, nothing kept, and then whatever is right after them
    alone-right : (p : ℕ) (xs : List Slot) → p + length xs ≤ session_slots c → SlotsKept its (stream c key v) p xs → (left : ℕ) (ns : List Notice)
        → RightFrom alone (place t k (p + length xs)) left ns → RightFrom alone (place t k p) (length xs + left) (slot_notices reached xs ++ ns)
    unfolding handed
    alone-right p [] l s left ns r d q room = r d (q ∙ ap (place t k) (sym (add-zero p))) (omega arith)
    alone-right p (x ∷ xs) l s left ns r d q room =
        let e : p + suc (length xs) ≡ suc p + length xs = omega arith in
        slot-right none_kept no_vector p (omega arith) x s.0 (λ d q. alone_of d) (length xs + left) (slot_notices reached xs ++ ns)
        (alone-right (suc p) xs (omega arith) s.1 left ns (rw e at r)) d q (omega arith)

    -- ---- a vector w is heard

    module _ (w : List ℕ) (l : length w ≡ vector_octets) (u : scrambles c ≡ false) (left : ℕ) (ns : List Notice)
        (r : RightFrom alone (place t (told w) 0) left ns) where
      -- told as the next session starts
      module _ (d : Call) (q : standing d ≡ fresh t k) where
        untold-yet : is_told (ridden t k) ≡ false
        untold-yet = told_on b c i key h long rt m right (scrambles c) (eqb m by_default) (is_known k) (next_vector (known_vector k)) ∙ u

        waits : awaits (standing d) ≡ true
        waits = ap awaits q ∙ rw (untold-yet, u)

        good : good_call d ≡ true
        good = good_by d (ap is_bad q)

        announced : announce_of d w ≡ (Done, written d.counts (receiving t 0 (told w)))
        announced = place-announced b c i key h rt m right d (ridden t k) q w l u untold-yet

        told-right : total d.counts + 4 * left ≤ 4000000 → Each Right (log (alone (written d.counts (receiving t 0 (told w)))) ns)
        told-right = r _ (announced-stands b c i key h rt m right d (ridden t k) q w l u untold-yet)

        now-right : total d.counts + 4 * left ≤ 4000000 → Each Right (log (alone d) (announce w ∷ ns))
        now-right room =
            heard-then w (alone d)
            (heard_told (alone d) w (alone-good d good) waits l ∙ ap (λ (r : Answer × Call). (r.0, alone r.1)) announced) ns (told-right room)

        handed-right : total d.counts + 4 * left ≤ 4000000 → Each Right (log (handed one_kept w d) ns)
        handed-right room = rw (handed_now w d (waits_not (standing d) waits), announced) (told-right room)

      -- past its first slot, or told of its own vector, a session is under way
      under-way : (p : ℕ) → (eqb p 0 && not (is_told k)) ≡ false → under_way (receiving t p k) ≡ true
      under-way p e = rw (u, e)

      past_first : (p : ℕ) → (eqb (suc p) 0 && not (is_told k)) ≡ false
      past_first p = rw (ne_eqb (suc p) 0 (λ e. omega arith))

      -- at slot p of one with w kept
      kept_slot : (p : ℕ) → p < session_slots c → under_way (receiving t p k) ≡ true → (x : Slot) → SlotKept its (stream c key v) p x
          → (rest : ℕ) (ms : List Notice) → RightFrom (handed one_kept w) (place t k (suc p)) rest ms
          → RightFrom (λ d. keeping d w) (place t k p) (suc rest) (slot_notice reached x.arrived x ∷ ms)
      kept_slot p less a x s =
          slot-right one_kept w p less x s
          (λ d q.
          let o = q ∙ place_in t k p less in
          good_call_of (keeping d w) (keeping-good d w (good_by d (ap is_bad o)) (ap under_way o ∙ a)))

      -- kept from slot p on to the session's end
      keeping-right : (p : ℕ) (x : Slot) (xs : List Slot) → p + suc (length xs) ≡ session_slots c → under_way (receiving t p k) ≡ true
          → SlotsKept its (stream c key v) p (x ∷ xs) → RightFrom (λ d. keeping d w) (place t k p) (suc (length xs) + left) (slot_notices reached (x ∷ xs) ++ ns)
      keeping-right p x [] e a s d q room =
          kept_slot p (omega arith) a x s.0 left ns (λ d q. handed-right d (q ∙ place_end t k (suc p) (omega arith))) d q (omega arith)
      keeping-right p x (y ∷ ys) e a s d q room =
          let z = under-way (suc p) (past_first p) in
          let less : suc p < session_slots c = omega arith in
          kept_slot p (omega arith) a x s.0 (suc (length ys) + left) (slot_notices reached (y ∷ ys) ++ ns)
          (λ d q room.
          rw (handed-later w d (ap under_way (q ∙ place_in t k (suc p) less) ∙ z)) (keeping-right (suc p) y ys (omega arith) z s.1 d q room)) d q
          (omega arith)

      -- heard after so many of the slots that are left
      heard-right : (after p : ℕ) (xs : List Slot) → p + length xs ≡ session_slots c → (after ≡ 0 → (eqb p 0 && not (is_told k)) ≡ false)
          → SlotsKept its (stream c key v) p xs
          → RightFrom alone (place t k p) (length xs + left) (heard_after after (announce w ∷ []) (slot_notices reached xs) ++ ns)
      unfolding handed
      heard-right zero p [] e z s d q room = now-right d (q ∙ place_end t k p (omega arith)) (omega arith)
      heard-right (suc n) p [] e z s d q room = now-right d (q ∙ place_end t k p (omega arith)) (omega arith)
      heard-right zero p (x ∷ xs) e z s d q room =
          let a = under-way p (z refl) in
          let o = q ∙ place_in t k p (omega arith) in
          heard-then w (alone d) (heard-later (alone d) w (alone-good d (good_by d (ap is_bad o))) (ap under_way o ∙ a) l) (slot_notices reached (x ∷ xs) ++ ns)
          (keeping-right p x xs e a s d q room)
      heard-right (suc n) p (x ∷ xs) e z s d q room =
          slot-right none_kept no_vector p (omega arith) x s.0 (λ d q. alone_of d) (length xs + left)
          (heard_after n (announce w ∷ []) (slot_notices reached xs) ++ ns)
          (heard-right n (suc p) xs (omega arith) (λ z. past_first p) s.1) d q (omega arith)

  -- ---- the sessions

  abbrev rides : Bool
  rides = eqb m by_default

  slots-from : (p : ℕ) (x : Session) → SessionKept its c key x → SlotsKept its (stream c key x.vector) p (drop p x.slots)
  slots-from p x kept = rw zero-add at (slots-drop its (stream c key x.vector) p 0 x.slots kept.slots)

  scrambling : (u f : Bool) → (not u && f) ≡ false → f ≡ true → u ≡ true
  scrambling true f a e = refl
  scrambling false f a e = absurd (true≢false (sym e ∙ a))

  -- what was told at place 0 was told of a session under way
  placed : {a : Bool} {n : ℕ} (k : Known) → (a ≡ true → is_told k ≡ true) → (a ≡ true) ⊎ (1 ≤ n) → n ≡ 0 → (eqb 0 0 && not (is_told k)) ≡ false
  placed k its (inl e) z = ap not (its e)
  placed k its (inr l) z = absurd (omega arith)

  -- a whole session from slot p on, in which the next one's vector is heard after so many slots, if it is
  session-right : (known : Bool) (k : Known) (p : ℕ) → p ≤ session_slots c → (x y : Session) → Knows (is_reached c known) x.vector k → SessionKept its c key x
      → length x.slots ≡ session_slots c → length y.vector ≡ vector_octets → (m ≡ by_default → scrambles c ≡ false → GeneratedOrAnnounced x y)
      → (after : ℕ) → (after ≡ 0 → (eqb p 0 && not (is_told k)) ≡ false) → (left : ℕ) (ns : List Notice)
      → ((k' : Known) → Knows (is_reached c (known_in rides known y)) y.vector k' → (y.announced ≡ true → is_told k' ≡ true)
      → RightFrom alone (place t k' 0) left ns)
      → RightFrom alone (place t k p) (length (drop p x.slots) + left)
      (heard_after after (start_notices (not (scrambles c) && y.announced) y.vector) (slot_notices (is_reached c known) (drop p x.slots)) ++ ns)
  session-right known k p l x y n kept whole sized link after z left ns next = go (not (scrambles c) && y.announced) refl
    where
      ends : p + length (drop p x.slots) ≡ session_slots c
      ends = omega (arith, length-drop p x.slots)

      -- one that is announced, and yet not told, is scramble's, which is told all
      told-all : (not (scrambles c) && y.announced) ≡ false → y.announced ≡ true → is_told (ridden t k) ≡ true
      told-all a e =
          told_on b c i key h long rt m right (scrambles c) (eqb m by_default) (is_known k) (next_vector (known_vector k))
          ∙ scrambling (scrambles c) y.announced a e

      go : (a : Bool) → (not (scrambles c) && y.announced) ≡ a
          → RightFrom alone (place t k p) (length (drop p x.slots) + left)
          (heard_after after (start_notices a y.vector) (slot_notices (is_reached c known) (drop p x.slots)) ++ ns)
      go true a =
          let u = not-true (scrambles c) (and_left (not (scrambles c)) y.announced a) in
          let f = and_right (not (scrambles c)) y.announced a in
          heard-right (is_reached c known) x.vector k n y.vector sized u left ns
          (next (told y.vector) (record { known = rw (u, f); vector = λ e. rw u }) (λ e. refl)) after p (drop p x.slots) ends z
          (slots-from p x kept)
      go false a =
          let r = ready-next b c i key h long rt m right (is_reached c known) x k n (λ u. rw u) y link in
          let o = start_knows b c i key h long rt m right (known_next m c (is_reached c known)) (ridden t k) y r a in
          rw (take-append-drop after (slot_notices (is_reached c known) (drop p x.slots)))
          (alone-right (is_reached c known) x.vector k n p (drop p x.slots) (omega (arith, ends)) (slots-from p x kept) left ns
          (λ d q.
          next (ridden t k) (rw (known_by m c known y.announced) at o) (told-all a) d
          (place-untold b c i key h rt m right d (ridden t k) (q ∙ place_end t k (p + length (drop p x.slots)) ends))))

  -- by default, and with DES or AES, each next vector is the generator's or its announcement arrived
  abbrev Linked : List Session → Type 0
  Linked xs = m ≡ by_default → scrambles c ≡ false → Successive GeneratedOrAnnounced xs

  -- the first session that is heard, from slot p on, and those after it
  first-right : (known : Bool) (k : Known) (p : ℕ) → p ≤ session_slots c → (x : Session) (ys : List Session) → Knows (is_reached c known) x.vector k
      → Each (SessionKept its c key) (x ∷ ys) → Full c (slot_counts (x ∷ ys)) → Linked (x ∷ ys)
      → (places : ℕ → ℕ) → LaterPlaces (λ n. places (suc n)) ys → (places 0 ≡ 0 → (eqb p 0 && not (is_told k)) ≡ false)
      → RightFrom alone (place t k p) (length (slots_from p (x ∷ ys))) (first_heard c rides known p places (x ∷ ys))
  first-right known k p l x [] n kept f link places any z d q room =
      rw (take-append-drop (places 0) (slot_notices (is_reached c known) (drop p x.slots)))
      (alone-right (is_reached c known) x.vector k n p (drop p x.slots) (omega (arith, length-drop p x.slots)) (slots-from p x kept.0) 0 []
      (λ d q w. tt) d q (omega (arith, length-append (drop p x.slots) [])))
  first-right known k p l x (y ∷ zs) n kept f link places any z d q room =
      session-right known k p l x y n kept.0 f.0 kept.1.0.vector (λ d u. (link d u).0) (places 0) z (length (all_slots (y ∷ zs)))
      (later_notices c rides known (λ n. places (suc n)) (y ∷ zs))
      (λ k' o its.
      first-right (known_in rides known y) k' 0 (omega arith) y zs o kept.1 f.1 (λ d u. (link d u).1) (λ n. places (suc n)) any.1
      (placed k' its any.0)) d q (omega (arith, length-append (drop p x.slots) (all_slots (y ∷ zs))))

  -- ---- how it comes in

  came-in : (o : CallOperation) (d : Call) → call_step b no_call o ≡ (Done, (d, [])) → carried (λ e. call_step b e o) no_hearing ≡ (Done, (alone d, []))
  came-in o d q =
      carried-alone (λ e. call_step b e o) no_call (λ r. let z = ap (λ (r : Answer × (Call × List ℕ)). number_of r.0) q in absurd (omega arith))
      ∙ ap (λ (r : Answer × (Call × List ℕ)). (r.0, (alone r.1.0, r.1.1))) q

  module _ (places : ℕ → ℕ) where
    opened-right : (xs : List Session) → Each (SessionKept its c key) xs → Full c (slot_counts xs) → Linked xs → length (all_slots xs) ≤ 1000000 → AnyPlace places xs
        → Each Right (log no_hearing (opening_heard c rides places xs))
    unfolding call_step
    opened-right [] kept f link few any = tt
    opened-right (x ∷ xs) kept f link few any =
        let o = ap with_none (place_opened b c i key h rt m right x.vector kept.0.vector) in
        rw (came-in (Open c i rt m x.vector) _ o) (
          refl,
          first-right true (told (session_vector c x.vector)) 0 (omega arith) x xs
              (record { known = rw (or-true (scrambles c)); vector = λ z. refl }) kept f link places any (λ e. refl) _
              (opened-stands b c i key h rt m right x.vector kept.0.vector) (omega arith),
        )

    joined-right : (xs : List Session) → Each (SessionKept its c key) xs → Full c (slot_counts xs) → Linked xs → length (slots_from superframe_slots xs) ≤ 1000000
        → AnyPlace places xs
        → Each Right (log no_hearing (join ∷ first_heard c rides false superframe_slots places xs))
    unfolding call_step
    joined-right [] kept f link few any = rw (came-in (Join c i rt m) _ (ap with_none (place-joined b c i key h rt m right))) (refl, tt)
    joined-right (x ∷ xs) kept f link few any =
        rw (came-in (Join c i rt m) _ (ap with_none (place-joined b c i key h rt m right))) (
          refl,
          first-right false (untold c) superframe_slots (slots_some c (key_ranged b c i key h)) x xs (nothing (scrambles c) refl) kept f link
              places any (λ e. refl) _ (joined-stands b c i key h rt m right) (omega arith),
        )
      where
        nothing : (u : Bool) → scrambles c ≡ u → Knows (is_reached c false) x.vector (untold c)
        nothing true q = record { known = rw q; vector = λ z. rw q }
        nothing false q = record { known = rw q; vector = λ z. absurd (true≢false (sym z ∙ rw q)) }

-- ---- the two demands

module _ (m : ℕ) (t : Talk) (k : Kept t) (b : List ℕ) (i : ℕ) (h : HasKey b t.cipher i t.key) (right : terms_right receiving_end t.rate m ≡ true)
    (places : ℕ → ℕ) where
  kept_by : Each (SessionKept (layout_by (width t.rate)) t.cipher t.key) t.sessions
  kept_by = rw (layout_is t.rate) at k.each

  either-right : (e : WayIn) → (m ≡ by_default → scrambles t.cipher ≡ false → Successive GeneratedOrAnnounced (heard_from e t.sessions)) → WithinLimit t e
      → AnyPlace places (heard_from e t.sessions) → Each Right (heard_log (eqb m by_default) (hearing_with m) b i t e places)
  either-right opening link few any =
      opened-right b t.cipher i t.key h k.key t.rate m right places t.sessions kept_by k.full link (omega (arith, told_after t opening))
      any
  either-right (joining n) link few any =
      joined-right b t.cipher i t.key h k.key t.rate m right places (drop n t.sessions) (each-drop _ n t.sessions kept_by)
      (full-drop t.cipher n t.sessions k.full) link (omega (arith, told_after t (joining n))) any

pub recorder_meets_heard : Meets3Heard hearing_recorder
recorder_meets_heard t k b i h e few places any =
    either-right strict t k b i h (ways_right t.rate strict k.rate (omega arith)) places e (λ z. absurd (omega arith)) few any

pub handset_meets_heard : Meets3HeardDefault hearing_handset
handset_meets_heard t k e link few b i h places any =
    either-right by_default t k b i h (ways_right t.rate by_default k.rate (omega arith)) places e (λ z. link) few any
