-- Our receiver meets demand 3, strict; and by default it meets the demand in the default way, already where each next vector is the generator's or its announcement
-- arrived. One proof, over the strictness.
use mathlib.Core.Path.{◌≡◌, refl, sym, ap, ◌∙◌}
use mathlib.Core.Bool.{Bool, true, false, ◌&&◌, ◌||◌, not, or-true, or-false, true≢false}
use mathlib.Core.Logic.{◌⊎◌, inl, inr}
use mathlib.Core.List.{List, [], ◌∷◌, ◌++◌}
use Prim.Native.Nat.{ℕ, zero, suc, ◌+◌, ◌≤◌, ◌<◌, ◌*◌}
use native.Mathlib.Nat.{add-zero, zero-add}
use native.Mathlib.Numerals.{add-one}
use native.Mathlib.Omega.{arith}
use lib.Dec.{eqb}
use lib.ListN.{length, drop, length-drop}
use borrow.Author.Tests.{eqb-true, not-true}
use Rattle.octets.specs.Tests.{pick}
use Rattle.octets.specs.Lists.{Each}
use Rattle.octets.proofs.TestLaws.{and_left, and_right}
use Rattle.answers.specs.declared.Answer.TheVariants.{Done, Held}
use Rattle.answers.specs.Numbers.{number_of}
use Rattle.generator.specs.Generator.{next_vector}
use Rattle.sizes.specs.Frame.{width, most_words}
use Rattle.sizes.specs.Ciphers.{key_octets, session_slots, vector_octets, no_vector, scrambles, superframe_slots}
use Rattle.ciphers.specs.Keystream.{stream}
use Rattle.openings.specs.Ladder.{session_vector, key_for}
use Rattle.calls.specs.declared.call.Terms.{Terms}
use Rattle.calls.specs.Counts.{plus, total, lost_words, arrived_words, in_mask}
use Rattle.calls.specs.declared.counts.Counts.{Counts}
use Rattle.calls.proofs.CountLaws.{Fits, lost-fits, arrived-fits}
use Rattle.calls.specs.declared.call.Call.{Call}
use Rattle.calls.specs.Call.{receiving_end, by_default, strict, terms_right, Known, unknown, told, carried, is_known, is_told, known_vector, untold, Standing, receiving, standing, terms_of, no_call, written}
use Rattle.voice.specs.Slot.{ridden, stream_of, in_slot, voice_of}
use Rattle.demands.specs.Rates.{Layout, word_at}
use Rattle.demands.specs.Talk.{Slot, Session, Talk, WayIn, opening, joining, SlotKept, SlotsKept, SessionKept, Full, slot_counts, Kept, HasKey}
use Rattle.demands.specs.Notices.{Notice, hear, join, is_reached, slot_notice, slot_notices, start_notices, first_notices, opening_notices, slots_told, WithinLimit}
use Rattle.demands.specs.Log.{Receiver, Report, Event, event, events, talk_log}
use Rattle.demands.specs.Demand3.{RightSlot, Right, Meets3, ours_in, ours}
use Rattle.demands.specs.Demand3Default.{since_known, default_log, heard_from, Successive, Generated, GeneratedOrAnnounced, Meets3Default, Meets3Announced, handset}
use Rattle.demands.proofs.Layouts.{layout_by, layout_is, ways_right}
use Rattle.demands.proofs.AirLaws.{opened-word}
use Rattle.demands.proofs.Marking.{known_next, sessions_by, first_by, strict-first, default_first}
use Rattle.demands.proofs.ToldSlots.{told_slot, since_told}
use Rattle.demands.proofs.Standing.{key_ranged, slots_some, fresh, place, place_end, place-lost, place_voice, place-on, same_slot, place_opened, opened-stands, place-joined, joined-stands, place-announced, announced-stands, place-untold, place_counts}

pub each-drop : {A : Type 0} (P : A → Type 0) (n : ℕ) (xs : List A) → Each P xs → Each P (drop n xs)
each-drop P zero xs h = h
each-drop P (suc n) [] h = h
each-drop P (suc n) (x ∷ xs) h = each-drop P n xs h.1

pub slots-drop : (l : Layout) (ks : ℕ → ℕ) (n p : ℕ) (xs : List Slot) → SlotsKept l ks p xs → SlotsKept l ks (p + n) (drop n xs)
slots-drop l ks zero p xs h = rw add-zero h
slots-drop l ks (suc n) p [] h = tt
slots-drop l ks (suc n) p (x ∷ xs) h =
    let e : suc p + n ≡ p + suc n = omega arith in
    rw e at (slots-drop l ks n (suc p) xs h.1)

full_tail : (c : ℕ) (x : Session) (xs : List Session) → Full c (slot_counts (x ∷ xs)) → Full c (slot_counts xs)
full_tail c x [] f = tt
full_tail c x (y ∷ ys) f = f.1

pub full-drop : (c n : ℕ) (xs : List Session) → Full c (slot_counts xs) → Full c (slot_counts (drop n xs))
full-drop c zero xs f = f
full-drop c (suc n) [] f = f
full-drop c (suc n) (x ∷ xs) f = full-drop c n xs (full_tail c x xs f)

-- handed out as it was spoken, in a session that counts as reached; held as it came, in another
right-handed : (r : Report) → r.reached ≡ true → number_of r.answer ≡ 0 → ((w : ℕ) → w < 4 → in_mask r.mask w ≡ true → word_at (layout_by (width r.rate)) w r.frame ≡ word_at (layout_by (width r.rate)) w r.spoken)
    → RightSlot r
right-handed r e a f = record { opened = λ z. rw (layout_is r.rate) f; handed = λ z. a; held = λ n. absurd (true≢false (sym e ∙ n)) }

right-held : (r : Report) → r.reached ≡ false → number_of r.answer ≡ 1 → r.frame ≡ r.came → RightSlot r
right-held r e a f =
    record { opened = λ z. absurd (let q : 1 ≡ 0 = sym a ∙ z in omega arith); handed = λ n. absurd (true≢false (sym n ∙ e)); held = λ z. (a, f) }

module _ (b : List ℕ) (c i : ℕ) (key : List ℕ) (h : HasKey b c i key) (long : length key ≡ key_octets c) (rt m : ℕ) (right : terms_right receiving_end rt m ≡ true) where
  abbrev t : Terms
  t = terms_of c (key_for b c i) rt m

  abbrev its : Layout
  its = layout_by (width rt)

  abbrev log : Call → List Notice → List Event
  log = events (ours_in m) b c i rt

  -- below the slot limit to the end of what it is told
  abbrev Room : Call → List Notice → Type 0
  Room d ns = total d.counts + 4 * slots_told ns ≤ 4000000

  -- from wherever it stands so, what it is told is answered right
  abbrev RightFrom : Standing → List Notice → Type 0
  RightFrom s ns = (d : Call) → standing d ≡ s → Room d ns → Each Right (log d ns)

  -- ---- the slots of a session

  -- what it knows of a session's vector v is that, where the session counts as reached, and else nothing
  pub record Knowing (reached : Bool) (v : List ℕ) (k : Known) : Type 0 where
    pub known : is_known k ≡ reached
    pub vector : reached ≡ true → known_vector k ≡ session_vector c v

  -- a slot is answered right, and it stands at the next one, with four words more
  abbrev Steps : Known → ℕ → Call → Event × Call → Type 0
  Steps k p d out = Right out.0 × (standing out.1 ≡ place t k (p + 1)) × (total out.1.counts ≡ total d.counts + 4)

  four_more : (k : Known) (p : ℕ) (d : Call) (w : Counts) {u : Bool} → Fits u w → total (written (plus d.counts w) (place t k (p + 1))).counts ≡ total d.counts + 4
  four_more k p d w f = ap total (place_counts t k (plus d.counts w) (p + 1)) ∙ omega (arith, f.four)

  -- a slot that arrives
  slot-heard : (reached : Bool) (v : List ℕ) (k : Known) → Knowing reached v k → (p : ℕ) → p < session_slots c → (x : Slot) → SlotKept its (stream c key v) p x
      → (d : Call) → standing d ≡ place t k p → total d.counts < most_words
      → voice_of d x.mask x.sent
      ≡ (pick reached Done Held, (written (plus d.counts (arrived_words x.mask (is_known k))) (place t k (p + 1)), pick reached (in_slot stream_of x.mask x.sent (written d.counts (receiving t p k))) x.sent))
  slot-heard reached v k n p l x s d e room =
      place_voice t k p l d e room x.mask x.sent s.mask s.sent.long
      ∙ ap
      (λ (r : Bool).
      (pick r Done Held, (written (plus d.counts (arrived_words x.mask (is_known k))) (place t k (p + 1)), pick r (in_slot stream_of x.mask x.sent (written d.counts (receiving t p k))) x.sent)))
      n.known

  pub slot_steps : (reached : Bool) (v : List ℕ) (k : Known) → Knowing reached v k → (p : ℕ) → p < session_slots c → (x : Slot) → SlotKept its (stream c key v) p x
      → (d : Call) → standing d ≡ place t k p → total d.counts < most_words → (arrived : Bool) → Steps k p d (event (ours_in m) b c i rt (slot_notice reached arrived x) d)
  slot_steps true v k n p l x s d e room true =
      let w = arrived-fits x.mask (is_known k) in
      rw (slot-heard true v k n p l x s d e room, same_slot b c i key h rt m right long d.counts k v (n.vector refl) p x.mask x.sent)
      (right-handed _ refl refl (opened-word (width rt) (stream c key v) p x s), place-on t k p l d e room _ w, four_more k p d _ w)
  slot_steps false v k n p l x s d e room true =
      let w = arrived-fits x.mask (is_known k) in
      rw (slot-heard false v k n p l x s d e room) (right-held _ refl refl refl, place-on t k p l d e room _ w, four_more k p d _ w)
  slot_steps reached v k n p l x s d e room false =
      let w = lost-fits (is_known k) in
      rw (place-lost t k p l d e room) (refl, place-on t k p l d e room lost_words w, four_more k p d lost_words w)

  module _ (reached : Bool) (v : List ℕ) (k : Known) (n : Knowing reached v k) where
    -- the slots from slot p on, and then whatever is right after them
    slots-right : (p : ℕ) (xs : List Slot) → p + length xs ≤ session_slots c → SlotsKept its (stream c key v) p xs
        → (ns : List Notice) → RightFrom (place t k (p + length xs)) ns → RightFrom (place t k p) (slot_notices reached xs ++ ns)
    slots-right p [] l s ns r d e room = r d (e ∙ ap (place t k) (sym (add-zero p))) room
    slots-right p (x ∷ xs) l s ns r d e room =
        let one = told_slot reached x.arrived x (slot_notices reached xs ++ ns) in
        let o = slot_steps reached v k n p (omega arith) x s.0 d e (omega (arith, one)) x.arrived in
        let q : p + suc (length xs) ≡ suc p + length xs = omega arith in
        (o.0, slots-right (suc p) xs (omega arith) s.1 ns (rw q at r) _ (rw add-one at o.1) (omega (arith, one, o.2)))

    -- the rest of a session, whole or the call's last, and those after it
    part_right : (p : ℕ) (xs : List Slot) → p + length xs ≤ session_slots c → SlotsKept its (stream c key v) p xs
        → (now : Bool) (ys : List Session) → ((ys ≡ []) ⊎ (p + length xs ≡ session_slots c)) → RightFrom (fresh t k) (sessions_by m c now ys)
        → RightFrom (place t k p) (slot_notices reached xs ++ sessions_by m c now ys)
    part_right p xs l s now ys (inl e) r = rw e (slots-right p xs l s [] (λ d q w. tt))
    part_right p xs l s now ys (inr e) r =
        slots-right p xs l s (sessions_by m c now ys) (λ d q. r d (q ∙ place_end t k (p + length xs) e))

  -- ---- from one session to the next

  -- what it knows as a session x starts: told of no vector, but for scramble; and where no announcement comes, the session's vector, if any
  pub record Ready (known : Bool) (k : Known) (x : Session) : Type 0 where
    pub knows : is_known k ≡ known
    pub untold : is_told k ≡ scrambles c
    pub vector : (not (scrambles c) && x.announced) ≡ false → known ≡ true → known_vector k ≡ session_vector c x.vector

  -- by default, and with DES or AES, each next vector is the generator's or its announcement arrived
  abbrev Linked : List Session → Type 0
  Linked xs = m ≡ by_default → scrambles c ≡ false → Successive GeneratedOrAnnounced xs

  known_on : (u d n : Bool) (v : List ℕ) → (u ≡ true → n ≡ true) → is_known (pick (not u && (d && n)) (carried v) (pick u (told no_vector) unknown)) ≡ pick d n u
  known_on true true n v s = sym (s refl)
  known_on true false n v s = refl
  known_on false true true v s = refl
  known_on false true false v s = refl
  known_on false false n v s = refl

  pub told_on : (u d n : Bool) (v : List ℕ) → is_told (pick (not u && (d && n)) (carried v) (pick u (told no_vector) unknown)) ≡ u
  told_on true d n v = refl
  told_on false true true v = refl
  told_on false true false v = refl
  told_on false false n v = refl

  -- the vector of a session y after x
  vector_on : (u d n : Bool) (w v : List ℕ) → (u ≡ false → d ≡ true → n ≡ true → next_vector w ≡ v) → pick d n u ≡ true
      → known_vector (pick (not u && (d && n)) (carried (next_vector w)) (pick u (told no_vector) unknown)) ≡ pick u no_vector v
  vector_on true d n w v f k = refl
  vector_on false true true w v f k = f refl refl refl
  vector_on false true false w v f k = absurd (true≢false (sym k))
  vector_on false false n w v f k = absurd (true≢false (sym k))

  pub ready-next : (reached : Bool) (x : Session) (k : Known) → Knowing reached x.vector k → (scrambles c ≡ true → reached ≡ true) → (y : Session)
      → (m ≡ by_default → scrambles c ≡ false → GeneratedOrAnnounced x y) → Ready (known_next m c reached) (ridden t k) y
  ready-next reached x k n s y link =
      record {
        knows = known_on (scrambles c) (eqb m by_default) (is_known k) (next_vector (known_vector k)) (λ u. n.known ∙ s u) ∙ ap (known_next m c) n.known;
        untold = told_on (scrambles c) (eqb m by_default) (is_known k) (next_vector (known_vector k));
        vector = λ a z.
            vector_on (scrambles c) (eqb m by_default) (is_known k) (known_vector k) y.vector
            (λ u d e. following a u (n.vector (sym n.known ∙ e)) (link (eqb-true m by_default d) u)) (ap (known_next m c) n.known ∙ z);
      }
    where
      following : (not (scrambles c) && y.announced) ≡ false → scrambles c ≡ false → known_vector k ≡ session_vector c x.vector → GeneratedOrAnnounced x y
          → next_vector (known_vector k) ≡ y.vector
      following a u e (inl z) = absurd (true≢false (rw (u, z) at a))
      following a u e (inr z) = ap next_vector (e ∙ ap (λ (b : Bool). pick b no_vector x.vector) u) ∙ sym z

  told-known : (k : Known) → is_told k ≡ true → is_known k ≡ true
  told-known unknown e = absurd (true≢false (sym e))
  told-known (told v) e = refl
  told-known (carried v) e = refl

  -- scramble's counts as reached, announced or not
  some_known : (known : Bool) (k : Known) (x : Session) → Ready known k x → scrambles c ≡ true → (a : Bool) → (known || a) ≡ known
  some_known true k x r e a = refl
  some_known false k x r e a = absurd (true≢false (sym (told-known k (r.untold ∙ e)) ∙ r.knows))

  -- told nothing as it starts, it knows of its vector what it was ready with
  pub start_knows : (known : Bool) (k : Known) (x : Session) → Ready known k x → (not (scrambles c) && x.announced) ≡ false
      → Knowing (known || x.announced) x.vector k
  start_knows known k x r a =
      let e = same (scrambles c) x.announced refl a in
      record { known = r.knows ∙ sym e; vector = λ z. r.vector a (sym e ∙ z) }
    where
      same : (u a : Bool) → scrambles c ≡ u → (not u && a) ≡ false → (known || a) ≡ known
      same true a e z = some_known known k x r e a
      same false true e z = absurd (true≢false z)
      same false false e z = or-false known

  -- told of the vector as the session starts, if the announcement arrived
  start_right : (known : Bool) (k : Known) (x : Session) → Ready known k x → length x.vector ≡ vector_octets → (ns : List Notice)
      → ((k' : Known) → Knowing (known || x.announced) x.vector k' → RightFrom (place t k' 0) ns)
      → RightFrom (receiving t 0 k) (start_notices (not (scrambles c) && x.announced) x.vector ++ ns)
  start_right known k x r l ns next d q = go (not (scrambles c) && x.announced) refl
    where
      go : (a : Bool) → (not (scrambles c) && x.announced) ≡ a → Room d (start_notices a x.vector ++ ns)
          → Each Right (log d (start_notices a x.vector ++ ns))
      go false a room = next k (start_knows known k x r a) d (place-untold b c i key h rt m right d k q) room
      go true a room =
          let u = not-true (scrambles c) (and_left (not (scrambles c)) x.announced a) in
          let f = and_right (not (scrambles c)) x.announced a in
          rw (place-announced b c i key h rt m right d k q x.vector l u (r.untold ∙ u)) (
            refl,
            next (told x.vector) (record { known = rw (f, or-true known); vector = λ z. rw u }) _
                (announced-stands b c i key h rt m right d k q x.vector l u (r.untold ∙ u)) room,
          )

  -- ---- the sessions

  -- a list of sessions ends here, or its first is full
  full-or-last : (x : Session) (ys : List Session) → Full c (slot_counts (x ∷ ys)) → (ys ≡ []) ⊎ (length x.slots ≡ session_slots c)
  full-or-last x [] f = inl refl
  full-or-last x (y ∷ ys) f = inr f.0

  full-within : (x : Session) (ys : List Session) → Full c (slot_counts (x ∷ ys)) → length x.slots ≤ session_slots c
  full-within x [] f = f
  full-within x (y ∷ ys) f = omega (arith, f.0)

  -- a session from slot p on, and then the sessions after it
  session-right : (reached : Bool) (k : Known) (p : ℕ) → p ≤ session_slots c → (x : Session) (ys : List Session) → Knowing reached x.vector k
      → SessionKept its c key x → Full c (slot_counts (x ∷ ys)) → RightFrom (fresh t k) (sessions_by m c (known_next m c reached) ys)
      → RightFrom (place t k p) (first_by m c reached p (x ∷ ys))
  session-right reached k p l x ys n kept f r =
      part_right reached x.vector k n p (drop p x.slots) (omega (arith, length-drop p x.slots, full-within x ys f))
      (rw zero-add at (slots-drop its (stream c key x.vector) p 0 x.slots kept.slots)) (known_next m c reached) ys (last (full-or-last x ys f)) r
    where
      last : (ys ≡ []) ⊎ (length x.slots ≡ session_slots c) → (ys ≡ []) ⊎ (p + length (drop p x.slots) ≡ session_slots c)
      last (inl e) = inl e
      last (inr e) = inr (omega (arith, length-drop p x.slots))

  abbrev ReadyFor : Bool → Known → List Session → Type 0
  ReadyFor known k [] = Unit {0}
  ReadyFor known k (x ∷ xs) = Ready known k x

  ready_for : (reached : Bool) (x : Session) (k : Known) → Knowing reached x.vector k → (scrambles c ≡ true → reached ≡ true) → (ys : List Session)
      → Linked (x ∷ ys) → ReadyFor (known_next m c reached) (ridden t k) ys
  ready_for reached x k n s [] link = tt
  ready_for reached x k n s (y ∷ ys) link = ready-next reached x k n s y (λ d u. (link d u).0)

  linked-tail : (x : Session) (ys : List Session) → Linked (x ∷ ys) → Linked ys
  linked-tail x [] link d u = tt
  linked-tail x (y ∷ ys) link d u = (link d u).1

  sessions-right : (known : Bool) (k : Known) (xs : List Session) → ReadyFor known k xs → Each (SessionKept its c key) xs → Full c (slot_counts xs) → Linked xs
      → RightFrom (receiving t 0 k) (sessions_by m c known xs)
  sessions-right known k [] r kept f link = λ d q w. tt
  sessions-right known k (x ∷ ys) r kept f link =
      start_right known k x r kept.0.vector (first_by m c (known || x.announced) 0 (x ∷ ys))
      (λ k' n.
      let some : scrambles c ≡ true → (known || x.announced) ≡ true = λ u. some_known known k x r u x.announced ∙ sym r.knows ∙ told-known k (r.untold ∙ u) in
      session-right (known || x.announced) k' 0 (omega arith) x ys n kept.0 f
      (sessions-right (known_next m c (known || x.announced)) (ridden t k') ys (ready_for (known || x.announced) x k' n some ys link) kept.1 (full_tail c x ys f)
      (linked-tail x ys link)))

  -- the first session that is heard, from slot p on
  first-right : (reached : Bool) (k : Known) (p : ℕ) → p ≤ session_slots c → (x : Session) (ys : List Session) → Knowing reached x.vector k
      → (scrambles c ≡ true → reached ≡ true) → Each (SessionKept its c key) (x ∷ ys) → Full c (slot_counts (x ∷ ys)) → Linked (x ∷ ys)
      → RightFrom (place t k p) (first_by m c reached p (x ∷ ys))
  first-right reached k p l x ys n s kept f link =
      session-right reached k p l x ys n kept.0 f
      (sessions-right (known_next m c reached) (ridden t k) ys (ready_for reached x k n s ys link) kept.1 (full_tail c x ys f) (linked-tail x ys link))

  -- ---- how it comes in

  opened-right : (reached : Bool) → reached ≡ true → (x : Session) (xs : List Session) → Each (SessionKept its c key) (x ∷ xs) → Full c (slot_counts (x ∷ xs))
      → Linked (x ∷ xs) → slots_told (first_by m c reached 0 (x ∷ xs)) ≤ 1000000 → Each Right (log no_call (hear x.vector ∷ first_by m c reached 0 (x ∷ xs)))
  opened-right reached e x xs kept f link few =
      rw (place_opened b c i key h rt m right x.vector kept.0.vector) (
        refl,
        first-right reached (told (session_vector c x.vector)) 0 (omega arith) x xs (record { known = sym e; vector = λ z. refl }) (λ u. e) kept f link _
            (opened-stands b c i key h rt m right x.vector kept.0.vector) (omega arith),
      )

  joined-right : (reached : Bool) → reached ≡ scrambles c → (xs : List Session) → Each (SessionKept its c key) xs → Full c (slot_counts xs) → Linked xs
      → slots_told (first_by m c reached superframe_slots xs) ≤ 1000000 → Each Right (log no_call (join ∷ first_by m c reached superframe_slots xs))
  joined-right reached e [] kept f link few = rw (place-joined b c i key h rt m right) (refl, tt)
  joined-right reached e (x ∷ xs) kept f link few =
      rw (place-joined b c i key h rt m right) (
        refl,
        first-right reached (untold c) superframe_slots (slots_some c (key_ranged b c i key h)) x xs (nothing (scrambles c) refl) (λ u. e ∙ u) kept f link _
            (joined-stands b c i key h rt m right) (omega arith),
      )
    where
      nothing : (u : Bool) → scrambles c ≡ u → Knowing reached x.vector (untold c)
      nothing true q = record { known = rw q (sym (e ∙ q)); vector = λ z. rw q }
      nothing false q = record { known = rw q (sym (e ∙ q)); vector = λ z. absurd (true≢false (sym z ∙ e ∙ q)) }

-- ---- the two demands

linked_drop : (P : Session → Session → Type 0) (n : ℕ) (xs : List Session) → Successive P xs → Successive P (drop n xs)
linked_drop P zero xs l = l
linked_drop P (suc n) [] l = l
linked_drop P (suc n) (x ∷ []) l = linked_drop P n [] tt
linked_drop P (suc n) (x ∷ y ∷ ys) l = linked_drop P n (y ∷ ys) l.1

-- what holds of all sessions holds of those that are heard of
pub linked_heard : (P : Session → Session → Type 0) (e : WayIn) (xs : List Session) → Successive P xs → Successive P (heard_from e xs)
linked_heard P opening xs l = l
linked_heard P (joining n) xs l = linked_drop P n xs l

module _ (t : Talk) (k : Kept t) (b : List ℕ) (i : ℕ) (h : HasKey b t.cipher i t.key) where
  kept_by : Each (SessionKept (layout_by (width t.rate)) t.cipher t.key) t.sessions
  kept_by = rw (layout_is t.rate) at k.each

  not-default : {A : Type 0} → strict ≡ by_default → A
  not-default e = absurd (omega arith)

  -- as many slots, whatever counts as reached
  as-told : (known : Bool) (ns : List Notice) {ms : List Notice} → since_known known ns ≡ ms → slots_told ns ≤ 1000000 → slots_told ms ≤ 1000000
  as-told known ns e few = rw (← ap slots_told e, since_told known ns) few

  strict-right : (e : WayIn) → WithinLimit t e → Each Right (talk_log ours b i t e)
  strict-right opening few = go t.sessions kept_by k.full (omega (arith, few))
    where
      go : (xs : List Session) → Each (SessionKept (layout_by (width t.rate)) t.cipher t.key) xs → Full t.cipher (slot_counts xs) → slots_told (opening_notices t.cipher xs) ≤ 1000000
          → Each Right (events ours b t.cipher i t.rate no_call (opening_notices t.cipher xs))
      go [] a f few = tt
      go (x ∷ xs) a f few =
          rw (← strict-first t.cipher true 0 (x ∷ xs))
          (opened-right b t.cipher i t.key h k.key t.rate strict (ways_right t.rate strict k.rate (omega arith)) (is_reached t.cipher true)
          (or-true (scrambles t.cipher)) x xs a f (λ d u. not-default d) (rw (strict-first t.cipher true 0 (x ∷ xs)) few))
  strict-right (joining n) few =
      rw (← strict-first t.cipher false superframe_slots (drop n t.sessions))
      (joined-right b t.cipher i t.key h k.key t.rate strict (ways_right t.rate strict k.rate (omega arith)) (is_reached t.cipher false)
      (or-false (scrambles t.cipher)) (drop n t.sessions) (each-drop (SessionKept (layout_by (width t.rate)) t.cipher t.key) n t.sessions kept_by)
      (full-drop t.cipher n t.sessions k.full) (λ d u. not-default d) (rw (strict-first t.cipher false superframe_slots (drop n t.sessions)) few))

  default-right : (e : WayIn) → (scrambles t.cipher ≡ false → Successive GeneratedOrAnnounced (heard_from e t.sessions)) → WithinLimit t e → Each Right (default_log handset b i t e)
  default-right opening link few = go t.sessions kept_by k.full link (omega (arith, few))
    where
      go : (xs : List Session) → Each (SessionKept (layout_by (width t.rate)) t.cipher t.key) xs → Full t.cipher (slot_counts xs)
          → (scrambles t.cipher ≡ false → Successive GeneratedOrAnnounced xs) → slots_told (opening_notices t.cipher xs) ≤ 1000000
          → Each Right (events handset b t.cipher i t.rate no_call (since_known (scrambles t.cipher) (opening_notices t.cipher xs)))
      go [] a f l few = tt
      go (x ∷ xs) a f l few =
          rw (default_first t.cipher true true (λ u. refl) 0 (x ∷ xs))
          (opened-right b t.cipher i t.key h k.key t.rate by_default (ways_right t.rate by_default k.rate (omega arith)) true refl x xs a f (λ d. l)
          (as-told true (first_notices t.cipher true 0 (x ∷ xs)) (default_first t.cipher true true (λ u. refl) 0 (x ∷ xs)) few))
  default-right (joining n) link few =
      rw (default_first t.cipher (scrambles t.cipher) false (λ u. u) superframe_slots (drop n t.sessions))
      (joined-right b t.cipher i t.key h k.key t.rate by_default (ways_right t.rate by_default k.rate (omega arith)) (scrambles t.cipher) refl
      (drop n t.sessions) (each-drop (SessionKept (layout_by (width t.rate)) t.cipher t.key) n t.sessions kept_by)
      (full-drop t.cipher n t.sessions k.full) (λ d. link)
      (as-told (scrambles t.cipher) (first_notices t.cipher false superframe_slots (drop n t.sessions)) (default_first t.cipher (scrambles t.cipher) false (λ u. u) superframe_slots (drop n t.sessions)) few))

pub ours_meets_3 : Meets3 ours
ours_meets_3 t k b i h e few = strict-right t k b i h e few

pub handset_meets_3_announced : Meets3Announced handset
handset_meets_3_announced t k e l few b i h = default-right t k b i h e l few

-- the generator's are among these
generated_linked : (xs : List Session) → Successive Generated xs → Successive GeneratedOrAnnounced xs
generated_linked [] l = tt
generated_linked (x ∷ []) l = tt
generated_linked (x ∷ y ∷ ys) l = (inr l.0, generated_linked (y ∷ ys) l.1)

pub announced_default : (R : Receiver) → Meets3Announced R → Meets3Default R
announced_default R meets t k e l = meets t k e (λ u. generated_linked (heard_from e t.sessions) (l u))

pub handset_meets_3 : Meets3Default handset
handset_meets_3 = announced_default handset handset_meets_3_announced

-- the request's own reading: of the whole call
pub whole_call : (R : Receiver) → Meets3Default R → (t : Talk) → Kept t → (scrambles t.cipher ≡ false → Successive Generated t.sessions)
    → (b : List ℕ) (i : ℕ) → HasKey b t.cipher i t.key → (e : WayIn) → WithinLimit t e → Each Right (default_log R b i t e)
whole_call R m t k l b i h e few = m t k e (λ u. linked_heard Generated e t.sessions (l u)) few b i h
