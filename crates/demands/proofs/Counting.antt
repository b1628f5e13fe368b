-- How much was kept (document 02, W-207): whatever our device has been through, each call's counts are those of its history, so end hands them out.
-- And any two devices that count right, through one history, hand out the same.
use mathlib.Core.Path.{◌≡◌, refl, sym, ap, subst, ◌∙◌}
use mathlib.Core.Bool.{Bool, true, false, ◌&&◌, not, true≢false}
use mathlib.Core.List.{List, [], ◌∷◌, ◌++◌}
use Prim.Native.Nat.{ℕ, ◌+◌, ◌*◌, ◌≤◌, ◌<◌}
use native.Mathlib.Omega.{arith}
use lib.Dec.{ltb, eqb}
use lib.ListN.{length}
use borrow.Author.Tests.{eq-eqb, ne_eqb, eqb-true, le-ltb}
use Rattle.octets.specs.Tests.{pick}
use Rattle.octets.proofs.TestLaws.{and_false_r}
use Rattle.answers.specs.declared.Answer.{Answer}
use Rattle.answers.specs.declared.Answer.TheVariants.{Done, Held}
use Rattle.answers.specs.Numbers.{number_of, is_done}
use Rattle.answers.specs.Outcomes.{Refusals, outcome}
use Rattle.answers.proofs.OutcomeLaws.{Refusal, from_two, among_refuses, by_refusals, around}
use Rattle.sizes.specs.Ciphers.{session_slots}
use Rattle.sizes.specs.Frame.{frame_octets, most_words}
use Rattle.keybook.specs.History as book
use Rattle.openings.specs.Ladder.{session_vector, key_for, key_refusals}
use Rattle.openings.proofs.LadderLaws.{vector-from-two}
use Rattle.calls.specs.declared.counts.Counts.{Counts}
use Rattle.calls.specs.declared.call.Terms.{Terms}
use Rattle.calls.specs.declared.call.Call.{Call}
use Rattle.calls.specs.Counts.{in_mask, counts_of, no_counts, plus, total, lost_words, arrived_words}
use Rattle.calls.specs.Call.{closed_end, sending_end, receiving_end, unknown_vector, by_default, terms_right, good_call, Known, sending, receiving, standing, terms_of, width_of, no_call, written, is_bad, stands, knows, end_refusals, after_end, end_of}
use Rattle.calls.specs.Opening.{join_refusals, begun_refusals, begun, begun_of, open_of, start_of, joined, join_of}
use Rattle.voice.specs.Slot.{going_on, ridden, slot_on, is_full, lost_refusals, lost_of, stream_of, voice_of}
use Rattle.calls.specs.Vector.{with_vector, announce_refusals, announce_of, next_vector_of}
use Rattle.calls.proofs.CountLaws.{Fits, lost-fits, arrived-fits}
use Rattle.calls.proofs.CallLaws.{by_stands, good_by, is_receiver, receives-not, open_none, counts_most}
use Rattle.voice.proofs.SlotLaws.{by_voice, none-good, none_open, none-full}
use Rattle.voice.proofs.SlotSteps.{lost-at}
use Rattle.voice.proofs.SlotGood.{slot-good}
use Rattle.calls.proofs.GoodLaws.{announce_good}
use Rattle.calls.proofs.OpeningGood.{open_leaves, join_leaves}
use Rattle.calls.proofs.Exactly.{timely}
use Rattle.voice.proofs.Exactly as voice
use Rattle.nxdn.specs.Operations.{handed_out, screen_step, CallOperation, Open, Start, Join, Voice, Lost, End, Announce, NextVector, call_step, packet_step}
use Rattle.demands.specs.Device.{Device, Operation, OfBook, OfScreen, OfCall, OfPacket, Step, step, History, device_after, history}
use Rattle.demands.specs.Demand1.{opens_or_ends, renews_call, NoneDone, OpensCall, by-open, by-start, by-join}
use Rattle.demands.specs.Counted.{Slot, arrived, missed, slot_of, slot_for, to_receive, opens_to_receive, receives_in, rate_in, slots_in, Fate, opened, held, replaced, lost, place_of, fates, how_many, four_counts, AtLimit, Counted}
use Rattle.demands.specs.Rates.{Layout, layout}
use Rattle.demands.proofs.Layouts.{layout_is}
use Rattle.demands.proofs.DeviceLaws.{by_number}
use Rattle.demands.proofs.CallsLoaded.{calls-loaded}

-- ---- the words of slots

-- how many came to each, as a call counts them
abbrev tally_of : List Fate → Counts
tally_of ws = counts_of (how_many opened ws) (how_many held ws) (how_many replaced ws) (how_many lost ws)

-- each word came to one thing
one_each : (ws : List Fate) → total (tally_of ws) ≡ length ws
one_each [] = refl
one_each (opened ∷ ws) = omega (arith, one_each ws)
one_each (held ∷ ws) = omega (arith, one_each ws)
one_each (replaced ∷ ws) = omega (arith, one_each ws)
one_each (lost ∷ ws) = omega (arith, one_each ws)

four_each : (xs : List Slot) → length (fates xs) ≡ 4 * length xs
four_each [] = refl
four_each (x ∷ xs) = omega (arith, four_each xs)

pub four_to_a_slot : (xs : List Slot)
    → how_many opened (fates xs) + how_many held (fates xs) + how_many replaced (fates xs) + how_many lost (fates xs) ≡ 4 * length xs
four_to_a_slot xs = one_each (fates xs) ∙ four_each xs

same_counts : {a b c d a' b' c' d' : ℕ} → a ≡ a' → b ≡ b' → c ≡ c' → d ≡ d' → counts_of a b c d ≡ counts_of a' b' c' d'
same_counts p q r s = cc

-- a lost slot more
lost_more : (xs : List Slot) → tally_of (fates (missed ∷ xs)) ≡ plus (tally_of (fates xs)) lost_words
lost_more xs = same_counts (omega arith) (omega arith) (omega arith) (omega arith)

-- what a word of a slot that arrived adds to each count: the mask has it or hasn't
module _ (known has : Bool) where
  abbrev adds : Fate → ℕ
  adds f = pick (eqb (place_of f) (place_of (pick has (pick known opened held) replaced))) 1 0

  abbrev OneWord : Type 0
  OneWord =
      (adds opened ≡ pick known (pick has 1 0) 0) × (adds held ≡ pick known 0 (pick has 1 0)) × (adds replaced + pick has 1 0 ≡ 1)
      × (adds lost ≡ 0)

one_word : (known has : Bool) → OneWord known has
one_word true true = (refl, refl, refl, refl)
one_word true false = (refl, refl, refl, refl)
one_word false true = (refl, refl, refl, refl)
one_word false false = (refl, refl, refl, refl)

module _ (known : Bool) (mask : ℕ) where
  abbrev Word : ℕ → Type 0
  Word w = OneWord known (in_mask mask w)

  four_words : Word 0 × Word 1 × Word 2 × Word 3
  four_words = (one_word known (in_mask mask 0), one_word known (in_mask mask 1), one_word known (in_mask mask 2), one_word known (in_mask mask 3))

-- and one that arrived
arrived_more : (mask : ℕ) (known : Bool) (xs : List Slot)
    → tally_of (fates (arrived mask known ∷ xs)) ≡ plus (tally_of (fates xs)) (arrived_words mask known)
arrived_more mask true xs = let w = four_words true mask in same_counts (omega arith) (omega arith) (omega arith) (omega arith)
arrived_more mask false xs = let w = four_words false mask in same_counts (omega arith) (omega arith) (omega arith) (omega arith)

-- ---- a call and its history

-- the history tells whether the call receives, and what it counted; and a receiver is good
record Tells (n : ℕ) (h : History) (c : Call) : Type 0 where
  end : receives_in n h ≡ eqb c.end receiving_end
  counts : c.counts ≡ tally_of (fates (slots_in n h))
  good : c.end ≡ receiving_end → good_call c ≡ true

-- one operation more
module _ (n : ℕ) (h : History) (o : Operation) (a : Answer) where
  -- it is done and opens or ends the call
  renewed : {d : Call} → (is_done a && renews_call n o) ≡ true → opens_to_receive o ≡ eqb d.end receiving_end → d.counts ≡ no_counts
      → (d.end ≡ receiving_end → good_call d ≡ true) → Tells n ((o, a) ∷ h) d
  unfolding receives_in slots_in
  renewed r e k good = record { end = rw r e; counts = rw r k; good = good }

  module _ {c : Call} (t : Tells n h c) (u : (is_done a && renews_call n o) ≡ false) where
    -- it tells a receiver of these slots
    slots-on : {d : Call} (xs : List Slot) → pick (receives_in n h) (slot_for n o a) [] ≡ xs → d.end ≡ c.end
        → d.counts ≡ tally_of (fates (xs ++ slots_in n h)) → (d.end ≡ receiving_end → good_call d ≡ true) → Tells n ((o, a) ∷ h) d
    unfolding receives_in slots_in
    slots-on xs s e k good = record { end = rw (u, e) t.end; counts = rw (u, s) k; good = good }

    -- or of none
    no_slot : slot_for n o a ≡ [] → pick (receives_in n h) (slot_for n o a) [] ≡ []
    no_slot s = rw s (go (receives_in n h))
      where
        go : (b : Bool) → pick {A = List Slot} b [] [] ≡ []
        go true = refl
        go false = refl

    unmoved : slot_for n o a ≡ [] → Tells n ((o, a) ∷ h) c
    unmoved s = slots-on [] (no_slot s) refl t.counts t.good

-- ---- an operation on the call

-- a slot that is refused is none
refused_slot : (o : CallOperation) (a : Answer) → Refusal a → slot_of o a ≡ []
refused_slot (Open c i r s w) a l = refl
refused_slot (Start c i r w) a l = refl
refused_slot (Join c i r s) a l = refl
refused_slot (Voice mask frame) a l = rw (le-ltb (number_of a) 2 l)
refused_slot Lost a l = rw (ne_eqb (number_of a) 0 (λ z. omega arith))
refused_slot End a l = refl
refused_slot (Announce w) a l = refl
refused_slot (NextVector out) a l = refl

-- one that is done, or held, is taken
taken-slot : (mask : ℕ) (frame : List ℕ) (known : Bool) → slot_of (Voice mask frame) (pick known Done Held) ≡ arrived mask known ∷ []
taken-slot mask frame true = refl
taken-slot mask frame false = refl

-- call n's own
own : {A : Type 0} (n : ℕ) (x y : A) → pick (eqb n n) x y ≡ x
own n x y = rw (eq-eqb n n refl)

unrenewed : (n : ℕ) (o : CallOperation) (a : Answer) → opens_or_ends o ≡ false → (is_done a && (eqb n n && opens_or_ends o)) ≡ false
unrenewed n o a e = rw (e, and_false_r (eqb n n), and_false_r (is_done a))

-- where a slot leaves a sender, which counts nothing, and a receiver
abbrev Stays : ℕ → Counts → Call → Type 0
Stays end m d = (d.end ≡ end) × (d.counts ≡ m)

sender-on : (m : Counts) (t : Terms) (p : ℕ) (v : List ℕ) → Stays sending_end no_counts (written m (slot_on (sending t p v)))
unfolding slot_on
sender-on m t p v = go (ltb (p + 1) (session_slots t.cipher))
  where
    go : (b : Bool) → Stays sending_end no_counts (written m (pick b (sending t (p + 1) v) (sending t 0 (going_on t.cipher v))))
    go true = (refl, refl)
    go false = (refl, refl)

receiver_on : (m : Counts) (t : Terms) (p : ℕ) (k : Known) → Stays receiving_end m (written m (slot_on (receiving t p k)))
unfolding slot_on
receiver_on m t p k = go (ltb (p + 1) (session_slots t.cipher))
  where
    go : (b : Bool) → Stays receiving_end m (written m (pick b (receiving t (p + 1) k) (receiving t 0 (ridden t k))))
    go true = (refl, refl)
    go false = (refl, refl)

module _ (n : ℕ) (h : History) (c : Call) (t : Tells n h c) where
  abbrev Left : CallOperation → Answer → Call → Type 0
  Left o a d = Tells n ((OfCall n o, a) ∷ h) d

  refused : (o : CallOperation) (a : Answer) → Refusal a → Left o a c
  refused o a l =
      unmoved n h (OfCall n o) a t (rw (ne_eqb (number_of a) 0 (λ z. omega arith))) (own n (slot_of o a) [] ∙ refused_slot o a l)

  -- open, join, start and end: with outcome x, where d is what is left if it is done
  abbrev Renews : CallOperation → Answer × Call → Call → Type 0
  Renews o x d =
      (opens_or_ends o ≡ true) × (to_receive o ≡ eqb d.end receiving_end) × (d.counts ≡ no_counts)
      × (d.end ≡ receiving_end → number_of x.0 ≡ 0 → good_call x.1 ≡ true)

  renews : (o : CallOperation) (rs : Refusals) (d : Call) → from_two rs ≡ true → Renews o (outcome c rs d) d
      → Left o (outcome c rs d).0 (outcome c rs d).1
  renews o rs d l =
      by_refusals (λ x. Renews o x d → Left o x.0 x.1) c rs (Done, d) (λ a m f. refused o a (among_refuses a rs l m))
      (λ none f. renewed n h (OfCall n o) Done (rw (eq-eqb n n refl, f.0)) f.1 f.2 (λ e. f.3 e refl))

  begun-told : (o : CallOperation) (b : List ℕ) (end m i r s : ℕ) (w : List ℕ)
      → Renews o (begun_of end c m i r s w b) (written no_counts (begun end (terms_of m (key_for b m i) r s) (session_vector m w)))
      → Left o (begun_of end c m i r s w b).0 (begun_of end c m i r s w b).1
  unfolding begun_refusals
  begun-told o b end m i r s w =
      renews o (begun_refusals end (standing c) m i r s w b) (written no_counts (begun end (terms_of m (key_for b m i) r s) (session_vector m w)))
      (vector-from-two (terms_right end r s) (is_bad (standing c)) (stands (standing c)) m i b w (eqb end sending_end))

  -- a slot x that was taken, with these words: a receiver counts them
  slot-told : (o : CallOperation) (a : Answer) (x : Slot) (w : Counts) → opens_or_ends o ≡ false → slot_of o a ≡ x ∷ []
      → ((xs : List Slot) → tally_of (fates (x ∷ xs)) ≡ plus (tally_of (fates xs)) w) → Fits (knows (standing c)) w
      → good_call c ≡ true → (c.end ≡ closed_end → ⊥) → is_full (standing c) c.counts ≡ false
      → Left o a (written (plus c.counts w) (slot_on (standing c)))
  slot-told o a x w e s more fits good stood room =
      by_stands c good (λ i z q. absurd (stood z))
      (λ i z q.
      let d = sender-on m c.terms c.position c.vector in
      slots-on n h (OfCall n o) a t (unrenewed n o a e) [] (rw (t.end, z)) (rw q (d.0 ∙ sym z)) (rw q (d.1 ∙ sym (open_none c i z) ∙ t.counts))
      (λ y. absurd (let v : (written m (slot_on (standing c))).end ≡ sending_end = rw q d.0 in omega arith)))
      (λ i z q.
      let d = receiver_on m c.terms c.position _ in
      slots-on n h (OfCall n o) a t (unrenewed n o a e) (x ∷ []) (rw (t.end, z) (own n (slot_of o a) [] ∙ s)) (rw q (d.0 ∙ sym z))
      (rw q (d.1 ∙ rw t.counts (sym (more (slots_in n h)))))
      (λ y. slot-good c good (λ v. absurd (omega arith)) room w fits))
    where
      m : Counts
      m = plus c.counts w

  call-told : (b : List ℕ) (o : CallOperation) → Left o (call_step b c o).0 (call_step b c o).1.0
  unfolding call_step open_of start_of join_of lost_of end_of announce_of join_refusals key_refusals lost_refusals end_refusals announce_refusals
  call-told b (Open m i r s w) =
      begun-told (Open m i r s w) b receiving_end m i r s w (refl, refl, refl, λ e z. (open_leaves c m i r b s w z).0)
  call-told b (Start m i r w) = begun-told (Start m i r w) b sending_end m i r by_default w (refl, refl, refl, λ e z. absurd (omega arith))
  call-told b (Join m i r s) =
      renews (Join m i r s) (join_refusals (standing c) m i r s b) (written no_counts (joined (terms_of m (key_for b m i) r s))) refl
      (refl, refl, refl, λ e z. (join_leaves c m i r b s z).0)
  call-told b (Voice mask frame) =
      by_voice stream_of c mask frame (λ x. Left (Voice mask frame) x.0 x.1.0) (refused (Voice mask frame))
      (λ none.
      let k = knows (standing c) in
      slot-told (Voice mask frame) (pick k Done Held) (arrived mask k) (arrived_words mask k) refl (taken-slot mask frame k) (arrived_more mask k)
      (arrived-fits mask k) (none-good c mask frame none) (none_open c mask frame none) (none-full c mask frame none))
  call-told b Lost =
      by_refusals (λ x. Left Lost x.0 x.1) c (lost_refusals c) (Done, written (plus c.counts lost_words) (slot_on (standing c)))
      (λ a m. refused Lost a (among_refuses a (lost_refusals c) refl m))
      (λ none.
      let g = good_by c none.0 in
      slot-told Lost Done missed lost_words refl refl lost_more (lost-fits (knows (standing c))) g
      (λ z. true≢false (sym (receives-not c g (λ e. omega arith)) ∙ none.1.0)) none.1.1.0)
  call-told b End =
      subst (λ (x : Answer × Call). Left End x.0 x.1)
      (sym (around (λ (d : Call × Counts). d.0) (c, no_counts) (end_refusals (standing c)) (Done, after_end c)))
      (renews End (end_refusals (standing c)) no_call refl (refl, refl, refl, λ e z. absurd (omega arith)))
  call-told b (Announce w) =
      by_refusals (λ x. (good_call c ≡ true → good_call x.1 ≡ true) → Left (Announce w) x.0 x.1) c (announce_refusals (standing c) w)
      (Done, written c.counts (with_vector w (standing c)))
      (λ a m g. refused (Announce w) a (among_refuses a (announce_refusals (standing c) w) refl m))
      (λ none g.
      let i = timely c w none in
      let q = is_receiver c i.good i.receives in
      let u = unrenewed n (Announce w) Done refl in
      slots-on n h (OfCall n (Announce w)) Done t u [] (no_slot n h (OfCall n (Announce w)) Done t u (own n [] [])) (rw q (sym i.receives))
      (rw q t.counts) (λ e. g i.good))
      (λ g. announce_good c g w)
  call-told b (NextVector out) =
      unmoved n h (OfCall n (NextVector out)) (next_vector_of c out).0 t (unrenewed n (NextVector out) (next_vector_of c out).0 refl) (own n [] [])

-- ---- the calls of a device

device_told : (n : ℕ) (h : History) (d : Device) (o : Operation) → Tells n h (d.calls n) → Tells n ((o, (step d o).0) ∷ h) ((step d o).1.0.calls n)
unfolding step
device_told n h d (OfBook o) t = let a = (book.step o d.book).0 in unmoved n h (OfBook o) a t (and_false_r (is_done a)) refl
device_told n h d (OfScreen o) t = let a = (screen_step d.book o).0 in unmoved n h (OfScreen o) a t (and_false_r (is_done a)) refl
device_told n h d (OfCall m o) t =
    let r = call_step d.book (d.calls m) o in
    by_number (λ (c : Call). Tells n ((OfCall m o, r.0) ∷ h) c) m r.1.0 d.calls n
    (λ e. rw e (call-told m h (d.calls m) (rw e at t) d.book o))
    (λ q. unmoved n h (OfCall m o) r.0 t (rw (ne_eqb m n (λ e. q (sym e))) (and_false_r (is_done r.0))) (rw (ne_eqb m n (λ e. q (sym e)))))
device_told n h d (OfPacket m o) t = let a = (packet_step d.book (d.packets m) o).0 in unmoved n h (OfPacket m o) a t (and_false_r (is_done a)) refl

told : (os : List Operation) (n : ℕ) → Tells n (history step os) ((device_after step os).calls n)
unfolding device_after history receives_in slots_in
told [] n = record { end = refl; counts = refl; good = λ e. absurd (omega arith) }
told (o ∷ os) n = device_told n (history step os) (device_after step os) o (told os n)

-- each count in the struct is the number of such words in the history of slots since the call was opened
pub in_call : (os : List Operation) (n : ℕ)
    → let ws = fates (slots_in n (history step os)) in
    ((device_after step os).calls n).counts ≡ counts_of (how_many opened ws) (how_many held ws) (how_many replaced ws) (how_many lost ws)
in_call os n = (told os n).counts

-- ---- what is asked of a device

-- a call that doesn't receive has no slots
none-slots : (n : ℕ) (h : History) → receives_in n h ≡ false → slots_in n h ≡ []
unfolding receives_in slots_in
none-slots n [] e = refl
none-slots n (x ∷ h) e = go (is_done x.1 && renews_call n x.0) (receives_in n h) (none-slots n h) e
  where
    go : (u r : Bool) → (r ≡ false → slots_in n h ≡ []) → pick u (opens_to_receive x.0) r ≡ false
        → pick u [] (pick r (slot_for n x.0 x.1) [] ++ slots_in n h) ≡ []
    go true r q e = refl
    go false true q e = absurd (true≢false e)
    go false false q e = q e

-- call n receives, and these are its slots
pub record Receives (n : ℕ) (xs : List Slot) (h : History) : Type 0 where
  pub receives : receives_in n h ≡ true
  pub its : slots_in n h ≡ xs

module _ (os : List Operation) (n : ℕ) where
  abbrev c : Call
  c = (device_after step os).calls n

  abbrev slots : List Slot
  slots = slots_in n (history step os)

  -- four words of its counts to a slot
  four : total c.counts ≡ 4 * length slots
  four = ap total (in_call os n) ∙ four_to_a_slot slots

  receiver : receives_in n (history step os) ≡ true → c.end ≡ receiving_end
  receiver r = eqb-true c.end receiving_end (sym (told os n).end ∙ r)

  at_most : length slots ≤ 1000000
  at_most = go (receives_in n (history step os)) refl
    where
      go : (b : Bool) → receives_in n (history step os) ≡ b → length slots ≤ 1000000
      go true r = omega (arith, four, counts_most c ((told os n).good (receiver r)))
      go false r = rw (none-slots n (history step os) r) (omega arith)

  -- the limit by the struct, and by the history
  by-history : voice.AtLimit c → AtLimit n (history step os)
  by-history l = record { receives = (told os n).end ∙ eq-eqb c.end receiving_end l.receives; full = omega (arith, four, l.full) }

  by-struct : AtLimit n (history step os) → voice.AtLimit c
  by-struct l =
      let e = receiver l.receives in
      record { good = (told os n).good e; receives = e; full = omega (arith, four, l.full) }

  -- end, where it is done
  hands_out : number_of (end_of c).0 ≡ 0 → handed_out (end_of c).1.1 ≡ handed_out c.counts
  unfolding end_of end_refusals
  hands_out =
      by_refusals (λ x. number_of x.0 ≡ 0 → handed_out x.1.1 ≡ handed_out c.counts) (c, no_counts) (end_refusals (standing c))
      (Done, after_end c) (λ a m z. absurd (omega (arith, among_refuses a (end_refusals (standing c)) refl m))) (λ none z. refl)

  -- where it receives, end is done
  pub end_done : receives_in n (history step os) ≡ true → number_of (step (device_after step os) (OfCall n End)).0 ≡ 0
  unfolding step call_step end_of end_refusals
  end_done r = let e = receiver r in rw (is_receiver c ((told os n).good e) e)

  -- ---- below the limit, every slot that is told is counted

  module _ {xs : List Slot} (r : Receives n xs (history step os)) (room : length xs < 1000000) where
    one_more : (o : CallOperation) (x : Slot) → opens_or_ends o ≡ false → slot_of o (step (device_after step os) (OfCall n o)).0 ≡ x ∷ []
        → Receives n (x ∷ xs) (history step (OfCall n o ∷ os))
    unfolding history receives_in slots_in
    one_more o x e s =
        let u = unrenewed n o (step (device_after step os) (OfCall n o)).0 e in
        record { receives = rw (u, r.receives); its = rw (u, r.receives, eq-eqb n n refl, s, r.its) }

    below : total c.counts < most_words
    below = omega (arith, four, ap length r.its)

    pub lost_done : number_of (step (device_after step os) (OfCall n Lost)).0 ≡ 0
    unfolding step call_step
    lost_done = let e = receiver r.receives in rw (lost-at c (is_receiver c ((told os n).good e) e) below)

    pub lost-on : Receives n (missed ∷ xs) (history step (OfCall n Lost ∷ os))
    lost-on = one_more Lost missed refl (rw lost_done)

    takes : (mask : ℕ) (frame : List ℕ) (known : Bool) → mask ≤ 15 → length frame ≡ frame_octets (width_of c.terms) → not (eqb c.known unknown_vector) ≡ known
        → voice.Takes c mask frame known
    takes mask frame known m l q =
        let e = receiver r.receives in
        record { long = l; masked = m; good = (told os n).good e; stands = λ z. omega arith; room = λ z. below; vector = q }

    -- opened where the vector is known, else held
    pub voice_on : (mask : ℕ) (frame : List ℕ) (known : Bool) → mask ≤ 15 → length frame ≡ frame_octets (width_of c.terms)
        → not (eqb c.known unknown_vector) ≡ known → Receives n (arrived mask known ∷ xs) (history step (OfCall n (Voice mask frame) ∷ os))
    unfolding step call_step
    voice_on mask frame known m l q = go known (takes mask frame known m l q)
      where
        go : (k : Bool) → voice.Takes c mask frame k → Receives n (arrived mask k ∷ xs) (history step (OfCall n (Voice mask frame) ∷ os))
        go true t = one_more (Voice mask frame) (arrived mask true) refl (rw ((voice.done_exactly c mask frame).1 t))
        go false t = one_more (Voice mask frame) (arrived mask false) refl (rw ((voice.held_exactly c mask frame).1 t))

    voice_taken : (mask : ℕ) (frame : List ℕ) → mask ≤ 15 → length frame ≡ frame_octets (width_of c.terms)
        → number_of (step (device_after step os) (OfCall n (Voice mask frame))).0 < 2
    unfolding step call_step
    voice_taken mask frame m l = go (not (eqb c.known unknown_vector)) (takes mask frame _ m l refl)
      where
        go : (k : Bool) → voice.Takes c mask frame k → number_of (voice_of c mask frame).0 < 2
        go true t = rw ((voice.done_exactly c mask frame).1 t) (omega arith)
        go false t = rw ((voice.held_exactly c mask frame).1 t) (omega arith)

-- the rate at which it was opened
since_rate : (n : ℕ) (since before : History) (x : Operation × Answer) → NoneDone (renews_call n) since → rate_in n (since ++ (x ∷ before)) ≡ rate_in n (x ∷ before)
unfolding rate_in
since_rate n [] before x p = refl
since_rate n (y ∷ ys) before x p = rw p.0 (since_rate n ys before x p.1)

opening_rate : (n : ℕ) (ways : ℕ × ℕ) (c i : ℕ) (o : Operation) (before : History) → OpensCall n ways c i o → rate_in n ((o, Done) ∷ before) ≡ ways.0
unfolding rate_in
opening_rate n ways c i _ before (by-open w) = rw (eq-eqb n n refl)
opening_rate n ways c i _ before (by-start w z) = rw (eq-eqb n n refl)
opening_rate n ways c i _ before by-join = rw (eq-eqb n n refl)

rate_told : (os : List Operation) (n : ℕ) → receives_in n (history step os) ≡ true → rate_in n (history step os) ≡ (c os n).terms.rate
rate_told os n r =
    let l = calls-loaded os n (λ z. omega (arith, z, receiver os n r)) in
    ap (rate_in n) l.is-history ∙ since_rate n l.since l.before (l.opening, Done) l.still_stands
    ∙ opening_rate n ((c os n).terms.rate, (c os n).terms.strictness) _ _ l.opening l.before l.opens_it

pub ours_counts : Counted step
unfolding step call_step
ours_counts =
    record {
      handed = λ os n z. hands_out os n z ∙ ap handed_out (in_call os n);
      ended = end_done;
      limit = at_most;
      taken = λ os n r l. lost_done os n (record { receives = r; its = refl }) l;
      arrives = λ os n mask frame r l m i.
          voice_taken os n (record { receives = r; its = refl }) l mask frame m
          (i ∙ ap (λ (x : ℕ). (layout x).frame) (rate_told os n r) ∙ ap (λ (x : Layout). x.frame) (layout_is (c os n).terms.rate));
      lost-past = λ os n.
          let p = voice.lost-past (c os n) in
          (λ z. by-history os n (p.0 z), λ l. ap (λ (x : Answer × Call). number_of x.0) (p.1 (by-struct os n l)));
      voice_past = λ os n mask frame.
          let p = voice.voice_past (c os n) mask frame in (
            λ z. ((p.0 z).0, by-history os n (p.0 z).1),
            λ l. ap (λ (x : Answer × (Call × List ℕ)). number_of x.0) (p.1 (l.0, by-struct os n l.1)),
          );
    }

-- the definition settles what is handed out of a call that receives: two devices that count right, through one history, hand out the same
pub one_count : (st su : Step) → Counted st → Counted su → (os : List Operation) → history st os ≡ history su os → (n : ℕ)
    → receives_in n (history st os) ≡ true
    → (st (device_after st os) (OfCall n End)).1.1 ≡ (su (device_after su os) (OfCall n End)).1.1
one_count st su p q os e n r =
    p.handed os n (p.ended os n r) ∙ ap (λ (h : History). four_counts (slots_in n h)) e ∙ sym (q.handed os n (q.ended os n (rw e at r)))

-- of a call that doesn't receive, a sender's say, zeros are handed out
pub others-zeros : (st : Step) → Counted st → (os : List Operation) (n : ℕ) → receives_in n (history st os) ≡ false
    → number_of (st (device_after st os) (OfCall n End)).0 ≡ 0 → (st (device_after st os) (OfCall n End)).1.1 ≡ 0 ∷ 0 ∷ 0 ∷ 0 ∷ []
others-zeros st right os n r z = right.handed os n z ∙ ap four_counts (none-slots n (history st os) r)
