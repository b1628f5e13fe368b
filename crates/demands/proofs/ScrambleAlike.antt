-- With scramble the two ways are one: whatever our receiver is told, in whatever order, strict or by default it makes the same of it; and of any receiver the
-- two demands ask the same.
use mathlib.Core.Path.{◌≡◌, refl, sym, ap, ap₂, subst, ◌∙◌}
use mathlib.Core.Bool.{Bool, true, false, true≢false, not}
use mathlib.Core.List.{List, [], ◌∷◌, ◌++◌}
use Prim.Native.Nat.{ℕ, ◌+◌}
use lib.Dec.{ltb, eqb}
use lib.ListN.{drop, length}
use Rattle.octets.specs.Tests.{pick}
use Rattle.octets.specs.Lists.{Each}
use Rattle.answers.specs.declared.Answer.{Answer}
use Rattle.answers.specs.declared.Answer.TheVariants.{Done, WrongLength, Bad, NotNow, BadMask, PastLimit}
use Rattle.answers.specs.Outcomes.{Refusals, settled, outcome}
use Rattle.answers.proofs.OutcomeLaws.{NoneHolds, side_by_side}
use Rattle.sizes.specs.Frame.{frame_octets}
use Rattle.sizes.specs.Ciphers.{no_vector, scrambles, superframe_slots}
use Rattle.openings.specs.Ladder.{key_for}
use Rattle.calls.specs.Counts.{no_counts, plus, lost_words, arrived_words}
use Rattle.calls.specs.declared.counts.Counts.{Counts}
use Rattle.calls.specs.declared.call.Call.{Call}
use Rattle.calls.specs.Call.{receiving_end, by_default, strict, terms_right, vector_right, closed_tests, open_tests, is_closed, is_open, told, Standing, closed, bad, receiving, standing, terms_of, no_call, written, counts_right, is_bad, stands, receives, width_in}
use Rattle.calls.specs.Opening.{join_refusals, begun_refusals, open_of, join_of}
use Rattle.voice.specs.Slot.{slot_on, lost_refusals, lost_of, voice_refusals, stream_of, voice_after, voice_by, voice_of, is_full, top_mask}
use Rattle.calls.specs.Vector.{with_vector, announce_refusals, announce_of}
use Rattle.demands.specs.Talk.{Session, Talk, WayIn, opening, joining}
use Rattle.demands.specs.Notices.{Notice, hear, join, announce, lost, voice, slot_notices, session_notices, first_notices, opening_notices, notices_of}
use Rattle.demands.specs.Log.{Receiver, Event, answered, arrived, noted, event, events}
use Rattle.demands.specs.Demand3.{Right, ours}
use Rattle.demands.specs.Demand3Default.{since_known, default_notices, handset}
use Rattle.demands.specs.Others.{MeetsIn, MeetsDefaultIn}
use Rattle.demands.proofs.Marking.{since_slots}
use Rattle.demands.proofs.Standing.{closed_read}

-- a scramble receiver of a strictness
abbrev at : List ℕ → ℕ → ℕ → ℕ → Standing
at key r p m = receiving (terms_of 1 key r m) p (told no_vector)

-- a strict receiver and one by default that are else the same
data Alike : Call → Call → Type 0 where
  none : Alike no_call no_call
  both : (key : List ℕ) (r p : ℕ) (n : Counts) → Alike (written n (at key r p strict)) (written n (at key r p by_default))

-- both are good, or neither is
abbrev good : List ℕ → ℕ → ℕ → Counts → Bool
good key r p n = is_open (written n (at key r p by_default))

stood : (key : List ℕ) (r p : ℕ) (n : Counts) → (standing (written n (at key r p strict)) ≡ pick (good key r p n) (at key r p strict) bad)
    × (standing (written n (at key r p by_default)) ≡ pick (good key r p n) (at key r p by_default) bad)
unfolding standing is_closed closed_tests is_open open_tests terms_right vector_right counts_right
stood key r p n = (refl, refl)

-- what two operations answer and leave
abbrev SameCalls : Answer × Call → Answer × Call → Type 0
SameCalls o q = (o.0 ≡ q.0) × Alike o.1 q.1

abbrev SameFrames : Answer × (Call × List ℕ) → Answer × (Call × List ℕ) → Type 0
SameFrames o q = (o.0 ≡ q.0) × Alike o.1.0 q.1.0 × (o.1.1 ≡ q.1.1)

-- ---- a slot on

slot_alike : (key : List ℕ) (r p : ℕ) (n : Counts) → Alike (written n (slot_on (at key r p strict))) (written n (slot_on (at key r p by_default)))
unfolding slot_on
slot_alike key r p n = go (ltb (p + 1) 4)
  where
    go : (t : Bool) → Alike (written n (pick t (at key r (p + 1) strict) (at key r 0 strict))) (written n (pick t (at key r (p + 1) by_default) (at key r 0 by_default)))
    go true = both key r (p + 1) n
    go false = both key r 0 n

-- ---- the operations

-- what holds of good ones and of bad ones
by_stood : (key : List ℕ) (r p : ℕ) (n : Counts) (P : Standing → Standing → Type 0) → P (at key r p strict) (at key r p by_default) → P bad bad
    → P (standing (written n (at key r p strict))) (standing (written n (at key r p by_default)))
by_stood key r p n P a b =
    subst (λ (s : Standing). P s (standing (written n (at key r p by_default)))) (sym (stood key r p n).0)
    (subst (P (pick (good key r p n) (at key r p strict) bad)) (sym (stood key r p n).1) (go (good key r p n)))
  where
    go : (t : Bool) → P (pick t (at key r p strict) bad) (pick t (at key r p by_default) bad)
    go true = a
    go false = b

-- what refuses a lost slot, and a voice slot, by what the call stands for
abbrev lost_asks : Counts → Standing → Refusals
lost_asks n s = (is_bad s, Bad) ∷ (not (receives s), NotNow) ∷ (is_full s n, PastLimit) ∷ []

abbrev voice_asks : ℕ → List ℕ → Counts → Standing → Refusals
voice_asks mask frame n s =
    (ltb top_mask mask, BadMask) ∷ (is_bad s, Bad) ∷ (not (stands s), NotNow) ∷ (is_full s n, PastLimit) ∷ (not (eqb (length frame) (frame_octets (width_in s))), WrongLength) ∷ []

lost_alike : (s d : Call) → Alike s d → SameCalls (lost_of s) (lost_of d)
unfolding lost_of lost_refusals
lost_alike _ _ none = rw closed_read (refl, none)
lost_alike _ _ (both key r p n) =
    let on : Counts = plus n lost_words in
    by_stood key r p n
    (λ s d. SameCalls (outcome (written n (at key r p strict)) (lost_asks n s) (written on (slot_on s))) (outcome (written n (at key r p by_default)) (lost_asks n d) (written on (slot_on d))))
    (side_by_side SameCalls (written n (at key r p strict)) (written n (at key r p by_default)) (lost_asks n (at key r p by_default)) (Done, written on (slot_on (at key r p strict)))
    (Done, written on (slot_on (at key r p by_default))) (λ a. (refl, both key r p n)) (λ h. (refl, slot_alike key r p on)))
    (refl, both key r p n)

voice_alike : (mask : ℕ) (frame : List ℕ) (s d : Call) → Alike s d → SameFrames (voice_of s mask frame) (voice_of d mask frame)
unfolding voice_by voice_refusals slot_on
voice_alike mask frame _ _ none =
    rw closed_read
    (side_by_side SameFrames (no_call, frame) (no_call, frame) (voice_asks mask frame no_counts closed) (voice_after stream_of mask frame no_counts closed) (voice_after stream_of mask frame no_counts closed)
    (λ a. (refl, none, refl)) (λ n. (refl, none, refl)))
voice_alike mask frame _ _ (both key r p n) =
    by_stood key r p n
    (λ s d. SameFrames (settled (written n (at key r p strict), frame) (voice_asks mask frame n s) (voice_after stream_of mask frame n s)) (settled (written n (at key r p by_default), frame) (voice_asks mask frame n d) (voice_after stream_of mask frame n d)))
    (side_by_side SameFrames (written n (at key r p strict), frame) (written n (at key r p by_default), frame) (voice_asks mask frame n (at key r p by_default))
    (voice_after stream_of mask frame n (at key r p strict)) (voice_after stream_of mask frame n (at key r p by_default)) (λ a. (refl, both key r p n, refl))
    (λ h. (refl, slot_alike key r p (plus n (arrived_words mask true)), refl)))
    (side_by_side SameFrames (written n (at key r p strict), frame) (written n (at key r p by_default), frame) (voice_asks mask frame n bad)
    (voice_after stream_of mask frame n bad) (voice_after stream_of mask frame n bad) (λ a. (refl, both key r p n, refl)) (λ h. absurd (true≢false h.1.0)))

announce_alike : (v : List ℕ) (s d : Call) → Alike s d → SameCalls (announce_of s v) (announce_of d v)
unfolding announce_of announce_refusals
announce_alike v _ _ none =
    rw closed_read (side_by_side SameCalls no_call no_call (announce_refusals closed v) (Done, no_call) (Done, no_call) (λ a. (refl, none)) (λ n. (refl, none)))
announce_alike v _ _ (both key r p n) =
    by_stood key r p n
    (λ s d. SameCalls (outcome (written n (at key r p strict)) (announce_refusals s v) (written n (with_vector v s))) (outcome (written n (at key r p by_default)) (announce_refusals d v) (written n (with_vector v d))))
    (refused (announce_refusals (at key r p by_default) v) (λ h. true≢false h.1.1.0) (written n (with_vector v (at key r p strict))) (written n (with_vector v (at key r p by_default))))
    (refused (announce_refusals bad v) (λ h. true≢false h.1.0) no_call no_call)
  where
    -- it is never the time for one
    refused : (rs : Refusals) → (NoneHolds rs → ⊥) → (x y : Call) → SameCalls (outcome (written n (at key r p strict)) rs x) (outcome (written n (at key r p by_default)) rs y)
    refused rs never x y =
        side_by_side SameCalls (written n (at key r p strict)) (written n (at key r p by_default)) rs (Done, x) (Done, y) (λ a. (refl, both key r p n)) (λ h. absurd (never h))

module _ (b : List ℕ) (i r : ℕ) where
  hear-alike : (v : List ℕ) (s d : Call) → Alike s d → SameCalls (open_of s 1 i r strict v b) (open_of d 1 i r by_default v b)
  unfolding open_of begun_refusals terms_right
  hear-alike v _ _ none =
      side_by_side SameCalls no_call no_call (begun_refusals receiving_end (standing no_call) 1 i r by_default v b) _ _ (λ a. (refl, none)) (λ h. (refl, both (key_for b 1 i) r 0 no_counts))
  hear-alike v _ _ (both key q p n) =
      by_stood key q p n
      (λ s d. SameCalls (outcome (written n (at key q p strict)) (begun_refusals receiving_end s 1 i r strict v b) (written no_counts (at (key_for b 1 i) r 0 strict)))
      (outcome (written n (at key q p by_default)) (begun_refusals receiving_end d 1 i r by_default v b) (written no_counts (at (key_for b 1 i) r 0 by_default))))
      (side_by_side SameCalls (written n (at key q p strict)) (written n (at key q p by_default)) (begun_refusals receiving_end (at key q p by_default) 1 i r by_default v b) _ _
      (λ a. (refl, both key q p n)) (λ h. (refl, both (key_for b 1 i) r 0 no_counts)))
      (side_by_side SameCalls (written n (at key q p strict)) (written n (at key q p by_default)) (begun_refusals receiving_end bad 1 i r by_default v b) _ _
      (λ a. (refl, both key q p n)) (λ h. (refl, both (key_for b 1 i) r 0 no_counts)))

  join-alike : (s d : Call) → Alike s d → SameCalls (join_of s 1 i r strict b) (join_of d 1 i r by_default b)
  unfolding join_of join_refusals terms_right
  join-alike _ _ none =
      side_by_side SameCalls no_call no_call (join_refusals (standing no_call) 1 i r by_default b) _ _ (λ a. (refl, none)) (λ h. (refl, both (key_for b 1 i) r 0 no_counts))
  join-alike _ _ (both key q p n) =
      by_stood key q p n
      (λ s d. SameCalls (outcome (written n (at key q p strict)) (join_refusals s 1 i r strict b) (written no_counts (at (key_for b 1 i) r 0 strict)))
      (outcome (written n (at key q p by_default)) (join_refusals d 1 i r by_default b) (written no_counts (at (key_for b 1 i) r 0 by_default))))
      (side_by_side SameCalls (written n (at key q p strict)) (written n (at key q p by_default)) (join_refusals (at key q p by_default) 1 i r by_default b) _ _
      (λ a. (refl, both key q p n)) (λ h. (refl, both (key_for b 1 i) r 0 no_counts)))
      (side_by_side SameCalls (written n (at key q p strict)) (written n (at key q p by_default)) (join_refusals bad 1 i r by_default b) _ _
      (λ a. (refl, both key q p n)) (λ h. (refl, both (key_for b 1 i) r 0 no_counts)))

  -- ---- whatever it is told

  abbrev Same : Event × Call → Event × Call → Type 0
  Same o q = (o.0 ≡ q.0) × Alike o.1 q.1

  noted-alike : {o q : Answer × Call} → SameCalls o q → Same (noted ours o) (noted handset q)
  noted-alike e = (ap answered e.0, e.1)

  event-alike : (n : Notice) (s d : Call) → Alike s d → Same (event ours b 1 i r n s) (event handset b 1 i r n d)
  event-alike (hear v) s d a = noted-alike (hear-alike v s d a)
  event-alike join s d a = noted-alike (join-alike s d a)
  event-alike (announce v) s d a = noted-alike (announce_alike v s d a)
  event-alike lost s d a = noted-alike (lost_alike s d a)
  event-alike (voice reached x) s d a =
      let e = voice_alike x.mask x.sent s d a in
      (ap₂ (λ (n : Answer) (f : List ℕ). arrived (record { rate = r; reached = reached; mask = x.mask; spoken = x.spoken; came = x.sent; answer = n; frame = f })) e.0 e.2, e.1)

  events-alike : (ns : List Notice) (s d : Call) → Alike s d → events ours b 1 i r s ns ≡ events handset b 1 i r d ns
  events-alike [] s d a = refl
  events-alike (n ∷ ns) s d a =
      let e = event-alike n s d a in
      ap₂ ◌∷◌ e.0 (events-alike ns (event ours b 1 i r n s).1 (event handset b 1 i r n d).1 e.1)

  pub scramble_alike : (ns : List Notice) → events ours b 1 i r no_call ns ≡ events handset b 1 i r no_call ns
  scramble_alike ns = events-alike ns no_call no_call none

-- ---- the demands

-- the same slots count as reached
since_all : (xs : List Session) → since_known true (session_notices 1 xs) ≡ session_notices 1 xs
since_all [] = refl
since_all (x ∷ xs) = since_slots 1 true true x.slots (session_notices 1 xs) ∙ ap (λ (ns : List Notice). slot_notices true x.slots ++ ns) (since_all xs)

since_first : (p : ℕ) (reached : Bool) (xs : List Session) → since_known true (first_notices 1 reached p xs) ≡ first_notices 1 reached p xs
since_first p reached [] = refl
since_first p reached (x ∷ xs) = since_slots 1 true true (drop p x.slots) (session_notices 1 xs) ∙ ap (λ (ns : List Notice). slot_notices true (drop p x.slots) ++ ns) (since_all xs)

scramble_notices : (t : Talk) → t.cipher ≡ 1 → (e : WayIn) → default_notices t e ≡ notices_of t e
scramble_notices t q opening = rw q (go t.sessions)
  where
    go : (xs : List Session) → since_known true (opening_notices 1 xs) ≡ opening_notices 1 xs
    go [] = refl
    go (x ∷ xs) = ap (λ (ns : List Notice). hear x.vector ∷ ns) (since_first 0 true (x ∷ xs))
scramble_notices t q (joining n) =
    subst (λ (c : ℕ). since_known (scrambles c) (join ∷ first_notices c false superframe_slots (drop n t.sessions)) ≡ join ∷ first_notices c false superframe_slots (drop n t.sessions)) (sym q)
    (ap (λ (ns : List Notice). join ∷ ns) (since_first superframe_slots false (drop n t.sessions)))

-- whatever is asked of the vectors of DES and AES
pub scramble_demands : (P : Session → Session → Type 0) (r : ℕ) (R : Receiver) → (MeetsIn 1 r R → MeetsDefaultIn P 1 r R) × (MeetsDefaultIn P 1 r R → MeetsIn 1 r R)
scramble_demands P r R = (
  λ m t q s k e l few b i h. subst (λ (ns : List Notice). Each Right (events R b t.cipher i t.rate R.idle ns)) (sym (scramble_notices t q e)) (m t q s k b i h e few),
  λ m t q s k b i h e few.
      subst (λ (ns : List Notice). Each Right (events R b t.cipher i t.rate R.idle ns)) (scramble_notices t q e)
      (m t q s k e (λ z. absurd (true≢false (sym (ap scrambles q) ∙ z))) few b i h),
)
