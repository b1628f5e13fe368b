-- A voice slot of a call that stands, whole: what it answers and leaves. And at 9600 bps, where every other slot has mask 0.
use mathlib.Core.Path.{◌≡◌, refl, sym, ap, ap₂, ◌∙◌}
use mathlib.Core.Bool.{Bool, true, false, false≢true}
use mathlib.Core.List.{List}
use Prim.Native.Nat.{ℕ, suc, ◌+◌, ◌-◌, ◌*◌, ◌≤◌, ◌<◌}
use native.Mathlib.Omega.{arith}
use lib.Dec.{ltb, eqb}
use lib.ListN.{length}
use borrow.Author.Tests.{eq-eqb, lt-leb, le-ltb, lt-ltb}
use Rattle.sizes.proofs.SizeLaws.{slot_ranged}
use Rattle.sizes.proofs.Cases.{by_range}
use Rattle.octets.specs.Tests.{pick}
use Rattle.sizes.specs.Ciphers.{session_slots}
use Rattle.answers.specs.declared.Answer.{Answer}
use Rattle.answers.specs.declared.Answer.TheVariants.{Done, Held}
use Rattle.answers.specs.Numbers.{number_of}
use Rattle.answers.proofs.OutcomeLaws.{NoneHolds}
use Rattle.calls.specs.declared.counts.Counts.{Counts}
use Rattle.calls.specs.declared.call.Terms.{Terms}
use Rattle.calls.specs.declared.call.Call.{Call}
use Rattle.sizes.specs.Frame.{half_rate, width, words, frame_octets, slot_bits, most_words}
use Rattle.voice.specs.Frame.{IsFrame, of_slot, protect}
use Rattle.calls.specs.Call.{receiving_end, unknown_vector, good_call, Known, Standing, closed, bad, sending, receiving, standing, call_at, width_of, written, width_in, stands, knows}
use Rattle.calls.specs.Counts.{no_counts, plus, total, lost_words, arrived_words}
use Rattle.calls.proofs.CountLaws.{Fits, arrived-fits}
use Rattle.voice.specs.Slot.{slot_on, is_full, lost_refusals, lost_of, top_mask, voice_refusals, stream_of, in_slot, voice_after, voice_by, voice_of}
use Rattle.voice.proofs.FrameLaws.{protect_same, protect-none}
use Rattle.voice.proofs.SlotLaws.{not_full, none-good, none_open, voice_taken, voice_done}
use Rattle.calls.proofs.CallLaws.{by_stands, is_receiver, knows_inside, knows_yes, known-width, known_written}
use Rattle.voice.proofs.SlotGood.{slot-good_if}

-- a call that stands, wherever it does
module _ (call : Call) (mask : ℕ) (frame : List ℕ) (m : mask ≤ top_mask) where
  pub voice_at : (s : Standing) → length frame ≡ frame_octets (width_in s) → standing call ≡ s → stands s ≡ true → is_full s call.counts ≡ false
      → voice_of call mask frame ≡ voice_after stream_of mask frame call.counts s
  unfolding voice_by voice_refusals
  voice_at closed l e o room = absurd (false≢true o)
  voice_at bad l e o room = absurd (false≢true o)
  voice_at (sending t p v) l e o room = rw (e, eq-eqb _ _ l, le-ltb _ _ m)
  voice_at (receiving t p k) l e o room = rw (e, eq-eqb _ _ l, le-ltb _ _ m, room)

-- a receiver that is told of a lost slot
pub lost-at : (call : Call) {t : Terms} {p : ℕ} {k : Known} → standing call ≡ receiving t p k → total call.counts < most_words
    → lost_of call ≡ (Done, written (plus call.counts lost_words) (slot_on (receiving t p k)))
unfolding lost_of lost_refusals
lost-at call e room = rw (e, lt-leb _ _ room)

-- ---- inside a session

-- the same call one position on, with words w, which a receiver counts
abbrev pub onward : Counts → Call → Call
onward w c = call_at c.end c.terms (c.position + 1) c.known c.vector (pick (eqb c.end receiving_end) (plus c.counts w) no_counts)

-- a call at either end that knows its vector, with room for so many slots more
pub record Running (slots : ℕ) (c : Call) : Type 0 where
  pub good : good_call c ≡ true
  pub known : c.known ≡ unknown_vector → ⊥
  pub room : c.end ≡ receiving_end → total c.counts + words * slots ≤ most_words

-- before its session's last slot a call that stands goes on in it
abbrev Early : Call → Type 0
Early c = c.position + 1 < session_slots c.terms.cipher

slot-within : (n w : Counts) (s : Standing) → knows s ≡ true → Early (written n s) → (stands s ≡ true) × (written (plus n w) (slot_on s) ≡ onward w (written n s))
unfolding slot_on
slot-within n w closed k early = absurd (false≢true k)
slot-within n w bad k early = absurd (false≢true k)
slot-within n w (sending t p v) k early = (refl, rw (lt-ltb _ _ early))
slot-within n w (receiving t p k) h early = (refl, rw (lt-ltb _ _ early))

module _ (slots : ℕ) (c : Call) (r : Running (suc slots) c) where
  knows-running : knows (standing c) ≡ true
  knows-running = knows_yes c r.known ∙ r.good

  below : is_full (standing c) c.counts ≡ false
  below = not_full c r.good (λ e. let l = r.room e in omega arith)

  module _ (early : Early c) where
    itself : written c.counts (standing c) ≡ c
    itself = known_written c knows-running

    within : (w : Counts) → (stands (standing c) ≡ true) × (written (plus c.counts w) (slot_on (standing c)) ≡ onward w c)
    within w = let h = slot-within c.counts w (standing c) knows-running (rw itself early) in (h.0, h.1 ∙ ap (onward w) itself)

    runs_on : (w : Counts) → Fits true w → Running slots (onward w c)
    runs_on w fits =
        record {
          good = sym (ap good_call (within w).1) ∙ slot-good_if c r.good (λ e last. absurd (omega arith)) below w (rw knows-running fits);
          known = r.known;
          room = λ e. rw (eq-eqb _ _ e) (let l = r.room e in omega (arith, fits.four));
        }

    -- before a session's last slot the frame is turned and the position moves on, at either end
    pub voice_inside : (mask : ℕ) (frame : List ℕ) → mask ≤ top_mask → length frame ≡ frame_octets (width_of c.terms)
        → voice_of c mask frame ≡ (Done, (onward (arrived_words mask true) c, in_slot stream_of mask frame c))
    voice_inside mask frame m l =
        voice_at c mask frame m (standing c) (l ∙ ap frame_octets (sym (known-width c knows-running))) refl (within no_counts).0 below
        ∙ ap
        (λ (t : Bool).
        (pick t Done Held, (written (plus c.counts (arrived_words mask t)) (slot_on (standing c)), pick t (in_slot stream_of mask frame (written c.counts (standing c))) frame)))
        knows-running
        ∙ ap₂ (λ (d e : Call). (Done, (d, in_slot stream_of mask frame e))) (within (arrived_words mask true)).1 itself

-- ---- a session's end

-- after its last slot, done or held, a call is at position 0, under the same terms
pub session_over : (c : Call) → c.position + 1 ≡ session_slots c.terms.cipher → (mask : ℕ) (frame : List ℕ) → number_of (voice_of c mask frame).0 < 2
    → ((voice_of c mask frame).1.0.position ≡ 0) × ((voice_of c mask frame).1.0.terms ≡ c.terms)
unfolding slot_on
session_over c last mask frame l =
    by_stands c (none-good c mask frame n) (λ o e s. absurd (none_open c mask frame n e)) (λ o e s. rw (after, s, over) (refl, refl)) (λ o e s. rw (after, s, over) (refl, refl))
  where
    n : NoneHolds (voice_refusals c mask frame)
    n = voice_taken stream_of c mask frame l

    after : voice_of c mask frame ≡ voice_after stream_of mask frame c.counts (standing c)
    after = sym (voice_done stream_of c mask frame n)

    over : ltb (c.position + 1) (session_slots c.terms.cipher) ≡ false
    over = le-ltb (c.position + 1) (session_slots c.terms.cipher) (omega arith)

-- so is a receiver after a lost one
pub session-lost : (c : Call) → good_call c ≡ true → c.end ≡ receiving_end → total c.counts < most_words → c.position + 1 ≡ session_slots c.terms.cipher
    → ((lost_of c).1.position ≡ 0) × ((lost_of c).1.terms ≡ c.terms)
unfolding slot_on
session-lost c good heard room last =
    rw (lost-at c (is_receiver c good heard) room, le-ltb (c.position + 1) (session_slots c.terms.cipher) (omega arith)) (refl, refl)

-- ---- half rate at 9600 bps: the second and fourth slots of a superframe have mask 0

-- the third slot stands at bits 392 to 587
pub third-bits : (slot_bits (width half_rate) * 2 ≡ 392) × (slot_bits (width half_rate) * 2 + (slot_bits (width half_rate) - 1) ≡ 587)
third-bits = (refl, refl)

slots_four : (c p : ℕ) → p < session_slots c → 4 ≤ session_slots c
slots_four c p h = by_range (λ n. 4 ≤ session_slots n) (omega arith) (omega arith) (omega arith) c (slot_ranged c p h)

-- the first three slots of a session at either end: the second is left as it came, and the third is turned by bits 392 and on, so the second
-- used up its own all the same
module _ (c : Call) (r : Running 3 c) (half : c.terms.rate ≡ half_rate) (start : c.position ≡ 0) (m n : ℕ) (hm : m ≤ top_mask) (hn : n ≤ top_mask)
    (first second third : List ℕ) (l : length first ≡ 28) (f : IsFrame 49 second) (l' : length third ≡ 28) where
  abbrev pub two : Answer × (Call × List ℕ)
  two = voice_of (voice_of c m first).1.0 0 second

  abbrev pub three : Answer × (Call × List ℕ)
  three = voice_of two.1.0 n third

  enough : 4 ≤ session_slots c.terms.cipher
  enough = slots_four c.terms.cipher c.position (knows_inside c (knows-running 2 c r))

  early : (p : ℕ) → p < 3 → p + 1 < session_slots c.terms.cipher
  early p h = let e = enough in omega arith

  -- after one slot, and after two
  abbrev c1 : Call
  c1 = onward (arrived_words m true) c

  abbrev c2 : Call
  c2 = onward (arrived_words 0 true) c1

  runs-one : Running 2 c1
  runs-one = runs_on 2 c r (early c.position (omega arith)) (arrived_words m true) (arrived-fits m true)

  runs-two : Running 1 c2
  runs-two = runs_on 1 c1 runs-one (early (c.position + 1) (omega arith)) (arrived_words 0 true) (arrived-fits 0 true)

  moved : (voice_of c m first).1.0 ≡ c1
  moved = ap (λ (o : Answer × (Call × List ℕ)). o.1.0) (voice_inside 2 c r (early c.position (omega arith)) m first hm (rw half l))

  on-two : two ≡ (Done, (c2, in_slot stream_of 0 second c1))
  on-two =
      ap (λ (d : Call). voice_of d 0 second) moved
      ∙ voice_inside 1 c1 runs-one (early (c.position + 1) (omega arith)) 0 second (omega arith) (rw half f.long)

  pub second_stays : two.1.1 ≡ second
  second_stays =
      ap (λ (o : Answer × (Call × List ℕ)). o.1.1) on-two
      ∙ protect-none (width_of c.terms) (of_slot (width_of c.terms) (stream_of c) (c.position + 1)) 0 second (rw half f) refl

  pub third-turned : three.1.1 ≡ protect 49 (λ i. stream_of c (392 + i)) n third
  third-turned =
      ap (λ (o : Answer × (Call × List ℕ)). (voice_of o.1.0 n third).1.1) on-two
      ∙ ap (λ (o : Answer × (Call × List ℕ)). o.1.1)
      (voice_inside 0 c2 runs-two (early (c.position + 1 + 1) (omega arith)) n third hn (rw half l'))
      ∙ ap (λ (r : ℕ). protect (width r) (of_slot (width r) (stream_of c) (c.position + 1 + 1)) n third) half
      ∙ protect_same 49 (of_slot 49 (stream_of c) (c.position + 1 + 1)) (λ i. stream_of c (392 + i)) n
      (λ i h. let e : slot_bits 49 * (c.position + 1 + 1) + i ≡ 392 + i = omega arith in ap (stream_of c) e) third
