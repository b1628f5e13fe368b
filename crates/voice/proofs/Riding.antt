-- Riding over a lost announcement (document 02, W-206), by the struct's own fields: what a receiver goes on with as its session ends; and that an announcement
-- at the session's start wins.
use mathlib.Core.Path.{◌≡◌, refl, sym, ap, ◌∙◌}
use mathlib.Core.Bool.{Bool, true, false, not}
use mathlib.Core.Logic.{◌⊎◌, inl, inr}
use mathlib.Core.List.{List}
use Prim.Native.Nat.{ℕ, ◌+◌, ◌≤◌, ◌<◌}
use native.Mathlib.Omega.{arith}
use lib.Dec.{eqb}
use lib.ListN.{length}
use borrow.Author.Tests.{eq-eqb, ne_eqb, lt-leb, le-ltb}
use Rattle.octets.proofs.TestLaws.{and_false_r}
use Rattle.generator.specs.Generator.{next_vector}
use Rattle.sizes.specs.Ciphers.{session_slots, vector_octets, no_vector, scrambles}
use Rattle.sizes.specs.Frame.{frame_octets, most_words}
use Rattle.ciphers.specs.Keystream.{stream}
use Rattle.answers.specs.declared.Answer.{Answer}
use Rattle.answers.specs.declared.Answer.TheVariants.{Done}
use Rattle.answers.specs.Numbers.{number_of}
use Rattle.calls.specs.declared.counts.Counts.{Counts}
use Rattle.calls.specs.declared.call.Call.{Call}
use Rattle.voice.specs.Frame.{of_slot, protect}
use Rattle.calls.specs.Call.{receiving_end, unknown_vector, told_vector, carried_vector, by_default, strict, good_call, known_by, told, Standing, receiving, standing, call_at, width_of, written}
use Rattle.calls.specs.Counts.{plus, total, lost_words, arrived_words}
use Rattle.voice.specs.Slot.{rides, ridden, slot_on, top_mask, lost_of, voice_by, voice_of}
use Rattle.calls.specs.Vector.{announce_of}
use Rattle.calls.proofs.CallLaws.{carries, is_receiver, knows-is}
use Rattle.voice.proofs.SlotLaws.{ridden_carries, ridden-untold, voice_done, voice_taken}
use Rattle.voice.proofs.SlotSteps.{voice_at, lost-at}
use Rattle.calls.proofs.GoodLaws.{announce_good, read_written}
use Rattle.calls.proofs.Exactly.{Timely, announced-leaves}

-- ---- as a session ends

module _ (c : Call) (good : good_call c ≡ true) (heard : c.end ≡ receiving_end) (room : total c.counts < most_words)
    (last : c.position + 1 ≡ session_slots c.terms.cipher) where
  -- the call in its next session, with its counts
  abbrev next : Counts → Call
  next n = written n (receiving c.terms 0 (ridden c.terms (known_by c.known c.vector)))

  stood : standing c ≡ receiving c.terms c.position (known_by c.known c.vector)
  stood = is_receiver c good heard

  gone : (n : Counts) → written n (slot_on (standing c)) ≡ next n
  unfolding slot_on
  gone n = rw (stood, le-ltb (c.position + 1) (session_slots c.terms.cipher) (omega arith))

  -- after a slot that is lost, or that arrived and was done or held, whatever gives the session's bits; its words are counted
  abbrev GoesOn : (Counts → Call) → Type 0
  GoesOn d = (lost_of c ≡ (Done, d (plus c.counts lost_words)))
      × ((st : Call → ℕ → ℕ) (mask : ℕ) (frame : List ℕ) → number_of (voice_by st c mask frame).0 < 2
      → (voice_by st c mask frame).1.0 ≡ d (plus c.counts (arrived_words mask (not (eqb c.known unknown_vector)))))

  goes_on : (d : Counts → Call) → ((n : Counts) → next n ≡ d n) → GoesOn d
  goes_on d e = (
    lost-at c stood room
        ∙ ap (λ (x : Call). (Done, x)) (sym (ap (λ (s : Standing). written (plus c.counts lost_words) (slot_on s)) stood) ∙ gone _ ∙ e _),
    λ st mask frame l.
        sym (ap (λ (o : Answer × (Call × List ℕ)). o.1.0) (voice_done st c mask frame (voice_taken st c mask frame l)))
        ∙ gone _
        ∙ e _
        ∙ ap (λ (k : Bool). d (plus c.counts (arrived_words mask k))) (knows-is c good),
  )

  module _ (vectored : scrambles c.terms.cipher ≡ false) where
    -- by default a receiver that knew its vector goes on with the generator's next
    pub rides_over : c.terms.strictness ≡ by_default → (c.known ≡ unknown_vector → ⊥) → GoesOn (call_at receiving_end c.terms 0 carried_vector (next_vector c.vector))
    rides_over d k =
        goes_on (call_at receiving_end c.terms 0 carried_vector (next_vector c.vector))
        (λ n. sym (ridden_carries c.terms c.known c.vector refl (rw (vectored, eq-eqb _ _ d, ne_eqb _ _ k)) (next_vector c.vector) refl n))

    -- one that didn't, or that is strict, knows nothing
    pub holds_on : (c.terms.strictness ≡ strict) ⊎ (c.known ≡ unknown_vector) → GoesOn (call_at receiving_end c.terms 0 unknown_vector no_vector)
    holds_on h =
        goes_on (call_at receiving_end c.terms 0 unknown_vector no_vector)
        (λ n. sym (ridden-untold c.terms c.known c.vector {b = rides c.terms (not (eqb c.known unknown_vector))} refl (not-riding h) (rw vectored) n))
      where
        not-riding : (c.terms.strictness ≡ strict) ⊎ (c.known ≡ unknown_vector) → rides c.terms (not (eqb c.known unknown_vector)) ≡ false
        not-riding (inl e) = rw (vectored, e)
        not-riding (inr e) = rw (vectored, e, and_false_r)

-- ---- an announcement wins

-- at position 0 a carried vector gives way, and the session is opened by the announced one
pub announced_wins : (c : Call) → good_call c ≡ true → total c.counts < most_words → c.known ≡ carried_vector → c.position ≡ 0 → (w : List ℕ) → length w ≡ vector_octets
    → (announce_of c w ≡ (Done, call_at receiving_end c.terms 0 told_vector w c.counts))
    × ((mask : ℕ) (frame : List ℕ) → mask ≤ top_mask → length frame ≡ frame_octets (width_of c.terms)
    → ((voice_of (announce_of c w).1 mask frame).0 ≡ Done)
    × ((voice_of (announce_of c w).1 mask frame).1.1
    ≡ protect (width_of c.terms) (of_slot (width_of c.terms) (stream c.terms.cipher c.terms.key w) 0) mask frame))
announced_wins c good room k start w l = (wins, opens)
  where
    timely : Timely c w
    timely =
        let d = carries c good k in
        record { long = l; good = good; receives = d.0; vectored = d.1; starts = start; untold = inr (k, d.2) }

    wins : announce_of c w ≡ (Done, call_at receiving_end c.terms 0 told_vector w c.counts)
    wins = announced-leaves c w timely

    stood : standing (call_at receiving_end c.terms 0 told_vector w c.counts) ≡ receiving c.terms 0 (told w)
    stood = read_written c.counts (receiving c.terms 0 (told w)) refl (sym (ap (λ (o : Answer × Call). good_call o.1) wins) ∙ announce_good c good w)

    opens : (mask : ℕ) (frame : List ℕ) → mask ≤ top_mask → length frame ≡ frame_octets (width_of c.terms)
        → ((voice_of (announce_of c w).1 mask frame).0 ≡ Done)
        × ((voice_of (announce_of c w).1 mask frame).1.1
        ≡ protect (width_of c.terms) (of_slot (width_of c.terms) (stream c.terms.cipher c.terms.key w) 0) mask frame)
    opens mask frame m f =
        rw (wins, voice_at (call_at receiving_end c.terms 0 told_vector w c.counts) mask frame m (receiving c.terms 0 (told w)) f stood refl (lt-leb _ _ room)) (refl, refl)
