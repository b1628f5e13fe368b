-- The marked examples of voice: 2, 11 and 12.
use mathlib.Core.Path.{◌≡◌, refl, ap, ◌∙◌, sym}
use mathlib.Core.Bool.{true, false, ◌&&◌, false≢true}
use mathlib.Core.List.{List}
use Prim.Native.Nat.{ℕ, ◌≤◌, ◌<◌, suc, ◌+◌, ◌-◌, ◌*◌, ◌%◌}
use native.Mathlib.Nat.{zero-mul, suc-mul, mul-add}
use native.Mathlib.Omega.{arith}
use lib.ListN.{length, replicate}
use borrow.Author.Tests.{eq-eqb, lt-ltb, lt-leb}
use lib.Dec.{eqb, leb}
use Rattle.octets.specs.Tests.{all_below, first_below}
use Rattle.octets.proofs.TestLaws.{and_false_r}
use Rattle.octets.specs.Lists.{replaced, all_zero, iterate}
use Rattle.octets.specs.Bits.{octet, octets_from}
use Rattle.octets.specs.Turn.{within, turned, turned_in}
use Rattle.scramble.specs.Sequence.{key_number, stepped, P}
use Rattle.ciphers.specs.Keys.{odd_octet, scramble_key, des_key, key_allowed, key_right}
use Rattle.ciphers.specs.Keystream.{stream}
use Rattle.answers.specs.declared.Answer.TheVariants.{Done, Held, NotNow, ZeroVector}
use Rattle.keyentry.specs.Name as name
use Rattle.keyentry.specs.Entry as entry
use Rattle.keybook.specs.Book as book
use Rattle.sizes.specs.Ciphers.{vector_octets, no_vector}
use Rattle.openings.specs.Ladder.{key_refusals, zero_for, zero_refusals, vector_refusals}
use Rattle.openings.specs.Samples.{scramble0001, des_abcd}
use Rattle.sizes.specs.Frame.{half_rate, most_words}
use Rattle.voice.specs.Frame.{of_slot, word_turned, protect}
use Rattle.calls.specs.Counts.{words_in, counts_of, no_counts, plus, total, arrived_words}
use Rattle.calls.specs.declared.counts.Counts.{Counts}
use Rattle.calls.specs.Call.{by_default, vector_right, closed_tests, open_tests, is_closed, is_open, unknown, told, receiving, standing, terms_of, no_call, written, receiving_end, unknown_vector, counts_right}
use Rattle.calls.specs.Opening.{join_refusals, begun_refusals, open_of, start_of, join_of}
use Rattle.voice.specs.Slot.{slot_on, top_mask, voice_of}
use Rattle.calls.specs.Vector.{announce_refusals, announce_of}
use Rattle.calls.proofs.CountLaws.{words-at-most, tests_pass}
use Rattle.voice.proofs.SlotSteps.{voice_at}
use Rattle.demands.proofs.Layouts.{ways_right, sender-right}
use Rattle.demands.specs.Marked.{book_of_two, scrambling, waiting, frame8001, held_counts}

frame_turned : protect 49 (of_slot 49 (stream 1 scramble0001 no_vector) 0) 3 (replicate 28 0) ≡ frame8001
unfolding protect word_turned turned_in turned within replaced octets_from octet stream P iterate stepped key_number
frame_turned = refl

-- ---- what s held slots of one mask come to

held-total : (mask s : ℕ) → total (held_counts mask s) ≡ 4 * s
held-total mask s =
    let q : words_in mask + (4 - words_in mask) ≡ 4 = omega (arith, words-at-most mask) in
    let e = sym (mul-add s (words_in mask) (4 - words_in mask)) ∙ ap (λ (x : ℕ). s * x) q in
    omega (arith, e)

none-held : (mask : ℕ) → held_counts mask 0 ≡ no_counts
none-held mask = rw (zero-mul (words_in mask), zero-mul (4 - words_in mask))

one_more : (mask s : ℕ) → plus (held_counts mask s) (arrived_words mask false) ≡ held_counts mask (suc s)
one_more mask s = rw (suc-mul s (words_in mask), suc-mul s (4 - words_in mask))

-- over either strictness
module _ (n : ℕ) (low : n ≤ 1) where
  -- four openings over that book, without a call
  pub openings : (open_of no_call 2 0 half_rate n no_vector book_of_two ≡ (Done, written no_counts (receiving (terms_of 2 des_abcd half_rate n) 0 (told no_vector))))
      × (start_of no_call 2 0 half_rate no_vector book_of_two ≡ (ZeroVector, no_call))
      × (open_of no_call 1 0 half_rate n no_vector book_of_two ≡ (Done, scrambling n 0 no_counts))
      × (join_of no_call 2 0 half_rate n book_of_two ≡ (Done, waiting n 4 no_counts))
  unfolding open_of start_of join_of begun_refusals join_refusals vector_refusals key_refusals zero_refusals zero_for standing is_closed closed_tests all_zero all_below first_below
      entry.in_range entry.is_for entry.entry_right entry.used_right entry.ready_right entry.lacks name.no_name name.name_right name.text_octets name.is_printable book.entry_of book.find_entry book.apart book.good_book
      key_allowed scramble_key des_key odd_octet
  openings = rw (ways_right half_rate n (omega arith) low, sender-right half_rate (omega arith)) (refl, refl, refl, refl)

  scrambling-stands : standing (scrambling n 0 no_counts) ≡ receiving (terms_of 1 scramble0001 half_rate n) 0 (told no_vector)
  unfolding standing is_closed closed_tests is_open open_tests key_right vector_right counts_right key_allowed scramble_key all_zero all_below
  scrambling-stands = rw (ways_right half_rate n (omega arith) low, and_false_r (eqb n by_default))

  pub example_2 : voice_of (scrambling n 0 no_counts) 3 (replicate 28 0) ≡ (Done, (scrambling n 1 (counts_of 2 0 2 0), frame8001))
  unfolding slot_on
  example_2 =
      voice_at (scrambling n 0 no_counts) 3 (replicate 28 0) (omega arith) (receiving (terms_of 1 scramble0001 half_rate n) 0 (told no_vector)) refl scrambling-stands refl refl
      ∙ ap (λ (f : List ℕ). (Done, (scrambling n 1 (counts_of 2 0 2 0), f))) frame_turned

  -- ---- it waits, with s held slots

  module _ (p : ℕ) (h : p < 8) (mask s : ℕ) (few : s < 5) (at : p % 4 ≡ s % 4) where
    counts-right : counts_right receiving_end 2 n unknown_vector p (held_counts mask s) ≡ true
    unfolding counts_right
    counts-right =
        let all = held-total mask s in
        tests_pass false (eqb n by_default && true) p (held_counts mask s)
        (record { most = omega (arith, all); whole = omega (arith, all); lost = refl; place = omega (arith, all); held = λ e. absurd (false≢true e); opened = λ e. refl })

    waiting-stands : standing (waiting n p (held_counts mask s)) ≡ receiving (terms_of 2 des_abcd half_rate n) p unknown
    unfolding standing is_closed closed_tests is_open open_tests key_right vector_right key_allowed des_key odd_octet all_zero all_below
    waiting-stands = rw (ways_right half_rate n (omega arith) low, lt-ltb _ _ h, counts-right)

    pub held_on : (frame : List ℕ) → mask ≤ top_mask → length frame ≡ 28
        → voice_of (waiting n p (held_counts mask s)) mask frame ≡ (Held, (written (held_counts mask (suc s)) (slot_on (receiving (terms_of 2 des_abcd half_rate n) p unknown)), frame))
    held_on frame m l =
        let room : leb most_words (total (held_counts mask s)) ≡ false = lt-leb most_words (total (held_counts mask s)) (omega (arith, held-total mask s)) in
        voice_at (waiting n p (held_counts mask s)) mask frame m (receiving (terms_of 2 des_abcd half_rate n) p unknown) l waiting-stands refl room
        ∙ ap (λ (c : Counts). (Held, (written c (slot_on (receiving (terms_of 2 des_abcd half_rate n) p unknown)), frame))) (one_more mask s)

  -- the first of four, and the last of the session that it joined: it is told nothing of the next one
  pub from_join : (mask : ℕ) (frame : List ℕ) → mask ≤ top_mask → length frame ≡ 28
      → voice_of (waiting n 4 no_counts) mask frame ≡ (Held, (waiting n 5 (held_counts mask 1), frame))
  unfolding slot_on
  from_join mask frame m l = ap (λ (c : Counts). voice_of (waiting n 4 c) mask frame) (sym (none-held mask)) ∙ held_on 4 (omega arith) mask 0 (omega arith) refl frame m l

  pub to_next : (mask : ℕ) (frame : List ℕ) → mask ≤ top_mask → length frame ≡ 28
      → voice_of (waiting n 7 (held_counts mask 3)) mask frame ≡ (Held, (waiting n 0 (held_counts mask 4), frame))
  unfolding slot_on
  to_next mask frame m l = held_on 7 (omega arith) mask 3 (omega arith) refl frame m l ∙ rw (and_false_r (eqb n by_default))

  module _ (mask : ℕ) (w : List ℕ) (l : length w ≡ vector_octets) where
    pub after_four : announce_of (waiting n 0 (held_counts mask 4)) w ≡ (Done, written (held_counts mask 4) (receiving (terms_of 2 des_abcd half_rate n) 0 (told w)))
    unfolding announce_of announce_refusals
    after_four = rw (waiting-stands 0 (omega arith) mask 4 (omega arith) refl, eq-eqb _ _ l)

    pub after-three : announce_of (waiting n 7 (held_counts mask 3)) w ≡ (NotNow, waiting n 7 (held_counts mask 3))
    unfolding announce_of announce_refusals
    after-three = rw (waiting-stands 7 (omega arith) mask 3 (omega arith) refl, eq-eqb _ _ l)
