-- What demand 2 throws out: slot operations that answer 0 with the speech of a fixed frame, or with speech as it came, whatever they do else.
use mathlib.Core.Path.{◌≡◌, refl, sym, ap, ◌∙◌}
use mathlib.Core.Bool.{Bool, true, false, ◌&&◌}
use mathlib.Core.List.{List}
use Prim.Native.Nat.{ℕ, ◌+◌, ◌-◌, ◌*◌, ◌≤◌, ◌<◌}
use native.Mathlib.Omega.{arith}
use lib.Dec.{leb, eqb}
use lib.ListN.{length}
use borrow.Author.Tests.{le-ltb}
use Rattle.octets.specs.Tests.{pick, every}
use Rattle.octets.specs.Bits.{bit, flip, Octets}
use Rattle.answers.specs.declared.Answer.{Answer}
use Rattle.answers.specs.Numbers.{number_of}
use Rattle.sizes.specs.Ciphers.{session_slots, no_vector, scrambles}
use Rattle.ciphers.proofs.KeystreamLaws.{bits-stream}
use Rattle.sizes.specs.Frame.{most_words}
use Rattle.sizes.proofs.Cases.{by_range}
use Rattle.calls.specs.Counts.{counts_of, no_counts, total, count_tests, in_mask}
use Rattle.calls.specs.declared.counts.Counts.{Counts}
use Rattle.calls.specs.declared.call.Call.{Call}
use Rattle.calls.specs.Call.{strict, told, Standing, receiving, standing, terms_of, written, receiving_end, told_vector, by_default, counts_right}
use Rattle.voice.specs.Slot.{voice_refusals, stream_of, voice_of}
use Rattle.calls.proofs.GoodLaws.{good_receiver, read_written}
use Rattle.calls.proofs.OpeningGood.{heard-right}
use Rattle.voice.proofs.SlotLaws.{none_long, voice_done, voice_taken}
use Rattle.voice.proofs.SlotSteps.{voice_at}
use Rattle.openings.specs.Ladder.{session_vector, key_for}
use Rattle.openings.specs.Samples.{seed}
use Rattle.demands.specs.Marked.{scrambling}
use Rattle.demands.specs.Rates.{Layout, layout}
use Rattle.demands.specs.Demand2.{OnSlot, OnMessage, Demand2}
use Rattle.demands.specs.Others.{SameSpeech, Fixed, AsItCame, fixing, only_moves}
use Rattle.demands.proofs.MarkedVoice.{example_2}
use Rattle.octets.proofs.TestLaws.{and_false_r}
use Rattle.octets.proofs.Zeros.{zeros-octets}
use Rattle.demands.proofs.Standing.{has_key-right, slots_some, same_stream}
use Rattle.demands.proofs.Layouts.{layout_is, layout_some, ways_right}
use Rattle.demands.proofs.Samples.{silence, silence_frame, silent_long, loud, loud_frame, first-bits, seed-vector}
use Rattle.demands.proofs.SampleKeys.{key_of, book_of_three, has_key, key_long}
use Rattle.demands.proofs.Ones.{all_words, unturned, last_some}

-- where ours opens one frame it opens every other
module _ (call : Call) (mask : ℕ) (f g : List ℕ) where
  opens-too : number_of (voice_of call mask f).0 ≡ 0 → length g ≡ (layout call.terms.rate).frame → number_of (voice_of call mask g).0 ≡ 0
  unfolding voice_refusals
  opens-too z l =
      let n = voice_taken stream_of call mask f (omega arith) in
      let q : length g ≡ length f = l ∙ ap (λ (x : Layout). x.frame) (layout_is call.terms.rate) ∙ sym (none_long call mask f n) in
      ap (λ (o : Answer × (Call × List ℕ)). number_of o.0) (sym (voice_done stream_of call mask g (n.0, (n.1.0, (n.1.1.0, (n.1.1.1.0, (rw q n.1.1.1.1.0, tt)))))))
      ∙ ap (λ (o : Answer × (Call × List ℕ)). number_of o.0) (voice_done stream_of call mask f n) ∙ z

-- the counts of one that lost all slots of its session but the last
lost-right : (c : ℕ) → (1 ≤ c) × (c ≤ 3) → (m : ℕ) → counts_right receiving_end c m told_vector (session_slots c - 1) (counts_of 0 0 0 (4 * (session_slots c - 1))) ≡ true
unfolding counts_right
lost-right c r m = rw (and_false_r (eqb m by_default)) (by_range (λ c. every (count_tests (scrambles c) false (session_slots c - 1) (counts_of 0 0 0 (4 * (session_slots c - 1)))) ≡ true) refl refl refl c r)

few_lost : (c : ℕ) → (1 ≤ c) × (c ≤ 3) → (true && leb most_words (total (counts_of 0 0 0 (4 * (session_slots c - 1))))) ≡ false
few_lost = by_range (λ c. (true && leb most_words (total (counts_of 0 0 0 (4 * (session_slots c - 1))))) ≡ false) refl refl refl

turned_apart : (a b k : ℕ) → a ≡ 0 → b ≡ 1 → flip a k ≡ flip b k → ⊥
turned_apart a b k x y e = omega arith

module _ (voice : OnSlot) (send : OnMessage) where
  -- at any call and any mask with a word, where ours opens a frame f
  pub fixed_fails_2 : (call : Call) (mask w : ℕ) → w < 4 → in_mask mask w ≡ true → (f : List ℕ) → number_of (voice_of call mask f).0 ≡ 0
      → (g : List ℕ) → Fixed voice call mask g → Demand2 voice send → ⊥
  fixed_fails_2 call mask w lw h f z g fixed m =
      turned_apart (bit (silence call.terms.rate) ((layout call.terms.rate).bits * w + 0)) (bit (loud call.terms.rate) ((layout call.terms.rate).bits * w + 0)) _ (first-bits call.terms.rate w lw).0 (first-bits call.terms.rate w lw).1
      (sym ((m.voice call mask (silence call.terms.rate)).turned quiet.0 w 0 lw (layout_some call.terms.rate) h)
      ∙ quiet.1 w 0 lw (layout_some call.terms.rate) h ∙ sym (all.1 w 0 lw (layout_some call.terms.rate) h)
      ∙ (m.voice call mask (loud call.terms.rate)).turned all.0 w 0 lw (layout_some call.terms.rate) h)
    where
      quiet : (number_of (voice call mask (silence call.terms.rate)).0 ≡ 0) × SameSpeech (layout call.terms.rate) mask (voice call mask (silence call.terms.rate)).1.1 g
      quiet = fixed (silence call.terms.rate) (opens-too call mask f (silence call.terms.rate) z (silence_frame call.terms.rate).long)

      all : (number_of (voice call mask (loud call.terms.rate)).0 ≡ 0) × SameSpeech (layout call.terms.rate) mask (voice call mask (loud call.terms.rate)).1.1 g
      all = fixed (loud call.terms.rate) (opens-too call mask f (loud call.terms.rate) z (loud_frame call.terms.rate).long)

  -- what is left as it came was not turned
  left-zeros : (call : Call) → number_of (voice_of call 15 (silence call.terms.rate)).0 ≡ 0 → AsItCame voice call 15 → Demand2 voice send
      → (k : ℕ) → k < 196 → stream_of call ((layout call.terms.rate).slot * call.position + k) ≡ 0
  left-zeros call z left m =
      let rt = call.terms.rate in
      let q = left (silence rt) z in
      unturned rt (stream_of call) (bits-stream call.terms.cipher call.terms.key call.vector) ((layout rt).slot * call.position) (silence rt)
      (λ w j lw lj. sym ((m.voice call 15 (silence rt)).turned q.0 w j lw lj (all_words w lw)) ∙ q.1 w j lw lj (all_words w lw))

  module _ (c : ℕ) (r : (1 ≤ c) × (c ≤ 3)) (rt st : ℕ) (lt : rt ≤ 1) (ls : st ≤ 1) (v : List ℕ) (o : Octets v) where
    -- our receiver at the last slot of a session of this vector
    abbrev at_last : Standing
    at_last = receiving (terms_of c (key_for book_of_three c 0) rt st) (session_slots c - 1) (told (session_vector c v))

    -- it lost the slots before
    abbrev lately : Counts
    lately = counts_of 0 0 0 (4 * (session_slots c - 1))

    abbrev last : Call
    last = written lately at_last

    last-stands : standing last ≡ at_last
    last-stands =
        let l : session_slots c - 1 < session_slots c = let s = slots_some c r in omega arith in
        read_written lately at_last refl
        (good_receiver (terms_of c (key_for book_of_three c 0) rt st) (session_slots c - 1)
        (record { key = has_key-right book_of_three c 0 (key_of c) (has_key c r); terms = ways_right rt st lt ls; place = l }) (told (session_vector c v)) (heard-right c st v) lately (lost-right c r st))

    vector-octets : (t : Bool) → Octets (pick t no_vector v)
    vector-octets true = zeros-octets 8
    vector-octets false = o

    -- in the sessions of one vector at one rate and of one strictness, from slot n on: so are all slots but the first, and all sessions but the first
    pub leaves_fails_2 : (n : ℕ) → n < session_slots c
        → ((call : Call) (mask : ℕ) → call.terms.cipher ≡ c → call.terms.rate ≡ rt → call.terms.strictness ≡ st → call.vector ≡ session_vector c v → n ≤ call.position → AsItCame voice call mask)
        → Demand2 voice send → ⊥
    leaves_fails_2 n l left m =
        last_some (session_vector c v) (vector-octets (scrambles c)) rt c r
        (λ k h.
        sym (same_stream book_of_three c 0 (key_of c) (has_key c r) (key_long c r) (session_vector c v) ((layout rt).slot * (session_slots c - 1) + k))
        ∙ left-zeros last opened (left last 15 refl refl refl refl (omega arith)) m k h)
      where
        opened : number_of (voice_of last 15 (silence rt)).0 ≡ 0
        opened =
            ap (λ (a : Answer × (Call × List ℕ)). number_of a.0)
            (voice_at last 15 (silence rt) (omega arith) at_last (silent_long rt) last-stands refl (few_lost c r))

-- ---- two of them

pub fixing_fails_2 : (g : List ℕ) (send : OnMessage) → Demand2 (fixing g) send → ⊥
fixing_fails_2 g send =
    fixed_fails_2 (fixing g) send (scrambling strict 0 no_counts) 3 0 (omega arith) refl (silence 0) (ap (λ (o : Answer × (Call × List ℕ)). number_of o.0) (example_2 strict (omega arith))) g
    (λ frame z. (z, λ w j lw lj h. refl))

pub only_moves_fails_2 : (n : ℕ) → n < 8 → (send : OnMessage) → Demand2 (only_moves n) send → ⊥
only_moves_fails_2 n l send =
    leaves_fails_2 (only_moves n) send 2 (omega arith, omega arith) 0 strict (omega arith) (omega arith) seed seed-vector.octets n l
    (λ call mask c r s v at frame z. rw (le-ltb call.position n at) (z, λ w j lw lj h. refl))
