-- Receivers that the demand in the default way throws out, already by the calls of DES alone, or of AES alone, at any one rate: one that meets demand 3 and so
-- holds where the last vector was known, one that goes on with S and not L(S), one in which a carried vector wins over an announcement. And demand 3 throws out
-- those that ride.
use mathlib.Core.Path.{◌≡◌, refl, sym, ap, subst, ◌∙◌}
use mathlib.Core.Bool.{Bool, true, false, ◌&&◌, ◌||◌, not}
use mathlib.Core.Logic.{inl}
use mathlib.Core.List.{List, [], ◌∷◌, ◌++◌, map}
use Prim.Native.Nat.{ℕ, ◌+◌, ◌*◌, ◌≤◌, ◌<◌}
use native.Mathlib.Omega.{arith}
use lib.ListN.{length, get_or, replicate}
use Rattle.octets.specs.Tests.{pick}
use Rattle.octets.specs.Lists.{Each}
use Rattle.octets.specs.Bits.{flip}
use Rattle.octets.proofs.Zeros.{zeros-bit}
use Rattle.generator.specs.Generator.{next_vector}
use Rattle.generator.proofs.VectorLaws.{next-is-vector}
use Rattle.sizes.specs.Ciphers.{session_slots, no_vector, scrambles}
use Rattle.sizes.specs.Frame.{width, most_words}
use Rattle.ciphers.specs.Keystream.{stream}
use Rattle.ciphers.proofs.KeystreamLaws.{bits-stream}
use Rattle.answers.specs.declared.Answer.{Answer}
use Rattle.answers.specs.Numbers.{number_of}
use Rattle.openings.specs.Ladder.{session_vector, key_for}
use Rattle.openings.specs.Samples.{seed}
use Rattle.calls.specs.declared.call.Terms.{Terms}
use Rattle.calls.specs.Counts.{counts_of, no_counts, plus, total, lost_words}
use Rattle.calls.specs.declared.counts.Counts.{Counts}
use Rattle.calls.specs.declared.call.Call.{Call}
use Rattle.voice.specs.Frame.{of_slot}
use Rattle.calls.specs.Call.{receiving_end, carried_vector, by_default, terms_right, vector_right, Known, told, carried, Standing, receiving, standing, terms_of, call_at, no_call, written, counts_right}
use Rattle.voice.specs.Slot.{ridden, voice_of}
use Rattle.calls.proofs.CountLaws.{lost-fits}
use Rattle.voice.proofs.FrameLaws.{protect_frame}
use Rattle.calls.proofs.GoodLaws.{good_receiver, read_written}
use Rattle.voice.proofs.SlotSteps.{voice_at}
use Rattle.demands.specs.Rates.{layout}
use Rattle.demands.specs.Talk.{Session, Talk, opening, Kept}
use Rattle.demands.specs.Notices.{Notice, voice, slot_notices, start_notices, session_notices, notices_of, WithinLimit}
use Rattle.demands.specs.Log.{Receiver, events}
use Rattle.demands.specs.Demand3.{Right, ours}
use Rattle.demands.specs.Demand3Default.{since_known, default_notices, default_log, Generated, GeneratedOrAnnounced, handset}
use Rattle.demands.specs.Others.{SameSpeech, MeetsIn, MeetsDefaultIn, went_on, going_on_with, staying, stubborn, turning}
use Rattle.demands.proofs.Layouts.{ways_right, layout_speech}
use Rattle.demands.proofs.ToldSlots.{within_limit}
use Rattle.demands.proofs.Standing.{has_key-right, same_stream, eight_slots, place, place_in, place_end, place-lost, place-on, place_opened, opened-stands, place_counts}
use Rattle.demands.proofs.ReceiverMeets.{ours_meets_3, handset_meets_3}
use Rattle.demands.proofs.Settled.{due, both_settled}
use Rattle.demands.proofs.Samples.{silence, silence_frame, silent_long, saying, quiet, saying-kept, quiet-kept}
use Rattle.demands.proofs.SampleKeys.{key_of, book_of_three, has_key, key_long}
use Rattle.demands.proofs.Apart.{apart}
use Rattle.demands.proofs.Instance.{faded, faded-ridden}
use Rattle.demands.proofs.Meets2.{ours_meets_2}
use Rattle.demands.proofs.ThrownOut.{word_speech}

-- what is turned back to 0 was turned by the same
turned_back : (x y : ℕ) → x < 2 → y < 2 → flip (flip 0 x) y ≡ 0 → y ≡ x
turned_back x y l m e = omega arith

-- ---- DES or AES, at one rate

module _ (c : ℕ) (g : (1 ≤ c) × (c ≤ 3)) (n : scrambles c ≡ false) (rt : ℕ) (lt : rt ≤ 1) where
  faded-few : WithinLimit (faded c rt (silence rt)) opening
  faded-few = within_limit (faded c rt (silence rt)) (omega arith) opening

  -- no receiver meets both demands: demand 3 asks it to hold where this one asks it to ride
  pub not_both : (R : Receiver) → MeetsIn c rt R → MeetsDefaultIn Generated c rt R → ⊥
  not_both R s d =
      let t = faded c rt (silence rt) in
      let f = faded-ridden c g n rt lt (silence rt) (silence_frame rt) in
      let q = both_settled R book_of_three 0 t opening (s t refl refl f.kept book_of_three 0 (has_key c g) opening faded-few) (d t refl refl f.kept opening (λ z. f.vectors) faded-few book_of_three 0 (has_key c g)) in
      let a : get_or (map due (notices_of t opening)) 9 0 ≡ 1 = rw n in
      let b : get_or (map due (default_notices t opening)) 9 0 ≡ 0 = rw n in
      let z : ◌≡◌ {A = ℕ} 1 0 = sym a ∙ ap (λ (xs : List ℕ). get_or xs 9 0) q ∙ b in
      omega arith

  -- so a strict receiver is none for the default way, and the other way round
  pub strict_thrown_out : MeetsDefaultIn Generated c rt ours → ⊥
  strict_thrown_out = not_both ours (λ t e f. ours_meets_3 t)

  pub riding_thrown_out : MeetsIn c rt handset → ⊥
  riding_thrown_out m = not_both handset m (λ t e f. handset_meets_3 t)

  -- ---- a receiver that stands with another vector than the sender's

  abbrev terms : Terms
  terms = terms_of c (key_for book_of_three c 0) rt by_default

  right : terms_right receiving_end rt by_default ≡ true
  right = ways_right rt by_default lt (omega arith)

  eight : session_slots c ≡ 8
  eight = eight_slots c g n

  -- after p lost slots
  abbrev lost_slots : ℕ → Counts
  lost_slots p = counts_of 0 0 0 (4 * p)

  abbrev carrying : List ℕ → Call
  carrying u = call_at receiving_end terms 0 carried_vector u (lost_slots 8)

  carrying-stands : (u : List ℕ) → standing (carrying u) ≡ receiving terms 0 (carried u)
  unfolding vector_right counts_right
  carrying-stands u =
      read_written (lost_slots 8) (receiving terms 0 (carried u)) refl
      (good_receiver terms 0 (record { key = has_key-right book_of_three c 0 (key_of c) (has_key c g); terms = right; place = omega (arith, eight) }) (carried u) (rw n) (lost_slots 8) (rw n))

  -- what is on the air in the first slot of a session of vector v, all silence
  abbrev aired : List ℕ → List ℕ
  aired v = turning rt (stream c (key_of c) v) 0 15 (silence rt)

  -- opened by it, the first words have the same keystream
  same_first : (u v : List ℕ) → SameSpeech (layout rt) 15 (voice_of (carrying u) 15 (aired v)).1.1 (silence rt)
      → (k : ℕ) → k < 49 → stream c (key_of c) u k ≡ stream c (key_of c) v k
  same_first u v e k l =
      let y : (layout rt).slot * 0 + (layout rt).speech * 0 + k ≡ k = omega arith in
      let heard = (ours_meets_2.voice (carrying u) 15 (aired v)).turned done 0 k (omega arith) (omega (arith, layout_speech rt)) refl in
      let said = (saying-kept rt (silence rt) (silence_frame rt) (stream c (key_of c) v) 0 true).air.speech 0 k (omega arith) (omega (arith, layout_speech rt)) refl in
      let zero = zeros-bit (layout rt).frame ((layout rt).bits * 0 + k) in
      let same = same_stream book_of_three c 0 (key_of c) (has_key c g) (key_long c g) u k in
      turned_back _ _ (bits-stream c (key_of c) v k) (bits-stream c (key_of c) u k)
      (sym (rw (said, zero, y, same) at heard) ∙ e 0 k (omega arith) (omega (arith, layout_speech rt)) refl ∙ zero)
    where
      done : number_of (voice_of (carrying u) 15 (aired v)).0 ≡ 0
      done =
          ap (λ (o : Answer × (Call × List ℕ)). number_of o.0)
          (voice_at (carrying u) 15 (aired v) (omega arith) (receiving terms 0 (carried u))
          (protect_frame (width rt) (of_slot (width rt) (stream c (key_of c) v) 0) 15 (silence rt) (silent_long rt)).long (carrying-stands u) refl refl)

  -- ---- a session of S of which every slot is lost, and a slot of the next one

  abbrev second_of : List ℕ → Bool → Session
  second_of v announced = record { vector = v; announced = announced; slots = quiet rt (stream c (key_of c) v) 0 (true ∷ []) }

  abbrev two : List ℕ → Bool → Talk
  two v announced =
      record {
        cipher = c;
        rate = rt;
        key = key_of c;
        sessions = record { vector = seed; announced = false; slots = quiet rt (stream c (key_of c) seed) 0 (replicate 8 false) } ∷ second_of v announced ∷ [];
      }

  two-kept : (v : List ℕ) → length v ≡ 8 → (announced : Bool) → Kept (two v announced)
  two-kept v l announced =
      record {
        rate = lt;
        key = key_long c g;
        each = (
          record { vector = refl; slots = quiet-kept rt (stream c (key_of c) seed) 0 (replicate 8 false) },
          (record { vector = l; slots = quiet-kept rt (stream c (key_of c) v) 0 (true ∷ []) }, tt),
        );
        full = (sym eight, omega (arith, eight));
      }

  module _ (f : List ℕ → List ℕ) (announce : List ℕ → Call → Answer × Call) where
    abbrev R : Receiver
    R = going_on_with f announce

    abbrev on : Call → Call
    on s = (R.lost s).1

    abbrev opened : Known
    opened = told (session_vector c seed)

    -- it stands at slot p, with S
    record At (p : ℕ) (s : Call) : Type 0 where
      is : s ≡ written (lost_slots p) (place terms opened p)
      stands : standing s ≡ place terms opened p

    at_first : At 0 (R.hear c 0 rt seed book_of_three no_call).1
    at_first =
        let o = ap (λ (o : Answer × Call). o.1) (place_opened book_of_three c 0 (key_of c) (has_key c g) rt by_default right seed refl) in
        let s = opened-stands book_of_three c 0 (key_of c) (has_key c g) rt by_default right seed refl in
        record { is = o ∙ ap (written no_counts) (sym (place_in terms opened 0 (omega (arith, eight)))); stands = ap standing o ∙ s }

    -- its counts
    module _ (p : ℕ) where
      counted : (s : Call) → At p s → s.counts ≡ lost_slots p
      counted s a = ap (λ (d : Call). d.counts) a.is ∙ place_counts terms opened (lost_slots p) p

      few : p < 8 → (s : Call) → At p s → total s.counts < most_words
      few l s a = rw (counted s a) (omega arith)

      lost-one : (s : Call) → At p s → plus s.counts lost_words ≡ lost_slots (p + 1)
      lost-one s a =
          let e : 4 * p + 4 ≡ 4 * (p + 1) = omega arith in
          rw (counted s a, e)

    at_next : (p : ℕ) → p < 7 → (s : Call) → At p s → At (p + 1) (on s)
    at_next p l s a =
        let l' : p < session_slots c = omega (arith, eight) in
        let room = few p (omega arith) s a in
        let q : on s ≡ written (lost_slots (p + 1)) (place terms opened (p + 1)) =
        ap (λ (o : Answer × Call). went_on f s o.1) (place-lost terms opened p l' s a.stands room)
        ∙ ap (λ (m : Counts). went_on f s (written m (place terms opened (p + 1)))) (lost-one p s a)
        ∙ ap (λ (x : Standing). went_on f s (written (lost_slots (p + 1)) x)) (place_in terms opened (p + 1) (omega (arith, eight)))
        ∙ ap (written (lost_slots (p + 1))) (sym (place_in terms opened (p + 1) (omega (arith, eight)))) in
        let stood = place-on terms opened p l' s a.stands room lost_words (lost-fits true) in
        record { is = q; stands = ap standing q ∙ rw (lost-one p s a) at stood }

    at-end : (s : Call) → At 7 s → on s ≡ carrying (f seed)
    at-end s a =
        ap (λ (o : Answer × Call). went_on f s o.1) (place-lost terms opened 7 (omega (arith, eight)) s a.stands (few 7 (omega arith) s a))
        ∙ ap (λ (m : Counts). went_on f s (written m (place terms opened 8))) (lost-one 7 s a)
        ∙ ap (λ (x : Standing). went_on f s (written (lost_slots 8) x)) (place_end terms opened 8 (sym eight))
        ∙ ap (λ (x : Known). went_on f s (written (lost_slots 8) (receiving terms 0 x))) riding
        ∙ ap (λ (d : Call). went_on f d (carrying (next_vector (session_vector c seed)))) last
        ∙ ap (λ (u : Bool). carrying (f (pick u no_vector seed))) n
      where
        riding : ridden terms opened ≡ carried (next_vector (session_vector c seed))
        riding = rw n

        last : s ≡ written (lost_slots 7) (receiving terms 7 opened)
        last = a.is ∙ ap (written (lost_slots 7)) (place_in terms opened 7 (omega (arith, eight)))

    eight-lost : on (on (on (on (on (on (on (on (R.hear c 0 rt seed book_of_three no_call).1))))))) ≡ carrying (f seed)
    eight-lost =
        at-end _
        (at_next 6 (omega arith) _
        (at_next 5 (omega arith) _
        (at_next 4 (omega arith) _ (at_next 3 (omega arith) _ (at_next 2 (omega arith) _ (at_next 1 (omega arith) _ (at_next 0 (omega arith) _ at_first)))))))

    -- what it is told after that
    abbrev rest : List ℕ → Bool → List Notice
    rest v announced = since_known true (session_notices c (second_of v announced ∷ []))

    at_second : (v : List ℕ) (announced : Bool) → Each Right (default_log R book_of_three 0 (two v announced) opening)
        → Each Right (events R book_of_three c 0 rt (carrying (f seed)) (rest v announced))
    at_second v announced h = subst (λ (s : Call). Each Right (events R book_of_three c 0 rt s (rest v announced))) eight-lost h.1.1.1.1.1.1.1.1.1

    -- a slot that is opened right there
    first-right : (v : List ℕ) → Each Right (events R book_of_three c 0 rt (carrying (f seed)) (voice true (saying turning rt (silence rt) (stream c (key_of c) v) 0 true) ∷ []))
        → (k : ℕ) → k < 49 → stream c (key_of c) (f seed) k ≡ stream c (key_of c) v k
    first-right v h = same_first (f seed) v (word_speech rt 15 _ (silence rt) (h.0.opened (h.0.handed refl)))

  -- on S, and not L(S)
  pub staying_thrown_out : MeetsDefaultIn Generated c rt staying → ⊥
  staying_thrown_out m =
      let h = m (two (next_vector seed) false) refl refl (two-kept (next_vector seed) (next-is-vector seed).long false) opening (λ z. (refl, tt)) (within_limit (two (next_vector seed) false) (omega arith) opening) book_of_three 0 (has_key c g) in
      let a = apart c g n in
      a.2 (first-right (λ v. v) handset.announce (next_vector seed) (not-told (scrambles c) n (at_second (λ v. v) handset.announce (next_vector seed) false h)) a.0 a.1)
    where
      not-told : (u : Bool) → u ≡ false
          → Each Right (events staying book_of_three c 0 rt (carrying seed) (since_known true (start_notices (not u && false) (next_vector seed) ++ (slot_notices (u || false) (second_of (next_vector seed) false).slots ++ []))))
          → Each Right (events staying book_of_three c 0 rt (carrying seed) (voice true (saying turning rt (silence rt) (stream c (key_of c) (next_vector seed)) 0 true) ∷ []))
      not-told true e h = h
      not-told false e h = h

  -- the announced vector does not win
  pub stubborn_thrown_out : MeetsDefaultIn GeneratedOrAnnounced c rt stubborn → ⊥
  stubborn_thrown_out m =
      let h = m (two seed true) refl refl (two-kept seed refl true) opening (λ z. (inl refl, tt)) (within_limit (two seed true) (omega arith) opening) book_of_three 0 (has_key c g) in
      let a = apart c g n in
      a.2 (sym (first-right next_vector stubborn.announce seed (told-in-vain (scrambles c) n (at_second next_vector stubborn.announce seed true h)) a.0 a.1))
    where
      told-in-vain : (u : Bool) → u ≡ false
          → Each Right (events stubborn book_of_three c 0 rt (carrying (next_vector seed)) (since_known true (start_notices (not u && true) seed ++ (slot_notices (u || true) (second_of seed true).slots ++ []))))
          → Each Right (events stubborn book_of_three c 0 rt (carrying (next_vector seed)) (voice true (saying turning rt (silence rt) (stream c (key_of c) seed) 0 true) ∷ []))
      told-in-vain true e h = h
      told-in-vain false e h = h.1
