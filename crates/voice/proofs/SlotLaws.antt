-- Slots of a call, as the code goes through them.
use mathlib.Core.Path.{◌≡◌, refl, sym, ap, ap₂, ◌∙◌}
use mathlib.Core.Bool.{Bool, true, false, not, true≢false, ◌&&◌}
use mathlib.Core.List.{List}
use Rattle.std.specs.Prelude.{Result, Ok, Err}
use Prim.Native.Nat.{ℕ, ◌+◌, ◌*◌, ◌/◌, ◌%◌, ◌≤◌, ◌<◌}
use native.Mathlib.Omega.{arith}
use lib.Dec.{ltb, eqb, leb}
use lib.ListN.{length}
use borrow.Author.Tests.{eq-eqb, eqb-false, eqb-true, le-leb, lt-leb, leb-true, leb-false, lt-ltb, le-ltb, not-true, not-false}
use Rattle.sizes.proofs.SizeLaws.{slots-at-most, slot_held}
use Rattle.ciphers.proofs.KeystreamLaws.{bits-stream}
use Rattle.octets.specs.Tests.{pick}
use Rattle.octets.specs.Bits.{bit, octets_from}
use Rattle.octets.proofs.BitLaws.{bit-octets_from}
use Rattle.octets.proofs.TestLaws.{and_right}
use Rattle.generator.specs.Generator.{next_vector}
use Rattle.sizes.specs.Ciphers.{session_slots, no_vector, scrambles}
use Rattle.answers.specs.declared.Answer.{Answer}
use Rattle.answers.specs.declared.Answer.TheVariants.{Done, Held, WrongLength}
use Rattle.answers.specs.Numbers.{number_of}
use Rattle.answers.specs.Outcomes.{Refusals, settled}
use Rattle.answers.proofs.OutcomeLaws.{NoneHolds, none_settles, in_a_row, or_last, refused_alike, Refuses, answer_at, refused_at, Refusal, from_two, among_refuses, by_refusals, around}
use Rattle.calls.specs.declared.counts.Counts.{Counts}
use Rattle.calls.specs.declared.call.Terms.{Terms}
use Rattle.calls.specs.declared.call.Call.{Call}
use Rattle.sizes.specs.Frame.{frame_octets, slot_bits, slot_octets, session_bits, session_octets, most_words}
use Rattle.octets.proofs.Words.{word-ends}
use Rattle.voice.specs.Frame.{of_slot, protect}
use Rattle.calls.specs.Call.{closed_end, receiving_end, unknown_vector, carried_vector, by_default, good_call, carried, is_known, known_number, known_vector, known_by, untold, Standing, sending, receiving, standing, call_at, width_of, written, width_in, stands, receives, knows}
use Rattle.calls.specs.Counts.{no_counts, plus, total, lost_words, arrived_words}
use Rattle.voice.specs.Slot.{going_on, rides, ridden, slot_on, is_full, lost_refusals, lost_of, top_mask, voice_refusals, stream_of, in_slot, voice_after, voice_by, voice_of, short_refusals, voice_by_octets}
use Rattle.voice.specs.declared.slot.Slot.{Slot}
use Rattle.voice.specs.Told.{held_of, slot_of}
use Rattle.voice.proofs.FrameLaws.{protect_same}
use Rattle.voice.proofs.ToldLaws.{held_told, slot_told, slot_refuses, slot_is, refused_as}
use Rattle.calls.proofs.CallLaws.{knows-good, unless_receiver, counts_most, is_known_lem, known-vector, untold-is, by_stands, is_receiver, good_by, knows-is, not_bad, stands-none, stands_some, width_in_lem, inside, known_written}

-- ---- a receiver as its next session starts

module _ (t : Terms) (n : ℕ) (v : List ℕ) {b : Bool} (e : b ≡ rides t (not (eqb n unknown_vector))) where
  riding : rides t (is_known (known_by n v)) ≡ b
  riding = ap (rides t) (is_known_lem n v).0 ∙ sym e

  pub ridden_carries : b ≡ true → (u : List ℕ) → u ≡ next_vector v → (m : Counts) → call_at receiving_end t 0 carried_vector u m ≡ written m (receiving t 0 (ridden t (known_by n v)))
  ridden_carries q u f m =
      let some = not-true _ (and_right (eqb t.strictness by_default) _ (and_right (not (scrambles t.cipher)) _ (sym e ∙ q))) in
      rw (riding ∙ q, known-vector n v some, f)

  pub ridden-untold : b ≡ false → {k : ℕ} → k ≡ known_number (untold t.cipher) → (m : Counts) → call_at receiving_end t 0 k no_vector m ≡ written m (receiving t 0 (ridden t (known_by n v)))
  ridden-untold q f m =
      untold-is t 0 m f
      ∙ ap (λ (x : Bool). written m (receiving t 0 (pick x (carried (next_vector (known_vector (known_by n v)))) (untold t.cipher)))) (sym (riding ∙ q))

-- ---- a sender's slot

-- it counts nothing
pub sent_alike : (t : Terms) (p : ℕ) (v : List ℕ) (n : Counts) → written no_counts (slot_on (sending t p v)) ≡ written n (slot_on (sending t p v))
unfolding slot_on
sent_alike t p v n = go (ltb (p + 1) (session_slots t.cipher))
  where
    on : Bool → Standing
    on b = pick b (sending t (p + 1) v) (sending t 0 (going_on t.cipher v))

    go : (b : Bool) → written no_counts (on b) ≡ written n (on b)
    go true = refl
    go false = refl

-- ---- the limit

module _ (c : Call) (good : good_call c ≡ true) where
  pub not_full : (c.end ≡ receiving_end → total c.counts < most_words) → is_full (standing c) c.counts ≡ false
  not_full room = by_stands c good (λ o e s. rw s) (λ o e s. rw s) (λ o e s. rw s (lt-leb _ _ (room e)))

  pub is-full : c.end ≡ receiving_end → most_words ≤ total c.counts → is_full (standing c) c.counts ≡ true
  is-full e l = rw (is_receiver c good e) (le-leb _ _ l)

  -- the limit is a receiver's
  pub full_is : is_full (standing c) c.counts ≡ true → (c.end ≡ receiving_end) × (total c.counts ≡ most_words)
  full_is f =
      by_stands c good (λ o e s. absurd (true≢false (sym f ∙ rw s))) (λ o e s. absurd (true≢false (sym f ∙ rw s)))
      (λ o e s. (e, omega (arith, counts_most c good, leb-true most_words (total c.counts) (rw s at f))))

  -- as the code tests it
  pub full_by : is_full (standing c) c.counts ≡ (eqb c.end receiving_end && leb most_words (total c.counts))
  full_by = go (eqb c.end receiving_end) refl
    where
      go : (t : Bool) → eqb c.end receiving_end ≡ t → is_full (standing c) c.counts ≡ (t && leb most_words (total c.counts))
      go true e = rw (is_receiver c good (eqb-true _ _ e))
      go false e = rw (unless_receiver c good receives refl (λ t p v. refl) (eqb-false _ _ e))

  pub below_limit : is_full (standing c) c.counts ≡ false → c.end ≡ receiving_end → total c.counts < most_words
  below_limit f e = leb-false _ _ (rw (is_receiver c good e) at f)

-- ---- a lost slot

module _ (c : Call) where
  pub lost_refused : (n : ℕ) → Refuses (lost_refusals c) n → (answer_at (lost_refusals c) n, c) ≡ lost_of c
  unfolding lost_of
  lost_refused = refused_at c (lost_refusals c) (Done, written (plus c.counts lost_words) (slot_on (standing c)))

  pub lost_done : NoneHolds (lost_refusals c) → (Done, written (plus c.counts lost_words) (slot_on (standing c))) ≡ lost_of c
  unfolding lost_of
  lost_done n = sym (none_settles (lost_refusals c) c (Done, written (plus c.counts lost_words) (slot_on (standing c))) n)

-- ---- voice

-- as many octets as a slot needs hold it from the one on in which it begins
pub slot_room : (c : Call) {width from size : ℕ} → width ≡ width_of c.terms → from ≡ slot_bits width * c.position → size ≡ slot_octets (width_of c.terms)
    → from % 8 + slot_bits width ≤ 8 * size
slot_room c its f long = rw (f, its, long) (slot_held c.terms.rate c.position)

-- a slot's own octets, from the one on in which it begins, turn the frame as its session does
pub by_slot : (c : Call) (mask : ℕ) (frame slot g : List ℕ) (width from size : ℕ) → width ≡ width_of c.terms → from % 8 + slot_bits width ≤ 8 * size
    → from ≡ slot_bits width * c.position → slot ≡ octets_from size (λ n. stream_of c (8 * (from / 8) + n)) → g ≡ protect width (λ n. bit slot (from % 8 + n)) mask frame
    → g ≡ in_slot stream_of mask frame c
by_slot c mask frame slot g width from size its room f e h =
    h
    ∙ protect_same width (λ n. bit slot (from % 8 + n)) (of_slot width (stream_of c) c.position) mask
    (λ n l.
    let at : 8 * (from / 8) + (from % 8 + n) ≡ slot_bits width * c.position + n = omega arith in
    ap (λ (xs : List ℕ). bit xs (from % 8 + n)) e
    ∙ bit-octets_from size (λ i. stream_of c (8 * (from / 8) + i)) (λ i. bits-stream c.terms.cipher c.terms.key c.vector (8 * (from / 8) + i)) (from % 8 + n) (omega arith)
    ∙ ap (stream_of c) at)
    frame
    ∙ ap (λ (w : ℕ). protect w (of_slot w (stream_of c) c.position) mask frame) its

-- and so do a session's octets, from the slot's place on
pub by_octets : (session : List ℕ) (c : Call) (mask : ℕ) (frame g : List ℕ) (width from : ℕ) → width ≡ width_of c.terms → from ≡ slot_bits width * c.position
    → g ≡ protect width (λ n. bit session (from + n)) mask frame → g ≡ in_slot (λ d. bit session) mask frame c
by_octets session c mask frame g width from its f h =
    h
    ∙ ap (λ (z : ℕ). protect width (λ n. bit session (z + n)) mask frame) f
    ∙ ap (λ (w : ℕ). protect w (of_slot w (bit session) c.position) mask frame) its

-- a slot ends where its session does, or before: no session has more than 8 slots
pub slot-fits : (width c p : ℕ) → p < session_slots c → slot_bits width * p + slot_bits width ≤ session_bits width
slot-fits width c p l = word-ends (slot_bits width) p 8 (omega (arith, slots-at-most c))

-- ---- what nothing refuses

module _ (c : Call) (mask : ℕ) (frame : List ℕ) where
  -- no refusal is 0 or 1
  from-two : from_two (voice_refusals c mask frame) ≡ true
  unfolding voice_refusals
  from-two = refl

  module _ (n : NoneHolds (voice_refusals c mask frame)) where
    pub none-good : good_call c ≡ true
    unfolding voice_refusals
    none-good = good_by c n.1.0

    none-stands : not (stands (standing c)) ≡ false
    unfolding voice_refusals
    none-stands = n.1.1.0

    pub none_open : c.end ≡ closed_end → ⊥
    none_open z = true≢false (sym (stands-none c none-good z) ∙ none-stands)

    pub none_long : length frame ≡ frame_octets (width_of c.terms)
    unfolding voice_refusals
    none_long = eqb-true _ _ (not-false _ n.1.1.1.1.0) ∙ ap frame_octets (width_in_lem c none-good none_open)

    pub none-full : is_full (standing c) c.counts ≡ false
    unfolding voice_refusals
    none-full = n.1.1.1.0

-- ---- whatever gives the session's bits

-- a slot that is taken is answered 0 or 1
pub taken-under-two : (knows : Bool) → number_of (pick knows Done Held) < 2
taken-under-two true = omega arith
taken-under-two false = omega arith

module _ (st : Call → ℕ → ℕ) (c : Call) (mask : ℕ) (frame : List ℕ) where
  pub voice_refused : (n : ℕ) → Refuses (voice_refusals c mask frame) n
      → (answer_at (voice_refusals c mask frame) n, (c, frame)) ≡ voice_by st c mask frame
  unfolding voice_by
  voice_refused = refused_at (c, frame) (voice_refusals c mask frame) (voice_after st mask frame c.counts (standing c))

  pub voice_done : NoneHolds (voice_refusals c mask frame) → voice_after st mask frame c.counts (standing c) ≡ voice_by st c mask frame
  unfolding voice_by
  voice_done n = sym (none_settles (voice_refusals c mask frame) (c, frame) (voice_after st mask frame c.counts (standing c)) n)

  -- what holds of every refusal, 2 and up, and of a slot that is taken, holds of the outcome
  pub by_voice : (P : Answer × (Call × List ℕ) → Type 0) → ((a : Answer) → Refusal a → P (a, (c, frame)))
      → (NoneHolds (voice_refusals c mask frame) → P (voice_after st mask frame c.counts (standing c))) → P (voice_by st c mask frame)
  unfolding voice_by
  by_voice P f =
      by_refusals P (c, frame) (voice_refusals c mask frame) (voice_after st mask frame c.counts (standing c))
      (λ a m. f a (among_refuses a (voice_refusals c mask frame) (from-two c mask frame) m))

  -- a slot that is answered 0 or 1 is refused by nothing
  pub voice_taken : number_of (voice_by st c mask frame).0 < 2 → NoneHolds (voice_refusals c mask frame)
  voice_taken =
      by_voice (λ o. number_of o.0 < 2 → NoneHolds (voice_refusals c mask frame)) (λ a r l. absurd (omega arith)) (λ n l. n)

  -- answer 0: the frame is the slot's turning of it by the bits of the call's own session, at either end
  pub done_turned : number_of (voice_by st c mask frame).0 ≡ 0 → (voice_by st c mask frame).1.1 ≡ in_slot st mask frame c
  done_turned =
      by_voice (λ o. number_of o.0 ≡ 0 → o.1.1 ≡ in_slot st mask frame c) (λ a r z. absurd (omega arith)) (λ n. go (knows (standing c)) refl)
    where
      go : (t : Bool) → knows (standing c) ≡ t → number_of (pick t Done Held) ≡ 0 → pick t (in_slot st mask frame (written c.counts (standing c))) frame ≡ in_slot st mask frame c
      go true k z = ap (in_slot st mask frame) (known_written c k)
      go false k z = absurd (omega arith)

  -- any other answer: the frame is as it came
  pub undone_stays : (number_of (voice_by st c mask frame).0 ≡ 0 → ⊥) → (voice_by st c mask frame).1.1 ≡ frame
  undone_stays = by_voice (λ o. (number_of o.0 ≡ 0 → ⊥) → o.1.1 ≡ frame) (λ a r n. refl) (λ h. go (knows (standing c)))
    where
      go : (t : Bool) → (number_of (pick t Done Held) ≡ 0 → ⊥) → pick t (in_slot st mask frame (written c.counts (standing c))) frame ≡ frame
      go true n = absurd (n refl)
      go false n = refl

-- an outcome, the frame aside
abbrev pub without_frame : Answer × (Call × List ℕ) → Answer × Call
without_frame o = (o.0, o.1.0)

-- the answer and the call after it rest on no bit of the session
pub voice_beside : (st su : Call → ℕ → ℕ) (c : Call) (mask : ℕ) (frame : List ℕ)
    → without_frame (voice_by st c mask frame) ≡ without_frame (voice_by su c mask frame)
unfolding voice_by
voice_beside st su c mask frame =
    around call (c, frame) refusals (voice_after st mask frame c.counts (standing c))
    ∙ sym (around call (c, frame) refusals (voice_after su mask frame c.counts (standing c)))
  where
    refusals : Refusals
    refusals = voice_refusals c mask frame

    call : Call × List ℕ → Call
    call r = r.0

-- ---- by lent octets

module _ (session : List ℕ) (c : Call) (mask : ℕ) (frame : List ℕ) where
  abbrev lent : Answer × (Call × List ℕ)
  lent = voice_by (λ d. bit session) c mask frame

  -- the slot by octets enough, but where there are too few
  lent_is : voice_by_octets session c mask frame
      ≡ settled (c, frame) (voice_refusals c mask frame)
      (pick (ltb (length session) (session_octets (width_in (standing c)))) (WrongLength, (c, frame)) (voice_after (λ d. bit session) mask frame c.counts (standing c)))
  unfolding voice_by_octets short_refusals
  lent_is = in_a_row (voice_refusals c mask frame) (short_refusals (standing c) session) (c, frame) (voice_after (λ d. bit session) mask frame c.counts (standing c))

  -- what is refused as every slot is
  pub by_refused : Refusal lent.0 → voice_by_octets session c mask frame ≡ lent
  unfolding voice_by
  by_refused r =
      lent_is
      ∙ refused_alike (c, frame) (voice_refusals c mask frame) _ (voice_after (λ d. bit session) mask frame c.counts (standing c)) (taken-under-two (knows (standing c))) r

  pub by_long : session_octets (width_in (standing c)) ≤ length session → voice_by_octets session c mask frame ≡ lent
  unfolding voice_by
  by_long l = lent_is ∙ rw (le-ltb _ _ l)

  pub by_short : NoneHolds (voice_refusals c mask frame) → length session < session_octets (width_in (standing c))
      → (WrongLength, (c, frame)) ≡ voice_by_octets session c mask frame
  by_short n l = sym (lent_is ∙ none_settles (voice_refusals c mask frame) (c, frame) _ n ∙ rw (lt-ltb _ _ l))

  -- what holds of 2 with all as it was, and of the slot by octets enough, holds of the outcome
  pub by_lent : (P : Answer × (Call × List ℕ) → Type 0) → P (WrongLength, (c, frame)) → P lent → P (voice_by_octets session c mask frame)
  unfolding voice_by
  by_lent P short long = rw lent_is (go (ltb (length session) (session_octets (width_in (standing c)))))
    where
      go : (t : Bool) → P (settled (c, frame) (voice_refusals c mask frame) (pick t (WrongLength, (c, frame)) (voice_after (λ d. bit session) mask frame c.counts (standing c))))
      go true = or_last P (c, frame) (voice_refusals c mask frame) (WrongLength, (c, frame)) (voice_after (λ d. bit session) mask frame c.counts (standing c)) short long
      go false = long

  -- any answer but 0: the frame is as it came
  pub lent_stays : (number_of (voice_by_octets session c mask frame).0 ≡ 0 → ⊥) → (voice_by_octets session c mask frame).1.1 ≡ frame
  lent_stays = by_lent (λ o. (number_of o.0 ≡ 0 → ⊥) → o.1.1 ≡ frame) (λ n. refl) (undone_stays (λ d. bit session) c mask frame)

-- ---- as the code goes

module _ (c : Call) (mask : ℕ) (frame : List ℕ) where
  -- the answer
  pub answer_refused : (n : ℕ) → Refuses (voice_refusals c mask frame) n
      → answer_at (voice_refusals c mask frame) n ≡ (voice_of c mask frame).0
  answer_refused n r = ap (λ (o : Answer × (Call × List ℕ)). o.0) (voice_refused stream_of c mask frame n r)

  module _ (l : length frame ≡ frame_octets (width_of c.terms)) (m : mask ≤ top_mask) (good : good_call c ≡ true) where
    -- 0 where the vector is known, else 1
    pub answer_taken : (t : Bool) → (c.end ≡ closed_end → ⊥) → is_full (standing c) c.counts ≡ false → knows (standing c) ≡ t → pick t Done Held ≡ (voice_of c mask frame).0
    unfolding voice_refusals
    answer_taken t o room k =
        ap (λ (u : Bool). pick u Done Held) (sym k)
        ∙ ap (λ (r : Answer × (Call × List ℕ)). r.0)
        (voice_done stream_of c mask frame (le-ltb _ _ m, (not_bad c good, (stands_some c good o, (room, (ap not (eq-eqb _ _ (l ∙ ap frame_octets (sym (width_in_lem c good o)))), tt))))))

    -- held where the call says that it is unknown
    pub held_taken : (c.end ≡ closed_end → ⊥) → is_full (standing c) c.counts ≡ false → Ok (eqb c.known unknown_vector) ≡ held_of (voice_of c mask frame).0
    held_taken o room = go (eqb c.known unknown_vector) (knows-is c good)
      where
        go : (t : Bool) → knows (standing c) ≡ not t → Ok t ≡ held_of (voice_of c mask frame).0
        go true k = ap held_of (answer_taken false o room k)
        go false k = ap held_of (answer_taken true o room k)

  -- a receiver's, as the code tests it
  pub taken_done : knows (standing c) ≡ true → mask ≤ top_mask → c.end ≡ receiving_end → is_full (standing c) c.counts ≡ false → length frame ≡ frame_octets (width_of c.terms)
      → (c.end ≡ receiving_end) × (Done ≡ (voice_of c mask frame).0)
  taken_done k m e room l = (e, answer_taken l m (knows-good c k) true (λ z. omega arith) room k)

  -- what is held or not is refused by nothing
  module _ {r : Result Bool Answer} (e : r ≡ held_of (voice_of c mask frame).0) where
    module _ {h : Bool} (p : r ≡ Ok h) where
      its-held : (number_of (voice_of c mask frame).0 < 2) × (h ≡ eqb (number_of (voice_of c mask frame).0) 1)
      its-held = held_told (voice_of c mask frame).0 (sym e ∙ p)

      pub taken_none : NoneHolds (voice_refusals c mask frame)
      taken_none = voice_taken stream_of c mask frame its-held.0

      -- and says whether the vector is known
      held-knows : not h ≡ knows (standing c)
      held-knows =
          ap not its-held.1
          ∙ sym (ap (λ (o : Answer × (Call × List ℕ)). not (eqb (number_of o.0) 1)) (voice_done stream_of c mask frame taken_none))
          ∙ go (knows (standing c))
        where
          go : (t : Bool) → not (eqb (number_of (pick t Done Held)) 1) ≡ t
          go true = refl
          go false = refl

      -- the call after it
      taken-call : {w : Counts} → w ≡ arrived_words mask (not h) → {d : Call} → d ≡ written (plus c.counts w) (slot_on (standing c)) → d ≡ (voice_of c mask frame).1.0
      taken-call g f =
          f
          ∙ ap (λ (w : Counts). written (plus c.counts w) (slot_on (standing c))) (g ∙ ap (arrived_words mask) held-knows)
          ∙ ap (λ (o : Answer × (Call × List ℕ)). o.1.0) (voice_done stream_of c mask frame taken_none)

      pub slot_taken : {w : Counts} → w ≡ arrived_words mask (not h) → {d : Call} → d ≡ written (plus c.counts w) (slot_on (standing c))
          → Ok (record { held = h; call = d }) ≡ (slot_of (voice_of c mask frame)).0
      slot_taken g f = slot_is (voice_of c mask frame) its-held.0 its-held.1 (taken-call g f)

    pub slot_refused : {a : Answer} → r ≡ Err a → Err a ≡ (slot_of (voice_of c mask frame)).0
    slot_refused p = refused_as (voice_of c mask frame) (sym e ∙ p)

-- the frame, after a slot's step
module _ (st : Call → ℕ → ℕ) (c : Call) (mask : ℕ) (frame : List ℕ) {r : Result Slot Answer} (stepped : r ≡ (slot_of (voice_of c mask frame)).0) where
  abbrev after : Answer × (Call × List ℕ)
  after = voice_by st c mask frame

  -- the step rests on no bit of the session
  step-by : r ≡ (slot_of after).0
  step-by = stepped ∙ ap (λ (o : Answer × Call). (slot_of (o.0, (o.1, frame))).0) (voice_beside stream_of st c mask frame)

  with-frame : {g : List ℕ} → g ≡ after.1.1 → (r, g) ≡ slot_of after
  with-frame f = ap₂ (λ (s : Result Slot Answer) (g : List ℕ). (s, g)) step-by f

  module _ {a : Answer} (p : r ≡ Err a) where
    pub step-refuses : Refusal after.0
    step-refuses = slot_refuses after (sym step-by ∙ p)

    pub frame_refused : (Err a, frame) ≡ slot_of after
    frame_refused = rw (← p) (with-frame (sym (undone_stays st c mask frame (λ z. let n = step-refuses in omega arith))))

  module _ {s : Slot} (p : r ≡ Ok s) where
    its-slot : (number_of after.0 < 2) × (s.held ≡ eqb (number_of after.0) 1) × (s.call ≡ after.1.0)
    its-slot = slot_told after (sym step-by ∙ p)

    pub none-refused : NoneHolds (voice_refusals c mask frame)
    none-refused = voice_taken st c mask frame its-slot.0

    pub turned_long : length frame ≡ frame_octets (width_of c.terms)
    turned_long = none_long c mask frame none-refused

    pub turned_inside : c.position < session_slots c.terms.cipher
    turned_inside = inside c (none-good c mask frame none-refused) (none_open c mask frame none-refused)

    pub frame_stays : s.held ≡ true → (Ok s, frame) ≡ slot_of after
    frame_stays h = rw (← p) (with-frame (sym (undone_stays st c mask frame (λ z. let o = eqb-true (number_of after.0) 1 (sym its-slot.1 ∙ h) in omega arith))))

    pub frame_turned : s.held ≡ false → {g : List ℕ} → g ≡ in_slot st mask frame c → (Ok s, g) ≡ slot_of after
    frame_turned h t =
        rw (← p)
        (with-frame
        (t ∙ sym (done_turned st c mask frame (let n = eqb-false (number_of after.0) 1 (sym its-slot.1 ∙ h) in let l = its-slot.0 in omega arith))))

-- by lent octets
module _ (session : List ℕ) (c : Call) (mask : ℕ) (frame : List ℕ) {r : Result Slot Answer} (stepped : r ≡ (slot_of (voice_of c mask frame)).0) where
  abbrev lent-bits : Call → ℕ → ℕ
  lent-bits d = bit session

  pub lent_refused : {a : Answer} → r ≡ Err a → (Err a, frame) ≡ slot_of (voice_by_octets session c mask frame)
  lent_refused p =
      frame_refused lent-bits c mask frame stepped p
      ∙ ap slot_of (sym (by_refused session c mask frame (step-refuses lent-bits c mask frame stepped p)))

  module _ {s : Slot} (p : r ≡ Ok s) where
    none : NoneHolds (voice_refusals c mask frame)
    none = none-refused lent-bits c mask frame stepped p

    its : width_in (standing c) ≡ width_of c.terms
    its = width_in_lem c (none-good c mask frame none) (none_open c mask frame none)

    pub lent_short : length session < session_octets (width_of c.terms) → (Err WrongLength, frame) ≡ slot_of (voice_by_octets session c mask frame)
    lent_short l = ap slot_of (by_short session c mask frame none (rw its l))

    module _ (l : session_octets (width_of c.terms) ≤ length session) where
      enough : slot_of (voice_by lent-bits c mask frame) ≡ slot_of (voice_by_octets session c mask frame)
      enough = ap slot_of (sym (by_long session c mask frame (rw its l)))

      pub lent-held : s.held ≡ true → (Ok s, frame) ≡ slot_of (voice_by_octets session c mask frame)
      lent-held h = frame_stays lent-bits c mask frame stepped p h ∙ enough

      pub lent-turned : s.held ≡ false → {g : List ℕ} → g ≡ in_slot lent-bits mask frame c → (Ok s, g) ≡ slot_of (voice_by_octets session c mask frame)
      lent-turned h t = frame_turned lent-bits c mask frame stepped p h t ∙ enough
