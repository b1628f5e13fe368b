-- Receivers that do not meet demand 3, nor the demand in the default way, already by the calls of any one cipher at any one rate; and senders that do not keep
-- its rules.
use mathlib.Core.Path.{◌≡◌, refl, sym, ap, subst, ◌∙◌}
use mathlib.Core.Bool.{Bool, true, false, ◌&&◌, ◌||◌, not, or-true}
use mathlib.Core.Logic.{inl, inr}
use mathlib.Core.List.{List, [], ◌∷◌, ◌++◌, append-nil}
use Prim.Native.Nat.{ℕ, zero, suc, ◌+◌, ◌*◌, ◌≤◌, ◌<◌, ◌-◌, ◌/◌}
use native.Mathlib.Nat.{mul-zero, mul-suc, zero-add}
use native.Mathlib.Omega.{arith}
use borrow.Author.Tests.{le-ltb}
use lib.ListN.{length, replicate, length-replicate, length-append}
use Rattle.octets.specs.Lists.{replaced, iterate, Each}
use Rattle.octets.specs.Bits.{octet, octets_from, Octets}
use Rattle.octets.specs.Turn.{within, turned, turned_in}
use Rattle.octets.proofs.TestLaws.{and_false_r}
use Rattle.scramble.specs.Sequence.{key_number, stepped, P}
use Rattle.generator.specs.Generator.{next_vector, IsVector}
use Rattle.generator.proofs.VectorLaws.{next-is-vector}
use Rattle.sizes.specs.Ciphers.{session_slots, no_vector, scrambles}
use Rattle.sizes.specs.Frame.{width, most_words}
use Rattle.sizes.proofs.Cases.{by_range}
use Rattle.sizes.proofs.SizeLaws.{by_rate, slots-at-most}
use Rattle.ciphers.specs.Keystream.{stream}
use Rattle.ciphers.proofs.KeystreamLaws.{bits-stream}
use Rattle.answers.specs.declared.Answer.{Answer}
use Rattle.answers.specs.Numbers.{number_of}
use Rattle.openings.specs.Ladder.{session_vector, key_for}
use Rattle.calls.specs.declared.call.Terms.{Terms}
use Rattle.calls.specs.Counts.{plus, total, lost_words, in_mask}
use Rattle.calls.specs.declared.call.Call.{Call}
use Rattle.voice.specs.Frame.{of_slot, word_turned, protect}
use Rattle.calls.specs.Call.{receiving_end, by_default, strict, terms_right, Known, told, Standing, standing, terms_of, no_call}
use Rattle.voice.specs.Slot.{lost_of}
use Rattle.calls.proofs.CountLaws.{lost-fits}
use Rattle.voice.proofs.FrameLaws.{protect_frame}
use Rattle.openings.specs.Samples.{seed}
use Rattle.demands.specs.Marked.{key0001}
use Rattle.demands.specs.Rates.{Layout, layout, FrameAt, word_at}
use Rattle.demands.specs.Talk.{Slot, Session, Talk, opening, joining, SlotKept, SessionKept, Full, slot_counts, Kept}
use Rattle.demands.specs.Arrivals.{all_slots}
use Rattle.demands.specs.Notices.{Notice, is_reached, slot_notices, start_notices, WithinLimit, first_notices}
use Rattle.demands.specs.Log.{Receiver, events, talk_log}
use Rattle.demands.specs.Demand3.{RightSlot, Right, Meets3}
use Rattle.demands.specs.Demand3Default.{Successive, Generated, since_known, default_log}
use Rattle.demands.specs.Others.{SameSpeech, MeetsIn, MeetsEither, Handing, up_to, up_to_slots, up_to_session, at_once, Sending, turning, identity, restarting, saving}
use Rattle.demands.proofs.Layouts.{layout_is, layout_some, rate_is, ways_right}
use Rattle.demands.proofs.AirLaws.{word-bits}
use Rattle.demands.proofs.Marking.{known_next, sessions_by, first_by, strict-first, default_first}
use Rattle.demands.proofs.ToldSlots.{within_limit}
use Rattle.demands.proofs.Standing.{slots_some, eight_slots, place, place-lost, place_voice, place-on, place_opened, opened-stands, place_counts}
use Rattle.demands.proofs.Samples.{silence, silence_frame, silent_long, loud, loud_frame, first-bits, saying, quiet, saying-kept, quiet-kept, quiet_long, seed-vector}
use Rattle.demands.proofs.SampleKeys.{key_of, book_of_three, has_key, key_long}
use Rattle.demands.proofs.Ones.{all_words, unturned, first_some, Zeros, last_some}

pub meets_in : (c r : ℕ) (R : Receiver) → Meets3 R → MeetsIn c r R
meets_in c r R m t e f = m t

abbrev SameWords : Layout → ℕ → List ℕ → List ℕ → Type 0
SameWords l mask f g = (w : ℕ) → w < 4 → in_mask mask w ≡ true → word_at l w f ≡ word_at l w g

pub word_speech : (rt mask : ℕ) (f g : List ℕ) → SameWords (layout rt) mask f g → SameSpeech (layout rt) mask f g
word_speech rt mask f g =
    subst (λ (l : Layout). SameWords l mask f g → SameSpeech l mask f g) (sym (layout_is rt))
    (λ h w j lw lj e. word-bits (width rt) w f g (h w lw e) j (omega arith))

-- n slots reach into a session whose last slot is below the limit, which is of whole sessions
filled : (n : ℕ) → n < 1000000 → (c : ℕ) → (1 ≤ c) × (c ≤ 3)
    → (n ≤ session_slots c * (n / session_slots c) + (session_slots c - 1)) × (session_slots c * (n / session_slots c) + (session_slots c - 1) < 1000000)
filled n l =
    by_range (λ c. (n ≤ session_slots c * (n / session_slots c) + (session_slots c - 1)) × (session_slots c * (n / session_slots c) + (session_slots c - 1) < 1000000))
    (omega arith, omega arith) (omega arith, omega arith) (omega arith, omega arith)

-- of one cipher, at one rate
module _ (c : ℕ) (r : (1 ≤ c) × (c ≤ 3)) (rt : ℕ) (lt : rt ≤ 1) where
  -- ---- one slot under the cipher's sample key

  abbrev under : ℕ → ℕ
  under = stream c (key_of c) seed

  abbrev came : List ℕ → List ℕ
  came frame = turning rt under 0 15 frame

  -- silence that is sent is no silence where the slot's keystream isn't zeros
  not-silent : (v : List ℕ) (o : Octets v) (p : ℕ) → (Zeros v o ((layout rt).slot * p) c → ⊥) → SameSpeech (layout rt) 15 (turning rt (stream c (key_of c) v) p 15 (silence rt)) (silence rt) → ⊥
  not-silent v o p some e =
      let k = saying-kept rt (silence rt) (silence_frame rt) (stream c (key_of c) v) p true in
      some
      (unturned rt (stream c (key_of c) v) (bits-stream c (key_of c) v) ((layout rt).slot * p) (silence rt)
      (λ w j lw lj. sym (k.air.speech w j lw lj (all_words w lw)) ∙ e w j lw lj (all_words w lw)))

  abbrev one : List ℕ → Talk
  one frame =
      record {
        cipher = c;
        rate = rt;
        key = key_of c;
        sessions = record { vector = seed; announced = true; slots = saying turning rt frame under 0 true ∷ [] } ∷ [];
      }

  module _ (R : Receiver) where
    abbrev begun : R.State
    begun = (R.hear c 0 rt seed book_of_three R.idle).1

    -- by either demand its slot is opened
    abbrev Opened : List ℕ → Type 0
    Opened frame = (number_of (R.voice 15 (came frame) begun).0 ≡ 0) × SameSpeech (layout rt) 15 (R.voice 15 (came frame) begun).1.1 frame

    one-slot : MeetsEither c rt R → (frame : List ℕ) → FrameAt (layout rt) frame → Opened frame
    one-slot m frame f = go m
      where
        kept : Kept (one frame)
        kept =
            record {
              rate = lt;
              key = key_long c r;
              each = (record { vector = refl; slots = (saying-kept rt frame f under 0 true, tt) }, tt);
              full = omega (arith, slots_some c r);
            }

        right : {reached : Bool} → reached ≡ true → RightSlot (record { rate = rt; reached = reached; mask = 15; spoken = frame; came = came frame; answer = (R.voice 15 (came frame) begun).0; frame = (R.voice 15 (came frame) begun).1.1 })
            → Opened frame
        right e h = let z = h.handed e in (z, word_speech rt 15 (R.voice 15 (came frame) begun).1.1 frame (h.opened z))

        go : MeetsEither c rt R → Opened frame
        go (inl m) = right (or-true (scrambles c)) (m (one frame) refl refl kept book_of_three 0 (has_key c r) opening (within_limit (one frame) (omega arith) opening)).1.0
        go (inr m) = right refl (m (one frame) refl refl kept opening (λ z. tt) (within_limit (one frame) (omega arith) opening) book_of_three 0 (has_key c r)).1.0

    -- it opens no slot: it refuses all, or holds all
    pub never_opens_fails : ((mask : ℕ) (frame : List ℕ) (s : R.State) → 1 ≤ number_of (R.voice mask frame s).0) → MeetsEither c rt R → ⊥
    never_opens_fails h m = omega (arith, (one-slot m (silence rt) (silence_frame rt)).0, h 15 (came (silence rt)) begun)

    -- its answer 0 comes with one frame's speech, whatever came
    pub fixed_fails : (g : List ℕ) → Handing rt R (λ frame. g) → MeetsEither c rt R → ⊥
    fixed_fails g h m =
        let a = one-slot m (silence rt) (silence_frame rt) in
        let b = one-slot m (loud rt) (loud_frame rt) in
        let z : ◌≡◌ {A = ℕ} 0 1 =
        sym (first-bits rt 0 (omega arith)).0
        ∙ sym (a.1 0 0 (omega arith) (layout_some rt) refl) ∙ h 15 (came (silence rt)) begun a.0 0 0 (omega arith) (layout_some rt) refl
        ∙ sym (h 15 (came (loud rt)) begun b.0 0 0 (omega arith) (layout_some rt) refl) ∙ b.1 0 0 (omega arith) (layout_some rt) refl
        ∙ (first-bits rt 0 (omega arith)).1 in
        omega arith

    -- or with speech as it came
    pub leaves_fails : Handing rt R (λ frame. frame) → MeetsEither c rt R → ⊥
    leaves_fails h m =
        let a = one-slot m (silence rt) (silence_frame rt) in
        not-silent seed seed-vector.octets 0 (rw mul-zero (first_some seed seed-vector.octets c r)) (λ w j lw lj e. sym (h 15 (came (silence rt)) begun a.0 w j lw lj e) ∙ a.1 w j lw lj e)

  -- ---- any other for its first slots: sessions of which every slot is lost, as many as these slots fill, and one of which the last slot arrives

  abbrev gone : List ℕ → Session
  gone v = record { vector = v; announced = false; slots = quiet rt (stream c (key_of c) v) 0 (replicate (session_slots c) false) }

  abbrev last_one : List ℕ → Session
  last_one v = record { vector = v; announced = true; slots = quiet rt (stream c (key_of c) v) 0 (replicate (session_slots c - 1) false ++ (true ∷ [])) }

  -- by the generator's vectors, from v on
  abbrev quiet_for : List ℕ → ℕ → List Session
  quiet_for v zero = last_one v ∷ []
  quiet_for v (suc m) = gone v ∷ quiet_for (next_vector v) m

  quietFor-each : (v : List ℕ) → IsVector v → (m : ℕ) → Each (SessionKept (layout rt) c (key_of c)) (quiet_for v m)
  quietFor-each v o zero = (record { vector = o.long; slots = quiet-kept rt (stream c (key_of c) v) 0 (replicate (session_slots c - 1) false ++ (true ∷ [])) }, tt)
  quietFor-each v o (suc m) = (
    record { vector = o.long; slots = quiet-kept rt (stream c (key_of c) v) 0 (replicate (session_slots c) false) },
    quietFor-each (next_vector v) (next-is-vector v) m,
  )

  gone_long : (v : List ℕ) → length (gone v).slots ≡ session_slots c
  gone_long v = quiet_long rt (stream c (key_of c) v) 0 (replicate (session_slots c) false) ∙ length-replicate (session_slots c) false

  last-long : (v : List ℕ) → length (last_one v).slots ≡ session_slots c
  last-long v =
      quiet_long rt (stream c (key_of c) v) 0 (replicate (session_slots c - 1) false ++ (true ∷ []))
      ∙ length-append (replicate (session_slots c - 1) false) (true ∷ [])
      ∙ omega (arith, length-replicate (session_slots c - 1) false, slots_some c r)

  quietFor-full : (v : List ℕ) (m : ℕ) → Full c (slot_counts (quiet_for v m))
  quietFor-full v zero = omega (arith, last-long v)
  quietFor-full v (suc zero) = (gone_long v, quietFor-full (next_vector v) zero)
  quietFor-full v (suc (suc m)) = (gone_long v, quietFor-full (next_vector v) (suc m))

  quietFor-generated : (v : List ℕ) (m : ℕ) → Successive Generated (quiet_for v m)
  quietFor-generated v zero = tt
  quietFor-generated v (suc zero) = (refl, tt)
  quietFor-generated v (suc (suc m)) = (refl, quietFor-generated (next_vector v) (suc m))

  abbrev long_talk : ℕ → Talk
  long_talk m = record { cipher = c; rate = rt; key = key_of c; sessions = quiet_for seed m }

  long_kept : (m : ℕ) → Kept (long_talk m)
  long_kept m = record { rate = lt; key = key_long c r; each = quietFor-each seed seed-vector m; full = quietFor-full seed m }

  -- the slots before the one that arrives
  abbrev before : ℕ → ℕ
  before zero = session_slots c - 1
  before (suc m) = session_slots c + before m

  before-is : (m : ℕ) → before m ≡ session_slots c * m + (session_slots c - 1)
  before-is zero = rw mul-zero (sym (zero-add (session_slots c - 1)))
  before-is (suc m) = rw (mul-suc (session_slots c) m) (omega (arith, before-is m))

  long-told : (v : List ℕ) (m : ℕ) → length (all_slots (quiet_for v m)) ≡ suc (before m)
  long-told v zero = length-append (last_one v).slots [] ∙ omega (arith, last-long v, slots_some c r)
  long-told v (suc m) = length-append (gone v).slots (all_slots (quiet_for (next_vector v) m)) ∙ omega (arith, gone_long v, long-told (next_vector v) m)

  module _ (R : Receiver) (first : ℕ → ℕ) (answer : ℕ → List ℕ → R.State → Answer) where
    abbrev Stands : Type 0
    Stands = ℕ × ℕ × R.State

    -- what it is told from a state on is answered right
    abbrev RightFrom : Stands → List Notice → Type 0
    RightFrom s ns = Each Right (events (up_to R first answer) book_of_three c 0 rt s ns)

    -- n slots lost, and then more
    lost-on : (ks : ℕ → ℕ) (n p : ℕ) (more : List Bool) (reached : Bool) (rest : List Notice) (s : Stands)
        → ((q : ℕ) → q ≡ p + n → (s' : Stands) → s'.0 ≡ s.0 + n → s'.1 ≡ s.1 → RightFrom s' (slot_notices reached (quiet rt ks q more) ++ rest) → ⊥)
        → RightFrom s (slot_notices reached (quiet rt ks p (replicate n false ++ more)) ++ rest) → ⊥
    lost-on ks zero p more reached rest s k h = k p (omega arith) s (omega arith) refl h
    lost-on ks (suc n) p more reached rest s k h =
        lost-on ks n (suc p) more reached rest (suc s.0, s.1, (R.lost s.2).1) (λ q e s' a b. k q (omega arith) s' (omega arith) b) h.1

    -- past its slots it leaves the frame as it came
    one_more : (v : List ℕ) → Octets v → {reached : Bool} → reached ≡ true → (s : Stands) → s.1 ≤ s.0 → (q : ℕ) → q ≡ session_slots c - 1
        → RightFrom s (slot_notices reached (quiet rt (stream c (key_of c) v) q (true ∷ [])) ++ []) → ⊥
    one_more v o e s l q f h =
        let h' = rw (le-ltb s.0 s.1 l) at h.0 in
        not-silent v o q (rw f (last_some v o rt c r)) (word_speech rt 15 (turning rt (stream c (key_of c) v) q 15 (silence rt)) (silence rt) (h'.opened (h'.handed e)))

    -- a session of which the last slot arrives
    last_one_lem : (v : List ℕ) → Octets v → {reached : Bool} → reached ≡ true → (s : Stands) → s.1 ≤ s.0 + (session_slots c - 1)
        → RightFrom s (slot_notices reached (last_one v).slots ++ []) → ⊥
    last_one_lem v o {reached} e s l =
        lost-on (stream c (key_of c) v) (session_slots c - 1) 0 (true ∷ []) reached [] s
        (λ q f s' a b. one_more v o e s' (omega arith) q (f ∙ zero-add (session_slots c - 1)))

    gone-on : (v : List ℕ) (reached : Bool) (rest : List Notice) (s : Stands) → ((s' : Stands) → s'.0 ≡ s.0 + session_slots c → s'.1 ≡ s.1 → RightFrom s' rest → ⊥)
        → RightFrom s (slot_notices reached (gone v).slots ++ rest) → ⊥
    gone-on v reached rest s k h =
        lost-on (stream c (key_of c) v) (session_slots c) 0 [] reached rest s (λ q e. k)
        (subst (λ (arrive : List Bool). RightFrom s (slot_notices reached (quiet rt (stream c (key_of c) v) 0 arrive) ++ rest)) (sym (append-nil (replicate (session_slots c) false))) h)

    -- in either way
    late : (way : ℕ) (known : Bool) (v : List ℕ) → IsVector v → (m : ℕ) (s : Stands) → s.1 ≤ s.0 + before m → RightFrom s (sessions_by way c known (quiet_for v m)) → ⊥
    late way known v o zero s l h = go (scrambles c) h
      where
        go : (t : Bool) → RightFrom s (start_notices (not t && true) v ++ (slot_notices (known || true) (last_one v).slots ++ [])) → ⊥
        go true h = last_one_lem v o.octets (or-true known) s l h
        go false h = last_one_lem v o.octets (or-true known) (s.0, s.1, (R.announce v s.2).1) l h.1
    late way known v o (suc m) s l h =
        gone-on v (known || false) (sessions_by way c (known_next way c (known || false)) (quiet_for (next_vector v) m)) s
        (λ s' a b. late way (known_next way c (known || false)) (next_vector v) (next-is-vector v) m s' (omega arith)) (rw and_false_r at h)

    abbrev opened : Stands
    opened = (0, first c, (R.hear c 0 rt seed book_of_three R.idle).1)

    lost-first : (way : ℕ) (known : Bool) → known ≡ true → (m : ℕ) → first c ≤ before m → RightFrom opened (first_by way c known 0 (quiet_for seed m)) → ⊥
    lost-first way known e zero l = last_one_lem seed seed-vector.octets e opened (omega arith)
    lost-first way known e (suc m) l =
        gone-on seed known (sessions_by way c (known_next way c known) (quiet_for (next_vector seed) m)) opened
        (λ s' a b. late way (known_next way c known) (next_vector seed) (next-is-vector seed) m s' (omega arith))

    -- as many sessions as its slots fill
    abbrev sessions : ℕ
    sessions = first c / session_slots c

    module _ (l : first c < 1000000) where
      enough : first c ≤ before sessions
      enough = rw (before-is sessions) (filled (first c) l c r).0

      few : WithinLimit (long_talk sessions) opening
      few = within_limit (long_talk sessions) (rw (long-told seed sessions, before-is sessions) (filled (first c) l c r).1) opening

    -- what it is told after the opening
    after-opening : (m : ℕ) → Each Right (talk_log (up_to R first answer) book_of_three 0 (long_talk m) opening) → RightFrom opened (first_notices c true 0 (quiet_for seed m))
    after-opening zero h = h.1
    after-opening (suc m) h = h.1

    after-opening-default : (m : ℕ) → Each Right (default_log (up_to R first answer) book_of_three 0 (long_talk m) opening)
        → RightFrom opened (since_known true (first_notices c true 0 (quiet_for seed m)))
    after-opening-default zero h = h.1
    after-opening-default (suc m) h = h.1

    -- whatever the number of slots below the limit, whatever it answers then, and whatever the receiver before
    pub up_to_fails : first c < 1000000 → MeetsEither c rt (up_to R first answer) → ⊥
    up_to_fails l (inl m) =
        lost-first strict (is_reached c true) (or-true (scrambles c)) sessions (enough l)
        (subst (λ (ns : List Notice). RightFrom opened ns) (sym (strict-first c true 0 (quiet_for seed sessions)))
        (after-opening sessions (m (long_talk sessions) refl refl (long_kept sessions) book_of_three 0 (has_key c r) opening (few l))))
    up_to_fails l (inr m) =
        lost-first by_default true refl sessions (enough l)
        (subst (λ (ns : List Notice). RightFrom opened ns) (default_first c true true (λ z. refl) 0 (quiet_for seed sessions))
        (after-opening-default sessions (m (long_talk sessions) refl refl (long_kept sessions) opening (λ z. quietFor-generated seed sessions) (few l) book_of_three 0 (has_key c r))))

  pub up_to_slots_fails : (R : Receiver) (n : ℕ) → n < 1000000 → (answer : ℕ → List ℕ → R.State → Answer) → MeetsEither c rt (up_to_slots R n answer) → ⊥
  up_to_slots_fails R n l answer = up_to_fails R (λ c. n) answer l

  pub up_to_session_fails : (R : Receiver) (answer : ℕ → List ℕ → R.State → Answer) → MeetsEither c rt (up_to_session R answer) → ⊥
  up_to_session_fails R answer = up_to_fails R session_slots answer (omega (arith, slots-at-most c))

-- ---- in the session that it joined, with DES or AES

module _ (c : ℕ) (r : (1 ≤ c) × (c ≤ 3)) (n : scrambles c ≡ false) (rt : ℕ) (lt : rt ≤ 1) where
  -- a session of which the second superframe arrives
  abbrev entered : Talk
  entered =
      record {
        cipher = c;
        rate = rt;
        key = key_of c;
        sessions = record { vector = seed; announced = true; slots = quiet rt (stream c (key_of c) seed) 0 (replicate 4 false ++ replicate 4 true) } ∷ [];
      }

  entered-kept : Kept entered
  entered-kept =
      record {
        rate = lt;
        key = key_long c r;
        each = (record { vector = refl; slots = quiet-kept rt (stream c (key_of c) seed) 0 (replicate 4 false ++ replicate 4 true) }, tt);
        full = omega (arith, eight_slots c r n);
      }

  -- what is on the air in its fifth slot
  abbrev fifth : List ℕ
  fifth = turning rt (stream c (key_of c) seed) 4 15 (silence rt)

  module _ (R : Receiver) where
    abbrev joined : R.State
    joined = (R.join c 0 rt book_of_three R.idle).1

    -- by either demand it is held as it came
    fifth-held : MeetsEither c rt R → (number_of (R.voice 15 fifth joined).0 ≡ 1) × ((R.voice 15 fifth joined).1.1 ≡ fifth)
    fifth-held (inl m) = (m entered refl refl entered-kept book_of_three 0 (has_key c r) (joining 0) (within_limit entered (omega arith) (joining 0))).1.0.held (ap (λ (t : Bool). t || false) n)
    fifth-held (inr m) = (m entered refl refl entered-kept (joining 0) (λ z. tt) (within_limit entered (omega arith) (joining 0)) book_of_three 0 (has_key c r)).1.0.held n

    -- it never leaves a frame that it holds as it came
    pub spoils_fails : ((mask : ℕ) (frame : List ℕ) (s : R.State) → number_of (R.voice mask frame s).0 ≡ 1 → (R.voice mask frame s).1.1 ≡ frame → ⊥) → MeetsEither c rt R → ⊥
    spoils_fails f m = let h = fifth-held m in f 15 fifth joined h.0 h.1

  -- ---- the announced vector, whichever, applied at once

  module _ (m : ℕ) (lm : m ≤ 1) (w : List ℕ) (k : length w ≡ 8) where
    abbrev t : Terms
    t = terms_of c (key_for book_of_three c 0) rt m

    abbrev known : Known
    known = told (session_vector c w)

    right : terms_right receiving_end rt m ≡ true
    right = ways_right rt m lt lm

    abbrev at : ℕ → Standing
    at = place t known

    -- it stands at slot p, with four words to each slot
    abbrev Lost : ℕ → Call → Type 0
    Lost p s = (standing s ≡ at p) × (total s.counts ≡ 4 * p)

    lost-once : (p : ℕ) → p < 8 → (s : Call) → Lost p s → Lost (p + 1) (lost_of s).1
    lost-once p l s e =
        let l' : p < session_slots c = omega (arith, eight_slots c r n) in
        let room : total s.counts < most_words = omega (arith, e.1) in
        rw (place-lost t known p l' s e.0 room)
        (place-on t known p l' s e.0 room lost_words (lost-fits true), ap total (place_counts t known (plus s.counts lost_words) (p + 1)) ∙ omega (arith, e.1))

    four-on : Lost 4 ((at_once m w).join c 0 rt book_of_three no_call).1
    four-on =
        lost-once 3 (omega arith) _
        (lost-once 2 (omega arith) _
        (lost-once 1 (omega arith) _
        (lost-once 0 (omega arith) _
        (rw (place_opened book_of_three c 0 (key_of c) (has_key c r) rt m right w k) (opened-stands book_of_three c 0 (key_of c) (has_key c r) rt m right w k, refl)))))

    -- it hands out a slot that is to be held
    pub at_once_fails : MeetsEither c rt (at_once m w) → ⊥
    at_once_fails d =
        let l = (protect_frame (width rt) (of_slot (width rt) (stream c (key_of c) seed) 4) 15 (silence rt) (silent_long rt)).long in
        let o = place_voice t known 4 (omega (arith, eight_slots c r n)) _ four-on.0 (omega (arith, four-on.1)) 15 fifth (omega arith) l in
        let z : ◌≡◌ {A = ℕ} 0 1 = sym (ap (λ (o : Answer × (Call × List ℕ)). number_of o.0) o) ∙ (fifth-held (at_once m w) d).0 in
        omega arith

-- ---- senders: two slots of silence, at either rate

abbrev ks : ℕ → ℕ
ks = stream 1 key0001 no_vector

abbrev pub two_slots : ℕ → Sending → Talk
two_slots r send =
    record {
      cipher = 1;
      rate = r;
      key = key0001;
      sessions = record { vector = no_vector; announced = false; slots = saying send r (silence r) ks 0 true ∷ saying send r (silence r) ks 1 true ∷ [] } ∷ [];
    }

not-one : ◌≡◌ {A = ℕ} 0 1 → ⊥
not-one z = omega arith

pub turning_keeps : (r : ℕ) → r ≤ 1 → Kept (two_slots r turning)
turning_keeps r l =
    record { rate = l; key = refl; each = (record { vector = refl; slots = quiet-kept r ks 0 (true ∷ true ∷ []) }, tt); full = omega arith }

-- P0 of key 0001 is 1
pub identity_breaks : (r : ℕ) → r ≤ 1 → Kept (two_slots r identity) → ⊥
unfolding stream P iterate stepped key_number
identity_breaks r l =
    by_rate (λ r. Kept (two_slots r identity) → ⊥) (λ k. not-one (k.each.0.slots.0.air.speech 0 0 (omega arith) (omega arith) refl))
    (λ k. not-one (k.each.0.slots.0.air.speech 0 0 (omega arith) (omega arith) refl)) r (rate_is r l)

-- P0 is 1, and P196 and P288, with which the second slot begins, are 0
pub restarting_breaks : (r : ℕ) → r ≤ 1 → Kept (two_slots r restarting) → ⊥
unfolding protect word_turned turned_in turned within replaced octets_from octet stream P iterate stepped key_number
restarting_breaks r l =
    by_rate (λ r. Kept (two_slots r restarting) → ⊥) (λ k. not-one (sym (k.each.0.slots.1.0.air.speech 0 0 (omega arith) (omega arith) refl)))
    (λ k. not-one (sym (k.each.0.slots.1.0.air.speech 0 0 (omega arith) (omega arith) refl))) r (rate_is r l)

-- the first word gives way to signalling, so the second takes P0 on, and not P49, or P72, which are 0
abbrev pub saved : ℕ → Slot
saved r = record { mask = 2; spoken = silence r; sent = saving r ks 0 2 (silence r); arrived = true }

pub saving_breaks : (r : ℕ) → r ≤ 1 → SlotKept (layout r) ks 0 (saved r) → ⊥
unfolding protect word_turned turned_in turned within replaced octets_from octet stream P iterate stepped key_number
saving_breaks r l =
    by_rate (λ r. SlotKept (layout r) ks 0 (saved r) → ⊥) (λ k. not-one (sym (k.air.speech 1 0 (omega arith) (omega arith) refl)))
    (λ k. not-one (sym (k.air.speech 1 0 (omega arith) (omega arith) refl))) r (rate_is r l)
