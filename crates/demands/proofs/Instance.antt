-- The premises can be met: for DES and for AES a call of our sender with losses, of whose three sessions the second's vector does not reach the
-- receiver, and one of another maker's whose vectors are all zeros; for scramble a call with losses and with words that gave way to signalling; and
-- what our receiver answers. In the default way: calls of which every announcement is lost, a late entry that rides, a call whose announced vector is not the
-- generator's, and a late entry into a session whose vector is neither the generator's nor announced.
use mathlib.Core.Path.{◌≡◌, refl, sym, ap, subst, ◌∙◌}
use mathlib.Core.Bool.{Bool, true, false, true≢false}
use mathlib.Core.Logic.{◌⊎◌, inl, inr}
use mathlib.Core.List.{List, [], ◌∷◌, ◌++◌, map}
use Prim.Native.Nat.{ℕ, zero, suc, ◌+◌, ◌*◌, ◌^◌, ◌≤◌, ◌<◌}
use native.Mathlib.Nat.{zero-div}
use native.Mathlib.Omega.{arith}
use lib.ListN.{length, get_or, replicate}
use Rattle.sizes.specs.Ciphers.{session_slots, no_vector, scrambles}
use Rattle.openings.specs.Samples.{seed}
use Rattle.octets.specs.Tests.{all_below}
use Rattle.octets.specs.Lists.{all_zero, Each}
use Rattle.octets.specs.Bits.{flip}
use Rattle.generator.specs.Generator.{next_vector}
use Rattle.generator.proofs.NotZero.{next-not-zero}
use Rattle.generator.proofs.OwnNext.{zeros-next}
use Rattle.sizes.proofs.SizeLaws.{no_vector-zero}
use Rattle.ciphers.specs.Keystream.{stream}
use Rattle.sizes.specs.Frame.{width}
use Rattle.voice.specs.Frame.{IsFrame, of_slot}
use Rattle.calls.specs.Counts.{in_mask}
use Rattle.voice.proofs.FrameLaws.{protect_frame, word_stays}
use Rattle.demands.specs.Marked.{key0001}
use Rattle.demands.specs.Rates.{Layout, half, full, layout, FrameAt, word_at}
use Rattle.demands.specs.Talk.{Slot, Session, Talk, WayIn, opening, joining, OnAir, SlotKept, SessionKept, Kept, HasKey}
use Rattle.demands.specs.Arrivals.{all_slots}
use Rattle.demands.specs.Notices.{notices_of}
use Rattle.demands.specs.Log.{talk_log}
use Rattle.demands.specs.Demand3.{Right, ours}
use Rattle.demands.specs.Others.{turning}
use Rattle.demands.specs.Demand3Default.{default_notices, default_log, heard_from, Successive, Generated, GeneratedOrAnnounced, MeetsTalkDefault, handset}
use Rattle.demands.specs.OurSender.{Said, Saying, talk_made, SaidKept, AllSaid, Follows}
use Rattle.octets.proofs.Zeros.{octets_by}
use Rattle.demands.proofs.Layouts.{layout_by, layout_is, by_layout}
use Rattle.demands.proofs.AirLaws.{is_frame, frame_at, word-bits, protected_air}
use Rattle.demands.proofs.Standing.{eight_slots}
use Rattle.demands.proofs.ReceiverMeets.{linked_heard, ours_meets_3, handset_meets_3, handset_meets_3_announced}
use Rattle.demands.proofs.ToldSlots.{within_limit}
use Rattle.demands.proofs.Settled.{answers, due, strict-settled, default_settled}
use Rattle.demands.proofs.SenderKeeps.{ours_keeps, ours_generated}
use Rattle.demands.proofs.Samples.{silence, silence_frame, loud, loud_frame, saying, repeating, saying-kept, repeating-kept, seed-vector, seed_starts}
use Rattle.demands.proofs.SampleKeys.{key_of, book_of_three, has_key, key_long}

-- ---- DES and AES

-- the same frame is said in every slot
abbrev said_all : List ℕ → List Bool → List Said
said_all frame [] = []
said_all frame (a ∷ rest) = record { mask = 15; spoken = frame; arrives = a } ∷ said_all frame rest

said-all-kept : (l : Layout) (frame : List ℕ) → FrameAt l frame → (arriving : List Bool) → Each (SaidKept l) (said_all frame arriving)
said-all-kept l frame f [] = tt
said-all-kept l frame f (a ∷ rest) = (record { mask = omega arith; frame = f }, said-all-kept l frame f rest)

-- every other slot is lost
abbrev others : List Bool
others = true ∷ false ∷ true ∷ false ∷ true ∷ false ∷ true ∷ false ∷ []

-- a whole session, and one that has begun
abbrev wholly : List ℕ → Bool → Saying
wholly frame announced = record { announced = announced; slots = said_all frame others }

abbrev begun : List ℕ → Bool → Saying
begun frame announced = record { announced = announced; slots = said_all frame (true ∷ []) }

abbrev three : List ℕ → List Saying
three frame = wholly frame true ∷ wholly frame false ∷ begun frame true ∷ []

-- what our receiver then answers by the opening: handed out, held, handed out. The opening, a lost slot and the announcement are 0
abbrev when_opened : List ℕ
when_opened = 0 ∷ (0 ∷ 0 ∷ 0 ∷ 0 ∷ 0 ∷ 0 ∷ 0 ∷ 0 ∷ (1 ∷ 0 ∷ 1 ∷ 0 ∷ 1 ∷ 0 ∷ 1 ∷ 0 ∷ (0 ∷ 0 ∷ [])))

-- joining in the first session, of which two more slots arrive, and in the second
abbrev when_joined : List ℕ
when_joined = 0 ∷ (1 ∷ 0 ∷ 1 ∷ 0 ∷ (1 ∷ 0 ∷ 1 ∷ 0 ∷ 1 ∷ 0 ∷ 1 ∷ 0 ∷ (0 ∷ 0 ∷ [])))

abbrev when_later : List ℕ
when_later = 0 ∷ (1 ∷ 0 ∷ 1 ∷ 0 ∷ (0 ∷ 0 ∷ []))

pub record Heard (t : Talk) : Type 0 where
  pub kept : Kept t
  pub opened : answers (talk_log ours book_of_three 0 t opening) ≡ when_opened
  pub joined : answers (talk_log ours book_of_three 0 t (joining 0)) ≡ when_joined
  pub joined-later : answers (talk_log ours book_of_three 0 t (joining 1)) ≡ when_later
  -- and however it comes in, each word that it hands out is the one that was spoken
  pub right : (e : WayIn) → Each Right (talk_log ours book_of_three 0 t e)

module _ (t : Talk) (k : Kept t) (few : length (all_slots t.sessions) ≤ 1000000) (h : HasKey book_of_three t.cipher 0 t.key) where
  settled : (e : WayIn) → answers (talk_log ours book_of_three 0 t e) ≡ map due (notices_of t e)
  settled e = strict-settled ours book_of_three 0 t e (ours_meets_3 t k book_of_three 0 h e (within_limit t few e))

  heard : map due (notices_of t opening) ≡ when_opened → map due (notices_of t (joining 0)) ≡ when_joined → map due (notices_of t (joining 1)) ≡ when_later → Heard t
  heard o j l =
      record { kept = k; opened = settled opening ∙ o; joined = settled (joining 0) ∙ j; joined-later = settled (joining 1) ∙ l; right = λ e. ours_meets_3 t k book_of_three 0 h e (within_limit t few e) }

-- a call of our sender
abbrev pub mixed : ℕ → ℕ → List ℕ → Talk
mixed c r frame = talk_made c (key_of c) 0 r seed book_of_three (three frame)

-- a session of another maker's sender
abbrev session_of : ℕ → ℕ → List ℕ → List ℕ → Bool → List Bool → Session
session_of c r frame v announced arriving = record { vector = v; announced = announced; slots = repeating r frame (stream c (key_of c) v) 0 arriving }

-- its vectors are all zeros: the first's and the third's announcements arrive, or none does

abbrev pub zeros : ℕ → ℕ → List ℕ → Bool → Talk
zeros c r frame announced =
    record {
      cipher = c;
      rate = r;
      key = key_of c;
      sessions = session_of c r frame no_vector announced others ∷ session_of c r frame no_vector false others ∷ session_of c r frame no_vector announced (true ∷ []) ∷ [];
    }

module _ (c : ℕ) (g : (1 ≤ c) × (c ≤ 3)) (n : scrambles c ≡ false) (r : ℕ) (l : r ≤ 1) (frame : List ℕ) (f : FrameAt (layout r) frame) where
  eight : 8 ≡ session_slots c
  eight = sym (eight_slots c g n)

  mixed-kept : Kept (mixed c r frame)
  mixed-kept =
      let said = said-all-kept (layout r) frame f in
      ours_keeps book_of_three c 0 (key_of c) (has_key c g) (key_long c g) r l seed (seed_starts c) (three frame)
      (record { each = (said others, (said others, (said (true ∷ []), tt))); full = (eight, (eight, omega (arith, eight))) })

  mixed-heard : Heard (mixed c r frame)
  mixed-heard = heard (mixed c r frame) mixed-kept (omega arith) (has_key c g) (rw n) (rw n) (rw n)

  session-kept : (v : List ℕ) → length v ≡ 8 → (announced : Bool) (arriving : List Bool) → SessionKept (layout r) c (key_of c) (session_of c r frame v announced arriving)
  session-kept v k announced arriving = record { vector = k; slots = repeating-kept r frame f (stream c (key_of c) v) 0 arriving }

  zeros-kept : (announced : Bool) → Kept (zeros c r frame announced)
  zeros-kept announced =
      record {
        rate = l;
        key = key_long c g;
        each = (session-kept no_vector refl announced others, (session-kept no_vector refl false others, (session-kept no_vector refl announced (true ∷ []), tt)));
        full = (eight, (eight, omega (arith, eight)));
      }

  -- and its vectors are the generator's: zeros are their own next
  zeros-heard : Heard (zeros c r frame true) × Follows c no_vector (zeros c r frame true).sessions
  zeros-heard = (heard (zeros c r frame true) (zeros-kept true) (omega arith) (has_key c g) (rw n) (rw n) (rw n), rw (n, zeros-next, zeros-next) (refl, (refl, (refl, tt))))

-- ---- DES and AES in the default way

-- calls of our sender: of three sessions no announcement arrives; of five the fourth's does
abbrev fading : List ℕ → List Saying
fading frame = wholly frame false ∷ wholly frame false ∷ begun frame false ∷ []

abbrev pub faded : ℕ → ℕ → List ℕ → Talk
faded c r frame = talk_made c (key_of c) 0 r seed book_of_three (fading frame)

abbrev late_ones : List ℕ → List Saying
late_ones frame = wholly frame false ∷ wholly frame false ∷ wholly frame false ∷ wholly frame true ∷ begun frame false ∷ []

abbrev pub later : ℕ → ℕ → List ℕ → Talk
later c r frame = talk_made c (key_of c) 0 r seed book_of_three (late_ones frame)

-- calls of another maker's sender, in which the last slot of a session arrives
abbrev last_too : List Bool
last_too = false ∷ true ∷ false ∷ true ∷ false ∷ true ∷ false ∷ true ∷ []

-- its second vector is not the generator's, but announced; the announcement of the next is lost
abbrev pub jumped : ℕ → ℕ → List ℕ → Talk
jumped c r frame =
    record {
      cipher = c;
      rate = r;
      key = key_of c;
      sessions = session_of c r frame seed false last_too ∷ session_of c r frame no_vector true last_too ∷ session_of c r frame no_vector false (true ∷ []) ∷ [];
    }

-- its second vector is neither the generator's nor announced, and the third's is announced
abbrev pub reseeded : ℕ → ℕ → List ℕ → Talk
reseeded c r frame =
    record {
      cipher = c;
      rate = r;
      key = key_of c;
      sessions =
          session_of c r frame seed false last_too ∷ session_of c r frame no_vector false last_too ∷ session_of c r frame no_vector true last_too
          ∷ session_of c r frame no_vector false (true ∷ []) ∷ [];
    }

-- zeros are not the generator's next after the seed
not-next : no_vector ≡ next_vector seed → ⊥
unfolding all_zero all_below
not-next e = true≢false (sym no_vector-zero ∙ ap all_zero e ∙ next-not-zero seed seed-vector refl)

-- joining in the first: held to the end of the third; the announcement, and all after it, 0
abbrev until_announced : List ℕ
until_announced =
    0 ∷ (1 ∷ 0 ∷ 1 ∷ 0 ∷ (1 ∷ 0 ∷ 1 ∷ 0 ∷ 1 ∷ 0 ∷ 1 ∷ 0 ∷ (1 ∷ 0 ∷ 1 ∷ 0 ∷ 1 ∷ 0 ∷ 1 ∷ 0 ∷ (0 ∷ (0 ∷ 0 ∷ 0 ∷ 0 ∷ 0 ∷ 0 ∷ 0 ∷ 0 ∷ (0 ∷ []))))))

-- joining in the second, of which two more slots arrive: held; the announcement, and all after it, 0
abbrev after_entry : List ℕ
after_entry = 0 ∷ (0 ∷ 1 ∷ 0 ∷ 1 ∷ (0 ∷ (0 ∷ 0 ∷ 0 ∷ 0 ∷ 0 ∷ 0 ∷ 0 ∷ 0 ∷ (0 ∷ []))))

-- the premises hold, our receiver answers these numbers, and each word that it hands out is the one that was spoken
pub record Ridden (P : Session → Session → Type 0) (t : Talk) (e : WayIn) (numbers : List ℕ) : Type 0 where
  pub kept : Kept t
  pub vectors : Successive P (heard_from e t.sessions)
  pub answered : answers (default_log handset book_of_three 0 t e) ≡ numbers
  pub right : Each Right (default_log handset book_of_three 0 t e)

module _ (c : ℕ) (g : (1 ≤ c) × (c ≤ 3)) (n : scrambles c ≡ false) (r : ℕ) (l : r ≤ 1) (frame : List ℕ) (f : FrameAt (layout r) frame) where
  rode : (P : Session → Session → Type 0) (t : Talk) → MeetsTalkDefault P handset t → t.cipher ≡ c → t.key ≡ key_of c → Kept t → (e : WayIn) → Successive P (heard_from e t.sessions) → length (all_slots t.sessions) ≤ 1000000
      → (numbers : List ℕ) → map due (default_notices t e) ≡ numbers → Ridden P t e numbers
  rode P t m q o k e s few numbers d =
      let h = m k e (λ z. s) (within_limit t few e) book_of_three 0 (rw (q, o) (has_key c g)) in
      record { kept = k; vectors = s; answered = default_settled handset book_of_three 0 t e h ∙ d; right = h }

  -- of our sender
  made : (said : List Saying) → AllSaid c r said → (e : WayIn) → length (all_slots (talk_made c (key_of c) 0 r seed book_of_three said).sessions) ≤ 1000000 → (numbers : List ℕ)
      → map due (default_notices (talk_made c (key_of c) 0 r seed book_of_three said) e) ≡ numbers → Ridden Generated (talk_made c (key_of c) 0 r seed book_of_three said) e numbers
  made said a e =
      let t = talk_made c (key_of c) 0 r seed book_of_three said in
      rode Generated t (handset_meets_3 t) refl refl
      (ours_keeps book_of_three c 0 (key_of c) (has_key c g) (key_long c g) r l seed (seed_starts c) said a)
      e (linked_heard Generated e t.sessions (ours_generated book_of_three c 0 (key_of c) (has_key c g) (key_long c g) r l seed (seed_starts c) said a n))

  wholly-kept : Each (SaidKept (layout r)) (said_all frame others)
  wholly-kept = said-all-kept (layout r) frame f others

  begun_kept : Each (SaidKept (layout r)) (said_all frame (true ∷ []))
  begun_kept = said-all-kept (layout r) frame f (true ∷ [])

  pub faded-ridden : Ridden Generated (faded c r frame) opening (replicate 18 0)
  faded-ridden =
      let e = eight c g n r l frame f in
      made (fading frame)
      (record { each = (wholly-kept, (wholly-kept, (begun_kept, tt))); full = (e, (e, omega (arith, e))) }) opening (omega arith) (replicate 18 0) (rw n)

  later-ridden : Ridden Generated (later c r frame) (joining 0) until_announced
  later-ridden =
      let e = eight c g n r l frame f in
      made (late_ones frame)
      (record { each = (wholly-kept, (wholly-kept, (wholly-kept, (wholly-kept, (begun_kept, tt))))); full = (e, (e, (e, (e, omega (arith, e))))) }) (joining 0) (omega arith) until_announced (rw n)

  -- carried zeros are not unknown
  zeros-ridden : Ridden Generated (zeros c r frame false) opening (replicate 18 0)
  zeros-ridden =
      let t = zeros c r frame false in
      rode Generated t (handset_meets_3 t) refl refl (zeros-kept c g n r l frame f false) opening (sym zeros-next, (sym zeros-next, tt)) (omega arith) (replicate 18 0) (rw n)

  -- the announced vector wins, and is ridden on from
  jumped-kept : Kept (jumped c r frame)
  jumped-kept =
      let kept = session-kept c g n r l frame f in
      let e = eight c g n r l frame f in
      record {
        rate = l;
        key = key_long c g;
        each = (kept seed refl false last_too, (kept no_vector refl true last_too, (kept no_vector refl false (true ∷ []), tt)));
        full = (e, (e, omega (arith, e)));
      }

  jumped-ridden : Ridden GeneratedOrAnnounced (jumped c r frame) opening (replicate 19 0)
  jumped-ridden =
      let t = jumped c r frame in
      rode GeneratedOrAnnounced t (handset_meets_3_announced t) refl refl jumped-kept opening (inl refl, (inr (sym zeros-next), tt)) (omega arith) (replicate 19 0) (rw n)

  -- a late entry into its second session: what was before doesn't count
  reseeded-kept : Kept (reseeded c r frame)
  reseeded-kept =
      let kept = session-kept c g n r l frame f in
      let e = eight c g n r l frame f in
      record {
        rate = l;
        key = key_long c g;
        each = (kept seed refl false last_too, (kept no_vector refl false last_too, (kept no_vector refl true last_too, (kept no_vector refl false (true ∷ []), tt))));
        full = (e, (e, (e, omega (arith, e))));
      }

  reseeded-ridden : Ridden Generated (reseeded c r frame) (joining 1) after_entry
  reseeded-ridden =
      let t = reseeded c r frame in
      rode Generated t (handset_meets_3 t) refl refl reseeded-kept (joining 1) (sym zeros-next, (sym zeros-next, tt)) (omega arith) after_entry (rw n)

-- ---- at either rate, whatever one frame is said in every slot

module _ (r : ℕ) (l : r ≤ 1) (frame : List ℕ) (f : FrameAt (layout r) frame) where
  pub mixed-des : Heard (mixed 2 r frame)
  mixed-des = mixed-heard 2 (omega arith, omega arith) refl r l frame f

  pub mixed-aes : Heard (mixed 3 r frame)
  mixed-aes = mixed-heard 3 (omega arith, omega arith) refl r l frame f

  pub zeros-des : Heard (zeros 2 r frame true) × Follows 2 no_vector (zeros 2 r frame true).sessions
  zeros-des = zeros-heard 2 (omega arith, omega arith) refl r l frame f

  pub zeros-aes : Heard (zeros 3 r frame true) × Follows 3 no_vector (zeros 3 r frame true).sessions
  zeros-aes = zeros-heard 3 (omega arith, omega arith) refl r l frame f

  pub faded-des : Ridden Generated (faded 2 r frame) opening (replicate 18 0)
  faded-des = faded-ridden 2 (omega arith, omega arith) refl r l frame f

  pub faded-aes : Ridden Generated (faded 3 r frame) opening (replicate 18 0)
  faded-aes = faded-ridden 3 (omega arith, omega arith) refl r l frame f

  pub later-des : Ridden Generated (later 2 r frame) (joining 0) until_announced
  later-des = later-ridden 2 (omega arith, omega arith) refl r l frame f

  pub later-aes : Ridden Generated (later 3 r frame) (joining 0) until_announced
  later-aes = later-ridden 3 (omega arith, omega arith) refl r l frame f

  pub faded-zeros-des : Ridden Generated (zeros 2 r frame false) opening (replicate 18 0)
  faded-zeros-des = zeros-ridden 2 (omega arith, omega arith) refl r l frame f

  pub faded-zeros-aes : Ridden Generated (zeros 3 r frame false) opening (replicate 18 0)
  faded-zeros-aes = zeros-ridden 3 (omega arith, omega arith) refl r l frame f

  pub jumped-des : Ridden GeneratedOrAnnounced (jumped 2 r frame) opening (replicate 19 0)
  jumped-des = jumped-ridden 2 (omega arith, omega arith) refl r l frame f

  pub jumped-aes : Ridden GeneratedOrAnnounced (jumped 3 r frame) opening (replicate 19 0)
  jumped-aes = jumped-ridden 3 (omega arith, omega arith) refl r l frame f

  pub reseeded-des : Ridden Generated (reseeded 2 r frame) (joining 1) after_entry
  reseeded-des = reseeded-ridden 2 (omega arith, omega arith) refl r l frame f

  pub reseeded-aes : Ridden Generated (reseeded 3 r frame) (joining 1) after_entry
  reseeded-aes = reseeded-ridden 3 (omega arith, omega arith) refl r l frame f

-- as a whole call `jumped` does not meet the first premise, and `reseeded` not even the weaker one
pub not_generated : (c r : ℕ) (frame : List ℕ) → (Successive Generated (jumped c r frame).sessions → ⊥) × (Successive GeneratedOrAnnounced (reseeded c r frame).sessions → ⊥)
not_generated c r frame = (λ s. not-next s.0, λ s. neither s.0)
  where
    neither : (false ≡ true) ⊎ (no_vector ≡ next_vector seed) → ⊥
    neither (inl e) = true≢false (sym e)
    neither (inr e) = not-next e

-- ---- scramble, at either rate

abbrev ks : ℕ → ℕ
ks = stream 1 key0001 no_vector

-- slot p of silence, where what goes on the air is that of another frame, and the same in the words that the mask has
abbrev gave_way : ℕ → ℕ → List ℕ → ℕ → Slot
gave_way r mask frame p = record { mask = mask; spoken = silence r; sent = turning r ks p mask frame; arrived = true }

module _ (r mask : ℕ) (frame : List ℕ) (long : length frame ≡ (layout r).frame) (m : mask ≤ 15)
    (same : (w : ℕ) → w < 4 → in_mask mask w ≡ true → word_at (layout r) w frame ≡ word_at (layout r) w (silence r)) where
  abbrev its : Layout
  its = layout_by (width r)

  sized : length frame ≡ its.frame
  sized = long ∙ ap (λ (l : Layout). l.frame) (layout_is r)

  as-silence : (w : ℕ) → w < 4 → in_mask mask w ≡ true → word_at its w frame ≡ word_at its w (silence r)
  as-silence =
      subst (λ (l : Layout). (w : ℕ) → w < 4 → in_mask mask w ≡ true → word_at l w frame ≡ word_at l w (silence r)) (layout_is r) same

  air : (p : ℕ) → OnAir its ks p (record { mask = mask; spoken = frame; sent = turning r ks p mask frame; arrived = true })
  air p = protected_air (width r) ks p (record { mask = mask; spoken = frame; sent = turning r ks p mask frame; arrived = true }) sized refl

  gave-way-kept : (p : ℕ) → SlotKept (layout r) ks p (gave_way r mask frame p)
  gave-way-kept p =
      subst (λ (l : Layout). SlotKept l ks p (gave_way r mask frame p)) (sym (layout_is r))
      (record {
        mask = m;
        spoken = subst (λ (l : Layout). FrameAt l (silence r)) (layout_is r) (silence_frame r);
        sent = frame_at (width r) (protect_frame (width r) (of_slot (width r) ks p) mask frame sized);
        air = record {
          speech = λ w j lw lj h.
              (air p).speech w j lw lj h
              ∙ ap (λ (a : ℕ). flip a (ks (its.slot * p + its.speech * w + j))) (word-bits (width r) w frame (silence r) (as-silence w lw h) j (omega arith));
          spare = λ w j lw l lj h. (air p).spare w j lw l lj h ∙ word-bits (width r) w frame (silence r) (as-silence w lw h) j lj;
        };
      })

-- the second word gave way to signalling
abbrev signalling_in : Layout → List ℕ
signalling_in l = replicate l.octets 0 ++ (replicate l.octets 255 ++ replicate (l.octets * 2) 0)

abbrev signalling : ℕ → List ℕ
signalling r = signalling_in (layout r)

signalling_frame : (r : ℕ) → FrameAt (layout r) (signalling r)
unfolding all_below
signalling_frame =
    by_layout (λ l. FrameAt l (signalling_in l)) (record { long = refl; octets = octets_by (signalling_in half) refl }) (record { long = refl; octets = octets_by (signalling_in full) refl })

one_gave_way : (r p : ℕ) → SlotKept (layout r) ks p (gave_way r 13 (signalling r) p)
one_gave_way r = gave-way-kept r 13 (signalling r) (signalling_frame r).long (omega arith) same
  where
    apart : (w : ℕ) → word_at half w (signalling_in half) ≡ word_at half w (replicate 28 0) → word_at full w (signalling_in full) ≡ word_at full w (replicate 36 0)
        → word_at (layout r) w (signalling r) ≡ word_at (layout r) w (silence r)
    apart w h f = by_layout (λ l. word_at l w (signalling_in l) ≡ word_at l w (replicate l.frame 0)) h f r

    same : (w : ℕ) → w < 4 → in_mask 13 w ≡ true → word_at (layout r) w (signalling r) ≡ word_at (layout r) w (silence r)
    same zero l h = apart 0 refl refl
    same (suc zero) l h = absurd (true≢false (sym h))
    same (suc (suc zero)) l h = apart 2 refl refl
    same (suc (suc (suc zero))) l h = apart 3 refl refl
    same (suc (suc (suc (suc w)))) l h = absurd (omega arith)

-- and all words, as those of each second slot at 9600 bps half rate
all_gave_way : (r p : ℕ) → SlotKept (layout r) ks p (gave_way r 0 (loud r) p)
all_gave_way r = gave-way-kept r 0 (loud r) (loud_frame r).long (omega arith) (λ w l h. absurd (true≢false (sym h ∙ rw (zero-div (2 ^ w)))))

-- of two sessions, in one slot of each the second word gave way, in another all did, and two slots are lost
abbrev pub replacing : ℕ → Talk
replacing r =
    record {
      cipher = 1;
      rate = r;
      key = key0001;
      sessions =
          record {
            vector = no_vector;
            announced = false;
            slots = gave_way r 13 (signalling r) 0 ∷ saying turning r (silence r) ks 1 false ∷ saying turning r (silence r) ks 2 true ∷ gave_way r 0 (loud r) 3 ∷ [];
          }
          ∷ record { vector = no_vector; announced = false; slots = saying turning r (silence r) ks 0 false ∷ gave_way r 13 (signalling r) 1 ∷ [] } ∷ [];
    }

module _ (r : ℕ) (l : r ≤ 1) where
  pub replacing-kept : Kept (replacing r)
  replacing-kept =
      let quiet = saying-kept r (silence r) (silence_frame r) ks in
      record {
        rate = l;
        key = refl;
        each = (
          record { vector = refl; slots = (one_gave_way r 0, (quiet 1 false, (quiet 2 true, (all_gave_way r 3, tt)))) },
          (record { vector = refl; slots = (quiet 0 false, (one_gave_way r 1, tt)) }, tt),
        );
        full = (refl, omega arith);
      }

  replacing-settled : (e : WayIn) → answers (talk_log ours book_of_three 0 (replacing r) e) ≡ map due (notices_of (replacing r) e)
  replacing-settled e = strict-settled ours book_of_three 0 (replacing r) e (ours_meets_3 (replacing r) replacing-kept book_of_three 0 (has_key 1 (omega arith, omega arith)) e (within_limit (replacing r) (omega arith) e))

  -- by the opening, and joining in the first session: all 0
  pub replacing-opened : answers (talk_log ours book_of_three 0 (replacing r) opening) ≡ 0 ∷ (0 ∷ 0 ∷ 0 ∷ 0 ∷ (0 ∷ 0 ∷ []))
  replacing-opened = replacing-settled opening

  pub replacing-joined : answers (talk_log ours book_of_three 0 (replacing r) (joining 0)) ≡ 0 ∷ (0 ∷ 0 ∷ [])
  replacing-joined = replacing-settled (joining 0)

-- the replaced word goes out as something else than was spoken
pub replaced_otherwise : (r : ℕ) → word_at (layout r) 1 (gave_way r 13 (signalling r) 0).sent ≡ word_at (layout r) 1 (gave_way r 13 (signalling r) 0).spoken → ⊥
replaced_otherwise r e =
    let f : IsFrame (width r) (signalling r) = is_frame (width r) (subst (λ (l : Layout). FrameAt l (signalling r)) (layout_is r) (signalling_frame r)) in
    let stays : word_at (layout r) 1 (gave_way r 13 (signalling r) 0).sent ≡ word_at (layout r) 1 (signalling r) =
    subst (λ (l : Layout). word_at l 1 (gave_way r 13 (signalling r) 0).sent ≡ word_at l 1 (signalling r)) (sym (layout_is r))
    (word_stays (width r) (of_slot (width r) ks 0) 13 1 (signalling r) f (omega arith) refl) in
    by_layout (λ l. word_at l 1 (signalling_in l) ≡ word_at l 1 (replicate l.frame 0) → ⊥) (λ q. not-silent q) (λ q. not-silent q) r (sym stays ∙ e)
  where
    not-silent : {xs ys : List ℕ} → 255 ∷ xs ≡ 0 ∷ ys → ⊥
    not-silent q = let z : ◌≡◌ {A = ℕ} 255 0 = ap (λ (xs : List ℕ). get_or xs 0 0) q in omega arith
