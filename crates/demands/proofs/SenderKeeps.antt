-- Our sender keeps the rules: the call that it makes is one of those that demand 3 is about. Its sessions' vectors follow one another, and it never
-- stops or runs into zeros.
use mathlib.Core.Path.{◌≡◌, refl, sym, ap, ap₂, ◌∙◌}
use mathlib.Core.Bool.{Bool, true, false, true≢false}
use mathlib.Core.List.{List, [], ◌∷◌, map}
use Prim.Native.Nat.{ℕ, suc, ◌+◌, ◌*◌, ◌≤◌, ◌<◌}
use native.Mathlib.Nat.{add-zero}
use native.Mathlib.Numerals.{add-one}
use native.Mathlib.Omega.{arith}
use lib.Dec.{ltb}
use lib.ListN.{length}
use borrow.Author.Tests.{eq-eqb, le-ltb, lt-ltb}
use Rattle.generator.proofs.NotZero.{next-not-zero}
use Rattle.generator.proofs.OwnNext.{own-next-zero}
use Rattle.octets.specs.Tests.{pick}
use Rattle.octets.specs.Lists.{all_zero, Each}
use Rattle.generator.specs.Generator.{IsVector, next_vector}
use Rattle.sizes.specs.Frame.{width, frame_octets, slot_bits}
use Rattle.sizes.specs.Ciphers.{key_octets, session_slots, no_vector, scrambles}
use Rattle.ciphers.specs.Keystream.{stream}
use Rattle.answers.specs.declared.Answer.{Answer}
use Rattle.answers.specs.declared.Answer.TheVariants.{Done}
use Rattle.keybook.proofs.GoodLaws.{good_sized}
use Rattle.calls.specs.declared.call.Terms.{Terms}
use Rattle.calls.specs.Counts.{no_counts, plus, arrived_words}
use Rattle.calls.specs.declared.call.Call.{Call}
use Rattle.voice.specs.Frame.{of_slot, protect}
use Rattle.openings.specs.Ladder.{session_vector, key_for, key_refusals, zero_refusals, vector_refusals}
use Rattle.openings.proofs.LadderLaws.{not-zero_for}
use Rattle.calls.specs.Call.{sending_end, by_default, sending, standing, terms_of, no_call, written}
use Rattle.calls.specs.Opening.{begun_refusals, start_of}
use Rattle.voice.specs.Slot.{going_on, slot_on, stream_of, voice_of}
use Rattle.calls.specs.Vector.{next_vector_of}
use Rattle.voice.proofs.FrameLaws.{protect_same, protect_frame}
use Rattle.sizes.proofs.SizeLaws.{no_vector-zero}
use Rattle.calls.proofs.CallLaws.{is-sender}
use Rattle.calls.proofs.GoodLaws.{sent_right, Placed, good-sender, read_written, sender_some}
use Rattle.voice.proofs.SlotGood.{going_right}
use Rattle.calls.proofs.OpeningGood.{sent_right_lem}
use Rattle.calls.proofs.Exactly.{next_given}
use Rattle.voice.proofs.NeverZero.{Sends, zeros-vector, going_vector, voice_sends}
use Rattle.voice.proofs.SlotLaws.{sent_alike}
use Rattle.voice.proofs.SlotSteps.{voice_at}
use Rattle.demands.specs.Rates.{Layout, layout}
use Rattle.demands.specs.Talk.{Slot, Session, SlotKept, SlotsKept, SessionKept, Full, slot_counts, Kept, HasKey, WayIn}
use Rattle.demands.specs.Notices.{WithinLimit}
use Rattle.demands.specs.Log.{talk_log}
use Rattle.demands.specs.Demand3Default.{default_log, Successive, Generated, handset}
use Rattle.demands.specs.Demand3.{Right, ours}
use Rattle.demands.specs.OurSender.{Said, Saying, slots_made, afterwards, sessions_made, talk_made, StartVector, SaidKept, AllSaid, Follows}
use Rattle.demands.proofs.Layouts.{layout_by, layout_is, sender-right}
use Rattle.demands.proofs.AirLaws.{frame_at, protected_air}
use Rattle.demands.proofs.Standing.{pair_in_range, key_ranged, has_key-right, slots_some, closed_read, same_stream}
use Rattle.demands.proofs.ReceiverMeets.{linked_heard, ours_meets_3, handset_meets_3}

-- a sender's vector: eight octets, and for DES and AES not zeros
pub record Sound (c : ℕ) (v : List ℕ) : Type 0 where
  pub vector : IsVector v
  pub right : sent_right c v ≡ true

starts_sound : (c : ℕ) (v : List ℕ) → StartVector c v → Sound c (session_vector c v)
starts_sound c v s = record { vector = go (scrambles c); right = sent_right_lem c v (not-zero_for c v s.some) }
  where
    go : (t : Bool) → IsVector (pick t no_vector v)
    go true = zeros-vector
    go false = s.vector

going_sound : (c : ℕ) (v : List ℕ) → Sound c v → Sound c (going_on c v)
going_sound c v s = record { vector = going_vector c v; right = going_right c v (λ e. s.vector) s.right }

-- the vector that is gone on with is the next one's
going_next : (c : ℕ) (v : List ℕ) → going_on c (session_vector c v) ≡ session_vector c (next_vector v)
unfolding going_on
going_next c v = go (scrambles c)
  where
    go : (t : Bool) → pick t no_vector (next_vector (pick t no_vector v)) ≡ pick t no_vector (next_vector v)
    go true = refl
    go false = refl

-- vectors that follow one another are the generator's
follows_generated : (c : ℕ) → scrambles c ≡ false → (v : List ℕ) (xs : List Session) → Follows c v xs → Successive Generated xs
follows_generated c e v [] f = tt
follows_generated c e v (x ∷ []) f = tt
follows_generated c e v (x ∷ y ∷ ys) f = (
  f.1.0 ∙ ap (λ (t : Bool). pick t no_vector (next_vector v)) e ∙ ap next_vector (sym (f.0 ∙ ap (λ (t : Bool). pick t no_vector v) e)),
  follows_generated c e (next_vector v) (y ∷ ys) f.1,
)

module _ (b : List ℕ) (c i : ℕ) (key : List ℕ) (h : HasKey b c i key) (long : length key ≡ key_octets c) (rt : ℕ) (low : rt ≤ 1) where
  abbrev k : List ℕ
  k = key_for b c i

  abbrev t : Terms
  t = terms_of c k rt by_default

  abbrev its : Layout
  its = layout_by (width rt)

  placed : {p : ℕ} → p < session_slots c → Placed sending_end t p
  placed l = record { key = has_key-right b c i key h; terms = sender-right rt low; place = l }

  -- after p slots of a session; after the last it is in the next one, with the next vector
  abbrev spot : List ℕ → ℕ → Call
  spot v p = written no_counts (pick (ltb p (session_slots c)) (sending t p v) (sending t 0 (going_on c v)))

  spot_in : (v : List ℕ) (p : ℕ) → p < session_slots c → spot v p ≡ written no_counts (sending t p v)
  spot_in v p l = rw (lt-ltb _ _ l)

  spot-end : (v : List ℕ) (p : ℕ) → p ≡ session_slots c → spot v p ≡ written no_counts (sending t 0 (going_on c v))
  spot-end v p l = rw (le-ltb p (session_slots c) (omega arith))

  some : 0 < session_slots c
  some = let l = slots_some c (key_ranged b c i key h) in omega arith

  spot-read : (v : List ℕ) → Sound c v → (p : ℕ) → p < session_slots c → standing (spot v p) ≡ sending t p v
  spot-read v kept p l =
      ap standing (spot_in v p l)
      ∙ read_written no_counts (sending t p v) refl
      (good-sender t p (placed l) v kept.right no_counts)

  -- ---- the slots of a session

  module _ (v : List ℕ) (sound : Sound c v) where
    abbrev out : ℕ → Said → List ℕ
    out p x = protect (width rt) (of_slot (width rt) (stream c k v) p) x.mask x.spoken

    spot-voice : (p : ℕ) → p < session_slots c → (x : Said) → SaidKept its x → voice_of (spot v p) x.mask x.spoken ≡ (Done, (spot v (p + 1), out p x))
    unfolding slot_on
    spot-voice p l x s =
        voice_at (spot v p) x.mask x.spoken s.mask (sending t p v) s.frame.long (spot-read v sound p l) refl refl
        ∙ ap (λ (d : Call). (Done, (d, out p x))) (sym (sent_alike t p v (plus (spot v p).counts (arrived_words x.mask true))))

    abbrev made : ℕ → Said → List ℕ → Slot
    made p x f = record { mask = x.mask; spoken = x.spoken; sent = f; arrived = x.arrives }

    slot_kept : (p : ℕ) (x : Said) → SaidKept its x → SlotKept its (stream c key v) p (made p x (out p x))
    slot_kept p x s =
        record {
          mask = s.mask;
          spoken = s.frame;
          sent = frame_at (width rt) (protect_frame (width rt) (of_slot (width rt) (stream c k v) p) x.mask x.spoken s.frame.long);
          air =
              protected_air (width rt) (stream c key v) p (made p x (out p x)) s.frame.long
              (protect_same (width rt) (of_slot (width rt) (stream c k v) p) (of_slot (width rt) (stream c key v) p) x.mask (λ n r. same_stream b c i key h long v (slot_bits (width rt) * p + n)) x.spoken);
        }

    slots-made : (p : ℕ) (xs : List Said) → p + length xs ≤ session_slots c → Each (SaidKept its) xs → SlotsKept its (stream c key v) p (slots_made (spot v p) xs)
    slots-made p [] l s = tt
    slots-made p (x ∷ xs) l s = rw (spot-voice p (omega arith) x s.0, add-one) (slot_kept p x s.0, slots-made (suc p) xs (omega arith) s.1)

    slots-after : (p : ℕ) (xs : List Said) → p + length xs ≤ session_slots c → Each (SaidKept its) xs → afterwards (spot v p) xs ≡ spot v (p + length xs)
    slots-after p [] l s = ap (spot v) (sym (add-zero p))
    slots-after p (x ∷ xs) l s =
        rw (spot-voice p (omega arith) x s.0, add-one) (slots-after (suc p) xs (omega arith) s.1 ∙ ap (spot v) (omega arith))

  made-length : (s : Call) (xs : List Said) → length (slots_made s xs) ≡ length xs
  made-length s [] = refl
  made-length s (x ∷ xs) = ap suc (made-length (voice_of s x.mask x.spoken).1.0 xs)

  -- ---- the sessions

  counts-made : (s : Call) (xs : List Saying) → slot_counts (sessions_made s xs) ≡ map (λ x. length x.slots) xs
  counts-made s [] = refl
  counts-made s (x ∷ xs) = ap₂ ◌∷◌ (made-length s x.slots) (counts-made (afterwards s x.slots) xs)

  abbrev from : List ℕ → Call
  from v = written no_counts (sending t 0 v)

  session-made : (v : List ℕ) → Sound c v → (x : Saying) → length x.slots ≤ session_slots c → Each (SaidKept its) x.slots
      → SlotsKept its (stream c key v) 0 (slots_made (from v) x.slots)
  session-made v a x l s = rw (sym (spot_in v 0 some)) (slots-made v a 0 x.slots (omega arith) s)

  session-after : (v : List ℕ) → Sound c v → (x : Saying) → length x.slots ≡ session_slots c → Each (SaidKept its) x.slots
      → afterwards (from v) x.slots ≡ from (going_on c v)
  session-after v a x l s =
      rw (sym (spot_in v 0 some)) (slots-after v a 0 x.slots (omega arith) s ∙ spot-end v (0 + length x.slots) (omega arith))

  sessions-made : (v : List ℕ) → Sound c v → (xs : List Saying) → Each (λ x. Each (SaidKept its) x.slots) xs → Full c (map (λ x. length x.slots) xs)
      → Each (SessionKept its c key) (sessions_made (from v) xs)
  sessions-made v a [] s f = tt
  sessions-made v a (x ∷ []) s f = (record { vector = a.vector.long; slots = session-made v a x f s.0 }, tt)
  sessions-made v a (x ∷ y ∷ ys) s f =
      let e = session-after v a x f.0 s.0 in (
        record { vector = a.vector.long; slots = session-made v a x (omega (arith, f.0)) s.0 },
        rw e (sessions-made (going_on c v) (going_sound c v a) (y ∷ ys) s.1 f.1),
      )

  sessions-follow : (v : List ℕ) → Sound c (session_vector c v) → (xs : List Saying) → Each (λ x. Each (SaidKept its) x.slots) xs
      → Full c (map (λ x. length x.slots) xs) → Follows c v (sessions_made (from (session_vector c v)) xs)
  sessions-follow v a [] s f = tt
  sessions-follow v a (x ∷ []) s f = (refl, tt)
  sessions-follow v a (x ∷ y ∷ ys) s f =
      let a' : Sound c (session_vector c (next_vector v)) = rw (going_next c v) at (going_sound c (session_vector c v) a) in
      (refl, rw (session-after (session_vector c v) a x f.0 s.0 ∙ ap from (going_next c v)) (sessions-follow (next_vector v) a' (y ∷ ys) s.1 f.1))

  -- what next vector writes at any slot of a session is the vector of the next one
  pub next-announced : (v : List ℕ) → Sound c v → scrambles c ≡ false → (p : ℕ) → p < session_slots c → (lent : List ℕ) → length lent ≡ 8
      → (x : Saying) → length x.slots ≡ session_slots c → Each (SaidKept its) x.slots
      → next_vector_of (written no_counts (sending t p v)) lent ≡ (Done, (afterwards (from v) x.slots).vector)
  unfolding going_on
  next-announced v a e p l lent h8 x f s =
      let g : going_on c v ≡ next_vector v = rw e in
      next_given (written no_counts (sending t p v)) lent
      (record { long = h8; good = good-sender t p (placed l) v a.right no_counts; sends = refl; vectored = e })
      ∙ ap (λ (w : List ℕ). (Done, w)) (sym g)
      ∙ ap (λ (d : Call). (Done, d.vector)) (sym (session-after v a x f s))

  -- ---- from the start

  started-at : (v : List ℕ) → StartVector c v → start_of no_call c i rt v b ≡ (Done, from (session_vector c v))
  unfolding start_of begun_refusals vector_refusals key_refusals zero_refusals
  started-at v s =
      rw (closed_read, eq-eqb _ _ s.vector.long, eq-eqb _ _ (good_sized b h.good), sender-right rt low, pair_in_range b c i key h, h.good, h.there, h.ready, not-zero_for c v s.some)

  said-by : (said : List Saying) → Each (λ x. Each (SaidKept (layout rt)) x.slots) said → Each (λ x. Each (SaidKept its) x.slots) said
  said-by said a = rw (layout_is rt) at a

  pub ours_keeps : (v : List ℕ) → StartVector c v → (said : List Saying) → AllSaid c rt said → Kept (talk_made c key i rt v b said)
  ours_keeps v s said a =
      let e = ap (λ (r : Answer × Call). r.1) (started-at v s) in
      record {
        rate = low;
        key = long;
        each = rw (e, layout_is rt) (sessions-made (session_vector c v) (starts_sound c v s) said (said-by said a.each) a.full);
        full = rw (counts-made (start_of no_call c i rt v b).1 said) a.full;
      }

  pub ours_follows : (v : List ℕ) → StartVector c v → (said : List Saying) → AllSaid c rt said → Follows c v (talk_made c key i rt v b said).sessions
  ours_follows v s said a =
      let e = ap (λ (r : Answer × Call). r.1) (started-at v s) in
      rw e (sessions-follow v (starts_sound c v s) said (said-by said a.each) a.full)

  -- so with DES or AES each next vector is the generator's
  pub ours_generated : (v : List ℕ) → StartVector c v → (said : List Saying) → AllSaid c rt said → scrambles c ≡ false
      → Successive Generated (talk_made c key i rt v b said).sessions
  ours_generated v s said a e = follows_generated c e v (talk_made c key i rt v b said).sessions (ours_follows v s said a)

  -- with DES or AES no vector is its own next, so a sender that uses one vector for every session is not ours
  pub one-vector-not-ours : (v : List ℕ) → StartVector c v → scrambles c ≡ false → (said : List Saying) → AllSaid c rt said
      → (x y : Session) (zs : List Session) → (talk_made c key i rt v b said).sessions ≡ x ∷ y ∷ zs → x.vector ≡ y.vector → ⊥
  one-vector-not-ours v s e said a x y zs made same =
      let f : Follows c v (x ∷ y ∷ zs) = rw made at (ours_follows v s said a) in
      let at : (u : List ℕ) → session_vector c u ≡ u = λ u. ap (λ (t : Bool). pick t no_vector u) e in
      let zeros = own-next-zero v s.vector (sym (at (next_vector v)) ∙ sym f.1.0 ∙ sym same ∙ f.0 ∙ at v) in
      true≢false (sym no_vector-zero ∙ sym (ap all_zero zeros) ∙ s.some e)

  -- our sender to our receiver, whose book has the key under an ID of its own
  pub ours_to_ours : (v : List ℕ) → StartVector c v → (said : List Saying) → AllSaid c rt said
      → (b' : List ℕ) (i' : ℕ) → HasKey b' c i' key → (e : WayIn) → WithinLimit (talk_made c key i rt v b said) e → Each Right (talk_log ours b' i' (talk_made c key i rt v b said) e)
  ours_to_ours v s said a = ours_meets_3 (talk_made c key i rt v b said) (ours_keeps v s said a)

  -- and to our receiver in the default way
  pub ours_to_handset : (v : List ℕ) → StartVector c v → (said : List Saying) → AllSaid c rt said
      → (b' : List ℕ) (i' : ℕ) → HasKey b' c i' key → (e : WayIn) → WithinLimit (talk_made c key i rt v b said) e → Each Right (default_log handset b' i' (talk_made c key i rt v b said) e)
  ours_to_handset v s said a b' i' h e few =
      let t = talk_made c key i rt v b said in
      handset_meets_3 t (ours_keeps v s said a) e (λ n. linked_heard Generated e t.sessions (ours_generated v s said a n)) few b' i' h

  -- ---- whatever slots it was given, done or refused

  sends-after : (s : Call) → Sends t s → (xs : List Said) → Sends t (afterwards s xs)
  sends-after s a [] = a
  sends-after s a (x ∷ xs) = sends-after (voice_of s x.mask x.spoken).1.0 (voice_sends t s a stream_of x.mask x.spoken) xs

  module _ (v : List ℕ) (s : StartVector c v) (said : List Said) where
    abbrev pub sender : Call
    sender = afterwards (start_of no_call c i rt v b).1 said

    still : Sends t sender
    still =
        let sound = starts_sound c v s in
        let first : Sends t (from (session_vector c v)) =
        record {
          good = good-sender t 0 (placed some) (session_vector c v) sound.right no_counts;
          sends = refl;
          terms = refl;
          vector = λ e d. sound.vector;
        } in
        rw (started-at v s) (sends-after (from (session_vector c v)) first said)

    -- it never stops: a slot of 28 octets, or at full rate 36, its mask at most 15, is done
    pub ours-never_refused : (mask : ℕ) (frame : List ℕ) → mask ≤ 15 → length frame ≡ (layout rt).frame → (voice_of sender mask frame).0 ≡ Done
    ours-never_refused mask frame m l =
        let long-enough : length frame ≡ frame_octets (width sender.terms.rate) = rw still.terms (l ∙ ap (λ (x : Layout). x.frame) (layout_is rt)) in
        ap (λ (r : Answer × (Call × List ℕ)). r.0) (voice_at sender mask frame m (sending sender.terms sender.position sender.vector) long-enough (is-sender sender still.good still.sends) refl refl)

    module _ (e : scrambles c ≡ false) where
      vectored : scrambles sender.terms.cipher ≡ false
      vectored = ap (λ (u : Terms). scrambles u.cipher) still.terms ∙ e

      -- with DES or AES its vector is never zeros
      pub ours-never-zero : all_zero sender.vector ≡ false
      ours-never-zero = sender_some sender still.good still.sends vectored

      -- and next vector is done, with the next one, which is no zeros either
      pub ours-next_done : (lent : List ℕ) → length lent ≡ 8
          → (next_vector_of sender lent ≡ (Done, next_vector sender.vector)) × (all_zero (next_vector sender.vector) ≡ false)
      ours-next_done lent l = (
        next_given sender lent (record { long = l; good = still.good; sends = still.sends; vectored = vectored }),
        next-not-zero sender.vector (still.vector still.sends vectored) ours-never-zero,
      )
