-- Where a receiver stands after p slots of a session, and what each operation does there.
use mathlib.Core.Path.{◌≡◌, refl, sym, ap, ◌∙◌}
use mathlib.Core.Bool.{Bool, true, false, true≢false}
use mathlib.Core.List.{List}
use Prim.Native.Nat.{ℕ, ◌+◌, ◌*◌, ◌≤◌, ◌<◌}
use native.Mathlib.Omega.{arith}
use lib.Dec.{ltb}
use lib.ListN.{length}
use borrow.Author.Tests.{eq-eqb, lt-leb, le-ltb, lt-ltb}
use Rattle.ciphers.proofs.KeyLaws as keys
use Rattle.ciphers.proofs.KeystreamLaws.{stream-rest}
use Rattle.sizes.proofs.Cases.{by_range}
use Rattle.octets.specs.Tests.{pick}
use Rattle.answers.specs.declared.Answer.{Answer}
use Rattle.answers.specs.declared.Answer.TheVariants.{Done, Held}
use Rattle.sizes.specs.Ciphers.{key_octets, session_slots, vector_octets, scrambles, superframe_slots}
use Rattle.ciphers.specs.Keystream.{stream}
use Rattle.keyentry.specs.Entry.{in_range}
use Rattle.keybook.proofs.GoodLaws.{good_sized}
use Rattle.sizes.specs.Frame.{width, frame_octets, slot_bits, most_words}
use Rattle.calls.specs.declared.call.Terms.{Terms}
use Rattle.calls.specs.Counts.{no_counts, plus, total, lost_words, arrived_words}
use Rattle.calls.specs.declared.counts.Counts.{Counts}
use Rattle.calls.specs.declared.call.Call.{Call}
use Rattle.voice.specs.Frame.{of_slot, protect}
use Rattle.openings.specs.Ladder.{session_vector, key_for, key_refusals, zero_refusals, vector_refusals}
use Rattle.ciphers.specs.Keys.{key_right}
use Rattle.calls.specs.Call.{receiving_end, terms_right, good_call, Known, told, is_known, is_told, known_vector, untold, Standing, closed, receiving, standing, terms_of, width_of, no_call, written, is_bad}
use Rattle.calls.specs.Opening.{join_refusals, begun_refusals, open_of, joined, join_of}
use Rattle.voice.specs.Slot.{ridden, slot_on, lost_of, top_mask, stream_of, in_slot, voice_of}
use Rattle.calls.specs.Vector.{announce_refusals, announce_of}
use Rattle.voice.proofs.FrameLaws.{protect_same}
use Rattle.openings.proofs.ReadyLaws.{key_in_range, key_right_lem}
use Rattle.calls.proofs.CountLaws.{Fits}
use Rattle.calls.proofs.CallLaws.{good_by}
use Rattle.calls.proofs.GoodLaws.{closed_good, read_written, announce_good}
use Rattle.voice.proofs.SlotGood.{slot-stands}
use Rattle.calls.proofs.OpeningGood.{open_good, join_good}
use Rattle.voice.proofs.SlotSteps.{voice_at, lost-at}
use Rattle.demands.specs.Talk.{HasKey}

-- ---- a book that has the key

module _ (b : List ℕ) (c i : ℕ) (key : List ℕ) (h : HasKey b c i key) where
  pub pair_in_range : in_range c i ≡ true
  pair_in_range = key_in_range b c i h.good h.there h.ready

  pub has_key-right : key_right c (key_for b c i) ≡ true
  has_key-right = key_right_lem b c i h.good h.there h.ready

  pub key_ranged : (1 ≤ c) × (c ≤ 3)
  key_ranged = keys.key_ranged c (key_for b c i) has_key-right

  -- and gives the keystream
  pub same_stream : length key ≡ key_octets c → (v : List ℕ) (n : ℕ) → stream c (key_for b c i) v n ≡ stream c key v n
  same_stream long v n = ap (λ (l : List ℕ). stream c l v n) h.same ∙ stream-rest c key_ranged key v long n

-- ---- the sessions of a cipher

pub slots_some : (c : ℕ) → (1 ≤ c) × (c ≤ 3) → superframe_slots ≤ session_slots c
slots_some = by_range (λ n. superframe_slots ≤ session_slots n) (omega arith) (omega arith) (omega arith)

pub eight_slots : (c : ℕ) → (1 ≤ c) × (c ≤ 3) → scrambles c ≡ false → session_slots c ≡ 8
eight_slots = by_range (λ n. scrambles n ≡ false → session_slots n ≡ 8) (λ e. absurd (true≢false e)) (λ e. refl) (λ e. refl)

pub closed_read : standing no_call ≡ closed
closed_read = read_written no_counts closed refl closed_good

-- scramble's stream asks for no vector
session-stream : (key v : List ℕ) (n c : ℕ) → (1 ≤ c) × (c ≤ 3) → stream c key (session_vector c v) n ≡ stream c key v n
unfolding stream
session-stream key v n = by_range (λ c. stream c key (session_vector c v) n ≡ stream c key v n) refl refl refl

-- ---- where the receiver stands

-- as a session starts of which it was told nothing, after one of whose vector it knew k
abbrev pub fresh : Terms → Known → Standing
fresh t k = receiving t 0 (ridden t k)

-- after p slots of a session of whose vector it knows k; after the last it is in the next one
abbrev pub place : Terms → Known → ℕ → Standing
place t k p = pick (ltb p (session_slots t.cipher)) (receiving t p k) (fresh t k)

-- joining stands where a receiver is after a superframe of a session of which it was told nothing: scramble's is over
joined_at : (k : List ℕ) (r m c : ℕ) → (1 ≤ c) × (c ≤ 3) → joined (terms_of c k r m) ≡ place (terms_of c k r m) (untold c) superframe_slots
joined_at k r m = by_range (λ c. joined (terms_of c k r m) ≡ place (terms_of c k r m) (untold c) superframe_slots) refl refl refl

module _ (t : Terms) (k : Known) where
  pub place_in : (p : ℕ) → p < session_slots t.cipher → place t k p ≡ receiving t p k
  place_in p l = rw (lt-ltb _ _ l)

  pub place_end : (p : ℕ) → p ≡ session_slots t.cipher → place t k p ≡ fresh t k
  place_end p l = rw (le-ltb p (session_slots t.cipher) (omega arith))

  -- ---- a slot

  -- its counts are those that are written
  pub place_counts : (n : Counts) (p : ℕ) → (written n (place t k p)).counts ≡ n
  place_counts n p = go (ltb p (session_slots t.cipher))
    where
      go : (b : Bool) → (written n (pick b (receiving t p k) (fresh t k))).counts ≡ n
      go true = refl
      go false = refl

  module _ (p : ℕ) (l : p < session_slots t.cipher) (s : Call) (e : standing s ≡ place t k p) (room : total s.counts < most_words) where
    pub place-lost : lost_of s ≡ (Done, written (plus s.counts lost_words) (place t k (p + 1)))
    unfolding slot_on
    place-lost = lost-at s (e ∙ place_in p l) room

    pub place_voice : (mask : ℕ) (frame : List ℕ) → mask ≤ top_mask → length frame ≡ frame_octets (width_of t)
        → voice_of s mask frame
        ≡ (pick (is_known k) Done Held, (written (plus s.counts (arrived_words mask (is_known k))) (place t k (p + 1)), pick (is_known k) (in_slot stream_of mask frame (written s.counts (receiving t p k))) frame))
    unfolding slot_on
    place_voice mask frame m f = voice_at s mask frame m (receiving t p k) f (e ∙ place_in p l) refl (lt-leb _ _ room)

    pub place-on : (w : Counts) → Fits (is_known k) w → standing (written (plus s.counts w) (place t k (p + 1))) ≡ place t k (p + 1)
    unfolding slot_on
    place-on = slot-stands s (e ∙ place_in p l) room

module _ (b : List ℕ) (c i : ℕ) (key : List ℕ) (h : HasKey b c i key) (r m : ℕ) (right : terms_right receiving_end r m ≡ true) where
  abbrev t : Terms
  t = terms_of c (key_for b c i) r m

  -- a slot is turned by the sender's key and vector
  module _ (long : length key ≡ key_octets c) where
    pub same_slot : (n : Counts) (k : Known) (v : List ℕ) → known_vector k ≡ session_vector c v → (p mask : ℕ) (frame : List ℕ)
        → in_slot stream_of mask frame (written n (receiving t p k)) ≡ protect (width r) (of_slot (width r) (stream c key v) p) mask frame
    same_slot n k v e p mask frame =
        protect_same (width r) (of_slot (width r) (stream c (key_for b c i) (known_vector k)) p) (of_slot (width r) (stream c key v) p) mask
        (λ n l.
        ap (λ (w : List ℕ). stream c (key_for b c i) w (slot_bits (width r) * p + n)) e
        ∙ session-stream (key_for b c i) v (slot_bits (width r) * p + n) c (key_ranged b c i key h)
        ∙ same_stream b c i key h long v (slot_bits (width r) * p + n)) frame

  -- ---- how it comes in, and what it is told

  some : 0 < session_slots c
  some = let l = slots_some c (key_ranged b c i key h) in omega arith

  -- of what an operation leaves
  stood : {o : Answer × Call} (m : Counts) {s u : Standing} → o ≡ (Done, written m s) → good_call o.1 ≡ true → is_bad s ≡ false → s ≡ u → standing (written m s) ≡ u
  stood m e g n q = read_written m _ n (sym (ap (λ (o : Answer × Call). good_call o.1) e) ∙ g) ∙ q

  pub place_opened : (v : List ℕ) → length v ≡ vector_octets → open_of no_call c i r m v b ≡ (Done, written no_counts (receiving t 0 (told (session_vector c v))))
  unfolding open_of begun_refusals vector_refusals key_refusals zero_refusals
  place_opened v l =
      rw (closed_read, eq-eqb _ _ l, eq-eqb _ _ (good_sized b h.good), right, pair_in_range b c i key h, h.good, h.there, h.ready)

  pub opened-stands : (v : List ℕ) → length v ≡ vector_octets → standing (written no_counts (receiving t 0 (told (session_vector c v)))) ≡ place t (told (session_vector c v)) 0
  opened-stands v l =
      stood no_counts (place_opened v l) (open_good no_call closed_good c i r b m v) refl (sym (place_in t (told (session_vector c v)) 0 some))

  pub place-joined : join_of no_call c i r m b ≡ (Done, written no_counts (joined t))
  unfolding join_of join_refusals key_refusals
  place-joined = rw (closed_read, eq-eqb _ _ (good_sized b h.good), right, pair_in_range b c i key h, h.good, h.there, h.ready)

  pub joined-stands : standing (written no_counts (joined t)) ≡ place t (untold c) superframe_slots
  joined-stands = stood no_counts place-joined (join_good no_call closed_good c i r b m) refl (joined_at (key_for b c i) r m c (key_ranged b c i key h))

  -- as a session starts
  module _ (s : Call) (k : Known) (e : standing s ≡ receiving t 0 k) where
    -- told of its vector
    module _ (v : List ℕ) (l : length v ≡ vector_octets) (n : scrambles c ≡ false) (u : is_told k ≡ false) where
      pub place-announced : announce_of s v ≡ (Done, written s.counts (receiving t 0 (told v)))
      unfolding announce_of announce_refusals
      place-announced = rw (e, eq-eqb _ _ l, n, u)

      pub announced-stands : standing (written s.counts (receiving t 0 (told v))) ≡ place t (told v) 0
      announced-stands = stood s.counts place-announced (announce_good s (good_by s (ap is_bad e)) v) refl (sym (place_in t (told v) 0 some))

    -- or not
    pub place-untold : standing s ≡ place t k 0
    place-untold = e ∙ sym (place_in t k 0 some)
