-- A good call stays good under every slot: a DES or AES sender where its vector is eight octets.
use mathlib.Core.Path.{◌≡◌, refl, sym, ap, ◌∙◌}
use mathlib.Core.Bool.{Bool, true, false, ◌&&◌, not, false≢true}
use mathlib.Core.List.{List}
use Prim.Native.Nat.{ℕ, ◌+◌, ◌%◌, ◌≤◌, ◌<◌}
use native.Mathlib.Omega.{arith}
use lib.Dec.{ltb, eqb}
use borrow.Author.Tests.{lt-leb, leb-false, ltb-true, ltb-false, not-false, not-true}
use Rattle.octets.specs.Tests.{pick}
use Rattle.octets.specs.Bits.{bit}
use Rattle.octets.proofs.TestLaws.{and_left, and_right}
use Rattle.sizes.specs.Ciphers.{session_slots, superframe_slots, no_vector, scrambles}
use Rattle.sizes.specs.Frame.{most_words}
use Rattle.sizes.proofs.Cases.{by_range}
use Rattle.generator.specs.Generator.{IsVector, next_vector}
use Rattle.generator.proofs.NotZero.{next-not-zero}
use Rattle.answers.specs.declared.Answer.TheVariants.{Done}
use Rattle.calls.specs.declared.counts.Counts.{Counts}
use Rattle.calls.specs.declared.call.Terms.{Terms}
use Rattle.calls.specs.declared.call.Call.{Call}
use Rattle.calls.specs.Counts.{plus, total, lost_words, arrived_words}
use Rattle.calls.specs.Call.{sending_end, receiving_end, by_default, vector_right, counts_right, good_call, Known, unknown, told, carried, is_known, known_vector, known_by, untold, Standing, sending, receiving, standing, written, is_bad, receives, knows}
use Rattle.voice.specs.Slot.{going_on, rides, ridden, slot_on, is_full, lost_refusals, lost_of, voice_refusals, stream_of, voice_after, voice_by, voice_of, voice_by_octets}
use Rattle.sizes.proofs.SizeLaws.{slot_ranged, no_vector-zero}
use Rattle.calls.proofs.CountLaws.{Fits, lost-fits, arrived-fits, slot-right}
use Rattle.calls.proofs.CallLaws.{open_vector, by_stands, good_by}
use Rattle.calls.proofs.GoodLaws.{closed_good, sent_right, known_right, kept_right, Placed, good-sender, good_receiver, open_placed, read_written, untold-right, known-right, number_unknown, open_kept, open_sent, sent_some, scramble_known, sender-right, receiver_sends_none, VectorSent, kept}
use Rattle.voice.proofs.SlotLaws.{by_lent}

-- ---- a slot on

-- what is known as the next session starts: only by default is a vector carried
ridden-right : (t : Terms) (k : Known) → known_right t.cipher t.strictness (ridden t k) ≡ true
unfolding vector_right
ridden-right t k = go (rides t (is_known k)) refl
  where
    go : (b : Bool) → rides t (is_known k) ≡ b
        → known_right t.cipher t.strictness (pick b (carried (next_vector (known_vector k))) (untold t.cipher)) ≡ true
    go true e =
        rw (not-true (scrambles t.cipher) (and_left (not (scrambles t.cipher)) _ e))
        (and_left (eqb t.strictness by_default) _ (and_right (not (scrambles t.cipher)) _ e))
    go false e = untold-right t.cipher t.strictness

-- scramble goes on with no vector
pub scramble_right : (c : ℕ) (v : List ℕ) → scrambles c ≡ true → sent_right c (going_on c v) ≡ true
unfolding vector_right going_on
scramble_right c v e = rw (e, no_vector-zero)

-- DES or AES goes on with the next, which isn't zeros
pub going_right : (c : ℕ) (v : List ℕ) → (scrambles c ≡ false → IsVector v) → sent_right c v ≡ true → sent_right c (going_on c v) ≡ true
unfolding vector_right going_on
going_right c v i right = go (scrambles c) refl
  where
    go : (t : Bool) → scrambles c ≡ t → sent_right c (going_on c v) ≡ true
    go true e = scramble_right c v e
    go false e = rw (e, next-not-zero v (i e) (sent_some c v right e))

-- elsewhere in the session
moved : {end : ℕ} {t : Terms} {p : ℕ} → Placed end t p → {q : ℕ} → q < session_slots t.cipher → Placed end t q
moved at l = record { key = at.key; terms = at.terms; place = l }

-- a receiver that by default knows nothing as its next session starts knew nothing in the last
never-known : (u d n : Bool) (v : List ℕ) → (d && not (is_known (pick (not u && (d && n)) (carried v) (pick u (told no_vector) unknown)))) ≡ true
    → ((d && not n) ≡ true) × (n ≡ false)
never-known u false n v e = absurd (false≢true e)
never-known true true n v e = absurd (false≢true e)
never-known false true true v e = absurd (false≢true e)
never-known false true false v e = (refl, refl)

-- a session is whole superframes
slots-whole : (c p : ℕ) → p < session_slots c → session_slots c ≤ p + 1 → 0 % superframe_slots ≡ (p + 1) % superframe_slots
slots-whole c p h = by_range (λ n. p < session_slots n → session_slots n ≤ p + 1 → 0 % superframe_slots ≡ (p + 1) % superframe_slots) (λ l m. omega arith) (λ l m. omega arith) (λ l m. omega arith) c (slot_ranged c p h) h

module _ (t : Terms) (p : ℕ) where
  -- a receiver after a slot with words w, below the limit
  module _ (at : Placed receiving_end t p) (k : Known) (right : known_right t.cipher t.strictness k ≡ true)
      (n w : Counts) (counts : kept_right t p k n ≡ true) (room : total n < most_words) (fits : Fits (is_known k) w) where
    abbrev never : Known → Bool
    never j = eqb t.strictness by_default && not (is_known j)

    counts-on : (q : ℕ) (j : Known) → (never j ≡ true → (never k ≡ true) × (is_known k ≡ false)) → q % superframe_slots ≡ (p + 1) % superframe_slots
        → kept_right t q j (plus n w) ≡ true
    unfolding counts_right
    counts-on q j b e =
        rw (number_unknown j)
        (slot-right (is_known k) (scrambles t.cipher) (never k) (never j) p q n w (rw (number_unknown k) at counts) room fits
        (scramble_known t.cipher t.strictness k right) b e)

    received-good : good_call (written (plus n w) (slot_on (receiving t p k))) ≡ true
    unfolding slot_on
    received-good = go (ltb (p + 1) (session_slots t.cipher)) refl
      where
        go : (b : Bool) → ltb (p + 1) (session_slots t.cipher) ≡ b → good_call (written (plus n w) (pick b (receiving t (p + 1) k) (receiving t 0 (ridden t k)))) ≡ true
        go true e =
            good_receiver t (p + 1) (moved at (ltb-true _ _ e)) k right (plus n w)
            (counts-on (p + 1) k (λ h. (h, not-true _ (and_right (eqb t.strictness by_default) _ h))) refl)
        go false e =
            good_receiver t 0 (moved at (let l = at.place in omega arith)) (ridden t k) (ridden-right t k) (plus n w)
            (counts-on 0 (ridden t k) (never-known (scrambles t.cipher) (eqb t.strictness by_default) (is_known k) (next_vector (known_vector k)))
            (slots-whole t.cipher p at.place (ltb-false _ _ e)))

  sent-good : Placed sending_end t p → (v : List ℕ) → sent_right t.cipher v ≡ true → (session_slots t.cipher ≤ p + 1 → sent_right t.cipher (going_on t.cipher v) ≡ true)
      → (n : Counts) → good_call (written n (slot_on (sending t p v))) ≡ true
  unfolding slot_on
  sent-good at v right next n = go (ltb (p + 1) (session_slots t.cipher)) refl
    where
      go : (b : Bool) → ltb (p + 1) (session_slots t.cipher) ≡ b → good_call (written n (pick b (sending t (p + 1) v) (sending t 0 (going_on t.cipher v)))) ≡ true
      go true e = good-sender t (p + 1) (moved at (ltb-true _ _ e)) v right n
      go false e = good-sender t 0 (moved at (let l = at.place in omega arith)) (going_on t.cipher v) (next (ltb-false _ _ e)) n

-- a good call one slot on, where its sender's next session would have a right vector
pub slot-good_if : (c : Call) → good_call c ≡ true
    → (c.end ≡ sending_end → session_slots c.terms.cipher ≤ c.position + 1 → sent_right c.terms.cipher (going_on c.terms.cipher c.vector) ≡ true)
    → is_full (standing c) c.counts ≡ false → (w : Counts) → Fits (knows (standing c)) w → good_call (written (plus c.counts w) (slot_on (standing c))) ≡ true
unfolding slot_on
slot-good_if c good next room w fits =
    by_stands c good (λ o e s. on s closed_good)
    (λ o e s.
    on s
    (sent-good c.terms c.position (open_placed c o e) c.vector (open_sent c o e) (next e) (plus c.counts w)))
    (λ o e s.
    on s
    (received-good c.terms c.position (open_placed c o e) (known_by c.known c.vector)
    (known-right c.terms.cipher c.terms.strictness c.known c.vector (rw e at (open_vector c o))) c.counts w (open_kept c o e)
    (below s) (rw s at fits)))
  where
    on : {s : Standing} → standing c ≡ s → good_call (written (plus c.counts w) (slot_on s)) ≡ true → good_call (written (plus c.counts w) (slot_on (standing c))) ≡ true
    on s g = ap (λ (t : Standing). good_call (written (plus c.counts w) (slot_on t))) s ∙ g

    below : standing c ≡ receiving c.terms c.position (known_by c.known c.vector) → total c.counts < most_words
    below s = leb-false _ _ (rw s at room)

-- where a sender's vector is eight octets it stays good, as any other call does
pub slot-good : (c : Call) → good_call c ≡ true → VectorSent c → is_full (standing c) c.counts ≡ false → (w : Counts) → Fits (knows (standing c)) w
    → good_call (written (plus c.counts w) (slot_on (standing c))) ≡ true
slot-good c good sent = slot-good_if c good (λ e l. going_right c.terms.cipher c.vector (sent e) (sender-right c good e))

neither : (b : Bool) (x y : Standing) → is_bad x ≡ false → is_bad y ≡ false → is_bad (pick b x y) ≡ false
neither true x y p q = p
neither false x y p q = q

-- a receiver stands one slot on
pub slot-stands : (c : Call) {t : Terms} {p : ℕ} {k : Known} → standing c ≡ receiving t p k → total c.counts < most_words → (w : Counts) → Fits (is_known k) w
    → standing (written (plus c.counts w) (slot_on (receiving t p k))) ≡ slot_on (receiving t p k)
unfolding slot_on
slot-stands c {t} {p} {k} e room w fits =
    read_written (plus c.counts w) (slot_on (receiving t p k))
    (neither (ltb (p + 1) (session_slots t.cipher)) (receiving t (p + 1) k) (receiving t 0 (ridden t k)) refl refl)
    (sym (ap (λ (u : Standing). good_call (written (plus c.counts w) (slot_on u))) e)
    ∙ slot-good c good (receiver_sends_none c good (ap receives e)) (rw e (lt-leb _ _ room)) w (rw e fits))
  where
    good : good_call c ≡ true
    good = good_by c (ap is_bad e)

-- ---- the operations

module _ (c : Call) (good : good_call c ≡ true) where
  pub lost-good : good_call (lost_of c).1 ≡ true
  unfolding lost_of lost_refusals
  lost-good =
      kept (λ d. d) c (lost_refusals c) (Done, written (plus c.counts lost_words) (slot_on (standing c))) good
      (λ n. slot-good c good (receiver_sends_none c good (not-false _ n.1.0)) n.1.1.0 lost_words (lost-fits (knows (standing c))))

  module _ (sent : VectorSent c) where
    pub voice_by_good : (st : Call → ℕ → ℕ) (mask : ℕ) (frame : List ℕ) → good_call (voice_by st c mask frame).1.0 ≡ true
    unfolding voice_by voice_refusals
    voice_by_good st mask frame =
        kept (λ (d : Call × List ℕ). d.0) (c, frame) (voice_refusals c mask frame) (voice_after st mask frame c.counts (standing c)) good
        (λ n. slot-good c good sent n.1.1.1.0 (arrived_words mask (knows (standing c))) (arrived-fits mask (knows (standing c))))

    pub voice_by_octets-good : (session : List ℕ) (mask : ℕ) (frame : List ℕ) → good_call (voice_by_octets session c mask frame).1.0 ≡ true
    voice_by_octets-good session mask frame =
        by_lent session c mask frame (λ o. good_call o.1.0 ≡ true) good (voice_by_good (λ d. bit session) mask frame)

    pub voice_good : (mask : ℕ) (frame : List ℕ) → good_call (voice_of c mask frame).1.0 ≡ true
    voice_good = voice_by_good stream_of
