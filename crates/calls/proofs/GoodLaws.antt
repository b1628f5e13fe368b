-- What is written is read back, and a good call stays good under its end and an announcement.
use mathlib.Core.Path.{◌≡◌, refl, sym, ap, ◌∙◌}
use mathlib.Core.Bool.{Bool, true, false, ◌&&◌, not, or-true, true≢false, false≢true}
use mathlib.Core.List.{List}
use Prim.Native.Nat.{ℕ, ◌≤◌, ◌<◌}
use native.Mathlib.Omega.{arith}
use lib.Dec.{eqb}
use lib.ListN.{length}
use borrow.Author.Tests.{le-leb, lt-ltb, eqb-true, not-false, not-true}
use Rattle.octets.proofs.ListLaws.{zeros_are}
use Rattle.octets.specs.Tests.{pick, all_below}
use Rattle.octets.specs.Lists.{all_zero}
use Rattle.octets.proofs.TestLaws.{and_left, and_false_r, every-at}
use Rattle.sizes.specs.Ciphers.{session_slots, key_room, vector_octets, no_vector, scrambles}
use Rattle.generator.specs.Generator.{IsVector}
use Rattle.answers.specs.declared.Answer.{Answer}
use Rattle.answers.specs.declared.Answer.TheVariants.{Done}
use Rattle.answers.specs.Outcomes.{Refusals, settled}
use Rattle.answers.proofs.OutcomeLaws.{NoneHolds, by_refusals}
use Rattle.calls.specs.declared.counts.Counts.{Counts}
use Rattle.calls.specs.declared.call.Terms.{Terms}
use Rattle.calls.specs.declared.call.Call.{Call}
use Rattle.ciphers.specs.Keys.{key_right}
use Rattle.calls.specs.Counts.{no_counts}
use Rattle.calls.specs.Call.{sending_end, receiving_end, unknown_vector, told_vector, by_default, terms_right, vector_right, counts_right, closed_tests, open_tests, is_closed, is_open, good_call, Known, unknown, told, carried, is_known, known_number, known_vector, known_by, untold, Standing, closed, bad, sending, receiving, standing, terms_of, call_at, no_call, written, is_bad, receives, knows, end_refusals, end_of, after_end}
use Rattle.calls.specs.Vector.{awaits, with_vector, announce_refusals, announce_of}
use Rattle.sizes.proofs.SizeLaws.{no_vector-zero}
use Rattle.calls.proofs.CountLaws.{none-counted, tallied, tests_pass}
use Rattle.calls.proofs.CallLaws.{by_known, known_back, is_known_lem, receiver_is, open_place, open_key, open_terms, open_vector, open_counts, by_stands, is-sender, is_receiver, open_told, known_written}

-- ---- written, then read

pub closed_good : good_call no_call ≡ true
unfolding good_call is_closed closed_tests all_zero all_below
closed_good = refl

-- a struct that keeps the rules of an open call
good_open : (e : ℕ) (t : Terms) (p known : ℕ) (v : List ℕ) (n : Counts) → 1 ≤ e → e ≤ 2 → key_right t.cipher t.key ≡ true → terms_right e t.rate t.strictness ≡ true
    → p < session_slots t.cipher → vector_right e t.cipher t.strictness known (all_zero v) ≡ true → counts_right e t.cipher t.strictness known p n ≡ true
    → good_call (call_at e t p known v n) ≡ true
unfolding good_call is_open open_tests
good_open e t p known v n low high key right place vector counts = rw (le-leb _ _ low, le-leb _ _ high, key, right, lt-ltb _ _ place, vector, counts, or-true)

-- what a sender's vector, and what is known of a receiver's, has to be
abbrev pub sent_right : ℕ → List ℕ → Bool
sent_right c v = vector_right sending_end c by_default told_vector (all_zero v)

abbrev pub known_right : ℕ → ℕ → Known → Bool
known_right c m k = vector_right receiving_end c m (known_number k) (all_zero (known_vector k))

-- and a receiver's counts, at a position
abbrev pub kept_right : Terms → ℕ → Known → Counts → Bool
kept_right t p k = counts_right receiving_end t.cipher t.strictness (known_number k) p

-- a call of these terms, whose cipher, key, rate and strictness are right at its end, at a position inside the session
pub record Placed (end : ℕ) (t : Terms) (p : ℕ) : Type 0 where
  pub key : key_right t.cipher t.key ≡ true
  pub terms : terms_right end t.rate t.strictness ≡ true
  pub place : p < session_slots t.cipher

module _ (t : Terms) (p : ℕ) where
  pub good-sender : Placed sending_end t p → (v : List ℕ) → sent_right t.cipher v ≡ true → (n : Counts) → good_call (written n (sending t p v)) ≡ true
  unfolding vector_right counts_right
  good-sender at v right n = good_open sending_end t p told_vector v no_counts (omega arith) (omega arith) at.key at.terms at.place right refl

  pub good_receiver : Placed receiving_end t p → (k : Known) → known_right t.cipher t.strictness k ≡ true → (n : Counts) → kept_right t p k n ≡ true
      → good_call (written n (receiving t p k)) ≡ true
  good_receiver at k right n = good_open receiving_end t p (known_number k) (known_vector k) n (omega arith) (omega arith) at.key at.terms at.place right

-- as an open struct has them
pub open_placed : (c : Call) → is_open c ≡ true → {end : ℕ} → c.end ≡ end → Placed end c.terms c.position
open_placed c o e = record { key = open_key c o; terms = rw e at (open_terms c o); place = open_place c o }

-- reading what was written gives it back
pub read_written : (n : Counts) (s : Standing) → is_bad s ≡ false → good_call (written n s) ≡ true → standing (written n s) ≡ s
read_written n closed b g = by_stands no_call g (λ o e s. s) (λ o e s. absurd (omega arith)) (λ o e s. absurd (omega arith))
read_written n bad b g = absurd (true≢false b)
read_written n (sending t p v) b g = is-sender (written n (sending t p v)) g refl
read_written n (receiving t p k) b g = is_receiver (written n (receiving t p k)) g refl ∙ ap (receiving t p) (known_back k)

-- ---- read, then written

-- closed is one struct, all zero
pub none_closed : is_closed no_call ≡ true
unfolding is_closed closed_tests all_zero all_below
none_closed = refl

pub closed_is : (c : Call) → length c.terms.key ≡ key_room → length c.vector ≡ vector_octets → is_closed c ≡ true → c ≡ no_call
unfolding is_closed closed_tests
closed_is c lk lv e =
    let r : Call = call_at c.end (terms_of c.terms.cipher c.terms.key c.terms.rate c.terms.strictness) c.position c.known c.vector c.counts in
    rw (
      eqb-true c.end 0 (every-at (closed_tests c) 0 e),
      eqb-true c.terms.cipher 0 (every-at (closed_tests c) 1 e),
      eqb-true c.terms.rate 0 (every-at (closed_tests c) 2 e),
      eqb-true c.terms.strictness 0 (every-at (closed_tests c) 3 e),
      eqb-true c.position 0 (every-at (closed_tests c) 4 e),
      eqb-true c.known 0 (every-at (closed_tests c) 5 e),
      zeros_are c.terms.key key_room lk (every-at (closed_tests c) 6 e),
      zeros_are c.vector vector_octets lv (every-at (closed_tests c) 7 e),
      none-counted c.counts (eqb-true _ _ (every-at (closed_tests c) 8 e)),
    ) refl

-- a good call of the struct's lengths is the one struct of what it stands for
module _ (c : Call) (lk : length c.terms.key ≡ key_room) (lv : length c.vector ≡ vector_octets) (good : good_call c ≡ true) where
  pub written_read : c ≡ written c.counts (standing c)
  written_read =
      by_stands c good (λ o e s. closed_is c lk lv o ∙ ap (written c.counts) (sym s)) (λ o e s. sym (known_written c (ap knows s)))
      (λ o e s.
      ap (λ (n : ℕ). call_at n c.terms c.position c.known c.vector c.counts) e
      ∙ receiver_is c.terms c.position c.known c.vector c.counts lv (rw e at (open_vector c o))
      ∙ ap (written c.counts) (sym s))

-- ---- by the struct

-- what is known untold
pub untold-right : (c m : ℕ) → known_right c m (untold c) ≡ true
unfolding vector_right
untold-right c m = go (scrambles c) refl
  where
    go : (t : Bool) → scrambles c ≡ t → known_right c m (pick t (told no_vector) unknown) ≡ true
    go true e = rw (e, no_vector-zero)
    go false e = rw (e, no_vector-zero)

-- what is known by the struct
pub known-right : (c m known : ℕ) (v : List ℕ) → vector_right receiving_end c m known (all_zero v) ≡ true → known_right c m (known_by known v) ≡ true
known-right c m known v h =
    by_known (λ n. vector_right receiving_end c m n (all_zero v) ≡ true → known_right c m (known_by n v) ≡ true) c m known (all_zero v) h
    (λ z r. rw no_vector-zero (rw z at r)) (λ r. r) (λ r. r) h

-- by its number
pub number_unknown : (k : Known) → eqb (known_number k) unknown_vector ≡ not (is_known k)
number_unknown unknown = refl
number_unknown (told v) = refl
number_unknown (carried v) = refl

-- a receiver's counts by the struct
pub open_kept : (c : Call) → is_open c ≡ true → c.end ≡ receiving_end → kept_right c.terms c.position (known_by c.known c.vector) c.counts ≡ true
unfolding counts_right
open_kept c o e =
    rw (number_unknown (known_by c.known c.vector), (is_known_lem c.known c.vector).1) (rw e at (open_counts c o))

-- a sender's by the struct
pub open_sent : (c : Call) → is_open c ≡ true → c.end ≡ sending_end → sent_right c.terms.cipher c.vector ≡ true
unfolding vector_right
open_sent c o e = rw (e, open_told c o e) at (open_vector c o)

-- DES or AES has one that isn't zeros
pub sent_some : (c : ℕ) (v : List ℕ) → sent_right c v ≡ true → scrambles c ≡ false → all_zero v ≡ false
unfolding vector_right
sent_some c v right e = not-true (all_zero v) (rw e at right)

-- scramble's vector is known
pub scramble_known : (c m : ℕ) (k : Known) → known_right c m k ≡ true → scrambles c ≡ true → is_known k ≡ true
unfolding vector_right
scramble_known c m unknown h e = absurd (false≢true (rw e at h))
scramble_known c m (told v) h e = refl
scramble_known c m (carried v) h e = refl

-- a vector that DES or AES is told
announced-right : (c m : ℕ) (w : List ℕ) → scrambles c ≡ false → known_right c m (told w) ≡ true
unfolding vector_right
announced-right c m w e = rw e

module _ (c : Call) (good : good_call c ≡ true) where
  pub sender-right : c.end ≡ sending_end → sent_right c.terms.cipher c.vector ≡ true
  sender-right z = by_stands c good (λ o e s. absurd (omega arith)) (λ o e s. open_sent c o e) (λ o e s. absurd (omega arith))

  -- with DES or AES its vector is not all zero
  pub sender_some : c.end ≡ sending_end → scrambles c.terms.cipher ≡ false → all_zero c.vector ≡ false
  sender_some e = sent_some c.terms.cipher c.vector (sender-right e)

  pub receiver_sends_none : receives (standing c) ≡ true → {A : Type 0} → c.end ≡ sending_end → A
  receiver_sends_none r e = absurd (true≢false (sym r ∙ ap receives (is-sender c good e)))

-- a DES or AES sender's vector is eight octets
abbrev pub VectorSent : Call → Type 0
VectorSent c = c.end ≡ sending_end → scrambles c.terms.cipher ≡ false → IsVector c.vector

-- ---- the operations

-- what is refused leaves a good call; it is left to show that what is done leaves one
pub kept : {S : Type 0} (f : S → Call) (before : S) (rs : Refusals) (last : Answer × S) → good_call (f before) ≡ true
    → (NoneHolds rs → good_call (f last.1) ≡ true) → good_call (f (settled before rs last).1) ≡ true
kept f before rs last good = by_refusals (λ o. good_call (f o.1) ≡ true) before rs last (λ a m. good)

module _ (c : Call) (good : good_call c ≡ true) where
  pub end_good : good_call (end_of c).1.0 ≡ true
  unfolding end_of
  end_good = kept (λ (d : Call × Counts). d.0) (c, no_counts) (end_refusals (standing c)) (Done, after_end c) good (λ n. closed_good)

  pub announce_good : (w : List ℕ) → good_call (announce_of c w).1 ≡ true
  unfolding announce_of announce_refusals counts_right
  announce_good w =
      kept (λ d. d) c (announce_refusals (standing c) w) (Done, written c.counts (with_vector w (standing c))) good
      (λ n. told_good (not-false _ n.1.1.0))
    where
      -- its counts are right whatever it is told
      kept-told : (o : is_open c ≡ true) (e : c.end ≡ receiving_end) → kept_right c.terms c.position (told w) c.counts ≡ true
      kept-told o e =
          let r = tallied (scrambles c.terms.cipher) (eqb c.terms.strictness by_default && eqb c.known unknown_vector) c.position c.counts (rw e at (open_counts c o)) in
          tests_pass (scrambles c.terms.cipher) (eqb c.terms.strictness by_default && false) c.position c.counts
          (record { most = r.most; whole = r.whole; lost = r.lost; place = r.place; held = r.held; opened = λ h. absurd (false≢true (sym (and_false_r (eqb c.terms.strictness by_default)) ∙ h)) })

      told_good : awaits (standing c) ≡ true → good_call (written c.counts (with_vector w (standing c))) ≡ true
      told_good a =
          by_stands c good (λ o e s. absurd (true≢false (sym a ∙ ap awaits s))) (λ o e s. absurd (true≢false (sym a ∙ ap awaits s)))
          (λ o e s.
          ap (λ (t : Standing). good_call (written c.counts (with_vector w t))) s
          ∙ good_receiver c.terms c.position (open_placed c o e) (told w)
          (announced-right c.terms.cipher c.terms.strictness w (not-true _ (and_left _ _ (sym (ap awaits s) ∙ a)))) c.counts (kept-told o e))
