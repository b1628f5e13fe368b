-- What a call stands for, as the code tests it.
use mathlib.Core.Path.{◌≡◌, refl, sym, ap, ap₂, ◌∙◌}
use mathlib.Core.Bool.{Bool, true, false, ◌&&◌, ◌||◌, not, true≢false, false≢true}
use mathlib.Core.Logic.{◌⊎◌, inl, inr}
use mathlib.Core.List.{List}
use Prim.Native.Nat.{ℕ, zero, suc, ◌≤◌, ◌<◌}
use native.Mathlib.Omega.{arith}
use lib.Dec.{eqb}
use lib.ListN.{length}
use borrow.Author.Tests.{eq-eqb, ne_eqb, eqb-true, leb-true, ltb-true}
use Rattle.octets.specs.Tests.{pick}
use Rattle.octets.specs.Lists.{all_zero}
use Rattle.octets.proofs.ListLaws.{zeros_are}
use Rattle.octets.proofs.TestLaws.{and_left, and_right, or_right, or_left, not_so, every-at}
use Rattle.sizes.specs.Ciphers.{session_slots, vector_octets, no_vector, scrambles}
use Rattle.sizes.specs.Frame.{is_rate, most_words}
use Rattle.sizes.proofs.SizeLaws.{by_rate}
use Rattle.answers.specs.declared.Answer.{Answer}
use Rattle.answers.specs.declared.Answer.TheVariants.{Done}
use Rattle.answers.proofs.OutcomeLaws.{NoneHolds, none_settles, Refuses, answer_at, refused_at}
use Rattle.calls.specs.declared.counts.Counts.{Counts}
use Rattle.calls.specs.declared.call.Terms.{Terms}
use Rattle.calls.specs.declared.call.Call.{Call}
use Rattle.ciphers.specs.Keys.{key_right}
use Rattle.calls.specs.Counts.{no_counts, total}
use Rattle.calls.proofs.CountLaws.{none-counted, tallied}
use Rattle.calls.specs.Call.{closed_end, sending_end, receiving_end, unknown_vector, told_vector, carried_vector, by_default, terms_right, vector_right, counts_right, closed_tests, open_tests, is_closed, is_open, good_call, Known, is_known, known_number, known_vector, known_by, unknown, told, carried, is_told, untold, Standing, closed, bad, sending, receiving, standing, call_at, width_of, written, is_bad, width_in, stands, receives, knows, end_refusals, end_of, after_end}

-- ---- what is known of a vector

-- a sender's vector is told
pub sender_told : (c m known : ℕ) (zeros : Bool) → vector_right sending_end c m known zeros ≡ true → known ≡ told_vector
unfolding vector_right
sender_told c m known zeros = go (scrambles c) (eqb known told_vector) refl
  where
    go : (s t : Bool) → eqb known told_vector ≡ t → pick s (t && zeros) (t && not zeros) ≡ true → known ≡ told_vector
    go s true q e = eqb-true _ _ q
    go true false q e = absurd (false≢true e)
    go false false q e = absurd (false≢true e)

module _ (c m known : ℕ) (zeros : Bool) (right : vector_right receiving_end c m known zeros ≡ true) where
  -- a receiver's is unknown, carried, which is no strict one's, or told
  pub or_told : (known ≡ unknown_vector → ⊥) → (known ≡ carried_vector → ⊥) → known ≡ told_vector
  unfolding vector_right
  or_told n k = go (scrambles c) (eqb known told_vector) (ne_eqb _ _ n) (ne_eqb _ _ k) refl right
    where
      go : (s t : Bool) → eqb known unknown_vector ≡ false → eqb known carried_vector ≡ false → eqb known told_vector ≡ t
          → pick s (t && zeros) (pick (eqb known unknown_vector) zeros (pick (eqb known carried_vector) (eqb m by_default) t)) ≡ true → known ≡ told_vector
      go s true u w q e = eqb-true _ _ q
      go true false u w q e = absurd (false≢true e)
      go false false u w q e = absurd (false≢true (rw (u, w) at e))

  pub carried_default : known ≡ carried_vector → (scrambles c ≡ false) × (m ≡ by_default)
  unfolding vector_right
  carried_default k = go (scrambles c) refl (rw k at right)
    where
      go : (s : Bool) → scrambles c ≡ s → pick s false (eqb m by_default) ≡ true → (scrambles c ≡ false) × (m ≡ by_default)
      go true q e = absurd (false≢true e)
      go false q e = (q, eqb-true _ _ e)

  -- and unknown it is zeros
  pub unknown_zeros : known ≡ unknown_vector → zeros ≡ true
  unfolding vector_right
  unknown_zeros k = go (scrambles c) (rw k at right)
    where
      go : (s : Bool) → pick s false zeros ≡ true → zeros ≡ true
      go true e = absurd (false≢true e)
      go false e = e

-- by the number in the struct
pub by_known : (P : ℕ → Type 0) (c m known : ℕ) (zeros : Bool) → vector_right receiving_end c m known zeros ≡ true
    → ((zeros ≡ true) → P unknown_vector) → P told_vector → P carried_vector → P known
by_known P c m zero zeros right u t k = u (unknown_zeros c m zero zeros right refl)
by_known P c m (suc zero) zeros right u t k = t
by_known P c m (suc (suc zero)) zeros right u t k = k
by_known P c m (suc (suc (suc n))) zeros right u t k =
    let e : suc (suc (suc n)) ≡ told_vector = or_told c m (suc (suc (suc n))) zeros right (λ z. omega arith) (λ z. omega arith) in
    absurd (omega arith)

pub known_back : (k : Known) → known_by (known_number k) (known_vector k) ≡ k
known_back unknown = refl
known_back (told v) = refl
known_back (carried v) = refl

pub is_known_lem : (n : ℕ) (v : List ℕ) → (is_known (known_by n v) ≡ not (eqb n unknown_vector)) × (not (is_known (known_by n v)) ≡ eqb n unknown_vector)
is_known_lem n v = go (eqb n unknown_vector) (eqb n told_vector)
  where
    go : (t u : Bool) → (is_known (pick t unknown (pick u (told v) (carried v))) ≡ not t) × (not (is_known (pick t unknown (pick u (told v) (carried v)))) ≡ t)
    go true u = (refl, refl)
    go false true = (refl, refl)
    go false false = (refl, refl)

pub known-vector : (n : ℕ) (v : List ℕ) → eqb n unknown_vector ≡ false → known_vector (known_by n v) ≡ v
known-vector n v e = rw e (go (eqb n told_vector))
  where
    go : (u : Bool) → known_vector (pick u (told v) (carried v)) ≡ v
    go true = refl
    go false = refl

pub is_told_lem : (n : ℕ) (v : List ℕ) → is_told (known_by n v) ≡ eqb n told_vector
is_told_lem n v = go (eqb n unknown_vector) (eqb n told_vector) refl refl
  where
    go : (t u : Bool) → eqb n unknown_vector ≡ t → eqb n told_vector ≡ u → is_told (pick t unknown (pick u (told v) (carried v))) ≡ u
    go true true p q = absurd (let a = eqb-true n unknown_vector p in let b = eqb-true n told_vector q in omega arith)
    go true false p q = refl
    go false true p q = refl
    go false false p q = refl

-- a receiver's struct, by what is known of its vector
pub receiver_is : (t : Terms) (p known : ℕ) (v : List ℕ) (n : Counts) → length v ≡ vector_octets → vector_right receiving_end t.cipher t.strictness known (all_zero v) ≡ true
    → call_at receiving_end t p known v n ≡ written n (receiving t p (known_by known v))
receiver_is t p known v n l right =
    by_known (λ k. call_at receiving_end t p k v n ≡ written n (receiving t p (known_by k v))) t.cipher t.strictness known (all_zero v) right
    (λ z. ap (λ (w : List ℕ). call_at receiving_end t p unknown_vector w n) (zeros_are v vector_octets l z)) refl refl

-- and of one that was told no vector
pub untold-is : (t : Terms) (p : ℕ) (n : Counts) {k : ℕ} → k ≡ known_number (untold t.cipher) → call_at receiving_end t p k no_vector n ≡ written n (receiving t p (untold t.cipher))
untold-is t p n e = ap (λ (k : ℕ). call_at receiving_end t p k no_vector n) e ∙ go (scrambles t.cipher)
  where
    go : (b : Bool) → call_at receiving_end t p (known_number (pick b (told no_vector) unknown)) no_vector n ≡ written n (receiving t p (pick b (told no_vector) unknown))
    go true = refl
    go false = refl

-- ---- what a struct stands for

read_bad : (a b : Bool) (s : Standing) → (a || b) ≡ false → pick a closed (pick b s bad) ≡ bad
read_bad true b s e = absurd (true≢false e)
read_bad false true s e = absurd (true≢false e)
read_bad false false s e = refl

module _ (c : Call) where
  pub stands_bad : good_call c ≡ false → standing c ≡ bad
  unfolding good_call standing
  stands_bad e = read_bad (is_closed c) (is_open c) _ e

  closed-end : is_closed c ≡ true → c.end ≡ 0
  unfolding is_closed closed_tests
  closed-end e = eqb-true c.end 0 (every-at (closed_tests c) 0 e)

  open-low : is_open c ≡ true → 1 ≤ c.end
  unfolding is_open open_tests
  open-low e = leb-true 1 c.end (every-at (open_tests c) 0 e)

  open-high : is_open c ≡ true → c.end ≤ 2
  unfolding is_open open_tests
  open-high e = leb-true c.end 2 (every-at (open_tests c) 1 e)

  -- a position inside the session
  pub open_place : is_open c ≡ true → c.position < session_slots c.terms.cipher
  unfolding is_open open_tests
  open_place e = ltb-true c.position (session_slots c.terms.cipher) (every-at (open_tests c) 4 e)

  pub open_key : is_open c ≡ true → key_right c.terms.cipher c.terms.key ≡ true
  unfolding is_open open_tests
  open_key = every-at (open_tests c) 2

  pub open_terms : is_open c ≡ true → terms_right c.end c.terms.rate c.terms.strictness ≡ true
  unfolding is_open open_tests
  open_terms = every-at (open_tests c) 3

  open-rate : is_open c ≡ true → is_rate c.terms.rate ≡ true
  unfolding terms_right
  open-rate o = and_left _ _ (open_terms o)

  pub open_vector : is_open c ≡ true → vector_right c.end c.terms.cipher c.terms.strictness c.known (all_zero c.vector) ≡ true
  unfolding is_open open_tests
  open_vector = every-at (open_tests c) 5

  pub open_counts : is_open c ≡ true → counts_right c.end c.terms.cipher c.terms.strictness c.known c.position c.counts ≡ true
  unfolding is_open open_tests
  open_counts = every-at (open_tests c) 6

  not_closed : (c.end ≡ 0 → ⊥) → is_closed c ≡ false
  not_closed n = not_so (is_closed c) (λ e. n (closed-end e))

  module _ (good : good_call c ≡ true) where
    open_by : (c.end ≡ 0 → ⊥) → is_open c ≡ true
    unfolding good_call
    open_by n = or_right (is_closed c) (is_open c) good (λ e. n (closed-end e))

    closed_by : c.end ≡ 0 → is_closed c ≡ true
    unfolding good_call
    closed_by z = or_left (is_closed c) (is_open c) good (λ e. omega (arith, open-low e))

    -- the three ways in which a good call stands
    pub by_stands : {P : Type 0} → (is_closed c ≡ true → c.end ≡ closed_end → standing c ≡ closed → P)
        → (is_open c ≡ true → c.end ≡ sending_end → standing c ≡ sending c.terms c.position c.vector → P)
        → (is_open c ≡ true → c.end ≡ receiving_end → standing c ≡ receiving c.terms c.position (known_by c.known c.vector) → P) → P
    unfolding standing
    by_stands {P} none sender receiver = go c.end refl
      where
        go : (e : ℕ) → c.end ≡ e → P
        go zero q = none (closed_by q) q (rw (closed_by q))
        go (suc zero) q =
            let n : c.end ≡ 0 → ⊥ = λ z. omega arith in
            sender (open_by n) q (rw (not_closed n, open_by n, eq-eqb _ _ q))
        go (suc (suc e)) q =
            let n : c.end ≡ 0 → ⊥ = λ z. omega arith in
            let m : c.end ≡ 1 → ⊥ = λ z. omega arith in
            let h : c.end ≤ 2 = open-high (open_by n) in
            receiver (open_by n) (omega arith) (rw (not_closed n, open_by n, ne_eqb _ _ m))

-- by their numbers: a rate of 0 or 1, and a strictness of 0, or a receiver's 1
abbrev pub Ways : Call → Type 0
Ways c = (c.terms.rate ≤ 1) × ((c.terms.strictness ≡ 0) ⊎ ((c.terms.strictness ≡ 1) × (c.end ≡ 2)))

pub good_ways : (c : Call) → good_call c ≡ true → Ways c
unfolding is_closed closed_tests terms_right
good_ways c good =
    by_stands c good (λ o e s. none (eqb-true c.terms.rate 0 (every-at (closed_tests c) 2 o)) (eqb-true c.terms.strictness 0 (every-at (closed_tests c) 3 o)))
    (λ o e s. some o) (λ o e s. some o)
  where
    none : c.terms.rate ≡ 0 → c.terms.strictness ≡ 0 → Ways c
    none r m = (omega arith, inl m)

    strictness : (a : Bool) → eqb c.terms.strictness 0 ≡ a → (a || (eqb c.terms.strictness 1 && eqb c.end 2)) ≡ true → (c.terms.strictness ≡ 0) ⊎ ((c.terms.strictness ≡ 1) × (c.end ≡ 2))
    strictness true q h = inl (eqb-true _ _ q)
    strictness false q h = inr (eqb-true _ _ (and_left (eqb c.terms.strictness 1) (eqb c.end 2) h), eqb-true _ _ (and_right (eqb c.terms.strictness 1) (eqb c.end 2) h))

    some : is_open c ≡ true → Ways c
    some o = (
      by_rate (λ r. r ≤ 1) (omega arith) (omega arith) c.terms.rate (open-rate c o),
      strictness (eqb c.terms.strictness 0) refl (and_right (is_rate c.terms.rate) _ (open_terms c o)),
    )

-- ---- what the operations ask of it

module _ (c : Call) where
  pub is_bad_lem : good_call c ≡ false → is_bad (standing c) ≡ true
  is_bad_lem e = ap is_bad (stands_bad c e)

  pub good_by : is_bad (standing c) ≡ false → good_call c ≡ true
  good_by e = go (good_call c) refl
    where
      go : (t : Bool) → good_call c ≡ t → t ≡ true
      go true g = refl
      go false g = absurd (true≢false (sym (is_bad_lem g) ∙ e))

  module _ (good : good_call c ≡ true) where
    pub not_bad : is_bad (standing c) ≡ false
    not_bad = by_stands c good (λ o e s. ap is_bad s) (λ o e s. ap is_bad s) (λ o e s. ap is_bad s)

    pub stands-none : c.end ≡ closed_end → not (stands (standing c)) ≡ true
    stands-none z = by_stands c good (λ o e s. ap (λ (t : Standing). not (stands t)) s) (λ o e s. absurd (omega arith)) (λ o e s. absurd (omega arith))

    pub stands_some : (c.end ≡ closed_end → ⊥) → not (stands (standing c)) ≡ false
    stands_some n =
        by_stands c good (λ o e s. absurd (n e)) (λ o e s. ap (λ (t : Standing). not (stands t)) s) (λ o e s. ap (λ (t : Standing). not (stands t)) s)

    -- what a receiver alone does, and what a sender alone does
    pub unless_receiver : (f : Standing → Bool) → f closed ≡ false → ((t : Terms) (p : ℕ) (v : List ℕ) → f (sending t p v) ≡ false)
        → (c.end ≡ receiving_end → ⊥) → f (standing c) ≡ false
    unless_receiver f a b n = by_stands c good (λ o e s. ap f s ∙ a) (λ o e s. ap f s ∙ b c.terms c.position c.vector) (λ o e s. absurd (n e))

    pub unless_sender : (f : Standing → Bool) → f closed ≡ false → ((t : Terms) (p : ℕ) (k : Known) → f (receiving t p k) ≡ false)
        → (c.end ≡ sending_end → ⊥) → f (standing c) ≡ false
    unless_sender f a b n =
        by_stands c good (λ o e s. ap f s ∙ a) (λ o e s. absurd (n e)) (λ o e s. ap f s ∙ b c.terms c.position (known_by c.known c.vector))

    pub receives-not : (c.end ≡ receiving_end → ⊥) → not (receives (standing c)) ≡ true
    receives-not n = ap not (unless_receiver receives refl (λ t p v. refl) n)

    pub is-sender : c.end ≡ sending_end → standing c ≡ sending c.terms c.position c.vector
    is-sender z = by_stands c good (λ o e s. absurd (omega arith)) (λ o e s. s) (λ o e s. absurd (omega arith))

    pub is_receiver : c.end ≡ receiving_end → standing c ≡ receiving c.terms c.position (known_by c.known c.vector)
    is_receiver z = by_stands c good (λ o e s. absurd (omega arith)) (λ o e s. absurd (omega arith)) (λ o e s. s)

    pub receives_some : c.end ≡ receiving_end → not (receives (standing c)) ≡ false
    receives_some e = ap (λ (s : Standing). not (receives s)) (is_receiver e)

    pub receiver_right : c.end ≡ receiving_end → vector_right receiving_end c.terms.cipher c.terms.strictness c.known (all_zero c.vector) ≡ true
    receiver_right z = rw z at (open_vector c (open_by c good (λ e. omega arith)))

    -- a standing call is one or the other
    pub or_receiver : (c.end ≡ closed_end → ⊥) → (c.end ≡ sending_end → ⊥) → c.end ≡ receiving_end
    or_receiver n m = by_stands c good (λ o e s. absurd (n e)) (λ o e s. absurd (m e)) (λ o e s. e)

    -- a word's speech bits are by the struct's rate
    pub width_in_lem : (c.end ≡ closed_end → ⊥) → width_in (standing c) ≡ width_of c.terms
    width_in_lem n = by_stands c good (λ o e s. absurd (n e)) (λ o e s. ap width_in s) (λ o e s. ap width_in s)

    pub rated : (c.end ≡ closed_end → ⊥) → is_rate c.terms.rate ≡ true
    rated n = by_stands c good (λ o e s. absurd (n e)) (λ o e s. open-rate c o) (λ o e s. open-rate c o)

    pub inside : (c.end ≡ closed_end → ⊥) → c.position < session_slots c.terms.cipher
    inside n = by_stands c good (λ o e s. absurd (n e)) (λ o e s. open_place c o) (λ o e s. open_place c o)

-- ---- whether it knows its vector

module _ (c : Call) where
  pub knows-not : good_call c ≡ false → knows (standing c) ≡ false
  knows-not g = ap knows (stands_bad c g)

  -- a call that knows its vector is good
  pub knows-good : knows (standing c) ≡ true → good_call c ≡ true
  knows-good k = go (good_call c) refl
    where
      go : (t : Bool) → good_call c ≡ t → t ≡ true
      go true g = refl
      go false g = absurd (true≢false (sym k ∙ knows-not g))

  -- a sender's counts are zeros
  pub open_none : is_open c ≡ true → c.end ≡ sending_end → c.counts ≡ no_counts
  unfolding counts_right
  open_none o e = none-counted c.counts (eqb-true _ _ (rw e at (open_counts c o)))

  -- and no good call's are more than a million slots'
  pub counts_most : good_call c ≡ true → total c.counts ≤ most_words
  unfolding is_closed closed_tests counts_right
  counts_most good =
      by_stands c good (λ o e s. omega (arith, eqb-true (total c.counts) 0 (every-at (closed_tests c) 8 o))) (λ o e s. rw (open_none o e) (omega arith))
      (λ o e s. (tallied (scrambles c.terms.cipher) (eqb c.terms.strictness by_default && eqb c.known unknown_vector) c.position c.counts (rw e at (open_counts c o))).most)

  closed-unknown : is_closed c ≡ true → c.known ≡ unknown_vector
  unfolding is_closed closed_tests
  closed-unknown o = eqb-true _ _ (every-at (closed_tests c) 5 o)

  pub open_told : is_open c ≡ true → c.end ≡ sending_end → c.known ≡ told_vector
  open_told o e = sender_told c.terms.cipher c.terms.strictness c.known (all_zero c.vector) (rw e at (open_vector c o))

  -- a good call that carries a vector is a receiver, by default, with DES or AES
  pub carries : good_call c ≡ true → c.known ≡ carried_vector → (c.end ≡ receiving_end) × (scrambles c.terms.cipher ≡ false) × (c.terms.strictness ≡ by_default)
  carries good k =
      by_stands c good (λ o e s. absurd (let u = closed-unknown o in omega arith)) (λ o e s. absurd (let t = open_told o e in omega arith))
      (λ o e s.
      let d = carried_default c.terms.cipher c.terms.strictness c.known (all_zero c.vector) (receiver_right c good e) k in
      (e, d.0, d.1))

  -- of a good call the field says it
  pub knows-is : good_call c ≡ true → knows (standing c) ≡ not (eqb c.known unknown_vector)
  knows-is good =
      by_stands c good (λ o e s. ap knows s ∙ rw (closed-unknown o)) (λ o e s. ap knows s ∙ rw (open_told o e))
      (λ o e s. ap knows s ∙ (is_known_lem c.known c.vector).0)

  -- of any call that says no, or that doesn't
  pub knows_no : c.known ≡ unknown_vector → knows (standing c) ≡ false
  knows_no e = go (good_call c) refl
    where
      go : (g : Bool) → good_call c ≡ g → knows (standing c) ≡ false
      go true g = knows-is g ∙ ap not (eq-eqb _ _ e)
      go false g = knows-not g

  pub knows_yes : (c.known ≡ unknown_vector → ⊥) → knows (standing c) ≡ good_call c
  knows_yes e = go (good_call c) refl
    where
      go : (g : Bool) → good_call c ≡ g → knows (standing c) ≡ good_call c
      go true g = knows-is g ∙ ap not (ne_eqb _ _ e) ∙ sym g
      go false g = knows-not g ∙ sym g

  pub knows_inside : knows (standing c) ≡ true → c.position < session_slots c.terms.cipher
  knows_inside k = by_stands c (knows-good k) (λ o e s. absurd (true≢false (sym k ∙ ap knows s))) (λ o e s. open_place c o) (λ o e s. open_place c o)

  pub known-width : knows (standing c) ≡ true → width_in (standing c) ≡ width_of c.terms
  known-width k = by_stands c (knows-good k) (λ o e s. absurd (true≢false (sym k ∙ ap knows s))) (λ o e s. ap width_in s) (λ o e s. ap width_in s)

  -- one that knows its vector is the struct of what it stands for
  call-is : {e n : ℕ} → c.end ≡ e → c.known ≡ n → call_at e c.terms c.position n c.vector c.counts ≡ c
  call-is p q = ap₂ (λ (e n : ℕ). call_at e c.terms c.position n c.vector c.counts) (sym p) (sym q)

  pub known_written : knows (standing c) ≡ true → written c.counts (standing c) ≡ c
  known_written k =
      by_stands c (knows-good k) (λ o e s. absurd (true≢false (sym k ∙ ap knows s)))
      (λ o e s. ap (written c.counts) s ∙ ap (call_at sending_end c.terms c.position told_vector c.vector) (sym (open_none o e)) ∙ call-is e (open_told o e))
      (λ o e s.
      ap (written c.counts) s
      ∙ by_known (λ n. c.known ≡ n → written c.counts (receiving c.terms c.position (known_by n c.vector)) ≡ c) c.terms.cipher c.terms.strictness c.known
      (all_zero c.vector) (rw e at (open_vector c o)) (λ z n. absurd (true≢false (sym k ∙ knows_no n))) (call-is e) (call-is e) refl)

-- ---- its end

module _ (c : Call) where
  pub end_refused : (n : ℕ) → Refuses (end_refusals (standing c)) n → (answer_at (end_refusals (standing c)) n, (c, no_counts)) ≡ end_of c
  unfolding end_of
  end_refused = refused_at (c, no_counts) (end_refusals (standing c)) (Done, after_end c)

  pub end_done : NoneHolds (end_refusals (standing c)) → (Done, after_end c) ≡ end_of c
  unfolding end_of
  end_done n = sym (none_settles (end_refusals (standing c)) (c, no_counts) (Done, after_end c) n)

-- ---- a refusal, as the code hands it back

pub refusal_is : {S : Type 0} {a b : Answer} {c d : S} {o : Answer × S} → (a ≡ b) × (c ≡ d) → (b, d) ≡ o → (a, c) ≡ o
refusal_is e q = rw (e.0, e.1) q
