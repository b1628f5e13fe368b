-- Laws of the tests over a run of numbers. A rule of every octet, or of every entry of a table, is one such test that antt computes.
use Prim.Native.Nat.{ℕ, zero, suc, ◌+◌, ◌≤◌, ◌<◌, zero-le, suc-le-suc}
use native.Mathlib.Nat.{eq-or-lt_of_le, le_of_suc-le-suc, not-suc-le-zero}
use native.Mathlib.Numerals.{add-one}
use native.Mathlib.Omega.{arith}
use mathlib.Core.Path.{◌≡◌, refl, sym, ap, ap₂, subst, ◌∙◌}
use mathlib.Core.Logic.{⊎_elim}
use mathlib.Core.List.{List, [], ◌∷◌}
use lib.ListN.{get_or}
use mathlib.Core.Bool.{Bool, true, false, ◌&&◌, ◌||◌, not, true≢false, false≢true}
use lib.Dec.{eqb}
use borrow.Author.Tests.{not-true, not-false, eqb-true}
use Rattle.octets.specs.Tests.{pick, every, all_below, first_below}

pub and_false_r : (a : Bool) → (a && false) ≡ false
and_false_r true = refl
and_false_r false = refl

-- both sides of an `&&` that holds
pub and_left : (a b : Bool) → (a && b) ≡ true → a ≡ true
and_left true b e = refl
and_left false b e = absurd (false≢true e)

pub and_right : (a b : Bool) → (a && b) ≡ true → b ≡ true
and_right true b e = e
and_right false b e = absurd (false≢true e)

-- what is left of an `||`, where one side fails
pub or_right : (a b : Bool) → (a || b) ≡ true → (a ≡ true → ⊥) → b ≡ true
or_right true b e n = absurd (n refl)
or_right false b e n = e

pub or_left : (a b : Bool) → (a || b) ≡ true → (b ≡ true → ⊥) → a ≡ true
or_left true b e n = refl
or_left false b e n = absurd (n e)

-- both sides of an `||` that fails
pub or_neither : (a b : Bool) → (a || b) ≡ false → (a ≡ false) × (b ≡ false)
or_neither true b e = absurd (true≢false e)
or_neither false b e = (refl, e)

pub not_so : (a : Bool) → (a ≡ true → ⊥) → a ≡ false
not_so true n = absurd (n refl)
not_so false n = refl

-- what a callee's result r says of a test t, by a test of `!r`
pub fails : {r t : Bool} → r ≡ t → not r ≡ true → t ≡ false
fails {r} {t} e h = sym e ∙ not-true r h

pub holds : {r t : Bool} → r ≡ t → not r ≡ false → t ≡ true
holds {r} {t} e h = sym e ∙ not-false r h

-- a list of tests, of which test n fails; and each of one that holds
pub every_fails : (ts : List Bool) (n : ℕ) → get_or ts n true ≡ false → false ≡ every ts
every_fails [] n e = absurd (true≢false e)
every_fails (t ∷ ts) zero e = rw e
every_fails (t ∷ ts) (suc n) e = go t (every_fails ts n e)
  where
    go : (b : Bool) → false ≡ every ts → false ≡ (b && every ts)
    go true h = h
    go false h = refl

pub every-at : (ts : List Bool) (n : ℕ) → every ts ≡ true → get_or ts n true ≡ true
every-at [] n e = refl
every-at (t ∷ ts) zero e = and_left t (every ts) e
every-at (t ∷ ts) (suc n) e = every-at ts n (and_right t (every ts) e)

module _ (f : ℕ → Bool) where
  pub all_none : all_below f 0 ≡ true
  unfolding all_below
  all_none = refl

  pub all-step : (i : ℕ) → all_below f (i + 1) ≡ (all_below f i && f i)
  unfolding all_below
  all-step i = rw add-one

  pub all_more : (i : ℕ) → all_below f i ≡ true → f i ≡ true → all_below f (i + 1) ≡ true
  unfolding all_below
  all_more i h e = rw (add-one, h, e)

  pub all-at : (n i : ℕ) → i < n → all_below f n ≡ true → f i ≡ true
  unfolding all_below
  all-at zero i l h = absurd (not-suc-le-zero l)
  all-at (suc n) i l h =
      ⊎_elim (λ e. subst (λ (k : ℕ). f k ≡ true) (sym e) (and_right (all_below f n) (f n) h))
      (λ lt. all-at n i lt (and_left (all_below f n) (f n) h))
      (eq-or-lt_of_le (le_of_suc-le-suc l))

  pub all_fails : (n i : ℕ) → i < n → f i ≡ false → all_below f n ≡ false
  unfolding all_below
  all_fails zero i l h = absurd (not-suc-le-zero l)
  all_fails (suc n) i l h =
      ⊎_elim (λ e. rw (subst (λ (k : ℕ). f k ≡ false) e h, and_false_r))
      (λ lt. rw (all_fails n i lt h))
      (eq-or-lt_of_le (le_of_suc-le-suc l))

  pub all_intro : (n : ℕ) → ((i : ℕ) → i < n → f i ≡ true) → all_below f n ≡ true
  unfolding all_below
  all_intro zero h = refl
  all_intro (suc n) h = rw (all_intro n (λ i l. h i (omega arith)), h n (omega arith))

-- tests that agree below n
pub all_alike : (f g : ℕ → Bool) (n : ℕ) → ((i : ℕ) → i < n → f i ≡ g i) → all_below f n ≡ all_below g n
unfolding all_below
all_alike f g zero h = refl
all_alike f g (suc n) h = ap₂ ◌&&◌ (all_alike f g n (λ i l. h i (omega arith))) (h n (omega arith))

-- two functions that agree at each number below n, by the test
pub agree : (f g : ℕ → ℕ) (n : ℕ) → all_below (λ x. eqb (f x) (g x)) n ≡ true → (x : ℕ) → x < n → f x ≡ g x
agree f g n t x h = eqb-true (f x) (g x) (all-at (λ x. eqb (f x) (g x)) n x h t)

-- the first number at which a test holds: at i, where it fails below i and holds at i; n, where it fails below n
pub first-is : (f : ℕ → Bool) (n i : ℕ) → i < n → ((k : ℕ) → k < i → f k ≡ false) → f i ≡ true → first_below f n ≡ i
unfolding first_below
first-is f zero i l h e = absurd (not-suc-le-zero l)
first-is f (suc n) zero l h e = rw e
first-is f (suc n) (suc i) l h e =
    rw (h 0 (omega arith)) (ap suc (first-is (λ k. f (suc k)) n i (omega arith) (λ k lt. h (suc k) (omega arith)) e))

pub first-none : (f : ℕ → Bool) (n : ℕ) → ((k : ℕ) → k < n → f k ≡ false) → first_below f n ≡ n
unfolding first_below
first-none f zero h = refl
first-none f (suc n) h =
    rw (h 0 (omega arith)) (ap suc (first-none (λ k. f (suc k)) n (λ k lt. h (suc k) (omega arith))))

-- where the first is n the test fails everywhere below n
pub first-all : (f : ℕ → Bool) (n : ℕ) → n ≤ first_below f n → (k : ℕ) → k < n → f k ≡ false
unfolding first_below
first-all f zero h k l = absurd (not-suc-le-zero l)
first-all f (suc n) h k l = go (f zero) refl h (first-all (λ j. f (suc j)) n) k l
  where
    rest : ℕ
    rest = first_below (λ j. f (suc j)) n

    go : (b : Bool) → f zero ≡ b → suc n ≤ pick b zero (suc rest) → (n ≤ rest → (k : ℕ) → k < n → f (suc k) ≡ false) → (k : ℕ) → k < suc n → f k ≡ false
    go true e g r k l = absurd (not-suc-le-zero g)
    go false e g r zero l = e
    go false e g r (suc k) l = r (le_of_suc-le-suc g) k (le_of_suc-le-suc l)

pub first_le : (f : ℕ → Bool) (n : ℕ) → first_below f n ≤ n
unfolding first_below
first_le f zero = zero-le
first_le f (suc n) = go (f zero) (first_le (λ k. f (suc k)) n)
  where
    go : (b : Bool) → first_below (λ k. f (suc k)) n ≤ n → pick b zero (suc (first_below (λ k. f (suc k)) n)) ≤ suc n
    go true h = zero-le
    go false h = suc-le-suc h

-- where it is below n the test holds there
pub first_holds : (f : ℕ → Bool) (n : ℕ) → first_below f n < n → f (first_below f n) ≡ true
unfolding first_below
first_holds f zero l = absurd (not-suc-le-zero l)
first_holds f (suc n) l = go (f zero) refl l (first_holds (λ k. f (suc k)) n)
  where
    rest : ℕ
    rest = first_below (λ k. f (suc k)) n

    go : (b : Bool) → f zero ≡ b → pick b zero (suc rest) < suc n → (rest < n → f (suc rest) ≡ true) → f (pick b zero (suc rest)) ≡ true
    go true e h r = e
    go false e h r = r (le_of_suc-le-suc h)

-- a loop over the whole run
pub all_reached : (f : ℕ → Bool) {i n : ℕ} → i ≤ n → n ≤ i → all_below f i ≡ true → true ≡ all_below f n
all_reached f {i} {n} h l e = let z : i ≡ n = omega arith in sym (rw z at e)

-- before the first the test fails
pub first-before : (f : ℕ → Bool) (n k : ℕ) → k < first_below f n → f k ≡ false
unfolding first_below
first-before f zero k l = absurd (not-suc-le-zero l)
first-before f (suc n) k l = go (f zero) refl l (first-before (λ j. f (suc j)) n) k l
  where
    rest : ℕ
    rest = first_below (λ j. f (suc j)) n

    go : (b : Bool) → f zero ≡ b → k < pick b zero (suc rest) → ((j : ℕ) → j < rest → f (suc j) ≡ false) → (k : ℕ) → k < pick b zero (suc rest) → f k ≡ false
    go true e h r k l = absurd (not-suc-le-zero h)
    go false e h r zero l = e
    go false e h r (suc k) l = r k (le_of_suc-le-suc l)
