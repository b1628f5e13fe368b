-- The counts of a receiving call: four words to a slot, and what a slot leaves right.
use mathlib.Core.Path.{◌≡◌, refl, sym, ap₂, ◌∙◌}
use mathlib.Core.Bool.{Bool, true, false, ◌||◌, not, false≢true}
use Prim.Native.Nat.{ℕ, ◌+◌, ◌/◌, ◌%◌, ◌≤◌, ◌<◌}
use native.Mathlib.Omega.{arith}
use lib.Dec.{eqb}
use borrow.Author.Tests.{eq-eqb, eqb-true, le-leb, leb-true}
use lib.Count.{ones, ones_step}
use Rattle.std.proofs.lemmas.Nat.{ones_le_self}
use Rattle.octets.specs.Tests.{pick, every}
use Rattle.octets.proofs.TestLaws.{every-at}
use Rattle.sizes.specs.Ciphers.{superframe_slots}
use Rattle.sizes.specs.Frame.{words, most_words}
use Rattle.calls.specs.declared.counts.Counts.{Counts}
use Rattle.calls.specs.Counts.{in_mask, words_in, counts_of, no_counts, plus, total, lost_words, arrived_words, count_tests}

-- ---- sums

-- only zeros add up to nothing
pub none-counted : (n : Counts) → total n ≡ 0 → n ≡ no_counts
none-counted n e =
    let a : n.opened ≡ 0 = omega arith in
    let b : n.held ≡ 0 = omega arith in
    let c : n.replaced ≡ 0 = omega arith in
    let d : n.lost ≡ 0 = omega arith in
    let r : Counts = counts_of n.opened n.held n.replaced n.lost in
    rw (a, b, c, d) refl

-- ---- the words of a slot

one_word : (t : Bool) → pick t 1 0 ≤ 1
one_word true = omega arith
one_word false = omega arith

pub words-at-most : (mask : ℕ) → words_in mask ≤ words
words-at-most mask = omega (arith, one_word (in_mask mask 0), one_word (in_mask mask 1), one_word (in_mask mask 2), one_word (in_mask mask 3))

-- a bit of the mask counts its word
bit_word : (x : ℕ) → x < 2 → x ≡ pick (eqb x 1) 1 0
bit_word x l = go (eqb x 1) refl
  where
    go : (t : Bool) → eqb x 1 ≡ t → x ≡ pick t 1 0
    go true e = eqb-true x 1 e
    go false e = omega (arith, not-one e)
      where
        not-one : eqb x 1 ≡ false → (x ≡ 1 → ⊥)
        not-one f q = false≢true (sym f ∙ eq-eqb x 1 q)

-- as the code counts them: the ones of a number of four bits
pub mask_words : (mask : ℕ) → ones (mask % 16) ≡ words_in mask
mask_words mask =
    let m = mask % 16 in
    rw (
      ← bit_word (mask / 1 % 2) (omega arith),
      ← bit_word (mask / 2 % 2) (omega arith),
      ← bit_word (mask / 4 % 2) (omega arith),
      ← bit_word (mask / 8 % 2) (omega arith),
    ) (omega (arith, ones_step m, ones_step (m / 2), ones_step (m / 2 / 2), ones_step (m / 2 / 2 / 2), ones_le_self (m / 2 / 2 / 2 / 2)))

-- the sort of words that a slot may add: four, lost whole or not at all; none held where the vector is known, and none opened where it isn't
pub record Fits (known : Bool) (w : Counts) : Type 0 where
  pub four : total w ≡ words
  pub lost : w.lost % words ≡ 0
  pub held : known ≡ true → w.held ≡ 0
  pub opened : known ≡ false → w.opened ≡ 0

pub lost-fits : (known : Bool) → Fits known lost_words
lost-fits known = record { four = refl; lost = refl; held = λ e. refl; opened = λ e. refl }

pub arrived-fits : (mask : ℕ) (known : Bool) → Fits known (arrived_words mask known)
arrived-fits mask true = record { four = omega (arith, words-at-most mask); lost = refl; held = λ e. refl; opened = λ e. absurd (false≢true (sym e)) }
arrived-fits mask false = record { four = omega (arith, words-at-most mask); lost = refl; held = λ e. absurd (false≢true e); opened = λ e. refl }

-- ---- the rules

unless : (t : Bool) (n : ℕ) → (not t || eqb n 0) ≡ true → t ≡ true → n ≡ 0
unless true n e q = eqb-true n 0 e
unless false n e q = absurd (false≢true q)

unless_holds : (t : Bool) (n : ℕ) → (t ≡ true → n ≡ 0) → (not t || eqb n 0) ≡ true
unless_holds true n f = eq-eqb n 0 (f refl)
unless_holds false n f = refl

-- what the tests ask
pub record Tallied (always_known never_known : Bool) (p : ℕ) (n : Counts) : Type 0 where
  pub most : total n ≤ most_words
  pub whole : total n % words ≡ 0
  pub lost : n.lost % words ≡ 0
  pub place : total n / words % superframe_slots ≡ p % superframe_slots
  pub held : always_known ≡ true → n.held ≡ 0
  pub opened : never_known ≡ true → n.opened ≡ 0

module _ (always_known never_known : Bool) (p : ℕ) (n : Counts) where
  pub tallied : every (count_tests always_known never_known p n) ≡ true → Tallied always_known never_known p n
  tallied e =
      record {
        most = leb-true _ _ (every-at (count_tests always_known never_known p n) 0 e);
        whole = eqb-true _ _ (every-at (count_tests always_known never_known p n) 1 e);
        lost = eqb-true _ _ (every-at (count_tests always_known never_known p n) 2 e);
        place = eqb-true _ _ (every-at (count_tests always_known never_known p n) 3 e);
        held = unless always_known n.held (every-at (count_tests always_known never_known p n) 4 e);
        opened = unless never_known n.opened (every-at (count_tests always_known never_known p n) 5 e);
      }

  pub tests_pass : Tallied always_known never_known p n → every (count_tests always_known never_known p n) ≡ true
  tests_pass r =
      rw (
        le-leb _ _ r.most,
        eq-eqb _ _ r.whole,
        eq-eqb _ _ r.lost,
        eq-eqb _ _ r.place,
        unless_holds always_known n.held r.held,
        unless_holds never_known n.opened r.opened,
      ) refl

-- no words at a superframe's start
pub none_tallied : (always_known never_known : Bool) (p : ℕ) → p % superframe_slots ≡ 0 → every (count_tests always_known never_known p no_counts) ≡ true
none_tallied always_known never_known p e =
    tests_pass always_known never_known p no_counts
    (record { most = omega arith; whole = refl; lost = refl; place = sym e; held = λ q. refl; opened = λ q. refl })

-- one slot on, below the limit
pub slot-right : (known always_known never_known never_known' : Bool) (p q : ℕ) (n w : Counts) → every (count_tests always_known never_known p n) ≡ true → total n < most_words → Fits known w
    → (always_known ≡ true → known ≡ true) → (never_known' ≡ true → (never_known ≡ true) × (known ≡ false)) → q % superframe_slots ≡ (p + 1) % superframe_slots
    → every (count_tests always_known never_known' q (plus n w)) ≡ true
slot-right known always_known never_known never_known' p q n w right l f a b e =
    let r = tallied always_known never_known p n right in
    tests_pass always_known never_known' q (plus n w)
    (record {
      most = omega (arith, r.whole, f.four);
      whole = omega (arith, r.whole, f.four);
      lost = omega (arith, r.lost, f.lost);
      place = omega (arith, r.whole, r.place, f.four);
      held = λ t. ap₂ (λ (x y : ℕ). x + y) (r.held t) (f.held (a t));
      opened = λ t. ap₂ (λ (x y : ℕ). x + y) (r.opened (b t).0) (f.opened (b t).1);
    })
