-- Laws of lists given by a function of the place, and of repeated steps.
use mathlib.Core.Path.{◌≡◌, refl, sym, ap, ap₂, ◌∙◌}
use mathlib.Core.Bool.{true}
use mathlib.Core.List.{List, [], ◌∷◌, ◌++◌}
use mathlib.Core.Logic.{⊎_elim}
use Prim.Native.Nat.{ℕ, zero, suc, ◌+◌, ◌-◌, ◌<◌}
use native.Mathlib.Nat.{not-suc-le-zero, le_of_suc-le-suc, eq-or-lt_of_le, zero-add}
use native.Mathlib.Decide.{dec_lt}
use native.Mathlib.Omega.{arith}
use lib.ListN.{length, get_or, length-append, replicate, length-replicate, get_or-replicate, get_or-append, get_or-eq_default}
use lib.Dec.{eqb}
use lib.Seq.{get_or_at, get_or-append-add, ext_get_or}
use borrow.Author.Tests.{eqb-true}
use Rattle.octets.specs.Lists.{tab, all_zero, iterate}
use Rattle.octets.proofs.Zeros.{zeros-at}
use Rattle.octets.proofs.TestLaws.{all-at}
use Rattle.octets.specs.Bits.{Octets}

pub length-tab : (f : ℕ → ℕ) (n : ℕ) → length (tab f n) ≡ n
unfolding tab
length-tab f zero = refl
length-tab f (suc n) = length-append (tab f n) (f n ∷ []) ∙ omega (arith, length-tab f n)

pub get_or-tab : (f : ℕ → ℕ) (n i : ℕ) → i < n → get_or (tab f n) i 0 ≡ f i
unfolding tab
get_or-tab f zero i h = absurd (not-suc-le-zero h)
get_or-tab f (suc n) i h =
    ⊎_elim (λ e. rw e (get_or_at (tab f n) (f n) [] 0 n (length-tab f n)))
    (λ l. get_or-append (tab f n) (f n ∷ []) 0 i (omega (arith, length-tab f n)) ∙ get_or-tab f n i l) (eq-or-lt_of_le (le_of_suc-le-suc h))

pub tab_same : (f g : ℕ → ℕ) (n : ℕ) → ((i : ℕ) → i < n → f i ≡ g i) → tab f n ≡ tab g n
unfolding tab
tab_same f g zero h = refl
tab_same f g (suc n) h = ap₂ (λ (l : List ℕ) (x : ℕ). l ++ (x ∷ [])) (tab_same f g n (λ i l. h i (omega arith))) (h n (omega arith))

pub octets-tab : (f : ℕ → ℕ) (n : ℕ) → ((i : ℕ) → i < n → f i < 256) → Octets (tab f n)
octets-tab f n h i = go (dec_lt i n)
  where
    go : Dec (i < n) → get_or (tab f n) i 0 < 256
    go (yes l) = rw (get_or-tab f n i l) (h i l)
    go (no l) = rw (get_or-eq_default (tab f n) 0 {n = i} (omega (arith, length-tab f n))) (omega arith)

module _ (xs : List ℕ) (n : ℕ) where
  -- zeros after a list are no elements of it
  pub padded-at : (j : ℕ) → get_or (xs ++ replicate n 0) j 0 ≡ get_or xs j 0
  padded-at j = go (dec_lt j (length xs))
    where
      go : Dec (j < length xs) → get_or (xs ++ replicate n 0) j 0 ≡ get_or xs j 0
      go (yes l) = get_or-append xs (replicate n 0) 0 j l
      go (no m) =
          let e : j ≡ length xs + (j - length xs) = omega arith in
          ap (λ (x : ℕ). get_or (xs ++ replicate n 0) x 0) e
          ∙ get_or-append-add xs (replicate n 0) (j - length xs) 0
          ∙ zeros-at n (j - length xs)
          ∙ sym (get_or-eq_default xs 0 (omega arith))

-- a list of zeros
pub zeros_are : (xs : List ℕ) (n : ℕ) → length xs ≡ n → all_zero xs ≡ true → xs ≡ replicate n 0
unfolding all_zero
zeros_are xs n l z =
    ext_get_or 0 xs (replicate n 0) (l ∙ sym (length-replicate n 0))
    (λ i h. eqb-true _ _ (all-at (λ i. eqb (get_or xs i 0) 0) (length xs) i h z) ∙ sym (get_or-replicate n i 0 0 (omega arith)))

-- steps that agree
pub iterate_same {ℓ} : {A : Type ℓ} (f g : A → A) → ((x : A) → f x ≡ g x) → (n : ℕ) (x : A) → iterate f n x ≡ iterate g n x
unfolding iterate
iterate_same f g e zero x = refl
iterate_same f g e (suc n) x = e (iterate f n x) ∙ ap g (iterate_same f g e n x)

module _ {ℓ} {A : Type ℓ} (step : A → A) where
  -- m steps and then n more
  pub iterate_add : (n m : ℕ) (x : A) → iterate step n (iterate step m x) ≡ iterate step (n + m) x
  unfolding iterate
  iterate_add zero m x = rw zero-add
  iterate_add (suc n) m x =
      let e : suc (n + m) ≡ suc n + m = omega arith in
      ap step (iterate_add n m x) ∙ ap (λ (k : ℕ). iterate step k x) e
