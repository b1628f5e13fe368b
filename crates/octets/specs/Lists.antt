-- A list given by a function of the place, a part of a list replaced, a list of zeros, what holds of each element, and a step taken again and again.
use Rattle.std.specs.Prelude.{ℕ, zero, suc, ◌+◌, Bool, List, [], ◌∷◌, ◌++◌, eqb, length, get_or, take, drop}
use Rattle.octets.specs.Tests.{all_below}

-- f 0, f 1, .., f (n - 1)
unfoldable pub tab : (ℕ → ℕ) → ℕ → List ℕ
tab f zero = []
tab f (suc n) = tab f n ++ (f n ∷ [])

-- l with the n elements from a on replaced by xs
unfoldable pub replaced : List ℕ → ℕ → ℕ → List ℕ → List ℕ
replaced l a n xs = take a l ++ (xs ++ drop (a + n) l)

-- every element is zero
unfoldable pub all_zero : List ℕ → Bool
all_zero xs = all_below (λ i. eqb (get_or xs i 0) 0) (length xs)

module _ {ℓ} {A : Type ℓ} where
  -- x after n steps
  unfoldable pub iterate : (A → A) → ℕ → A → A
  iterate step zero x = x
  iterate step (suc n) x = step (iterate step n x)

-- P holds of each element
abbrev pub Each : {A : Type 0} → (A → Type 0) → List A → Type 0
Each P [] = Unit {0}
Each P (x ∷ xs) = P x × Each P xs
