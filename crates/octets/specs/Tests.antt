-- A choice by a test, and tests over a run of numbers.
use Rattle.std.specs.Prelude.{ℕ, zero, suc, Bool, true, false, ◌&&◌, List, [], ◌∷◌}

module _ {ℓ} {A : Type ℓ} where
  -- a where the test holds, else b
  abbrev pub pick : Bool → A → A → A
  pick true a b = a
  pick false a b = b

-- every test of a list holds
abbrev pub every : List Bool → Bool
every [] = true
every (t ∷ ts) = t && every ts

-- f holds at each number below n
unfoldable pub all_below : (ℕ → Bool) → ℕ → Bool
all_below f zero = true
all_below f (suc n) = all_below f n && f n

-- the least number below n at which f holds, or n where there is none
unfoldable pub first_below : (ℕ → Bool) → ℕ → ℕ
first_below f zero = zero
first_below f (suc n) = pick (f zero) zero (suc (first_below (λ k. f (suc k)) n))
