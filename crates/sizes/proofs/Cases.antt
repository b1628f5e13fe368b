-- What belongs to each cipher type, by cases.
use mathlib.Core.Path.{◌≡◌}
use mathlib.Core.Bool.{Bool, true, false}
use Prim.Native.Nat.{ℕ, zero, suc, ◌≤◌}
use native.Mathlib.Omega.{arith}
use lib.Dec.{eqb}
use borrow.Author.Tests.{ne_eqb}
use Rattle.octets.specs.Tests.{pick}
use Rattle.sizes.specs.Ciphers.{by_cipher}

module _ {ℓ} {A : Type ℓ} (c : ℕ) (s d a n : A) where
  pub of_scramble : c ≡ 1 → s ≡ by_cipher c s d a n
  of_scramble e = rw e

  pub of_des : c ≡ 2 → d ≡ by_cipher c s d a n
  of_des e = rw e

  pub of_aes : c ≡ 3 → a ≡ by_cipher c s d a n
  of_aes e = rw e

  pub of_none : (c ≡ 1 → ⊥) → (c ≡ 2 → ⊥) → (c ≡ 3 → ⊥) → n ≡ by_cipher c s d a n
  of_none x y z = rw (ne_eqb _ _ x, ne_eqb _ _ y, ne_eqb _ _ z)

-- what holds of each cipher's part, and of the last, holds of what belongs to a cipher type
pub by_each : (c : ℕ) {A : Type 0} (P : A → Type 0) (s d a n : A) → P s → P d → P a → P n → P (by_cipher c s d a n)
by_each c P s d a n hs hd ha hn = go (eqb c 1) (eqb c 2) (eqb c 3)
  where
    go : (x y z : Bool) → P (pick x s (pick y d (pick z a n)))
    go true y z = hs
    go false true z = hd
    go false false true = ha
    go false false false = hn

-- what holds of the three cipher types holds of each number in range
pub by_range : (P : ℕ → Type 0) → P 1 → P 2 → P 3 → (c : ℕ) → (1 ≤ c) × (c ≤ 3) → P c
by_range P s d a zero h = absurd (omega arith)
by_range P s d a (suc zero) h = s
by_range P s d a (suc (suc zero)) h = d
by_range P s d a (suc (suc (suc zero))) h = a
by_range P s d a (suc (suc (suc (suc c)))) h = absurd (omega arith)
