-- Octets given by a test, and zeros.
use mathlib.Core.Path.{◌≡◌, refl, ap}
use mathlib.Core.Bool.{Bool, true}
use mathlib.Core.List.{List, [], ◌∷◌, ◌++◌}
use Prim.Native.Nat.{ℕ, zero, suc, ◌-◌, ◌/◌, ◌%◌, ◌^◌, ◌<◌}
use native.Mathlib.Nat.{zero-div}
use native.Mathlib.Decide.{dec_lt}
use native.Mathlib.Omega.{arith}
use lib.Bits.{bit_or}
use lib.Dec.{ltb, eqb}
use lib.ListN.{length, get_or, replicate, length-append, get_or-append, get_or-eq_default}
use lib.Seq.{get_or_at}
use borrow.Author.Tests.{eq-eqb, ltb-true}
use Rattle.octets.specs.Tests.{all_below}
use Rattle.octets.specs.Lists.{all_zero}
use Rattle.octets.specs.Bits.{bit, Octets}
use Rattle.octets.proofs.TestLaws.{all-at, all-step, all_intro, all_alike}
use Rattle.octets.proofs.BitLaws.{or_zero}

-- octets, by a test of each
pub octets_by : (xs : List ℕ) → all_below (λ i. ltb (get_or xs i 0) 256) (length xs) ≡ true → Octets xs
octets_by xs t i = go (dec_lt i (length xs))
  where
    go : Dec (i < length xs) → get_or xs i 0 < 256
    go (yes l) = ltb-true _ _ (all-at (λ j. ltb (get_or xs j 0) 256) (length xs) i l t)
    go (no l) = rw (get_or-eq_default xs 0 {n = i} (omega arith)) (omega arith)

pub zeros-at : (n i : ℕ) → ◌≡◌ {A = ℕ} (get_or (replicate n 0) i 0) 0
zeros-at zero i = refl
zeros-at (suc n) zero = refl
zeros-at (suc n) (suc i) = zeros-at n i

pub zeros-all : (n : ℕ) → all_zero (replicate n 0) ≡ true
unfolding all_zero
zeros-all n = all_intro (λ i. eqb (get_or (replicate n 0) i 0) 0) (length (replicate n 0)) (λ i h. eq-eqb _ _ (zeros-at n i))

pub zeros-octets : (n : ℕ) → Octets (replicate n 0)
zeros-octets n i = rw (zeros-at n i) (omega arith)

pub zeros-bit : (n k : ℕ) → bit (replicate n 0) k ≡ 0
zeros-bit n k = rw (zeros-at n (k / 8), zero-div (2 ^ (7 - k % 8)))

-- the or of octets, with one more: no bit of it is 1 where each octet is zero
pub zero_more : (xs : List ℕ) (x bits r : ℕ) → eqb bits 0 ≡ all_zero xs → r ≡ bit_or bits x → eqb r 0 ≡ all_zero (xs ++ (x ∷ []))
unfolding all_zero
zero_more xs x bits r e is =
    rw (length-append xs (x ∷ []), is, or_zero bits x, all-step, get_or_at xs x [] 0 (length xs) refl, e, same)
  where
    f : ℕ → Bool
    f i = eqb (get_or xs i 0) 0

    g : ℕ → Bool
    g i = eqb (get_or (xs ++ (x ∷ [])) i 0) 0

    same : all_below g (length xs) ≡ all_below f (length xs)
    same = all_alike g f (length xs) (λ i h. ap (λ (z : ℕ). eqb z 0) (get_or-append xs (x ∷ []) 0 i h))
