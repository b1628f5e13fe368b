-- Zeros alone are their own next: L(v) is v for zeros and for no other vector. The taps of the generator besides the one that drops out are five, an odd number.
use mathlib.Core.Path.{◌≡◌, refl, sym, ap, ap₂, ◌∙◌}
use mathlib.Core.List.{List, [], ◌∷◌, map}
use Prim.Native.Nat.{ℕ, zero, suc, ◌+◌, ◌-◌, ◌*◌, ◌%◌, ◌<◌}
use native.Mathlib.Nat.{add-zero}
use native.Mathlib.Decide.{dec_lt}
use native.Mathlib.Omega.{arith}
use lib.ListN.{replicate}
use Rattle.octets.specs.Lists.{iterate}
use Rattle.octets.specs.Bits.{bit, octet, octets_from}
use Rattle.octets.proofs.BitLaws.{bit-octets_from}
use Rattle.generator.specs.Generator.{IsVector, filled, announced, shifted, next_vector}
use Rattle.generator.proofs.VectorLaws.{bits-filled, bits-iterate, moved}
use Rattle.generator.proofs.NotZero.{NoStage, filled_zero}

-- ---- sums over places, of a sequence

-- f (n + x), summed over the places x
abbrev total : (ℕ → ℕ) → List ℕ → ℕ → ℕ
total f [] n = 0
total f (x ∷ xs) n = f (n + x) + total f xs n

abbrev doubles : List ℕ → List ℕ
doubles = map (λ x. x + x)

total_add : (f g : ℕ → ℕ) (xs : List ℕ) (n : ℕ) → total (λ m. f m + g m) xs n ≡ total f xs n + total g xs n
total_add f g [] n = refl
total_add f g (x ∷ xs) n = let e = total_add f g xs n in omega arith

total-later : (f : ℕ → ℕ) (x : ℕ) (ys : List ℕ) (n : ℕ) → total (λ m. f (m + x)) ys n ≡ total f ys (n + x)
total-later f x [] n = refl
total-later f x (y ∷ ys) n =
    let e : n + y + x ≡ n + x + y = omega arith in
    ap₂ ◌+◌ (ap f e) (total-later f x ys n)

-- of a sum over sums, what stands beside the doubled places is there twice
total_twice : (f : ℕ → ℕ) (xs : List ℕ) (n : ℕ) → total (total f xs) xs n % 2 ≡ total f (doubles xs) n % 2
total_twice f [] n = refl
total_twice f (x ∷ xs) n =
    let e : n + x + x ≡ n + (x + x) = omega arith in
    let split : total (total f (x ∷ xs)) xs n ≡ total f xs (n + x) + total (total f xs) xs n =
    total_add (λ m. f (m + x)) (total f xs) xs n ∙ ap (λ (k : ℕ). k + total (total f xs) xs n) (total-later f x xs n) in
    pairs (f (n + x + x)) (f (n + (x + x))) (total f xs (n + x)) (total (total f (x ∷ xs)) xs n) (total (total f xs) xs n) (total f (doubles xs) n) (ap f e) split
    (total_twice f xs n)
  where
    pairs : (a a' b c t d : ℕ) → a ≡ a' → c ≡ b + t → t % 2 ≡ d % 2 → (a + b + c) % 2 ≡ (a' + d) % 2
    pairs a a' b c t d ea ec ed = omega arith

abbrev Even : (ℕ → ℕ) → Type 0
Even f = (n : ℕ) → f n % 2 ≡ 0

even_total : (f : ℕ → ℕ) → Even f → (xs : List ℕ) → Even (total f xs)
even_total f h [] n = refl
even_total f h (x ∷ xs) n = let e = h (n + x) in let t = even_total f h xs n in omega arith

even_doubled : (f : ℕ → ℕ) (xs : List ℕ) → Even (total f xs) → (times : ℕ) → Even (total f (iterate doubles times xs))
unfolding iterate
even_doubled f xs h zero n = h n
even_doubled f xs h (suc k) n =
    sym (total_twice f (iterate doubles k xs) n) ∙ even_total (total f (iterate doubles k xs)) (even_doubled f xs h k) (iterate doubles k xs) n

-- five times 1 is odd
odd : (a : ℕ) → (a + (a + (a + (a + (a + 0))))) % 2 ≡ 0 → a < 2 → a ≡ 0
odd zero h l = refl
odd (suc zero) h l = absurd (omega arith)
odd (suc (suc a)) h l = absurd (omega arith)

-- ---- a register that is the same after 64 shifts

module _ (b : ℕ → ℕ) where
  -- what drops out at the shift after n
  abbrev out : ℕ → ℕ
  out n = iterate shifted n b 63

  fed : (n : ℕ) → out (n + 64) ≡ (out n + out (n + 2) + out (n + 18) + out (n + 26) + out (n + 37) + out (n + 49)) % 2
  unfolding iterate shifted
  fed n =
      let e : suc n + 63 ≡ n + 64 = omega arith in
      (rw e at (moved b 63 (suc n) 0)) ∙ sym (rw (moved b 2 n 61, moved b 18 n 45, moved b 26 n 37, moved b 37 n 26, moved b 49 n 14))

  -- the register as it was, from what drops out
  first : (j : ℕ) → j < 64 → out j ≡ b (63 - j)
  unfolding iterate
  first j l =
      let e : 63 - j + j ≡ 63 = omega arith in
      let z : 0 + j ≡ j = omega arith in
      rw (e, z) at (moved b j 0 (63 - j))

  -- what dropped out in 64 shifts drops out once more in the next 64, one shift on
  abbrev Again : ℕ → Type 0
  Again n = (j : ℕ) → j < 64 → out (n + j + 64) ≡ out (n + j)

  again-on : (n : ℕ) → Again n → Again (suc n)
  again-on n h j l = go (dec_lt j 63)
    where
      at : (k : ℕ) → k < 64 → out (n + 64 + k) ≡ out (n + k)
      at k m = let e : n + k + 64 ≡ n + 64 + k = omega arith in rw e at (h k m)

      go : Dec (j < 63) → out (suc n + j + 64) ≡ out (suc n + j)
      go (yes m) = let e : n + suc j ≡ suc n + j = omega arith in rw e at (h (suc j) (omega arith))
      go (no m) =
          let e : suc n + j ≡ n + 64 = omega arith in
          let z : out (n + 64) ≡ out n = rw (add-zero n) at (h 0 (omega arith)) in
          rw e
          (fed (n + 64)
          ∙ sym (rw (z, at 2 (omega arith), at 18 (omega arith), at 26 (omega arith), at 37 (omega arith), at 49 (omega arith)) (sym z ∙ fed n)))

  module _ (own : (i : ℕ) → i < 64 → iterate shifted 64 b i ≡ b i) where
    again : (n : ℕ) → Again n
    again zero j l =
        let e : 63 - j + j ≡ 63 = omega arith in
        let q : 64 + j ≡ 0 + j + 64 = omega arith in
        let z : 0 + j ≡ j = omega arith in
        (rw (e, q) at (moved b j 64 (63 - j))) ∙ own (63 - j) (omega arith) ∙ sym (rw z (first j l))
    again (suc n) j l = again-on n (again n) j l

    round : (n : ℕ) → out (n + 64) ≡ out n
    round n = rw (add-zero n) at (again n 0 (omega arith))

    rounds : (k n : ℕ) → out (n + 64 * k) ≡ out n
    rounds zero n = rw (add-zero n)
    rounds (suc k) n = let e : n + 64 * suc k ≡ n + 64 * k + 64 = omega arith in rw e (round (n + 64 * k) ∙ rounds k n)

    abbrev tapped : List ℕ
    tapped = 2 ∷ 18 ∷ 26 ∷ 37 ∷ 49 ∷ []

    taps-even : Even (total out tapped)
    taps-even n = omega (arith, fed n, round n)

    -- doubled six times, each of the five places is a whole number of rounds on
    none_out : (n : ℕ) → out n ≡ 0
    unfolding iterate
    none_out n =
        odd (out n) (rw (rounds 2 n, rounds 18 n, rounds 26 n, rounds 37 n, rounds 49 n) at (even_doubled out tapped taps-even 6 n)) (omega (arith, fed n, round n))

    none_in : NoStage b
    none_in i l = let e : 63 - (63 - i) ≡ i = omega arith in rw e at (sym (first (63 - i) (omega arith)) ∙ none_out (63 - i))

pub own-next-zero : (v : List ℕ) → IsVector v → next_vector v ≡ v → v ≡ replicate 8 0
unfolding next_vector announced filled
own-next-zero v i e = filled_zero v i (none_in (filled v) own)
  where
    own : (i : ℕ) → i < 64 → iterate shifted 64 (filled v) i ≡ filled v i
    own i h =
        let q : 63 - (63 - i) ≡ i = omega arith in
        rw q at
        (sym (bit-octets_from 8 (λ k. iterate shifted 64 (filled v) (63 - k)) (λ k. bits-iterate 64 (filled v) (bits-filled v) (63 - k)) (63 - i) (omega arith))
        ∙ ap (λ (xs : List ℕ). bit xs (63 - i)) e)

-- and zeros are
pub zeros-next : next_vector (replicate 8 0) ≡ replicate 8 0
unfolding next_vector announced iterate shifted filled octets_from octet
zeros-next = refl
