-- Sums of a sequence's bits, as polynomials: digit i of c says whether the bit i places on is in the sum. A polynomial may be taken modulo
-- X ^ 15 + X + 1 where the sequence has that recurrence.
use mathlib.Core.Path.{◌≡◌, refl, sym, ap, ap₂, ◌∙◌}
use mathlib.Core.List.{List, [], ◌∷◌}
use Prim.Native.Nat.{ℕ, zero, suc, ◌+◌, ◌*◌, ◌/◌, ◌%◌, ◌^◌, ◌<◌, min}
use native.Mathlib.Nat.{zero-min, div-one, add_comm, add-zero, add-mod-mod, suc-mul}
use native.Mathlib.Omega.{arith}
use lib.Bits.{bit_xor, xor_shr}
use lib.ListN.{length}
use lib.Pow.{shr-shr}
use Rattle.octets.specs.Lists.{iterate}
use Rattle.octets.specs.Bits.{flip, Bits}
use Rattle.octets.proofs.BitLaws.{flip_lt, flip_assoc, flip-mixed, xor_low}
use Rattle.scramble.proofs.Period.{repeats_times}

-- ---- computing: a polynomial's digits

-- less the modulus, where the digit of X ^ 15 stands
abbrev folded : ℕ → ℕ → ℕ
folded zero c = c
folded (suc t) c = bit_xor 32771 c

-- X times c, modulo X ^ 15 + X + 1
unfoldable pub times_x : ℕ → ℕ
times_x c = folded (2 * c / 2 ^ 15 % 2) (2 * c)

-- a sum of powers of X ^ m: the exponents, from 0 on, are as far apart as the list says
unfoldable pub powers : ℕ → List ℕ → ℕ
powers m [] = 1
powers m (g ∷ gs) = bit_xor 1 (iterate times_x (g * m) (powers m gs))

-- ---- what it says of a sequence

min-flip : (a b x : ℕ) → a < 2 → b < 2 → x < 2 → min (flip a b) x ≡ flip (min a x) (min b x)
min-flip zero b x ha hb hx = omega arith
min-flip (suc zero) b x ha hb hx = omega arith
min-flip (suc (suc a)) b x ha hb hx = absurd (omega arith)

module _ (s : ℕ → ℕ) where
  -- the sum that the first k digits of c name, from place n on
  unfoldable pub sum : ℕ → ℕ → ℕ → ℕ
  sum zero c n = 0
  sum (suc k) c n = flip (min (c % 2) (s n)) (sum k (c / 2) (n + 1))

  module _ (bits : Bits s) where
    sum_lt : (k c n : ℕ) → sum k c n < 2
    unfolding sum
    sum_lt zero c n = omega arith
    sum_lt (suc k) c n = flip_lt (min (c % 2) (s n)) (sum k (c / 2) (n + 1))

    sum-xor : (k a b n : ℕ) → sum k (bit_xor a b) n ≡ flip (sum k a n) (sum k b n)
    unfolding sum
    sum-xor zero a b n = refl
    sum-xor (suc k) a b n =
        ap₂ flip
        (ap (λ (z : ℕ). min z (s n)) (xor_low a b) ∙ min-flip (a % 2) (b % 2) (s n) (omega arith) (omega arith) (bits n))
        (ap (λ (z : ℕ). sum k z (n + 1)) (xor_shr a b 1) ∙ sum-xor k (a / 2) (b / 2) (n + 1))
        ∙ flip-mixed (min (a % 2) (s n)) (min (b % 2) (s n)) (sum k (a / 2) (n + 1)) (sum k (b / 2) (n + 1))

    -- one digit more
    sum_more : (k c n : ℕ) → sum (suc k) c n ≡ flip (sum k c n) (min (c / 2 ^ k % 2) (s (n + k)))
    unfolding sum
    sum_more zero c n = rw (div-one, add-zero n) (ap (λ (z : ℕ). z % 2) (add_comm (min (c % 2) (s n)) 0))
    sum_more (suc k) c n =
        let e : 1 + k ≡ suc k = omega arith in
        let f : n + 1 + k ≡ n + suc k = omega arith in
        ap (flip (min (c % 2) (s n)))
        (sum_more k (c / 2) (n + 1) ∙ ap₂ (λ (x y : ℕ). flip (sum k (c / 2) (n + 1)) (min (x % 2) (s y))) (shr-shr c 1 k ∙ ap (λ (z : ℕ). c / 2 ^ z) e) f)
        ∙ flip_assoc (min (c % 2) (s n)) (sum k (c / 2) (n + 1)) (min (c / 2 ^ suc k % 2) (s (n + suc k)))

    sum-double : (k c n : ℕ) → sum (suc k) (2 * c) n ≡ sum k c (n + 1)
    unfolding sum
    sum-double k c n =
        let e : 2 * c % 2 ≡ 0 = omega arith in
        let f : 2 * c / 2 ≡ c = omega arith in
        rw (e, f, zero-min) (omega (arith, sum_lt k c (n + 1)))

    module _ (rec : (n : ℕ) → s (n + 15) ≡ flip (s (n + 1)) (s n)) where
      modulus : (n : ℕ) → sum 15 32771 n ≡ s (n + 15)
      unfolding sum
      modulus n = simp zero-min (omega (arith, rec n, bits n, bits (n + 1)))

      sum_folded : (t c n : ℕ) → t < 2 → sum 15 (folded t c) n ≡ flip (sum 15 c n) (min t (s (n + 15)))
      sum_folded zero c n h = rw zero-min (omega (arith, sum_lt 15 c n))
      sum_folded (suc zero) c n h = sum-xor 15 32771 c n ∙ omega (arith, modulus n, bits (n + 15))
      sum_folded (suc (suc t)) c n h = absurd (omega arith)

      sum-timesX : (c n : ℕ) → sum 15 (times_x c) n ≡ sum 15 c (n + 1)
      unfolding times_x
      sum-timesX c n = sum_folded (2 * c / 2 ^ 15 % 2) (2 * c) n (omega arith) ∙ sym (sum_more 15 (2 * c) n) ∙ sum-double 15 c n

      sum-power : (k c n : ℕ) → sum 15 (iterate times_x k c) n ≡ sum 15 c (n + k)
      unfolding iterate
      sum-power zero c n = rw add-zero
      sum-power (suc k) c n =
          let e : n + 1 + k ≡ n + suc k = omega arith in
          sum-timesX (iterate times_x k c) n ∙ sum-power k c (n + 1) ∙ ap (sum 15 c) e

      pub sum-zero : (n : ℕ) → sum 15 0 n ≡ 0
      unfolding sum
      sum-zero n = simp zero-min

      one : (n : ℕ) → sum 15 1 n ≡ s n
      unfolding sum
      one n = simp zero-min (omega (arith, bits n))

      -- where the sequence comes again after m places, each power of X ^ m stands for the bit itself
      pub sum-powers : (m : ℕ) → ((n : ℕ) → s (n + m) ≡ s n) → (gs : List ℕ) (n : ℕ) → sum 15 (powers m gs) n ≡ suc (length gs) * s n % 2
      unfolding powers
      sum-powers m rep [] n = one n ∙ omega (arith, bits n)
      sum-powers m rep (g ∷ gs) n =
          sum-xor 15 1 (iterate times_x (g * m) (powers m gs)) n
          ∙ ap₂ flip (one n)
          (sum-power (g * m) (powers m gs) n
          ∙ sum-powers m rep gs (n + g * m)
          ∙ ap (λ (z : ℕ). suc (length gs) * z % 2) (repeats_times s m g rep n))
          ∙ add-mod-mod (s n) (suc (length gs) * s n) 2
          ∙ ap (λ (z : ℕ). z % 2) (add_comm (s n) (suc (length gs) * s n) ∙ sym (suc-mul (suc (length gs)) (s n)))
