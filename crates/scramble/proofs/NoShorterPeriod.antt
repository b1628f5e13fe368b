-- No period is shorter than 32,767, unless the key is zero.
--
-- 32,767 is 7 * 31 * 151. A period d that the prime p does not divide makes 32,767 / p a period too, as d has an inverse modulo p. But of
-- each of these three an odd number of multiples is at hand whose powers of X have the sum 0: the bits there have the sum 0, and are all
-- the same, so the sequence is 0. So 7, 31 and 151 divide d.
use mathlib.Core.Path.{◌≡◌, refl, sym, ap, ◌∙◌, subst}
use mathlib.Core.List.{List, [], ◌∷◌}
use mathlib.Core.Bool.{true}
use Prim.Native.Nat.{ℕ, zero, suc, ◌+◌, ◌-◌, ◌*◌, ◌/◌, ◌%◌, ◌^◌, ◌<◌}
use native.Mathlib.Nat.{mod-lt, div-add-mod', mul-add, mul_left_comm, pow-suc, mul-one, add_comm, add_assoc}
use native.Mathlib.Decide.{ℕ_discrete}
use native.Mathlib.Omega.{arith}
use lib.Dec.{eqb}
use lib.ListN.{length}
use lib.Pow.{shr-shr}
use Rattle.octets.specs.Lists.{iterate}
use Rattle.octets.specs.Tests.{all_below}
use Rattle.octets.specs.Bits.{flip, Bits}
use Rattle.octets.proofs.TestLaws.{agree}
use Rattle.scramble.specs.Sequence.{key_number, P}
use Rattle.scramble.proofs.Register.{key_lt}
use Rattle.scramble.proofs.Recurrence.{P-bit, recurrence}
use Rattle.scramble.proofs.KeyBits.{P-key}
use Rattle.scramble.proofs.Period.{Repeats, repeats_times, period}
use Rattle.scramble.proofs.Polynomials.{times_x, powers, sum, sum-powers, sum-zero}

-- ---- periods

repeats_less : (t : ℕ → ℕ) (a b : ℕ) → Repeats t (a + b) → Repeats t b → Repeats t a
repeats_less t a b rep repb n = sym (repb (n + a)) ∙ ap t (add_assoc n a b) ∙ rep n

-- each number below p but 0 has an inverse modulo p, one of its powers
abbrev Fermat : ℕ → Type 0
Fermat p = all_below (λ r. eqb (suc r ^ (p - 1) % p) 1) (p - 1) ≡ true

module _ (t : ℕ → ℕ) (p m : ℕ) (whole : Repeats t (m * p)) where
  -- a multiple of m may be taken modulo p
  repeats-rest : (j : ℕ) → Repeats t (m * j) → Repeats t (m * (j % p))
  repeats-rest j rep =
      let e : m * j ≡ m * (j % p) + j / p * (m * p) =
      ap (λ (z : ℕ). m * z) (sym (div-add-mod' j p))
      ∙ mul-add m (j / p * p) (j % p)
      ∙ ap (λ (z : ℕ). z + m * (j % p)) (mul_left_comm m (j / p) p)
      ∙ add_comm (j / p * (m * p)) (m * (j % p)) in
      repeats_less t (m * (j % p)) (j / p * (m * p)) (subst (Repeats t) e rep) (repeats_times t (m * p) (j / p) whole)

  -- a period that p does not divide
  repeats-part : (d : ℕ) → 1 < p → Fermat p → Repeats t d → (d % p ≡ 0 → ⊥) → Repeats t m
  repeats-part d prime fermat rep ndiv =
      let lt : d % p < p = mod-lt d (omega arith) in
      let next : r ≡ suc (r - 1) = omega arith in
      let one : r ^ (p - 1) % p ≡ 1 = ap (λ (z : ℕ). z ^ (p - 1) % p) next ∙ agree (λ z. suc z ^ (p - 1) % p) (λ z. 1) (p - 1) fermat (r - 1) (omega arith) in
      subst (Repeats t) (ap (λ (z : ℕ). m * z) one ∙ mul-one m)
      (repeats-rest (r ^ (p - 1))
      (subst (Repeats t) power (repeats_times t (m * r) (r ^ (p - 2)) (repeats-rest d (repeats_times t d m rep)))))
    where
      r : ℕ
      r = d % p

      power : r ^ (p - 2) * (m * r) ≡ m * r ^ (p - 1)
      power =
          let e : suc (p - 2) ≡ p - 1 = omega arith in
          mul_left_comm (r ^ (p - 2)) m r ∙ ap (λ (z : ℕ). m * z) (sym (pow-suc r (p - 2)) ∙ ap (λ (z : ℕ). r ^ z) e)

odd_times : (l x : ℕ) → l % 2 ≡ 0 → x < 2 → suc l * x % 2 ≡ x
odd_times l zero e h = omega arith
odd_times l (suc zero) e h = omega arith
odd_times l (suc (suc x)) e h = absurd (omega arith)

module _ (t : ℕ → ℕ) (bits : Bits t) (rec : (n : ℕ) → t (n + 15) ≡ flip (t (n + 1)) (t n)) (whole : Repeats t 32767)
    (sounds : ((n : ℕ) → t n ≡ 0) → ⊥) (d : ℕ) (rep : Repeats t d) where
  divides : (p m : ℕ) (gs : List ℕ) → 32767 ≡ m * p → 1 < p → Fermat p → length gs % 2 ≡ 0 → powers m gs ≡ 0 → d % p ≡ 0
  divides p m gs e prime fermat odd none = go (ℕ_discrete (d % p) 0)
    where
      silent : (d % p ≡ 0 → ⊥) → (n : ℕ) → t n ≡ 0
      silent ndiv n =
          sym (odd_times (length gs) (t n) odd (bits n))
          ∙ sym (sum-powers t bits rec m (repeats-part t p m (subst (Repeats t) e whole) d prime fermat rep ndiv) gs n)
          ∙ ap (λ (c : ℕ). sum t 15 c n) none
          ∙ sum-zero t bits rec n

      go : Dec (d % p ≡ 0) → d % p ≡ 0
      go (yes q) = q
      go (no q) = absurd (sounds (silent q))

  by-7 : d % 7 ≡ 0
  unfolding all_below iterate times_x powers
  by-7 = divides 7 4681 (1 ∷ 2 ∷ []) refl (omega arith) refl refl refl

  by-31 : d % 31 ≡ 0
  unfolding all_below iterate times_x powers
  by-31 = divides 31 1057 (1 ∷ 1 ∷ 1 ∷ 2 ∷ []) refl (omega arith) refl refl refl

  by-151 : d % 151 ≡ 0
  unfolding all_below iterate times_x powers
  by-151 = divides 151 217 (3 ∷ 13 ∷ 2 ∷ 1 ∷ []) refl (omega arith) refl refl refl

-- no number between 0 and the product: 40 * 7 - 9 * 31 = 1 and 23 * 151 - 16 * 217 = 1
none_between : (d : ℕ) → d % 7 ≡ 0 → d % 31 ≡ 0 → d % 151 ≡ 0 → 0 < d → d < 32767 → ⊥
none_between d a b c l h = go (40 * (d / 31) - 9 * (d / 7)) (omega arith)
  where
    go : (k : ℕ) → d ≡ 217 * k → ⊥
    go k e = let f : d ≡ 32767 * (23 * k - 16 * (d / 151)) = omega arith in omega arith

-- ---- the key

zero_bits : (k r : ℕ) → r < 2 ^ k → ((i : ℕ) → i < k → r / 2 ^ i % 2 ≡ 0) → r ≡ 0
zero_bits zero r h z = omega arith
zero_bits (suc k) r h z =
    let half : r / 2 ≡ 0 =
    zero_bits k (r / 2) (omega (arith, pow-suc 2 k))
    (λ i l. let e : 1 + i ≡ suc i = omega arith in ap (λ (x : ℕ). x % 2) (shr-shr r 1 i ∙ ap (λ (x : ℕ). r / 2 ^ x) e) ∙ z (suc i) (omega arith)) in
    let odd : r / 2 ^ 0 % 2 ≡ 0 = z 0 (omega arith) in
    omega arith

zero-key : (key : List ℕ) → ((n : ℕ) → P key n ≡ 0) → key_number key ≡ 0
zero-key key z = zero_bits 15 (key_number key) (key_lt key) (λ i h. sym (P-key key i h) ∙ z i)

pub no_shorter_period : (key : List ℕ) (d : ℕ) → (key_number key ≡ 0 → ⊥) → 0 < d → d < 32767 → ((n : ℕ) → P key (n + d) ≡ P key n) → ⊥
no_shorter_period key d allowed l h rep =
    let sounds : ((n : ℕ) → P key n ≡ 0) → ⊥ = λ z. allowed (zero-key key z) in
    none_between d
    (by-7 (P key) (P-bit key) (recurrence key) (period key) sounds d rep)
    (by-31 (P key) (P-bit key) (recurrence key) (period key) sounds d rep)
    (by-151 (P key) (P-bit key) (recurrence key) (period key) sounds d rep)
    l
    h
