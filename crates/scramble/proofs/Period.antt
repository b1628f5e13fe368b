-- The sequence comes again after 32,767 places.
--
-- Twice over, a relation t (n + a) = t (n + b) xor t (n + c) gives the relation at 2a, 2b, 2c. From t (n + 4) = t (n + 1) xor t n come so
-- t (n + 16) = t (n + 1) and the period 15. From t (n + 16) = t (n + 2) xor t (n + 1) come so the relations at 16 q, 2 q, q for each
-- power q of two: t (n + 2 ^ k) is a sequence of the first kind in k, and its period 15 says t (n + 2 ^ 15) = t (n + 1).
use mathlib.Core.Path.{◌≡◌, sym, ap, ap₂, ◌∙◌}
use mathlib.Core.List.{List}
use Prim.Native.Nat.{ℕ, zero, suc, ◌+◌, ◌*◌, ◌^◌}
use native.Mathlib.Nat.{pow-succ', suc-add, add-zero, add_assoc, zero-mul, suc-mul}
use native.Mathlib.Omega.{arith}
use Rattle.octets.specs.Bits.{flip, Bits}
use Rattle.octets.proofs.BitLaws.{flip-flip, flip-between, flip_cancel}
use Rattle.scramble.specs.Sequence.{P}
use Rattle.scramble.proofs.Recurrence.{P-bit, recurrence}

-- t (n + a) is t (n + b) xor t (n + c)
abbrev Relation : (ℕ → ℕ) → ℕ → ℕ → ℕ → Type 0
Relation t a b c = (n : ℕ) → t (n + a) ≡ flip (t (n + b)) (t (n + c))

abbrev pub Repeats : (ℕ → ℕ) → ℕ → Type 0
Repeats t d = (n : ℕ) → t (n + d) ≡ t n

pub repeats_times : (t : ℕ → ℕ) (d k : ℕ) → Repeats t d → Repeats t (k * d)
repeats_times t d zero rep n = rw (zero-mul, add-zero)
repeats_times t d (suc k) rep n =
    let e : n + suc k * d ≡ n + k * d + d = rw suc-mul (sym (add_assoc n (k * d) d)) in
    ap t e ∙ rep (n + k * d) ∙ repeats_times t d k rep n

module _ (t : ℕ → ℕ) where
  twice : (a b c : ℕ) → Relation t a b c → Relation t (2 * a) (2 * b) (2 * c)
  twice a b c rel n =
      let ab : n + a + b ≡ n + b + a = omega arith in
      let ac : n + a + c ≡ n + c + a = omega arith in
      let aa : n + 2 * a ≡ n + a + a = omega arith in
      let bb : n + b + b ≡ n + 2 * b = omega arith in
      let cb : n + c + b ≡ n + b + c = omega arith in
      let cc : n + c + c ≡ n + 2 * c = omega arith in
      ap t aa ∙ rel (n + a)
      ∙ ap₂ flip (ap t ab ∙ rel (n + b)) (ap t ac ∙ rel (n + c) ∙ ap (λ (k : ℕ). flip (t k) (t (n + c + c))) cb)
      ∙ flip-between (t (n + b + b)) (t (n + b + c)) (t (n + c + c))
      ∙ ap₂ (λ (j k : ℕ). flip (t j) (t k)) bb cc

module _ (t : ℕ → ℕ) (bits : Bits t) where
  -- what comes again from place 1 on comes again from place 0 on
  back : (a p : ℕ) → Relation t (a + 1) 1 0 → ((n : ℕ) → t (n + (p + 1)) ≡ t (n + 1)) → Repeats t p
  back a p rel rep n =
      let e : n + p + (a + 1) ≡ n + a + (p + 1) = omega arith in
      let f : n + a + 1 ≡ n + (a + 1) = omega arith in
      let g : n + p + 1 ≡ n + (p + 1) = omega arith in
      let z : n + 0 ≡ n = omega arith in
      let y : n + p + 0 ≡ n + p = omega arith in
      flip_cancel (t (n + 1)) (t (n + p)) (t n) (bits (n + p)) (bits n)
      (ap₂ (λ (u v : ℕ). flip u (t v)) (sym (ap t g ∙ rep n)) (sym y)
      ∙ sym (rel (n + p))
      ∙ ap t e ∙ rep (n + a) ∙ ap t f
      ∙ rel n
      ∙ ap (λ (k : ℕ). flip (t (n + 1)) (t k)) z)

-- the fifteen places of a sequence whose place n + 4 is fed by n + 1 and n
repeats_15 : (u : ℕ → ℕ) → Bits u → Relation u 4 1 0 → Repeats u 15
repeats_15 u bits rel =
    back u bits 3 15 rel
    (λ n.
    twice u 8 2 0 (twice u 4 1 0 rel) n
    ∙ ap (λ (v : ℕ). flip v (u (n + 0))) (rel n)
    ∙ flip-flip (u (n + 1)) (u (n + 0)) (bits (n + 1)))

module _ (t : ℕ → ℕ) (bits : Bits t) (rel : Relation t 15 1 0) where
  sixteen : Relation t 16 2 1
  sixteen n =
      let e : n + 16 ≡ n + 1 + 15 = omega arith in
      let f : n + 1 + 1 ≡ n + 2 = omega arith in
      let g : n + 1 + 0 ≡ n + 1 = omega arith in
      ap t e ∙ rel (n + 1) ∙ ap₂ (λ (j k : ℕ). flip (t j) (t k)) f g

  at-powers : (k : ℕ) → Relation t (2 ^ (k + 4)) (2 ^ (k + 1)) (2 ^ k)
  at-powers zero = sixteen
  at-powers (suc k) =
      let double : (j : ℕ) → 2 ^ (suc k + j) ≡ 2 * 2 ^ (k + j) = λ j. ap (λ (z : ℕ). 2 ^ z) (suc-add k j) ∙ pow-succ' 2 (k + j) in
      rw (double 4, double 1, pow-succ') (twice t (2 ^ (k + 4)) (2 ^ (k + 1)) (2 ^ k) (at-powers k))

  repeats-32767 : Repeats t 32767
  repeats-32767 =
      back t bits 14 32767 rel
      (λ n.
      repeats_15 (λ k. t (n + 2 ^ k)) (λ k. bits (n + 2 ^ k)) (λ k. rw add-zero (at-powers k n)) 0)

-- the period
pub period : (key : List ℕ) (n : ℕ) → P key (n + 32767) ≡ P key n
period key n = repeats-32767 (P key) (P-bit key) (λ m. rw add-zero (recurrence key m)) n

pub again : (key : List ℕ) (k n : ℕ) → P key (n + k * 32767) ≡ P key n
again key k n = repeats_times (P key) 32767 k (period key) n
