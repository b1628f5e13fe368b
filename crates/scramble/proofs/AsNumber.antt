-- Laws of bits held as a number.
use mathlib.Core.Path.{◌≡◌, refl, sym, ap, ap₂, ◌∙◌}
use Prim.Native.Nat.{ℕ, zero, suc, ◌+◌, ◌*◌, ◌/◌, ◌%◌, ◌^◌, ◌<◌}
use native.Mathlib.Nat.{add_comm, mod-eq_of_lt, pow-suc, mul_assoc, add_assoc, add-zero, add-suc}
use native.Mathlib.Omega.{arith}
use lib.Bits.{bit_xor, xor_block, xor_lt}
use lib.Pow.{high, low}
use Rattle.octets.specs.Bits.{flip, octet, Bits}
use Rattle.octets.proofs.BitLaws.{xor_low}
use Rattle.scramble.specs.Held.{as_number, moved}

flip-bit_xor : (a b : ℕ) → a < 2 → b < 2 → flip b a ≡ bit_xor a b
flip-bit_xor a b h l =
    ap (λ (z : ℕ). z % 2) (add_comm b a)
    ∙ ap₂ flip (sym (mod-eq_of_lt h)) (sym (mod-eq_of_lt l))
    ∙ sym (xor_low a b)
    ∙ mod-eq_of_lt (xor_lt 1 a b h l)

-- the top bit of fifteen drops out
up_one : (r a x : ℕ) → x < 2 ^ 14 → r ≡ a * 2 ^ 14 + x → r * 2 % 2 ^ 15 ≡ x * 2
up_one r a x h e = omega arith

last_bit : (x b : ℕ) → b < 2 → (x * 2 + b) % 2 ≡ b
last_bit x b h = omega arith

module _ (s : ℕ → ℕ) where
  -- the first j bits, then the next k
  pub as_number_join : (n j k : ℕ) → as_number s n (j + k) ≡ as_number s n j * 2 ^ k + as_number s (n + j) k
  unfolding as_number
  as_number_join n j zero = rw (add-zero j) (omega arith)
  as_number_join n j (suc k) =
      let double : as_number s n j * 2 ^ suc k ≡ as_number s n j * 2 ^ k * 2 = ap (λ (z : ℕ). as_number s n j * z) (pow-suc 2 k) ∙ sym (mul_assoc (as_number s n j) (2 ^ k) 2) in
      rw (add-suc, as_number_join n j k, double, add_assoc n) (omega arith)

  pub as_number-octet : (n : ℕ) → as_number s n 8 ≡ octet (λ k. s (n + k))
  unfolding as_number octet
  as_number-octet n = omega arith

  pub as_number_again : (d : ℕ) → ((n : ℕ) → s (n + d) ≡ s n) → (n k : ℕ) → as_number s (n + d) k ≡ as_number s n k
  unfolding as_number
  as_number_again d rep n zero = refl
  as_number_again d rep n (suc k) =
      let e : n + d + k ≡ n + k + d = omega arith in
      ap₂ (λ (x y : ℕ). x * 2 + y) (as_number_again d rep n k) (ap s e ∙ rep (n + k))

module _ (s : ℕ → ℕ) (bits : Bits s) where
  pub as_number_lt : (n k : ℕ) → as_number s n k < 2 ^ k
  unfolding as_number
  as_number_lt n zero = omega arith
  as_number_lt n (suc k) = omega (arith, as_number_lt n k, bits (n + k), pow-suc 2 k)

  pub as_number-first : (n j k : ℕ) → as_number s n (j + k) / 2 ^ k ≡ as_number s n j
  as_number-first n j k = ap (λ (z : ℕ). z / 2 ^ k) (as_number_join s n j k) ∙ high (as_number s n j) k (as_number_lt (n + j) k)

  pub as_number-last : (n j k : ℕ) → as_number s n (j + k) % 2 ^ k ≡ as_number s (n + j) k
  as_number-last n j k = ap (λ (z : ℕ). z % 2 ^ k) (as_number_join s n j k) ∙ low (as_number s n j) k (as_number_lt (n + j) k)

  module _ (rec : (n : ℕ) → s (n + 15) ≡ flip (s (n + 1)) (s n)) where
    pub as_number-fed : (n k : ℕ) → as_number s (n + 15) k ≡ bit_xor (as_number s n k) (as_number s (n + 1) k)
    unfolding as_number
    as_number-fed n zero = refl
    as_number-fed n (suc k) =
        let a : n + 15 + k ≡ n + k + 15 = omega arith in
        let b : n + k + 1 ≡ n + 1 + k = omega arith in
        let fed : s (n + 15 + k) ≡ bit_xor (s (n + k)) (s (n + 1 + k)) =
        ap s a ∙ rec (n + k) ∙ ap (λ (z : ℕ). flip (s z) (s (n + k))) b ∙ flip-bit_xor (s (n + k)) (s (n + 1 + k)) (bits (n + k)) (bits (n + 1 + k)) in
        ap₂ (λ (x y : ℕ). x * 2 + y) (as_number-fed n k) fed
        ∙ sym (xor_block 1 (as_number s n k) (as_number s (n + 1) k) (s (n + k)) (s (n + 1 + k)) (bits (n + k)) (bits (n + 1 + k)))

    -- fifteen of them moved one place on
    pub as_number-moved : (n : ℕ) → moved (as_number s n 15) ≡ as_number s (n + 1) 15
    unfolding as_number moved
    as_number-moved n =
        let z : n + 0 ≡ n = omega arith in
        let e : n + 1 + 14 ≡ n + 15 = omega arith in
        let next : s (n + 1 + 14) ≡ flip (s (n + 1)) (s (n + 0)) = ap s e ∙ rec n ∙ ap (λ (k : ℕ). flip (s (n + 1)) (s k)) (sym z) in
        let up : as_number s n 15 * 2 % 2 ^ 15 ≡ as_number s (n + 1) 14 * 2 = up_one (as_number s n 15) (as_number s n 1) (as_number s (n + 1) 14) (as_number_lt (n + 1) 14) (as_number_join s n 1 14) in
        let first : as_number s n 15 / 2 ^ 14 % 2 ≡ s (n + 0) = ap (λ (x : ℕ). x % 2) (as_number-first n 1 14) ∙ last_bit 0 (s (n + 0)) (bits (n + 0)) in
        let second : as_number s n 15 / 2 ^ 13 % 2 ≡ s (n + 1) = ap (λ (x : ℕ). x % 2) (as_number-first n 2 13) ∙ last_bit (as_number s n 1) (s (n + 1)) (bits (n + 1)) in
        ap₂ (λ (x y : ℕ). x + y) up (ap₂ flip second first ∙ sym next)
