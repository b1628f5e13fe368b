-- The fifteen bits held from a place on, and from a later one.
use mathlib.Core.Path.{◌≡◌, sym, ap, ap₂, ◌∙◌}
use mathlib.Core.List.{List}
use Prim.Native.Nat.{ℕ, ◌+◌, ◌-◌, ◌*◌, ◌/◌, ◌%◌, ◌^◌, ◌≤◌, ◌<◌}
use native.Mathlib.Nat.{add_assoc, zero-add, lt_of_lt_of_le, add-zero, mul-mod_left, mod-eq_of_lt}
use native.Mathlib.Numerals.{add-one}
use native.Mathlib.Omega.{arith}
use lib.Bits.{bit_xor, xor_block, xor_mod, xor_zero_r}
use lib.Pow.{pow_mono, high, mod-pow-add, mod-mod-pow, shl-shr, shr-shr}
use lib.ListN.{get_or}
use Rattle.octets.specs.Bits.{octets_from}
use Rattle.octets.proofs.BitLaws.{octet_same, get_or-octets_from}
use Rattle.scramble.specs.Sequence.{key_number, P}
use Rattle.scramble.specs.Held.{as_number, held}
use Rattle.scramble.proofs.Recurrence.{P-bit, recurrence}
use Rattle.scramble.proofs.KeyBits.{P-key}
use Rattle.scramble.proofs.Period.{again}
use Rattle.scramble.proofs.AsNumber.{as_number_lt, as_number_join, as_number-first, as_number-last, as_number-octet, as_number-fed, as_number_again}

pub held_lt : (key : List ℕ) (n : ℕ) → held key n < 2 ^ 15
unfolding held
held_lt key n = as_number_lt (P key) (P-bit key) n 15

-- the key's bits gathered one by one, the lowest first
module _ (key : List ℕ) (i : ℕ) where
  pub gathered_lt : i ≤ 15 → as_number (P key) 0 i < 2 ^ 15
  gathered_lt h = lt_of_lt_of_le (as_number_lt (P key) (P-bit key) 0 i) (pow_mono h)

  pub gather : (bits rest : ℕ) → i < 15 → bits ≡ as_number (P key) 0 i → rest ≡ key_number key / 2 ^ i → 2 * bits + rest % 2 ≡ as_number (P key) 0 (i + 1)
  unfolding as_number
  gather bits rest h eb er =
      let bit : P key (0 + i) ≡ rest % 2 = ap (P key) (zero-add i) ∙ P-key key i h ∙ ap (λ (z : ℕ). z % 2) (sym er) in
      rw (add-one) (omega arith)

  pub gather_rest : (rest : ℕ) → rest ≡ key_number key / 2 ^ i → rest / 2 ≡ key_number key / 2 ^ (i + 1)
  gather_rest rest e = ap (λ (z : ℕ). z / 2) e ∙ shr-shr (key_number key) i 1

-- the bits held k places later
module _ (key : List ℕ) (n : ℕ) where
  abbrev s : ℕ → ℕ
  s = P key

  -- shifted up by k, all but the k that fall out
  up : (k : ℕ) → k ≤ 15 → held key n * 2 ^ k % 2 ^ 64 % 32768 ≡ as_number s (n + k) (15 - k) * 2 ^ k
  unfolding held
  up k h =
      let e : 15 - k + k ≡ 15 = omega arith in
      let f : 15 ≡ k + (15 - k) = omega arith in
      mod-mod-pow (held key n * 2 ^ k) 49 15
      ∙ ap (λ (z : ℕ). held key n * 2 ^ k % 2 ^ z) (sym e)
      ∙ mod-pow-add (held key n * 2 ^ k) (15 - k) k
      ∙ ap₂ (λ (x y : ℕ). x % 2 ^ (15 - k) * 2 ^ k + y) (shl-shr (held key n) k) (mul-mod_left (held key n) (2 ^ k))
      ∙ add-zero (held key n % 2 ^ (15 - k) * 2 ^ k)
      ∙ ap (λ (z : ℕ). as_number s n z % 2 ^ (15 - k) * 2 ^ k) f
      ∙ ap (λ (z : ℕ). z * 2 ^ k) (as_number-last s (P-bit key) n k (15 - k))

  fed : bit_xor (held key n) (held key n * 2 ^ 1 % 2 ^ 64) % 32768 ≡ as_number s (n + 15) 14 * 2 ^ 1 + s (n + 14)
  unfolding held as_number
  fed =
      xor_mod (held key n) (held key n * 2 ^ 1 % 2 ^ 64) 15
      ∙ ap₂ bit_xor (mod-eq_of_lt (held_lt key n)) (up 1 (omega arith) ∙ sym (add-zero (as_number s (n + 1) 14 * 2 ^ 1)))
      ∙ xor_block 1 (as_number s n 14) (as_number s (n + 1) 14) (s (n + 14)) 0 (P-bit key (n + 14)) (omega arith)
      ∙ ap₂ (λ (x y : ℕ). x * 2 ^ 1 + y) (sym (as_number-fed s (P-bit key) (recurrence key) n 14)) (xor_zero_r (s (n + 14)))

  pub held-later : (k : ℕ) → k ≤ 14
      → held key n * 2 ^ k % 2 ^ 64 % 32768 + bit_xor (held key n) (held key n * 2 ^ 1 % 2 ^ 64) % 32768 / 2 ^ (15 - k) ≡ held key (n + k)
  unfolding held
  held-later k h =
      let e : 15 - k ≡ 1 + (14 - k) = omega arith in
      let f : 14 ≡ k + (14 - k) = omega arith in
      let g : n + 15 ≡ n + k + (15 - k) = omega arith in
      let w : 15 - k + k ≡ 15 = omega arith in
      let low : bit_xor (held key n) (held key n * 2 ^ 1 % 2 ^ 64) % 32768 / 2 ^ (15 - k) ≡ as_number s (n + 15) k =
      ap₂ (λ (x y : ℕ). x / 2 ^ y) fed e
      ∙ sym (shr-shr (as_number s (n + 15) 14 * 2 ^ 1 + s (n + 14)) 1 (14 - k))
      ∙ ap (λ (z : ℕ). z / 2 ^ (14 - k)) (high (as_number s (n + 15) 14) 1 (P-bit key (n + 14)))
      ∙ ap (λ (z : ℕ). as_number s (n + 15) z / 2 ^ (14 - k)) f
      ∙ as_number-first s (P-bit key) (n + 15) k (14 - k) in
      ap₂ (λ (x y : ℕ). x + y) (up k (omega arith)) (low ∙ ap (λ (z : ℕ). as_number s z k) g)
      ∙ sym (as_number_join s (n + k) (15 - k) k)
      ∙ ap (as_number s (n + k)) w

-- the place may be taken less the period
pub held_near : (key : List ℕ) (n : ℕ) → held key (n % 32767) ≡ held key n
unfolding held
held_near key n =
    let e : n % 32767 + n / 32767 * 32767 ≡ n = omega arith in
    sym (as_number_again (P key) (n / 32767 * 32767) (again key (n / 32767)) (n % 32767) 15) ∙ ap (held key) e

-- the top eight of the bits held are the next octet
pub held-octet : (key : List ℕ) (bits from n i : ℕ) → i < n → bits ≡ held key (from + 8 * i) → bits / 2 ^ 7 ≡ get_or (octets_from n (λ k. P key (from + k))) i 0
unfolding held
held-octet key bits from n i h e =
    ap (λ (z : ℕ). z / 2 ^ 7) e
    ∙ as_number-first (P key) (P-bit key) (from + 8 * i) 8 7
    ∙ as_number-octet (P key) (from + 8 * i)
    ∙ octet_same (λ k. P key (from + 8 * i + k)) (λ k. P key (from + (8 * i + k))) (λ k. ap (P key) (add_assoc from (8 * i) k))
    ∙ sym (get_or-octets_from n (λ k. P key (from + k)) i h)
