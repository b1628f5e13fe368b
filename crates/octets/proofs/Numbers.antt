-- Numbers and their bits: bits pushed in below others, and eight octets as one number.
use mathlib.Core.Path.{◌≡◌, refl, sym, ap, ◌∙◌}
use mathlib.Core.List.{List}
use Prim.Native.Nat.{ℕ, zero, suc, ◌+◌, ◌-◌, ◌*◌, ◌/◌, ◌%◌, ◌^◌, ◌<◌}
use native.Mathlib.Nat.{add-zero, mul-mod_left}
use native.Mathlib.Omega.{arith}
use lib.ListN.{length, get_or}
use lib.Pow.{shl-shr, shr-shr, high, low, mod-pow-add}
use lib.Seq.{ext_get_or}
use Rattle.std.specs.Int.{w64, to_be_bytes, from_be_bytes}
use Rattle.std.proofs.lemmas.Nat.{be_bytes_8}
use Rattle.octets.specs.Bits.{bit, octets_from, Octets}
use Rattle.octets.proofs.BitLaws.{bit-low, octet_of_lem, length-octets_from, get_or-octets_from, bit-octets_from}

-- ---- k bits y, pushed in below x: what does not fit into j + k bits drops out

abbrev pub pushed : ℕ → ℕ → ℕ → ℕ → ℕ
pushed x y j k = x * 2 ^ k % 2 ^ (j + k) + y

module _ (x y j k : ℕ) (small : y < 2 ^ k) where
  pub kept : pushed x y j k ≡ x % 2 ^ j * 2 ^ k + y
  kept =
      ap (λ (z : ℕ). z + y)
      (mod-pow-add (x * 2 ^ k) j k
      ∙ ap (λ (z : ℕ). z % 2 ^ j * 2 ^ k + x * 2 ^ k % 2 ^ k) (shl-shr x k)
      ∙ ap (λ (z : ℕ). x % 2 ^ j * 2 ^ k + z) (mul-mod_left x (2 ^ k))
      ∙ add-zero (x % 2 ^ j * 2 ^ k))

  pub pushed_new : (i : ℕ) → i < k → pushed x y j k / 2 ^ i % 2 ≡ y / 2 ^ i % 2
  pushed_new i h =
      sym (bit-low (pushed x y j k) k i h)
      ∙ ap (λ (z : ℕ). z % 2 ^ k / 2 ^ i % 2) kept
      ∙ ap (λ (z : ℕ). z / 2 ^ i % 2) (low (x % 2 ^ j) k small)

  pub pushed_old : (i : ℕ) → i < j → pushed x y j k / 2 ^ (k + i) % 2 ≡ x / 2 ^ i % 2
  pushed_old i h =
      ap (λ (z : ℕ). z % 2) (sym (shr-shr (pushed x y j k) k i))
      ∙ ap (λ (z : ℕ). z / 2 ^ k / 2 ^ i % 2) kept
      ∙ ap (λ (z : ℕ). z / 2 ^ i % 2) (high (x % 2 ^ j) k small)
      ∙ bit-low x j i h

-- ---- the octets of a number, and the number of octets

-- octet i of the eight that std writes
written-at : (n i : ℕ) → i < 8 → get_or (to_be_bytes w64 n) i 0 ≡ n / 2 ^ (56 - 8 * i) % 256
written-at n zero h = refl
written-at n (suc zero) h = refl
written-at n (suc (suc zero)) h = refl
written-at n (suc (suc (suc zero))) h = refl
written-at n (suc (suc (suc (suc zero)))) h = refl
written-at n (suc (suc (suc (suc (suc zero))))) h = refl
written-at n (suc (suc (suc (suc (suc (suc zero)))))) h = refl
written-at n (suc (suc (suc (suc (suc (suc (suc zero))))))) h = omega arith
written-at n (suc (suc (suc (suc (suc (suc (suc (suc i)))))))) h = absurd (omega arith)

-- they have the number's bits
pub written : (n : ℕ) → to_be_bytes w64 n ≡ octets_from 8 (λ k. n / 2 ^ (63 - k) % 2)
written n =
    ext_get_or 0 (to_be_bytes w64 n) (octets_from 8 f) (sym (length-octets_from 8 f))
    (λ i h.
    octet_of_lem (get_or (to_be_bytes w64 n) i 0) (λ k. f (8 * i + k)) (rw (written-at n i h) (omega arith)) (λ k. omega arith)
    (λ k l.
    let e : 56 - 8 * i + (7 - k) ≡ 63 - (8 * i + k) = omega arith in
    ap (λ (z : ℕ). z / 2 ^ (7 - k) % 2) (written-at n i h)
    ∙ bit-low (n / 2 ^ (56 - 8 * i)) 8 (7 - k) (omega arith)
    ∙ ap (λ (z : ℕ). z % 2) (shr-shr n (56 - 8 * i) (7 - k))
    ∙ ap (λ (z : ℕ). n / 2 ^ z % 2) e)
    ∙ sym (get_or-octets_from 8 f i h))
  where
    f : ℕ → ℕ
    f k = n / 2 ^ (63 - k) % 2

-- and so has the number that std reads in eight octets
pub read-bits : (octets : List ℕ) (n : ℕ) → length octets ≡ 8 → Octets octets → n ≡ from_be_bytes w64 octets → (k : ℕ) → k < 64
    → n / 2 ^ (63 - k) % 2 ≡ bit octets k
read-bits octets n long small e k h =
    sym
    (ap (λ (xs : List ℕ). bit xs k) (sym (be_bytes_8 octets n long small e) ∙ written n)
    ∙ bit-octets_from 8 (λ k. n / 2 ^ (63 - k) % 2) (λ k. omega arith) k h)
