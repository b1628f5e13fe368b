-- Bits exchanged by a shift and a mask, and the initial permutation and its inverse made of such exchanges.
use mathlib.Core.Path.{◌≡◌, refl, sym, ap, ap₂, ◌∙◌}
use mathlib.Core.Bool.{Bool, true, false, ◌&&◌, ◌||◌, not, false≢true}
use mathlib.Core.List.{List}
use Prim.Native.Nat.{ℕ, suc, ◌+◌, ◌-◌, ◌*◌, ◌/◌, ◌%◌, ◌^◌, ◌≤◌, ◌<◌}
use native.Mathlib.Nat.{add-zero, mul-mod_left, zero-div}
use native.Mathlib.Omega.{arith}
use lib.Bits.{bit_and, bit_xor, and_shr, and_step, and_block}
use lib.Pow.{pow_pos, shl-shr, shr-shr}
use lib.Dec.{eqb, ltb, leb}
use lib.ListN.{length, get_or}
use borrow.Author.Tests.{eqb-true, eqb-false, ltb-true, leb-true}
use Rattle.octets.specs.Bits.{flip}
use Rattle.octets.specs.Tests.{pick}
use Rattle.octets.specs.Lists.{tab}
use Rattle.octets.proofs.BitLaws.{xor_bit, bit-low}
use Rattle.octets.proofs.ListLaws.{length-tab, get_or-tab}
use Rattle.octets.proofs.TestLaws.{and_left, and_right, all-at}
use Rattle.des.specs.Tables.{ip, ip⁻¹}
use Rattle.des.specs.Des.{permuted}
use Rattle.joineddes.specs.Joined.{bits_in, has_bit, exchanges, exchanged}
use Rattle.des.proofs.BitLists.{length-permuted, get_or-permuted}
use Rattle.joineddes.proofs.NumberBits.{bits_in-is, get_or-bits_in}

-- a bit of an and is the left side's where the right side's is 1
and-bit : (a b k : ℕ) → bit_and a b / 2 ^ k % 2 ≡ pick (eqb (b / 2 ^ k % 2) 1) (a / 2 ^ k % 2) 0
and-bit a b k = ap (λ (z : ℕ). z % 2) (and_shr a b k) ∙ go (a / 2 ^ k) (b / 2 ^ k) (eqb (b / 2 ^ k % 2) 1) refl
  where
    go : (u v : ℕ) (t : Bool) → eqb (v % 2) 1 ≡ t → bit_and u v % 2 ≡ pick t (u % 2) 0
    go u v true e = omega (arith, and_step u v, eqb-true (v % 2) 1 e)
    go u v false e = omega (arith, and_step u v, eqb-false (v % 2) 1 e)

-- ---- a number that is shifted left by s

and_shl : (a b s : ℕ) → bit_and a b * 2 ^ s ≡ bit_and (a * 2 ^ s) (b * 2 ^ s)
and_shl a b s = sym (simp add-zero at (and_block s a b 0 0 (pow_pos s) (pow_pos s)))

-- its bits from s on are the number's
shl_from : (a s k : ℕ) → a * 2 ^ s / 2 ^ (s + k) ≡ a / 2 ^ k
shl_from a s k = sym (shr-shr (a * 2 ^ s) s k) ∙ ap (λ (z : ℕ). z / 2 ^ k) (shl-shr a s)

-- and below s it has none
shl_above : (a s k : ℕ) → a * 2 ^ s / 2 ^ k % 2 ≡ 1 → s ≤ k
shl_above a s k e =
    let low : k < s → 0 / 2 ^ k % 2 ≡ 1 = λ l. rw (mul-mod_left a (2 ^ s)) at (bit-low (a * 2 ^ s) s k l ∙ e) in
    let none : k < s → ⊥ = λ l. omega (arith, low l, zero-div (2 ^ k)) in
    omega (arith, none)

-- ---- an exchange

pub few_places : (s mask : ℕ) → exchanges s mask ≡ true → s < 64
unfolding exchanges
few_places s mask e = ltb-true s 64 (and_left (ltb s 64) _ e)

length_exchanged : (s mask : ℕ) → length (exchanged s mask) ≡ 64
unfolding exchanged
length_exchanged s mask = length-tab _ 64

module _ (s mask x : ℕ) where
  -- each bit's sum with the one s places before it
  abbrev sums : ℕ
  sums = bit_xor x (x / 2 ^ s)

  abbrev differing : ℕ
  differing = bit_and sums mask

  sums-bit : (k : ℕ) → sums / 2 ^ k % 2 ≡ flip (x / 2 ^ k % 2) (x / 2 ^ (s + k) % 2)
  sums-bit k = xor_bit x (x / 2 ^ s) k ∙ ap (λ (z : ℕ). flip (x / 2 ^ k % 2) (z % 2)) (shr-shr x s k)

  -- the bit that has k after it, by its place
  stands : (i k : ℕ) → k + suc i ≡ 64 → x / 2 ^ k % 2 ≡ get_or (bits_in 64 x) i 0
  stands i k l =
      let e : k ≡ 64 - suc i = omega arith in
      ap (λ (z : ℕ). x / 2 ^ z % 2) e ∙ sym (get_or-bits_in 64 x i (omega arith))

  -- what stands at place i, by whether the mask has that place and whether it has the one s places after it
  taken : (i k : ℕ) → k + suc i ≡ 64 → (m n : Bool) → (not m || (leb s i && not n)) ≡ true → (n ≡ true → s ≤ k)
      → flip (flip (x / 2 ^ k % 2) (pick m (sums / 2 ^ k % 2) 0)) (pick n (sums * 2 ^ s / 2 ^ k % 2) 0)
      ≡ get_or (bits_in 64 x) (pick m (suc i - s) (pick n (suc i + s) (suc i)) - 1) 0
  taken i k l true true e r = absurd (false≢true (and_right (leb s i) false e))
  taken i k l true false e r =
      let b : s ≤ i = leb-true s i (and_left (leb s i) true e) in
      omega (arith, sums-bit k) ∙ stands (suc i - s - 1) (s + k) (omega arith)
  taken i k l false true e r =
      let b : s + (k - s) ≡ k = omega (arith, r refl) in
      let d = rw b at (ap (λ (z : ℕ). z % 2) (shl_from sums s (k - s)) ∙ sums-bit (k - s)) in
      omega (arith, d) ∙ stands (suc i + s - 1) (k - s) (omega (arith, r refl))
  taken i k l false false e r = omega arith ∙ stands (suc i - 1) k (omega arith)

  pub exchange_bits : exchanges s mask ≡ true → bits_in 64 (bit_xor (bit_xor x differing) (differing * 2 ^ s % 2 ^ 64)) ≡ permuted (exchanged s mask) (bits_in 64 x)
  unfolding exchanges exchanged
  exchange_bits e =
      bits_in-is 64 _ _ (length-permuted (exchanged s mask) (bits_in 64 x) ∙ length_exchanged s mask)
      (λ i h.
      let k = 64 - suc i in
      xor_bit (bit_xor x differing) (differing * 2 ^ s % 2 ^ 64) k
      ∙ ap₂ flip
      (xor_bit x differing k ∙ ap (flip (x / 2 ^ k % 2)) (and-bit sums mask k))
      (bit-low (differing * 2 ^ s) 64 k (omega arith) ∙ ap (λ (z : ℕ). z / 2 ^ k % 2) (and_shl sums mask s) ∙ and-bit (sums * 2 ^ s) (mask * 2 ^ s) k)
      ∙ taken i k (omega arith) (has_bit mask i) (has_bit (mask * 2 ^ s) i) (all-at _ 64 i h (and_right (ltb s 64) _ e)) (λ n. shl_above mask s k (eqb-true _ 1 n))
      ∙ sym (get_or-permuted (exchanged s mask) (bits_in 64 x) i (omega (arith, length_exchanged s mask))
      ∙ ap (λ (z : ℕ). get_or (bits_in 64 x) (z - 1) 0) (get_or-tab _ 64 i h)))

-- ---- the exchanges of `initial` and of `inverse`

pub initial_exchanges : (l : List ℕ)
    → permuted (exchanged 48 0x000000000000FFFF) (permuted (exchanged 24 0x000000FF000000FF)
    (permuted (exchanged 36 0x000000000F0F0F0F) (permuted (exchanged 18 0x0000333300003333) (permuted (exchanged 9 0x0055005500550055) l))))
    ≡ permuted ip l
unfolding permuted exchanged tab ip
initial_exchanges l = refl

pub inverse-exchanges : (l : List ℕ)
    → permuted (exchanged 9 0x0055005500550055) (permuted (exchanged 18 0x0000333300003333)
    (permuted (exchanged 36 0x000000000F0F0F0F) (permuted (exchanged 24 0x000000FF000000FF) (permuted (exchanged 48 0x000000000000FFFF) l))))
    ≡ permuted ip⁻¹ l
unfolding permuted exchanged tab ip⁻¹
inverse-exchanges l = refl
