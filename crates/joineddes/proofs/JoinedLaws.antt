-- The engine by joined tables: an entry's bits, and the sum of a round's eight entries, which is the cipher function.
use mathlib.Core.Path.{◌≡◌, refl, sym, ap, ◌∙◌}
use mathlib.Core.Bool.{Bool, true, false}
use mathlib.Core.List.{List, [], ◌∷◌}
use mathlib.Core.Logic.{⊎_elim}
use Prim.Native.Nat.{ℕ, zero, suc, ◌+◌, ◌-◌, ◌*◌, ◌/◌, ◌%◌, ◌^◌, ◌<◌}
use native.Mathlib.Nat.{le_of_suc-le-suc, not-suc-le-zero, eq-or-lt_of_le, zero-div, mod-eq_of_lt, mul-le-mul_right, suc-sub-suc}
use native.Mathlib.Omega.{arith}
use lib.Dec.{eqb}
use lib.ListN.{length, get_or}
use lib.Pow.{high, low}
use borrow.Author.Tests.{eq-eqb, ne_eqb}
use Rattle.octets.specs.Tests.{pick}
use Rattle.octets.specs.Lists.{tab}
use Rattle.octets.specs.Bits.{Bits}
use Rattle.octets.proofs.BitLaws.{xor_bit, bit-low}
use Rattle.octets.proofs.ListLaws.{length-tab, get_or-tab}
use Rattle.des.specs.Tables.{table_e, table_p, table_s}
use Rattle.des.specs.Des.{permuted, box_input, box_place, substituted, cipher_f}
use Rattle.joineddes.specs.Joined.{bits_in, as_number, selected, selected_bit, joined_entry, joined_tables, entry_place, summed, joined_f}
use Rattle.des.proofs.BitLists.{BitList, bits-tab, bits-permuted, bits_xor, length-permuted, get_or-permuted, get_or-substituted}
use Rattle.joineddes.proofs.NumberBits.{get_or-bits_in, bits_in-is}
use Rattle.des.proofs.PlaceLaws.{p_places}

-- ---- bits as one number

-- one bit more, above the others
with_top : (x k : ℕ) {y : ℕ} → x < 2 → y < 2 ^ k → x * 2 ^ k + y < 2 ^ suc k
with_top x k h l = omega (arith, mul-le-mul_right (2 ^ k) (le_of_suc-le-suc h))

as_number_lt_lem : (l : List ℕ) → BitList l → as_number l < 2 ^ length l
unfolding as_number
as_number_lt_lem [] b = omega arith
as_number_lt_lem (x ∷ l) b = with_top x (length l) (b 0) (as_number_lt_lem l (λ k. b (suc k)))

as_number-bit : (l : List ℕ) → BitList l → (i : ℕ) → i < length l → as_number l / 2 ^ (length l - suc i) % 2 ≡ get_or l i 0
unfolding as_number
as_number-bit [] b i h = absurd (not-suc-le-zero h)
as_number-bit (x ∷ l) b zero h =
    let e : suc (length l) - 1 ≡ length l = omega arith in
    rw e (ap (λ (z : ℕ). z % 2) (high x (length l) (as_number_lt_lem l (λ k. b (suc k)))) ∙ mod-eq_of_lt (b 0))
as_number-bit (x ∷ l) b (suc i) h =
    rw (suc-sub-suc (length l) (suc i))
    (sym (bit-low (x * 2 ^ length l + as_number l) (length l) (length l - suc i) (omega arith))
    ∙ ap (λ (z : ℕ). z / 2 ^ (length l - suc i) % 2) (low x (length l) (as_number_lt_lem l (λ k. b (suc k))))
    ∙ as_number-bit l (λ k. b (suc k)) i (le_of_suc-le-suc h))

bits-as_number : (l : List ℕ) → BitList l → bits_in (length l) (as_number l) ≡ l
bits-as_number l b = bits_in-is (length l) (as_number l) l refl (as_number-bit l b)

-- ---- the tables

-- what the one test over the tables says of each entry
pub joined_entry_lem : (t : List ℕ) → t ≡ joined_tables → (n : ℕ) → n < 512 → get_or t n 0 ≡ joined_entry n
unfolding joined_tables
joined_entry_lem t e n h = rw e (get_or-tab joined_entry 512 n h)

pub joined_long : (t : List ℕ) → t ≡ joined_tables → length t ≡ 512
unfolding joined_tables
joined_long t e = rw e (length-tab joined_entry 512)

length-p : length table_p ≡ 32
unfolding table_p
length-p = refl

selected_bit_lt : (n : ℕ) → Bits (selected_bit n)
selected_bit_lt n k = go (eqb (k / 4) (n / 64))
  where
    go : (t : Bool) → pick t (selected n / 2 ^ (3 - k % 4) % 2) 0 < 2
    go true = omega arith
    go false = omega arith

entry_bits : (n : ℕ) → bits_in 32 (joined_entry n) ≡ permuted table_p (tab (selected_bit n) 32)
unfolding joined_entry
entry_bits n =
    let bits = tab (selected_bit n) 32 in
    ap (λ (w : ℕ). bits_in w (joined_entry n)) (sym (length-permuted table_p bits ∙ length-p))
    ∙ bits-as_number (permuted table_p bits) (bits-permuted table_p bits (bits-tab (selected_bit n) 32 (selected_bit_lt n)))

entry_bit : (n i : ℕ) → i < 32 → joined_entry n / 2 ^ (32 - suc i) % 2 ≡ selected_bit n (get_or table_p i 0 - 1)
entry_bit n i h =
    let inside : i < length table_p = omega (arith, length-p) in
    sym (get_or-bits_in 32 (joined_entry n) i h)
    ∙ ap (λ (l : List ℕ). get_or l i 0) (entry_bits n)
    ∙ get_or-permuted table_p (tab (selected_bit n) 32) i inside
    ∙ get_or-tab (selected_bit n) 32 (get_or table_p i 0 - 1) (omega (arith, p_places i inside))

-- ---- where a box looks

-- six bits as they come, the first, the four between and the last, are the box's row and column
six_bits : (n i a c f : ℕ) → n ≡ 64 * i + (32 * a + 2 * c + f) → a < 2 → c < 16 → f < 2
    → (n / 64 ≡ i) × (selected n ≡ get_or table_s (64 * i + (16 * (2 * a + f) + c)) 0)
unfolding selected
six_bits n i a c f e ha hc hf =
    let between : n / 2 % 16 ≡ c = omega arith in
    let box : n / 64 ≡ i = omega arith in
    let first : n / 32 % 2 ≡ a = omega arith in
    let last : n % 2 ≡ f = omega arith in
    (box, rw (box, first, last, between))

-- so an entry is of its box, and holds what the plain engine looks up
place_looks : (b : List ℕ) → BitList b → (i : ℕ) → (entry_place b i / 64 ≡ i) × (selected (entry_place b i) ≡ get_or table_s (box_place b i) 0)
unfolding entry_place box_place
place_looks b bits i =
    let o = 6 * i in
    six_bits (entry_place b i) i (get_or b o 0) (8 * get_or b (o + 1) 0 + 4 * get_or b (o + 2) 0 + 2 * get_or b (o + 3) 0 + get_or b (o + 4) 0) (get_or b (o + 5) 0)
    (omega arith) (bits o) (omega (arith, bits (o + 1), bits (o + 2), bits (o + 3), bits (o + 4))) (bits (o + 5))

-- ---- the sum of numbers

module _ (f : ℕ → ℕ) (k : ℕ) where
  -- a bit that none of them has
  summed-none : (n : ℕ) → ((i : ℕ) → i < n → f i / 2 ^ k % 2 ≡ 0) → summed f n / 2 ^ k % 2 ≡ 0
  unfolding summed
  summed-none zero z = ap (λ (x : ℕ). x % 2) (zero-div (2 ^ k))
  summed-none (suc n) z = rw (xor_bit (summed f n) (f n) k, summed-none n (λ i h. z i (omega arith)), z n (omega arith))

  -- a bit that none but one can have is that one's
  summed-one : (q n : ℕ) → q < n → ((i : ℕ) → i < n → (q ≡ i → ⊥) → f i / 2 ^ k % 2 ≡ 0) → summed f n / 2 ^ k % 2 ≡ f q / 2 ^ k % 2
  unfolding summed
  summed-one q zero h z = absurd (not-suc-le-zero h)
  summed-one q (suc n) h z =
      xor_bit (summed f n) (f n) k
      ∙ ⊎_elim (λ e. rw (summed-none n (λ i l. z i (omega arith) (λ d. omega arith)), e) (omega arith))
      (λ l. rw (summed-one q n l (λ i s. z i (omega arith)), z n (omega arith) (λ d. omega arith)) (omega arith))
      (eq-or-lt_of_le (le_of_suc-le-suc h))

-- ---- f(R, K)

-- of a bit that P takes from place p, counted from 0, only the box in whose four p lies has a part
module _ (b : List ℕ) (bits : BitList b) (p : ℕ) where
  other-box : (i : ℕ) → (p / 4 ≡ i → ⊥) → selected_bit (entry_place b i) p ≡ 0
  other-box i d = rw ((place_looks b bits i).0, ne_eqb (p / 4) i d)

  own-box : p < 32 → selected_bit (entry_place b (p / 4)) p ≡ get_or (substituted b) p 0
  own-box h =
      let looks = place_looks b bits (p / 4) in
      let e : 4 * (p / 4) + p % 4 ≡ p = omega arith in
      rw (looks.0, eq-eqb (p / 4) (p / 4) refl)
      (get_or-substituted b (selected (entry_place b (p / 4))) (p / 4) (p % 4) (omega arith) (omega arith) looks.1
      ∙ ap (λ (k : ℕ). get_or (substituted b) k 0) e)

joined-bits : (b : List ℕ) → BitList b → bits_in 32 (summed (λ i. joined_entry (entry_place b i)) 8) ≡ permuted table_p (substituted b)
joined-bits b bits =
    bits_in-is 32 (summed (λ i. joined_entry (entry_place b i)) 8) (permuted table_p (substituted b)) (length-permuted table_p (substituted b) ∙ length-p)
    (λ i h.
    let inside : i < length table_p = omega (arith, length-p) in
    let p = get_or table_p i 0 - 1 in
    let small : p < 32 = omega (arith, p_places i inside) in
    summed-one (λ j. joined_entry (entry_place b j)) (32 - suc i) (p / 4) 8 (omega arith) (λ j l d. entry_bit (entry_place b j) i h ∙ other-box b bits p j d)
    ∙ entry_bit (entry_place b (p / 4)) i h
    ∙ own-box b bits p small
    ∙ sym (get_or-permuted table_p (substituted b) i inside))

pub joined_f_lem : (r k : List ℕ) → joined_f r k ≡ cipher_f r k
unfolding joined_f cipher_f box_input
joined_f_lem r k = joined-bits (box_input r k) (bits_xor (permuted table_e r) k)
