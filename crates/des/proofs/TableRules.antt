-- What FIPS 46-3's tables keep to, said otherwise than by writing them out: each rule is one computed test over the whole table, so that a slip which is made in
-- specs/ and in src/ alike is refused where it breaks one. IP, its inverse, E and permuted choice 1 are settled by theirs.
use mathlib.Core.Path.{◌≡◌, refl, sym, ap, ◌∙◌}
use mathlib.Core.Bool.{Bool, true, ◌&&◌}
use mathlib.Core.List.{List, [], ◌∷◌, ◌++◌}
use Prim.Native.Nat.{ℕ, suc, ◌+◌, ◌-◌, ◌*◌, ◌/◌, ◌%◌, ◌<◌, ◌≤◌}
use native.Mathlib.Omega.{arith}
use lib.Dec.{eqb, ltb, leb}
use lib.ListN.{length, get_or, take, drop}
use lib.Seq.{ext_get_or}
use borrow.Author.Tests.{eqb-true, ltb-true, leb-true}
use Rattle.octets.specs.Tests.{pick, all_below}
use Rattle.octets.specs.Lists.{tab}
use Rattle.octets.proofs.TestLaws.{and_left, and_right, all-at, agree}
use Rattle.octets.proofs.ListLaws.{get_or-tab}
use Rattle.des.specs.Tables.{ip, ip⁻¹, table_e, table_p, pc_1, pc_2, left_shifts, table_s}
use Rattle.des.specs.Des.{permuted}
use Rattle.des.specs.Prepared.{shifts_to}
use Rattle.des.proofs.BitLists.{length-permuted, get_or-permuted}
use Rattle.des.proofs.PlaceLaws.{Places, ip_places, inverse_places}

-- how often v stands in a list
unfoldable pub times : ℕ → List ℕ → ℕ
times v [] = 0
times v (x ∷ xs) = pick (eqb x v) 1 0 + times v xs

-- a list is a permutation of the n numbers from a on: it is as long, and each stands in it once
abbrev pub Permutation : ℕ → ℕ → List ℕ → Type 0
Permutation a n l = (length l ≡ n) × ((v : ℕ) → v < n → times (a + v) l ≡ 1)

abbrev is_permutation : ℕ → ℕ → List ℕ → Bool
is_permutation a n l = eqb (length l) n && all_below (λ v. eqb (times (a + v) l) 1) n

permutation : (a n : ℕ) (l : List ℕ) → is_permutation a n l ≡ true → Permutation a n l
permutation a n l e =
    (eqb-true (length l) n (and_left (eqb (length l) n) _ e), agree (λ v. times (a + v) l) (λ v. 1) n (and_right (eqb (length l) n) _ e))

-- ---- the initial permutation and its inverse

pub length_ip : length ip ≡ 64
unfolding ip
length_ip = refl

pub length-inverse : length ip⁻¹ ≡ 64
unfolding ip⁻¹
length-inverse = refl

-- the places go up the columns of an eight by eight square, the even ones first
pub ip_columns : ip ≡ tab (λ k. 56 - 8 * (k % 8) + (2 * (k / 8) + 2) % 9) 64
unfolding ip tab
ip_columns = refl

-- a table undoes another where the places of 64 bits, permuted by the other and then by it, are the places again
module _ (t u : List ℕ) (long-t : length t ≡ 64) (long-u : length u ≡ 64) (inside : Places 64 t) (back : permuted t u ≡ tab suc 64) where
  undoes : (block : List ℕ) → length block ≡ 64 → permuted t (permuted u block) ≡ block
  undoes block l =
      ext_get_or 0 _ _ (length-permuted t _ ∙ long-t ∙ sym l)
      (λ i h.
      let small : i < 64 = omega (arith, length-permuted t (permuted u block), long-t) in
      let within : i < length t = omega (arith, long-t) in
      let place : get_or u (get_or t i 0 - 1) 0 ≡ suc i = sym (get_or-permuted t u i within) ∙ ap (λ (x : List ℕ). get_or x i 0) back ∙ get_or-tab suc 64 i small in
      get_or-permuted t (permuted u block) i within
      ∙ get_or-permuted u block (get_or t i 0 - 1) (omega (arith, inside i within, long-u))
      ∙ ap (λ (k : ℕ). get_or block k 0) (omega (arith, place)))

pub undone : (block : List ℕ) → length block ≡ 64 → permuted ip⁻¹ (permuted ip block) ≡ block
unfolding permuted ip⁻¹ ip tab
undone = undoes ip⁻¹ ip length-inverse length_ip inverse_places refl

pub redone : (block : List ℕ) → length block ≡ 64 → permuted ip (permuted ip⁻¹ block) ≡ block
unfolding permuted ip⁻¹ ip tab
redone = undoes ip ip⁻¹ length_ip length-inverse ip_places refl

-- ---- the selection functions and P

-- row n of the 32, four to a box
abbrev pub row : ℕ → List ℕ
row n = take 16 (drop (16 * n) table_s)

pub rows_permute : (n : ℕ) → n < 32 → Permutation 0 16 (row n)
unfolding all_below times table_s
rows_permute n h = permutation 0 16 (row n) (all-at (λ k. is_permutation 0 16 (row k)) 32 n h refl)

pub p_permutes : Permutation 1 32 table_p
unfolding all_below times table_p
p_permutes = permutation 1 32 table_p refl

-- ---- the expansion: eight windows of six bits, four apart, the first from the last bit on

pub e_windows : table_e ≡ tab (λ k. (31 + 4 * (k / 6) + k % 6) % 32 + 1) 48
unfolding table_e tab
e_windows = refl

-- ---- the key schedule

-- permuted choice 1 goes up the columns of the key's square: C takes the first three and half of the fourth, D the seventh to the fifth and the other half
pub choice_1_columns : pc_1
    ≡ tab (λ k. 57 - 8 * (k % 8) + k / 8) 28 ++ (tab (λ k. 63 - 8 * (k % 8) - k / 8) 24 ++ tab (λ k. 28 - 8 * k) 4)
unfolding pc_1 tab
choice_1_columns = refl

-- so it takes each bit of the key once, but leaves out each eighth
pub choice_1 : (length pc_1 ≡ 56) × ((v : ℕ) → v < 64 → times (suc v) pc_1 ≡ pick (eqb (suc v % 8) 0) 0 1)
unfolding all_below times pc_1
choice_1 = (refl, agree (λ v. times (suc v) pc_1) (λ v. pick (eqb (suc v % 8) 0) 0 1) 64 refl)

-- permuted choice 2 takes 24 bits of C and then 24 of D, none of them twice
abbrev in_half : ℕ → Bool
in_half i = ltb (28 * (i / 24)) (get_or pc_2 i 0) && leb (get_or pc_2 i 0) (28 * (i / 24) + 28)

pub choice_2 : (length pc_2 ≡ 48) × ((i : ℕ) → i < 48 → (28 * (i / 24) < get_or pc_2 i 0) × (get_or pc_2 i 0 ≤ 28 * (i / 24) + 28))
    × ((v : ℕ) → v < 56 → times (suc v) pc_2 ≤ 1)
unfolding all_below times pc_2
choice_2 = (
  refl,
  λ i h.
      let b = all-at in_half 48 i h refl in
      (ltb-true (28 * (i / 24)) (get_or pc_2 i 0) (and_left (ltb (28 * (i / 24)) (get_or pc_2 i 0)) _ b), leb-true (get_or pc_2 i 0) (28 * (i / 24) + 28) (and_right (ltb (28 * (i / 24)) (get_or pc_2 i 0)) _ b)),
  λ v h. leb-true (times (suc v) pc_2) 1 (all-at (λ k. leb (times (suc k) pc_2) 1) 56 v h refl),
)

-- after the last round C and D have come around
pub shifts_around : (length left_shifts ≡ 16) × (shifts_to 16 ≡ 28)
unfolding shifts_to left_shifts
shifts_around = (refl, refl)
