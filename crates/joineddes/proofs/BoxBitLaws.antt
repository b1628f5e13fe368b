-- The bits that the boxes take, in two numbers: where they stand, that they are E's windows, and that the boxes' entries sum to f(R, K).
use mathlib.Core.Path.{◌≡◌, refl, sym, ap, ap₂, subst, ◌∙◌}
use mathlib.Core.Bool.{Bool, true, false}
use mathlib.Core.List.{List, ◌++◌}
use Prim.Native.Nat.{ℕ, suc, ◌+◌, ◌-◌, ◌*◌, ◌/◌, ◌%◌, ◌^◌, ◌≤◌, ◌<◌}
use native.Mathlib.Nat.{mod-lt, add-mod_left}
use native.Mathlib.Numerals.{add-one}
use native.Mathlib.Decide.{dec_lt}
use native.Mathlib.Omega.{arith}
use lib.Arith.{digits_lt}
use lib.Bits.{bit_xor}
use lib.Dec.{eqb}
use lib.ListN.{length, get_or, get_or-append}
use lib.Pow.{pow_pos, pow-add, shr_lt, shr-shr}
use lib.Seq.{get_or-append-add, ext_get_or}
use borrow.Author.Tests.{eqb-true, eqb-false}
use Rattle.octets.specs.Tests.{pick, all_below}
use Rattle.octets.specs.Lists.{tab}
use Rattle.octets.specs.Bits.{flip}
use Rattle.octets.proofs.TestLaws.{agree}
use Rattle.octets.proofs.BitLaws.{bit-low, xor_bit}
use Rattle.octets.proofs.ListLaws.{length-tab, get_or-tab, tab_same}
use Rattle.octets.proofs.Numbers.{kept, pushed_new, pushed_old}
use Rattle.des.specs.Tables.{table_e}
use Rattle.des.specs.Des.{permuted, xor_bits, box_input, rotated}
use Rattle.joineddes.specs.Joined.{bits_in, joined_entry, entry_place, summed, joined_f, box_bits}
use Rattle.des.proofs.BitLists.{length-permuted, get_or-permuted}
use Rattle.joineddes.proofs.NumberBits.{length-bits_in, get_or-bits_in, bits_in-is}
use Rattle.des.proofs.KeyLaws.{length-rotated, around}
use Rattle.des.proofs.TableRules.{e_windows}

-- ---- 32 bits, shifted left around

rotated-at : (s i : ℕ) (l : List ℕ) → length l ≡ 32 → s ≤ 32 → i < 32 → get_or (rotated s l) i 0 ≡ get_or l ((s + i) % 32) 0
rotated-at s i l long small h = sym (around s l (omega arith) i (omega arith)) ∙ go (dec_lt (s + i) 32)
  where
    go : Dec (s + i < 32) → get_or (l ++ l) (s + i) 0 ≡ get_or l ((s + i) % 32) 0
    go (yes a) = get_or-append l l 0 (s + i) (omega arith) ∙ ap (λ (k : ℕ). get_or l k 0) (omega arith)
    go (no a) =
        let e : s + i ≡ length l + (s + i) % 32 = omega arith in
        ap (λ (k : ℕ). get_or (l ++ l) k 0) e ∙ get_or-append-add l l ((s + i) % 32) 0

module _ (x s : ℕ) (wide : x < 2 ^ 32) (small : s ≤ 32) where
  -- what is shifted out above comes in below
  abbrev out : ℕ
  out = x / 2 ^ (32 - s)

  abbrev rolled : ℕ → ℕ
  rolled w = x * 2 ^ s % 2 ^ w + out

  out-lt : out < 2 ^ s
  out-lt = let e : s + (32 - s) ≡ 32 = omega arith in shr_lt s (32 - s) (rw e wide)

  parts : 32 - s + s ≡ 32
  parts = omega arith

  pub rolled_lt : rolled 32 < 2 ^ 32
  rolled_lt = subst (λ (w : ℕ). rolled w < 2 ^ w) parts (rw (kept x out (32 - s) s out-lt, pow-add 2 (32 - s) s) (digits_lt (mod-lt x (pow_pos (32 - s))) out-lt))

  rolled-bit : (i : ℕ) → i < 32 → rolled 32 / 2 ^ (32 - suc i) % 2 ≡ x / 2 ^ (32 - suc ((s + i) % 32)) % 2
  rolled-bit i h = subst (λ (w : ℕ). rolled w / 2 ^ (32 - suc i) % 2 ≡ x / 2 ^ from % 2) parts (go (dec_lt (s + i) 32))
    where
      from : ℕ
      from = 32 - suc ((s + i) % 32)

      go : Dec (s + i < 32) → rolled (32 - s + s) / 2 ^ (32 - suc i) % 2 ≡ x / 2 ^ from % 2
      go (yes a) = let e : 32 - suc i ≡ s + from = omega arith in rw e (pushed_old x out (32 - s) s out-lt from (omega arith))
      go (no a) =
          let e : 32 - s + (32 - suc i) ≡ from = omega arith in
          pushed_new x out (32 - s) s out-lt (32 - suc i) (omega arith) ∙ rw (shr-shr x (32 - s) (32 - suc i), e)

  pub bits-rolled : bits_in 32 (rolled 32) ≡ rotated s (bits_in 32 x)
  bits-rolled =
      bits_in-is 32 (rolled 32) (rotated s (bits_in 32 x)) (length-rotated s (bits_in 32 x) (omega (arith, length-bits_in 32 x)) ∙ length-bits_in 32 x)
      (λ i h. rolled-bit i h ∙ sym (rotated-at s i (bits_in 32 x) (length-bits_in 32 x) small h ∙ get_or-bits_in 32 x ((s + i) % 32) (omega arith)))

-- ---- the bits of the boxes

-- bit k of the 48 stands so many places after the first, in the number that its box picks
abbrev place : ℕ → ℕ
place k = 8 * (k / 12) + k % 6

abbrev box_bit : ℕ → ℕ → ℕ → ℕ
box_bit even odd k = pick (eqb (k / 6 % 2) 0) even odd / 2 ^ (31 - place k) % 2

length-box_bits : (even odd : ℕ) → length (box_bits even odd) ≡ 48
unfolding box_bits
length-box_bits even odd = length-tab _ 48

get_or-box_bits : (even odd k : ℕ) → k < 48 → get_or (box_bits even odd) k 0 ≡ box_bit even odd k
unfolding box_bits
get_or-box_bits even odd k h = get_or-tab (box_bit even odd) 48 k h

-- bit q of box i
box_bits-at : (even odd i q : ℕ) → i < 8 → q < 6 → get_or (box_bits even odd) (6 * i + q) 0 ≡ pick (eqb (i % 2) 0) even odd / 2 ^ (31 - (8 * (i / 2) + q)) % 2
box_bits-at even odd i q h l =
    let a : (6 * i + q) / 6 ≡ i = omega arith in
    let b : (6 * i + q) / 12 ≡ i / 2 = omega arith in
    let c : (6 * i + q) % 6 ≡ q = omega arith in
    get_or-box_bits even odd (6 * i + q) (omega arith) ∙ rw (a, b, c)

pick_xor : (t : Bool) (a b c d : ℕ) → pick t (bit_xor a b) (bit_xor c d) ≡ bit_xor (pick t a c) (pick t b d)
pick_xor true a b c d = refl
pick_xor false a b c d = refl

box_bits_xor : (u t even odd : ℕ) → box_bits (bit_xor u even) (bit_xor t odd) ≡ xor_bits (box_bits u t) (box_bits even odd)
unfolding box_bits xor_bits
box_bits_xor u t even odd =
    tab_same (box_bit (bit_xor u even) (bit_xor t odd)) sum 48
    (λ k h.
    let first = eqb (k / 6 % 2) 0 in
    ap (λ (x : ℕ). x / 2 ^ (31 - place k) % 2) (pick_xor first u even t odd)
    ∙ xor_bit (pick first u t) (pick first even odd) (31 - place k)
    ∙ sym (ap₂ flip (get_or-box_bits u t k h) (get_or-box_bits even odd k h)))
    ∙ ap (tab sum) (sym (length-box_bits u t))
  where
    sum : ℕ → ℕ
    sum k = flip (get_or (box_bits u t) k 0) (get_or (box_bits even odd) k 0)

-- ---- where a box looks, and what it finds

abbrev six_sum : ℕ → ℕ
six_sum v = 32 * (v / 32 % 2) + 16 * (v / 16 % 2) + 8 * (v / 8 % 2) + 4 * (v / 4 % 2) + 2 * (v / 2 % 2) + v / 1 % 2

-- a number of six bits is the sum of them
sum_of_six : (v : ℕ) → v < 64 → v ≡ six_sum v
unfolding all_below
sum_of_six = agree (λ v. v) six_sum 64 refl

module _ (even odd i v : ℕ) (h : i < 8) (e : v ≡ pick (eqb (i % 2) 0) even odd / 2 ^ (26 - 8 * (i / 2)) % 64) where
  field-bit : (q : ℕ) → q < 6 → v / 2 ^ (5 - q) % 2 ≡ get_or (box_bits even odd) (6 * i + q) 0
  field-bit q l =
      let x = pick (eqb (i % 2) 0) even odd in
      let o = 26 - 8 * (i / 2) in
      let d : o + (5 - q) ≡ 31 - (8 * (i / 2) + q) = omega arith in
      ap (λ (z : ℕ). z / 2 ^ (5 - q) % 2) e
      ∙ bit-low (x / 2 ^ o) 6 (5 - q) (omega arith)
      ∙ ap (λ (z : ℕ). z % 2) (shr-shr x o (5 - q))
      ∙ ap (λ (z : ℕ). x / 2 ^ z % 2) d
      ∙ sym (box_bits-at even odd i q h l)

  pub six_place : 64 * i + v ≡ entry_place (box_bits even odd) i
  unfolding entry_place
  six_place =
      let b = field-bit in
      let o : 6 * i + 0 ≡ 6 * i = omega arith in
      ap (λ (z : ℕ). 64 * i + z)
      (sum_of_six v (omega arith) ∙ rw (rw o at (b 0 (omega arith)), b 1 (omega arith), b 2 (omega arith), b 3 (omega arith), b 4 (omega arith), b 5 (omega arith)))

-- what box i finds
abbrev pub found : List ℕ → ℕ → ℕ
found b i = joined_entry (entry_place b i)

-- ---- the sum over the boxes

pub summed_start : (f : ℕ → ℕ) → 0 ≡ summed f 0
unfolding summed
summed_start f = refl

pub summed_more : (f : ℕ → ℕ) (n sum v : ℕ) → sum ≡ summed f n → v ≡ f n → bit_xor sum v ≡ summed f (n + 1)
unfolding summed
summed_more f n sum v e h = ap₂ bit_xor e h ∙ ap (summed f) (sym (add-one n))

length-e : length table_e ≡ 48
unfolding table_e
length-e = refl

-- E's windows of R stand in R shifted by 31 places and in R shifted by 3
module _ (r u t : ℕ) (first : bits_in 32 u ≡ rotated 31 (bits_in 32 r)) (second : bits_in 32 t ≡ rotated 3 (bits_in 32 r)) where
  abbrev bit_of : ℕ → ℕ
  bit_of j = get_or (bits_in 32 r) j 0

  shifted-bit : (s x i : ℕ) → s ≤ 32 → bits_in 32 x ≡ rotated s (bits_in 32 r) → i < 32 → x / 2 ^ (31 - i) % 2 ≡ bit_of ((s + i) % 32)
  shifted-bit s x i small e h =
      let same : 31 - i ≡ 32 - suc i = omega arith in
      rw same (sym (get_or-bits_in 32 x i h) ∙ ap (λ (l : List ℕ). get_or l i 0) e ∙ rotated-at s i (bits_in 32 r) (length-bits_in 32 r) small h)

  window-bit : (k : ℕ) → k < 48 → box_bit u t k ≡ bit_of ((31 + 4 * (k / 6) + k % 6) % 32)
  window-bit k h = go (eqb (k / 6 % 2) 0) refl
    where
      go : (b : Bool) → eqb (k / 6 % 2) 0 ≡ b → pick b u t / 2 ^ (31 - place k) % 2 ≡ bit_of ((31 + 4 * (k / 6) + k % 6) % 32)
      go true e =
          let even : k / 6 ≡ 2 * (k / 12) = omega (arith, eqb-true (k / 6 % 2) 0 e) in
          shifted-bit 31 u (place k) (omega arith) first (omega arith) ∙ ap (λ (z : ℕ). bit_of (z % 32)) (omega arith)
      go false e =
          let odd : k / 6 ≡ 2 * (k / 12) + 1 = omega (arith, eqb-false (k / 6 % 2) 0 e) in
          shifted-bit 3 t (place k) (omega arith) second (omega arith) ∙ ap bit_of (sym (add-mod_left 32 (3 + place k))) ∙ ap (λ (z : ℕ). bit_of (z % 32)) (omega arith)

  windows : box_bits u t ≡ permuted table_e (bits_in 32 r)
  windows =
      ext_get_or 0 (box_bits u t) (permuted table_e (bits_in 32 r)) (length-box_bits u t ∙ sym (length-permuted table_e (bits_in 32 r) ∙ length-e))
      (λ k h.
      let inside : k < 48 = omega (arith, length-box_bits u t) in
      let entry : get_or table_e k 0 ≡ (31 + 4 * (k / 6) + k % 6) % 32 + 1 = ap (λ (l : List ℕ). get_or l k 0) e_windows ∙ get_or-tab _ 48 k inside in
      get_or-box_bits u t k inside ∙ window-bit k inside ∙ sym (get_or-permuted table_e (bits_in 32 r) k (omega (arith, length-e)) ∙ ap bit_of (omega arith)))

  module _ (even odd : ℕ) where
    box-input : box_bits (bit_xor u even) (bit_xor t odd) ≡ box_input (bits_in 32 r) (box_bits even odd)
    unfolding box_input
    box-input = box_bits_xor u t even odd ∙ ap (λ (l : List ℕ). xor_bits l (box_bits even odd)) windows

    pub summed-all : (n sum : ℕ) → n ≡ 8 → sum ≡ summed (found (box_bits (bit_xor u even) (bit_xor t odd))) n → bits_in 32 sum ≡ joined_f (bits_in 32 r) (box_bits even odd)
    unfolding joined_f
    summed-all n sum all e = ap (bits_in 32) (e ∙ ap₂ (λ (b : List ℕ) (m : ℕ). summed (found b) m) box-input all)
