-- The key schedule: shifts compose, a half that stands twice over has each of its shifts in it, so each round's C and D stand in C and D twice over.
use mathlib.Core.Path.{◌≡◌, refl, sym, ap, ap₂, ◌∙◌}
use mathlib.Core.List.{List, ◌++◌, append_assoc, append-nil}
use Prim.Native.Nat.{ℕ, zero, suc, ◌+◌, ◌-◌, ◌≤◌, ◌<◌}
use native.Mathlib.Omega.{arith}
use lib.Dec.{leb}
use lib.ListN.{length, get_or, take, drop, length-append, length-drop, take-append-drop, get_or-append}
use lib.Seq.{get_or-append-add, get_or-drop, length-take-le, drop-append-le, take-append-le, drop-drop, take-add, take_all, take_at, drop_at}
use borrow.Author.Tests.{leb-true}
use Rattle.octets.specs.Tests.{all_below}
use Rattle.octets.specs.Lists.{tab}
use Rattle.octets.specs.Bits.{bit}
use Rattle.octets.proofs.TestLaws.{all-at}
use Rattle.octets.proofs.ListLaws.{length-tab, get_or-tab}
use Rattle.des.specs.Tables.{pc_1, pc_2, left_shifts}
use Rattle.des.specs.Des.{permuted, rotated, key_state, round_key}
use Rattle.des.specs.Prepared.{c_of, d_of, shifts_to, shift_sums, twice_over, schedule_of}
use Rattle.des.proofs.BitLists.{BitList, bits_of, bits_append, bits-take, bits-drop, bits-permuted, length-permuted}

-- ---- shifts

rotated-none : (l : List ℕ) → rotated 0 l ≡ l
unfolding rotated
rotated-none l = append-nil l

module _ (s : ℕ) (l : List ℕ) (small : s ≤ length l) where
  pub length-rotated : length (rotated s l) ≡ length l
  unfolding rotated
  length-rotated = length-append (drop s l) (take s l) ∙ omega (arith, length-drop s l, length-take-le s l small)

  -- a list twice over, from place s on, begins with the list shifted by s
  pub around : (j : ℕ) → j < length l → get_or (l ++ l) (s + j) 0 ≡ get_or (rotated s l) j 0
  unfolding rotated
  around j h =
      sym (get_or-drop s (l ++ l) j 0)
      ∙ ap (λ (x : List ℕ). get_or x j 0)
      (drop-append-le s l l small ∙ ap (λ (x : List ℕ). drop s l ++ x) (sym (take-append-drop s l)) ∙ sym (append_assoc (drop s l) (take s l) (drop s l)))
      ∙ get_or-append (rotated s l) (drop s l) 0 j (omega (arith, length-rotated))

-- shifts compose, up to once around
pub shifts_compose : (a b : ℕ) (l : List ℕ) → a + b ≤ length l → rotated b (rotated a l) ≡ rotated (a + b) l
unfolding rotated
shifts_compose a b l h =
    let short : b ≤ length (drop a l) = omega (arith, length-drop a l) in
    ap₂ ◌++◌ (drop-append-le b (drop a l) (take a l) short ∙ ap (λ (x : List ℕ). x ++ take a l) (drop-drop b a l)) (take-append-le b (drop a l) (take a l) short)
    ∙ append_assoc (drop (a + b) l) (take a l) (take b (drop a l))
    ∙ ap (λ (x : List ℕ). drop (a + b) l ++ x) (sym (take-add a b l))

-- ---- C and D after each round

-- in sixteen rounds they go around once, and never further
pub shifts_within : (n : ℕ) → n ≤ 16 → shifts_to n ≤ 28
unfolding all_below shifts_to left_shifts
shifts_within n h = leb-true (shifts_to n) 28 (all-at (λ k. leb (shifts_to k) 28) 17 n (omega arith) refl)

pub length-sums : length shift_sums ≡ 16
unfolding shift_sums
length-sums = length-tab _ 16

module _ (key : List ℕ) where
  abbrev c : List ℕ
  c = c_of key

  abbrev d : List ℕ
  d = d_of key

  both : length (permuted pc_1 key) ≡ 56
  unfolding pc_1
  both = length-permuted pc_1 key

  length-c : length c ≡ 28
  length-c = length-take-le 28 (permuted pc_1 key) (omega (arith, both))

  length-d : length d ≡ 28
  length-d = length-drop 28 (permuted pc_1 key) ∙ omega (arith, both)

  state-shifted : (n : ℕ) → n ≤ 16 → key_state key n ≡ rotated (shifts_to n) c ++ rotated (shifts_to n) d
  unfolding key_state shifts_to
  state-shifted zero h = sym (ap₂ ◌++◌ (rotated-none c) (rotated-none d) ∙ take-append-drop 28 (permuted pc_1 key))
  state-shifted (suc n) h =
      let s = get_or left_shifts n 0 in
      let before = state-shifted n (omega arith) in
      let small : shifts_to n + s ≤ 28 = shifts_within (suc n) h in
      let x = rotated (shifts_to n) c in
      let y = rotated (shifts_to n) d in
      let long : length x ≡ 28 = length-rotated (shifts_to n) c (omega (arith, length-c)) ∙ length-c in
      ap₂ (λ (u v : List ℕ). rotated s u ++ rotated s v) (ap (take 28) before ∙ take_at x y 28 long) (ap (drop 28) before ∙ drop_at x y 28 long)
      ∙ ap₂ ◌++◌ (shifts_compose (shifts_to n) s c (omega (arith, length-c))) (shifts_compose (shifts_to n) s d (omega (arith, length-d)))

  -- ---- and where they stand

  pub length-cc : length (c ++ c) ≡ 56
  length-cc = length-append c c ∙ omega (arith, length-c)

  pub length-dd : length (d ++ d) ≡ 56
  length-dd = length-append d d ∙ omega (arith, length-d)

  pub length_twice : length (twice_over key) ≡ 112
  unfolding twice_over
  length_twice = length-append (c ++ c) (d ++ d) ∙ omega (arith, length-cc, length-dd)

  pub length_schedule : length (schedule_of key) ≡ 128
  unfolding schedule_of
  length_schedule = length-append (twice_over key) shift_sums ∙ omega (arith, length_twice, length-sums)

  -- as the code takes each of them twice
  module _ (cd : List ℕ) (is-cd : cd ≡ permuted pc_1 key) where
    pub twice_c : (x : List ℕ) → x ≡ take 28 cd ++ take 28 cd → x ≡ c ++ c
    twice_c x e = e ∙ ap (λ (l : List ℕ). take 28 l ++ take 28 l) is-cd

    pub twice_d : (y : List ℕ) → y ≡ take 28 (drop 28 cd) ++ take 28 (drop 28 cd) → y ≡ d ++ d
    twice_d y e =
        e ∙ ap (λ (l : List ℕ). take 28 (drop 28 l) ++ take 28 (drop 28 l)) is-cd
        ∙ ap (λ (l : List ℕ). l ++ l) (take_all 28 d (omega (arith, length-d)))

  module _ (n : ℕ) (h : n < 16) where
    abbrev s : ℕ
    s = shifts_to (suc n)

    pub sum-at : get_or (schedule_of key) (112 + n) 0 ≡ s
    unfolding schedule_of shift_sums
    sum-at =
        ap (λ (k : ℕ). get_or (schedule_of key) (k + n) 0) (sym length_twice)
        ∙ get_or-append-add (twice_over key) shift_sums n 0
        ∙ get_or-tab (λ k. shifts_to (suc k)) 16 n h

    pub shifts_small : s ≤ 28
    shifts_small = shifts_within (suc n) h

    long-c : length (rotated s c) ≡ 28
    long-c = length-rotated s c (omega (arith, shifts_small, length-c)) ∙ length-c

    pub c-at : (j : ℕ) → j < 28 → get_or (twice_over key) (s + j) 0 ≡ get_or (key_state key (suc n)) j 0
    unfolding twice_over
    c-at j b =
        get_or-append (c ++ c) (d ++ d) 0 (s + j) (omega (arith, shifts_small, length-cc))
        ∙ around s c (omega (arith, shifts_small, length-c)) j (omega (arith, length-c))
        ∙ sym (get_or-append (rotated s c) (rotated s d) 0 j (omega (arith, long-c)))
        ∙ ap (λ (x : List ℕ). get_or x j 0) (sym (state-shifted (suc n) h))

    -- D's places are 28 and more, and it stands 28 further on
    pub d-at : (j : ℕ) → 28 ≤ j → j < 56 → get_or (twice_over key) (s + 28 + j) 0 ≡ get_or (key_state key (suc n)) j 0
    unfolding twice_over
    d-at j a b =
        ap (λ (k : ℕ). get_or (twice_over key) k 0) (omega (arith, length-cc))
        ∙ get_or-append-add (c ++ c) (d ++ d) (s + (j - 28)) 0
        ∙ around s d (omega (arith, shifts_small, length-d)) (j - 28) (omega (arith, length-d))
        ∙ sym (get_or-append-add (rotated s c) (rotated s d) (j - 28) 0)
        ∙ ap (λ (k : ℕ). get_or (rotated s c ++ rotated s d) k 0) (omega (arith, long-c))
        ∙ ap (λ (x : List ℕ). get_or x j 0) (sym (state-shifted (suc n) h))

-- ---- the keys

bits-rotated : (s : ℕ) (l : List ℕ) → BitList l → BitList (rotated s l)
unfolding rotated
bits-rotated s l b = bits_append (drop s l) (take s l) (bits-drop s l b) (bits-take s l b)

bits_state : (key : List ℕ) (n : ℕ) → BitList key → BitList (key_state key n)
unfolding key_state
bits_state key zero b = bits-permuted pc_1 key b
bits_state key (suc n) b =
    let s = get_or left_shifts n 0 in
    let cd = key_state key n in
    bits_append (rotated s (take 28 cd)) (rotated s (drop 28 cd)) (bits-rotated s (take 28 cd) (bits-take 28 cd (bits_state key n b)))
    (bits-rotated s (drop 28 cd) (bits-drop 28 cd (bits_state key n b)))

pub bits_key : (key : List ℕ) (n : ℕ) {l : List ℕ} → l ≡ round_key (tab (bit key) 64) n → BitList l
unfolding round_key
bits_key key n e = let bits = tab (bit key) 64 in rw e (bits-permuted pc_2 (key_state bits (suc n)) (bits_state bits (suc n) (bits_of key 64)))
