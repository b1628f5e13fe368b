-- A round's key, as both engines read it: permuted choice 2's places, in C and D that stand twice over, from the shifts so far on.
use mathlib.Core.Path.{◌≡◌, refl, sym, ap, ap₂, ◌∙◌}
use mathlib.Core.List.{List, ◌++◌}
use Prim.Native.Nat.{ℕ, suc, ◌+◌, ◌-◌, ◌≤◌, ◌<◌}
use native.Mathlib.Omega.{arith}
use lib.ListN.{length, get_or, take, drop, length-drop, take-append-drop}
use lib.Seq.{get_or-drop, get_or-take, length-take-le}
use Rattle.des.specs.Tables.{pc_2}
use Rattle.des.specs.Des.{permuted, key_state, round_key}
use Rattle.des.specs.Prepared.{shifts_to, twice_over}
use Rattle.des.proofs.BitLists.{length-permuted, permuted_append, permuted_same}
use Rattle.des.proofs.PlaceLaws.{Places, permutable}
use Rattle.des.proofs.TableRules.{choice_2}
use Rattle.des.proofs.KeyLaws.{shifts_small, c-at, d-at}

-- ---- the places

length-c_places : length (take 24 pc_2) ≡ 24
unfolding pc_2
length-c_places = refl

length-d_places : length (drop 24 pc_2) ≡ 24
unfolding pc_2
length-d_places = refl

c_places : Places 28 (take 24 pc_2)
c_places i h =
    let inside : i < 24 = omega (arith, length-c_places) in
    let b = choice_2.1 i (omega arith) in
    rw (get_or-take 24 pc_2 i 0 inside) (omega (arith, b.0), omega (arith, b.1))

past-c : (i : ℕ) → i < 24 → (29 ≤ get_or (drop 24 pc_2) i 0) × (get_or (drop 24 pc_2) i 0 ≤ 56)
past-c i h = let b = choice_2.1 (24 + i) (omega arith) in rw (get_or-drop 24 pc_2 i 0) (omega (arith, b.0), omega (arith, b.1))

d_places : Places 56 (drop 24 pc_2)
d_places i h = let b = past-c i (omega (arith, length-d_places)) in (omega (arith, b.0), b.1)

pub length-c-bits : (t l : List ℕ) → t ≡ take 24 pc_2 → length (permuted t l) ≡ 24
length-c-bits t l e = length-permuted t l ∙ ap length e ∙ length-c_places

pub length-d-bits : (t l : List ℕ) → t ≡ drop 24 pc_2 → length (permuted t l) ≡ 24
length-d-bits t l e = length-permuted t l ∙ ap length e ∙ length-d_places

-- ---- the key, from a list that has C and D twice over from b on; the code lends it from x on, up to e

module _ (l : List ℕ) (e : ℕ) where
  abbrev from : ℕ → List ℕ
  from x = take (e - x) (drop x l)

  -- what permuting by the places of C, and of D, asks of it
  module _ (end : e ≤ length l) (x : ℕ) where
    from-long : length (from x) ≡ e - x
    from-long = length-take-le (e - x) (drop x l) (omega (arith, length-drop x l))

    pub c-asked : {m : ℕ} {t : List ℕ} → m ≡ 24 → t ≡ take 24 pc_2 → x + 28 ≤ e → (m ≡ length t) × Places (length (from x)) t
    c-asked out is-t h = permutable is-t c_places (out ∙ sym length-c_places) (omega (arith, from-long))

    pub d-asked : {m : ℕ} {t : List ℕ} → m ≡ 24 → t ≡ drop 24 pc_2 → x + 56 ≤ e → (m ≡ length t) × Places (length (from x)) t
    d-asked out is-t h = permutable is-t d_places (out ∙ sym length-d_places) (omega (arith, from-long))

  module _ (key : List ℕ) (b : ℕ) (room : b + 112 ≤ e) (halves-at : (j : ℕ) → j < 112 → get_or l (b + j) 0 ≡ get_or (twice_over key) j 0) where
    at : (x m j : ℕ) → x ≡ b + m → m + j < 112 → get_or (from x) j 0 ≡ get_or (twice_over key) (m + j) 0
    at x m j is_x h =
        get_or-take (e - x) (drop x l) j 0 (omega arith)
        ∙ get_or-drop x l j 0
        ∙ ap (λ (k : ℕ). get_or l k 0) (omega arith)
        ∙ halves-at (m + j) h

    module _ (n : ℕ) (h : n < 16) (x : ℕ) (is_x : x ≡ b + shifts_to (suc n)) where
      c-bits : permuted (take 24 pc_2) (from x) ≡ permuted (take 24 pc_2) (key_state key (suc n))
      c-bits =
          permuted_same (take 24 pc_2) (from x) (key_state key (suc n))
          (λ i a.
          let place = c_places i a in
          let j = get_or (take 24 pc_2) i 0 - 1 in
          at x (shifts_to (suc n)) j is_x (omega (arith, place.0, place.1, shifts_small key n h)) ∙ c-at key n h j (omega (arith, place.0, place.1)))

      d-bits : permuted (drop 24 pc_2) (from (x + 28)) ≡ permuted (drop 24 pc_2) (key_state key (suc n))
      d-bits =
          permuted_same (drop 24 pc_2) (from (x + 28)) (key_state key (suc n))
          (λ i a.
          let place = past-c i (omega (arith, length-d_places)) in
          let j = get_or (drop 24 pc_2) i 0 - 1 in
          at (x + 28) (shifts_to (suc n) + 28) j (omega arith) (omega (arith, place.0, place.1, shifts_small key n h))
          ∙ d-at key n h j (omega (arith, place.0)) (omega (arith, place.0, place.1)))

      pub key_read : {t u : List ℕ} → t ≡ take 24 pc_2 → u ≡ drop 24 pc_2 → permuted t (from x) ++ permuted u (from (x + 28)) ≡ round_key key n
      unfolding round_key
      key_read {t} {u} is-t is-u =
          ap₂ ◌++◌ (ap (λ (z : List ℕ). permuted z (from x)) is-t ∙ c-bits) (ap (λ (z : List ℕ). permuted z (from (x + 28))) is-u ∙ d-bits)
          ∙ sym (permuted_append (take 24 pc_2) (drop 24 pc_2) (key_state key (suc n)))
          ∙ ap (λ (z : List ℕ). permuted z (key_state key (suc n))) (take-append-drop 24 pc_2)
