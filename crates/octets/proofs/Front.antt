-- A loop that rewrites a list in place from the front, towards a list l: what starts it, what a store does, what its end gives.
use mathlib.Core.Path.{◌≡◌, refl, sym, ap, ◌∙◌, subst}
use mathlib.Core.List.{List, ◌++◌}
use Prim.Native.Nat.{ℕ, ◌+◌, ◌-◌, ◌≤◌, ◌<◌}
use native.Mathlib.Decide.{dec_lt}
use native.Mathlib.Omega.{arith}
use borrow.Rule.Slice.PartMut.{mid_of, post_of, put_mid, same_len_mid}
use lib.ListN.{length, get_or, take, drop, set, length-set, length-drop, length-append, get_or-append}
use lib.Seq.{get_or-set_same, get_or-set_other, ext_get_or, get_or-take, get_or-drop, get_or-append-add, length-take-le, take_all, take_at, drop_at}
use Rattle.octets.specs.Lists.{tab}
use Rattle.octets.proofs.ListLaws.{length-tab, get_or-tab}

-- d is l below i, and what it was, d₀, from there on
pub record Front (l d₀ d : List ℕ) (i : ℕ) : Type 0 where
  pub size : length d ≡ length l
  pub done : (j : ℕ) → j < i → get_or d j 0 ≡ get_or l j 0
  pub left : (j : ℕ) → i ≤ j → get_or d j 0 ≡ get_or d₀ j 0

module _ (l d₀ : List ℕ) where
  pub front_start : length d₀ ≡ length l → Front l d₀ d₀ 0
  front_start e = record { size = e; done = λ j h. absurd (omega arith); left = λ j h. refl }

  pub front_more : (d : List ℕ) (i v : ℕ) → Front l d₀ d i → i < length l → v ≡ get_or l i 0 → Front l d₀ (set d i v) (i + 1)
  front_more d i v f h e =
      record {
        size = length-set d i v ∙ f.size;
        done = λ j k. go j k (dec_lt j i);
        left = λ j k. get_or-set_other d i j v 0 (λ q. omega arith) ∙ f.left j (omega arith);
      }
    where
      go : (j : ℕ) → j < i + 1 → Dec (j < i) → get_or (set d i v) j 0 ≡ get_or l j 0
      go j k (yes a) = get_or-set_other d i j v 0 (λ q. omega arith) ∙ f.done j a
      go j k (no a) = let q : j ≡ i = omega arith in rw q (get_or-set_same d i v 0 (omega (arith, f.size)) ∙ e)

  -- the rest of l is as it was
  pub front_rest : (d : List ℕ) (i : ℕ) → Front l d₀ d i → ((j : ℕ) → i ≤ j → j < length l → get_or d₀ j 0 ≡ get_or l j 0) → d ≡ l
  front_rest d i f h = ext_get_or 0 d l f.size (λ j k. go j k (dec_lt j i))
    where
      go : (j : ℕ) → j < length d → Dec (j < i) → get_or d j 0 ≡ get_or l j 0
      go j k (yes a) = f.done j a
      go j k (no a) = f.left j (omega arith) ∙ h j (omega arith) (omega (arith, f.size))

  pub front_done : (d : List ℕ) (i : ℕ) → Front l d₀ d i → length l ≤ i → d ≡ l
  front_done d i f h = front_rest d i f (λ j a b. absurd (omega arith))

  -- what lies ahead is as it was
  pub front_ahead : (d : List ℕ) (i n : ℕ) → Front l d₀ d i → length d₀ ≡ length l → take n (drop i d) ≡ take n (drop i d₀)
  front_ahead d i n f e =
      ap (take n)
      (ext_get_or 0 (drop i d) (drop i d₀) (length-drop i d ∙ ap (λ (k : ℕ). k - i) (f.size ∙ sym e) ∙ sym (length-drop i d₀))
      (λ j h. get_or-drop i d j 0 ∙ f.left (i + j) (omega arith) ∙ sym (get_or-drop i d₀ j 0)))

  pub front_to : (d : List ℕ) (i j : ℕ) → i ≡ j → Front l d₀ d i → Front l d₀ d j
  front_to d i j e f = subst (λ (k : ℕ). Front l d₀ d k) e f

  -- four stores in a row
  pub front_four : (d : List ℕ) (i p q r s : ℕ) → Front l d₀ d i → i + 3 < length l
      → p ≡ get_or l i 0 → q ≡ get_or l (i + 1) 0 → r ≡ get_or l (i + 2) 0 → s ≡ get_or l (i + 3) 0
      → Front l d₀ (set (set (set (set d i p) (i + 1) q) (i + 2) r) (i + 3) s) (i + 4)
  front_four d i p q r s f h hp hq hr hs =
      let a = front_more d i p f (omega arith) hp in
      let b = front_to (set (set d i p) (i + 1) q) (i + 1 + 1) (i + 2) (omega arith) (front_more (set d i p) (i + 1) q a (omega arith) hq) in
      let c = front_to (set (set (set d i p) (i + 1) q) (i + 2) r) (i + 2 + 1) (i + 3) (omega arith) (front_more (set (set d i p) (i + 1) q) (i + 2) r b (omega arith) hr) in
      front_to (set (set (set (set d i p) (i + 1) q) (i + 2) r) (i + 3) s) (i + 3 + 1) (i + 4) (omega arith) (front_more (set (set (set d i p) (i + 1) q) (i + 2) r) (i + 3) s c (omega arith) hs)

  -- a part of n octets that was lent from i on comes back as p
  pub front_part : (d p : List ℕ) (i k n : ℕ) → Front l d₀ d i → k ≡ n → length p ≡ n → i + n ≤ length l
      → ((r : ℕ) → r < n → get_or p r 0 ≡ get_or l (i + r) 0) → Front l d₀ (put_mid i k d p) (i + n)
  front_part d p i k n f ek ep b v =
      record {
        size = same_len_mid i k d p (ep ∙ sym m) ∙ f.size;
        done = λ j s. go j s (dec_lt j i);
        left = λ j s. past j s ∙ f.left j (omega arith);
      }
    where
      t : length (take i d) ≡ i
      t = length-take-le i d (omega (arith, f.size))

      m : length (mid_of i k d) ≡ n
      m = length-take-le k (drop i d) (omega (arith, length-drop i d, f.size)) ∙ ek

      go : (j : ℕ) → j < i + n → Dec (j < i) → get_or (put_mid i k d p) j 0 ≡ get_or l j 0
      go j s (yes a) = get_or-append (take i d) (p ++ post_of i k d) 0 j (omega (arith, t)) ∙ get_or-take i d j 0 a ∙ f.done j a
      go j s (no a) =
          let e : j ≡ length (take i d) + (j - i) = omega (arith, t) in
          let g : i + (j - i) ≡ j = omega arith in
          ap (λ (x : ℕ). get_or (take i d ++ (p ++ post_of i k d)) x 0) e
          ∙ get_or-append-add (take i d) (p ++ post_of i k d) (j - i) 0
          ∙ get_or-append p (post_of i k d) 0 (j - i) (omega (arith, ep))
          ∙ v (j - i) (omega arith)
          ∙ ap (λ (x : ℕ). get_or l x 0) g

      past : (j : ℕ) → i + n ≤ j → get_or (put_mid i k d p) j 0 ≡ get_or d j 0
      past j s =
          let e : j ≡ length (take i d) + (n + (j - (i + n))) = omega (arith, t) in
          let g : i + (k + (j - (i + n))) ≡ j = omega arith in
          ap (λ (x : ℕ). get_or (take i d ++ (p ++ post_of i k d)) x 0) e
          ∙ get_or-append-add (take i d) (p ++ post_of i k d) (n + (j - (i + n))) 0
          ∙ ap (λ (x : ℕ). get_or (p ++ post_of i k d) (x + (j - (i + n))) 0) (sym ep)
          ∙ get_or-append-add p (post_of i k d) (j - (i + n)) 0
          ∙ get_or-drop k (drop i d) (j - (i + n)) 0
          ∙ get_or-drop i d (k + (j - (i + n))) 0
          ∙ ap (λ (x : ℕ). get_or d x 0) g

  -- and comes back as l has it there
  pub front_piece : (d p : List ℕ) (i n : ℕ) → Front l d₀ d i → i + n ≤ length l → p ≡ take n (drop i l) → Front l d₀ (put_mid i n d p) (i + n)
  front_piece d p i n f h e =
      let size : length (take n (drop i l)) ≡ n = length-take-le n (drop i l) (omega (arith, length-drop i l)) in
      front_part d p i n n f refl (ap length e ∙ size) h
      (λ r b. ap (λ (x : List ℕ). get_or x r 0) e ∙ get_or-take n (drop i l) r 0 b ∙ get_or-drop i l r 0)

-- two parts put one after the other, over all of a list
module _ (d a b : List ℕ) (m n : ℕ) (la : length a ≡ m) (lb : length b ≡ n) (long : length d ≡ m + n) where
  both_long : length (a ++ b) ≡ m + n
  both_long = length-append a b ∙ omega arith

  module _ (first : List ℕ) (is-first : first ≡ a) where
    put_first : Front (a ++ b) d (put_mid 0 m d first) m
    put_first =
        front_to (a ++ b) d _ (0 + m) m (omega arith)
        (front_piece (a ++ b) d d first 0 m (front_start (a ++ b) d (long ∙ sym both_long)) (omega (arith, both_long)) (is-first ∙ sym (take_at a b m la)))

    pub first_long : length (put_mid 0 m d first) ≡ m + n
    first_long = put_first.size ∙ both_long

    pub put_both : (second : List ℕ) → second ≡ b → put_mid m n (put_mid 0 m d first) second ≡ a ++ b
    put_both second is-second =
        front_done (a ++ b) d _ (m + n)
        (front_piece (a ++ b) d (put_mid 0 m d first) second m n put_first (omega (arith, both_long))
        (is-second ∙ sym (ap (take n) (drop_at a b m la) ∙ take_all n b (omega arith)))) (omega (arith, both_long))

-- a loop that fills `tab f n`
module _ (f : ℕ → ℕ) (n : ℕ) where
  pub tab_start : (d : List ℕ) → length d ≡ n → Front (tab f n) d d 0
  tab_start d e = front_start (tab f n) d (e ∙ sym (length-tab f n))

  pub tab_more : (d₀ d : List ℕ) (i v : ℕ) → Front (tab f n) d₀ d i → i < n → v ≡ f i → Front (tab f n) d₀ (set d i v) (i + 1)
  tab_more d₀ d i v w h e = front_more (tab f n) d₀ d i v w (omega (arith, length-tab f n)) (e ∙ sym (get_or-tab f n i h))

  pub tab_done : (d₀ d : List ℕ) (i : ℕ) → Front (tab f n) d₀ d i → n ≤ i → d ≡ tab f n
  tab_done d₀ d i w h = front_done (tab f n) d₀ d i w (omega (arith, length-tab f n))
