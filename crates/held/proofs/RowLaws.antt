-- Octets laid in a row: the parts that a list is lent in one after the other, and a list as its parts.
use mathlib.Core.Path.{◌≡◌, ap, ◌∙◌}
use mathlib.Core.List.{List, ◌∷◌, ◌++◌, append_assoc}
use Prim.Native.Nat.{ℕ, suc, ◌+◌, ◌<◌}
use native.Mathlib.Omega.{arith}
use lib.ListN.{length, get_or, take, drop, length-drop, take-append-drop}
use lib.Seq.{drop-cons, take-add, take_at, drop_at, drop-drop}
use borrow.Rule.Slice.PartMut.{put_mid}
use Rattle.octets.proofs.Front.{put_both}

-- ---- as the code writes

-- a part that is put right behind what is already there, or further on
pub put_next : (a d p : List ℕ) (i n : ℕ) → length a ≡ i → put_mid i n (a ++ d) p ≡ a ++ put_mid 0 n d p
put_next a d p i n l = rw (take_at a d i l, drop_at a d i l)

pub put-behind : (a d p : List ℕ) (i j n : ℕ) → length a ≡ i → put_mid (i + j) n (a ++ d) p ≡ a ++ put_mid j n d p
put-behind a d p i j n l =
    rw (take-add i j (a ++ d), take_at a d i l, ← drop-drop j i (a ++ d), drop_at a d i l) (append_assoc a (take j d) (p ++ drop n (drop j d)))

-- three parts, over all of a list
module _ (d a b c : List ℕ) (i j k : ℕ) (la : length a ≡ i) (lb : length b ≡ j) (lc : length c ≡ k) (long : length d ≡ i + (j + k)) where
  pub put_three : (x y z : List ℕ) → x ≡ a → y ≡ b → z ≡ c → put_mid (i + j) k (put_mid i j (put_mid 0 i d x) y) z ≡ a ++ (b ++ c)
  put_three x y z p q r =
      let lx : length x ≡ i = ap length p ∙ la in
      ap (λ (l : List ℕ). put_mid (i + j) k l z) (put_next x (drop i d) y i j lx)
      ∙ put-behind x (put_mid 0 j (drop i d) y) z i j k lx
      ∙ ap (λ (l : List ℕ). x ++ l) (put_both (drop i d) b c j k lb lc (simp length-drop (omega arith)) y q z r)
      ∙ ap (λ (l : List ℕ). l ++ (b ++ c)) p

-- four parts, over all of a list
module _ (d a b c e : List ℕ) (i j k m : ℕ) (la : length a ≡ i) (lb : length b ≡ j) (lc : length c ≡ k) (le : length e ≡ m) (long : length d ≡ i + (j + (k + m))) where
  pub put_four : (w x y z : List ℕ) → w ≡ a → x ≡ b → y ≡ c → z ≡ e
      → put_mid (i + (j + k)) m (put_mid (i + j) k (put_mid i j (put_mid 0 i d w) x) y) z ≡ a ++ (b ++ (c ++ e))
  put_four w x y z p q r s =
      let lw : length w ≡ i = ap length p ∙ la in
      ap (λ (l : List ℕ). put_mid (i + (j + k)) m (put_mid (i + j) k l y) z) (put_next w (drop i d) x i j lw)
      ∙ ap (λ (l : List ℕ). put_mid (i + (j + k)) m l z) (put-behind w (put_mid 0 j (drop i d) x) y i j k lw)
      ∙ put-behind w (put_mid j k (put_mid 0 j (drop i d) x) y) z i (j + k) m lw
      ∙ ap (λ (l : List ℕ). w ++ l) (put_three (drop i d) b c e j k m lb lc le (simp length-drop (omega arith)) x y z q r s)
      ∙ ap (λ (l : List ℕ). l ++ (b ++ (c ++ e))) p

-- ---- read

-- a part between what stands before it and behind it
pub part_between : (a p z : List ℕ) (i n : ℕ) → length a ≡ i → length p ≡ n → take n (drop i (a ++ (p ++ z))) ≡ p
part_between a p z i n la lp = rw (drop_at a (p ++ z) i la) (take_at p z n lp)

-- the next octet
pub drop-next : (o : List ℕ) (i j : ℕ) → suc i ≡ j → i < length o → drop i o ≡ get_or o i 0 ∷ drop j o
drop-next o i j e h = rw (← e) (drop-cons o i 0 h)

-- a part and what stands behind it
pub part_and-rest : (o : List ℕ) (i n : ℕ) → take n (drop i o) ++ drop (i + n) o ≡ drop i o
part_and-rest o i n = rw (← drop-drop n i o) (take-append-drop n (drop i o))
