-- The rounds: bits stay bits, and what the code has after each round.
use mathlib.Core.Path.{◌≡◌, sym, ap, ap₂, ◌∙◌}
use mathlib.Core.List.{List, ◌++◌}
use Prim.Native.Nat.{ℕ, zero, suc, ◌+◌}
use native.Mathlib.Numerals.{add-one}
use native.Mathlib.Omega.{arith}
use lib.ListN.{length, take, drop, length-drop}
use lib.Seq.{take_all, take_at, length-take-le}
use Rattle.des.specs.Tables.{ip, ip⁻¹}
use Rattle.des.specs.Des.{permuted, xor_bits, cipher_f, Halves, rounds, halved, preoutput, enciphered}
use Rattle.des.proofs.BitLists.{BitList, bits_append, bits-take, bits-drop, bits-permuted, bits_xor, length_xor}

-- ---- bits stay bits

module _ (keys : ℕ → List ℕ) (h : Halves) (l : BitList h.left) (r : BitList h.right) where
  pub bits-right : (n : ℕ) → BitList (rounds keys h n).right
  unfolding rounds
  bits-right zero = r
  bits-right (suc n) = bits_xor (rounds keys h n).left _

  pub bits_left : (n : ℕ) → BitList (rounds keys h n).left
  unfolding rounds
  bits_left zero = l
  bits_left (suc n) = bits-right n

pub bits-preoutput : (keys : ℕ → List ℕ) (b : List ℕ) → BitList b → (n : ℕ) → BitList (preoutput (rounds keys (halved b) n))
unfolding halved preoutput
bits-preoutput keys b bits n =
    let l = bits-take 32 b bits in
    let r = bits-drop 32 b bits in
    bits_append (rounds keys (halved b) n).right (rounds keys (halved b) n).left (bits-right keys (halved b) l r n) (bits_left keys (halved b) l r n)

pub bits-enciphered : (keys : ℕ → List ℕ) (block : List ℕ) → BitList block → BitList (enciphered keys block)
unfolding enciphered
bits-enciphered keys block b = bits-permuted ip⁻¹ (preoutput (rounds keys (halved (permuted ip block)) 16)) (bits-preoutput keys (permuted ip block) (bits-permuted ip block b) 16)

-- ---- the halves that the code has after n rounds

pub record Reached (keys : ℕ → List ℕ) (h : Halves) (n : ℕ) (left right : List ℕ) : Type 0 where
  pub is-left : left ≡ (rounds keys h n).left
  pub is_right : right ≡ (rounds keys h n).right
  pub bits_left : BitList left
  pub bits-right : BitList right
  pub long_left : length left ≡ 32
  pub long_right : length right ≡ 32

module _ (keys : ℕ → List ℕ) (b left right : List ℕ) where
  pub reached_start : length b ≡ 64 → BitList b → left ≡ take 32 (drop 0 b) → right ≡ take 32 (drop 32 b) → Reached keys (halved b) 0 left right
  unfolding rounds halved
  reached_start l bits el er =
      let rest : length (drop 32 b) ≡ 32 = length-drop 32 b ∙ omega arith in
      let e : right ≡ drop 32 b = er ∙ take_all 32 (drop 32 b) (omega arith) in
      record {
        is-left = el;
        is_right = e;
        bits_left = rw el (bits-take 32 b bits);
        bits-right = rw e (bits-drop 32 b bits);
        long_left = ap length el ∙ length-take-le 32 b (omega arith);
        long_right = ap length e ∙ rest;
      }

module _ (keys : ℕ → List ℕ) (h : Halves) (n : ℕ) (left right : List ℕ) (w : Reached keys h n left right) where
  pub reached_more : (next f : List ℕ) → next ≡ xor_bits left f → f ≡ cipher_f right (keys n) → Reached keys h (n + 1) right next
  unfolding rounds
  reached_more next f en ef =
      record {
        is-left = w.is_right ∙ ap (λ (k : ℕ). (rounds keys h k).left) (sym (add-one n));
        is_right = en ∙ ap₂ xor_bits w.is-left (ef ∙ ap (λ (x : List ℕ). cipher_f x (keys n)) w.is_right) ∙ ap (λ (k : ℕ). (rounds keys h k).right) (sym (add-one n));
        bits_left = w.bits-right;
        bits-right = rw en (bits_xor left f);
        long_left = w.long_right;
        long_right = ap length en ∙ length_xor left f ∙ w.long_left;
      }

  pub reached_end : (count : ℕ) → n ≡ count → right ++ left ≡ preoutput (rounds keys h count)
  unfolding preoutput
  reached_end count e = ap₂ ◌++◌ w.is_right w.is-left ∙ ap (λ (k : ℕ). preoutput (rounds keys h k)) e

-- ---- the right half out of the halves in the other order

module _ (keys : ℕ → List ℕ) (b : List ℕ) (long : length b ≡ 64) (bits : BitList b) where
  halves_long : (n : ℕ) → (length (rounds keys (halved b) n).left ≡ 32) × (length (rounds keys (halved b) n).right ≡ 32)
  unfolding rounds halved
  halves_long zero = (length-take-le 32 b (omega arith), length-drop 32 b ∙ omega arith)
  halves_long (suc n) = ((halves_long n).1, length_xor (rounds keys (halved b) n).left _ ∙ (halves_long n).0)

  pub right_of : (n : ℕ) (all right : List ℕ) → all ≡ preoutput (rounds keys (halved b) n) → right ≡ take 32 (drop 0 all)
      → (right ≡ (rounds keys (halved b) n).right) × (length right ≡ 32) × BitList right
  unfolding preoutput halved
  right_of n all right e f =
      let q : right ≡ (rounds keys (halved b) n).right = f ∙ rw e (take_at (rounds keys (halved b) n).right (rounds keys (halved b) n).left 32 (halves_long n).1) in
      (q, ap length q ∙ (halves_long n).1, rw q (bits-right keys (halved b) (bits-take 32 b bits) (bits-drop 32 b bits) n))
