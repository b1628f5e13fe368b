-- DES, FIPS 46-3, forward. A block, a half and a key are lists of bits, the leftmost first; the standard's tables count places from 1.
use Rattle.std.specs.Prelude.{List, ◌++◌, map, ℕ, zero, suc, ◌+◌, ◌-◌, ◌*◌, ◌/◌, ◌%◌, ◌^◌, length, get_or, take, drop}
use Rattle.octets.specs.Lists.{tab}
use Rattle.octets.specs.Bits.{bit, flip, octets_from}
use Rattle.des.specs.Tables.{ip, ip⁻¹, table_e, table_p, pc_1, pc_2, left_shifts, table_s}

-- a table's entry is the place of the bit that goes here
unfoldable pub permuted : List ℕ → List ℕ → List ℕ
permuted table bits = map (λ (k : ℕ). get_or bits (k - 1) 0) table

-- bit by bit addition modulo 2
unfoldable pub xor_bits : List ℕ → List ℕ → List ℕ
xor_bits a b = tab (λ i. flip (get_or a i 0) (get_or b i 0)) (length a)

-- ---- the cipher function f(R, K) = P(S(E(R) + K))

-- what the boxes are given
unfoldable pub box_input : List ℕ → List ℕ → List ℕ
box_input r k = xor_bits (permuted table_e r) k

-- where box i, counted from 0, looks: its six bits stand from 6 i on, the first and the last are the row, the four between the column
unfoldable pub box_place : List ℕ → ℕ → ℕ
box_place b i =
    let o = 6 * i in
    64 * i + (16 * (2 * get_or b o 0 + get_or b (o + 5) 0)
    + (8 * get_or b (o + 1) 0 + 4 * get_or b (o + 2) 0 + 2 * get_or b (o + 3) 0 + get_or b (o + 4) 0))

-- the four bits of each box's entry, one box after the other
unfoldable pub substituted : List ℕ → List ℕ
substituted b = tab (λ k. get_or table_s (box_place b (k / 4)) 0 / 2 ^ (3 - k % 4) % 2) 32

unfoldable pub cipher_f : List ℕ → List ℕ → List ℕ
cipher_f r k = permuted table_p (substituted (box_input r k))

-- ---- the key schedule

-- shifted left by s places, around
unfoldable pub rotated : ℕ → List ℕ → List ℕ
rotated s l = drop s l ++ take s l

-- C and D, one after the other, after n rounds' shifts
unfoldable pub key_state : List ℕ → ℕ → List ℕ
key_state key zero = permuted pc_1 key
key_state key (suc n) =
    let s = get_or left_shifts n 0 in
    rotated s (take 28 (key_state key n)) ++ rotated s (drop 28 (key_state key n))

-- the key of round n, counted from 0
unfoldable pub round_key : List ℕ → ℕ → List ℕ
round_key key n = permuted pc_2 (key_state key (suc n))

-- ---- enciphering

pub record Halves : Type 0 where
  pub left : List ℕ
  pub right : List ℕ

-- the halves after n rounds, by the rounds' keys
unfoldable pub rounds : (ℕ → List ℕ) → Halves → ℕ → Halves
rounds keys h zero = h
rounds keys h (suc n) =
    record {
      left = (rounds keys h n).right;
      right = xor_bits (rounds keys h n).left (cipher_f (rounds keys h n).right (keys n));
    }

unfoldable pub halved : List ℕ → Halves
halved l = record { left = take 32 l; right = drop 32 l }

-- the preoutput: the halves in the other order, since the last round's are not exchanged
unfoldable pub preoutput : Halves → List ℕ
preoutput h = h.right ++ h.left

-- a block of 64 bits, by the rounds' keys
unfoldable pub enciphered : (ℕ → List ℕ) → List ℕ → List ℕ
enciphered keys block = permuted ip⁻¹ (preoutput (rounds keys (halved (permuted ip block)) 16))

-- DES of a block of eight octets under a key of eight octets, which come first in the lists
unfoldable pub des : List ℕ → List ℕ → List ℕ
des key block = octets_from 8 (λ k. get_or (enciphered (round_key (tab (bit key) 64)) (tab (bit block) 64)) k 0)

-- ---- which entries a block uses

-- where box i looks in round n, both counted from 0, of a block of eight octets under a key of eight octets
unfoldable pub looks_at : List ℕ → List ℕ → ℕ → ℕ → ℕ
looks_at key block n i =
    let keys = round_key (tab (bit key) 64) in
    box_place (box_input (rounds keys (halved (permuted ip (tab (bit block) 64))) n).right (keys n)) i
