-- What other crates cite: DES gives eight octets, and takes a key's first eight; and where the boxes look.
use mathlib.Core.Path.{◌≡◌, ap}
use mathlib.Core.List.{List}
use Prim.Native.Nat.{ℕ, ◌/◌}
use native.Mathlib.Omega.{arith}
use lib.ListN.{length, get_or, take, drop}
use lib.Seq.{get_or-take}
use Rattle.octets.specs.Lists.{tab}
use Rattle.octets.specs.Bits.{bit, octets_from, Octets}
use Rattle.octets.proofs.BitLaws.{length-octets_from, octets-octets_from}
use Rattle.octets.proofs.ListLaws.{tab_same}
use Rattle.des.specs.Tables.{ip, ip⁻¹}
use Rattle.des.specs.Des.{permuted, box_input, box_place, rounds, halved, preoutput, enciphered, des, round_key, looks_at}
use Rattle.des.proofs.BitLists.{BitList, bits_of, bits-permuted}
use Rattle.des.proofs.RoundLaws.{bits-enciphered, right_of}

pub length-des : (key block : List ℕ) → length (des key block) ≡ 8
unfolding des
length-des key block = length-octets_from 8 _

pub octets-des : (key block : List ℕ) → Octets (des key block)
unfolding des
octets-des key block = octets-octets_from 8 _ (bits-enciphered (round_key (tab (bit key) 64)) (tab (bit block) 64) (bits_of block 64))

-- the 64 bits of a key are those of its first eight octets
pub first-bits : (key : List ℕ) → tab (bit (take 8 key)) 64 ≡ tab (bit key) 64
first-bits key = tab_same (bit (take 8 key)) (bit key) 64 (λ i h. rw (get_or-take 8 key (i / 8) 0 (omega arith)))

pub first_eight : (key block : List ℕ) → des (take 8 key) block ≡ des key block
unfolding des
first_eight key block = ap (λ (t : List ℕ). octets_from 8 (λ k. get_or (enciphered (round_key t) (tab (bit block) 64)) k 0)) (first-bits key)

-- ---- a block, and where the boxes look, as the code finds them

module _ (block first : List ℕ) (is-first : first ≡ permuted ip (tab (bit block) 64)) where
  pub bits-first : BitList first
  bits-first = rw is-first (bits-permuted ip (tab (bit block) 64) (bits_of block 64))

  module _ (keys : ℕ → List ℕ) (n : ℕ) (all right : List ℕ) (long : length first ≡ 64) (is_all : all ≡ preoutput (rounds keys (halved first) n))
      (is_right : right ≡ take 32 (drop 0 all)) where
    pub looks_right : (right ≡ (rounds keys (halved first) n).right) × (length right ≡ 32) × BitList right
    looks_right = right_of keys first long bits-first n all right is_all is_right

  module _ (key : List ℕ) where
    abbrev keys : ℕ → List ℕ
    keys = round_key (tab (bit key) 64)

    pub whole : (all out : List ℕ) → all ≡ preoutput (rounds keys (halved first) 16) → out ≡ octets_from 8 (λ k. get_or (permuted ip⁻¹ all) k 0) → out ≡ des key block
    unfolding des enciphered
    whole all out e o = rw (o, e, is-first)

    pub looks : (n : ℕ) (all right : List ℕ) → length first ≡ 64 → all ≡ preoutput (rounds keys (halved first) n) → right ≡ take 32 (drop 0 all)
        → (input : List ℕ) (i r : ℕ) → input ≡ box_input right (keys n) → r ≡ box_place input i → r ≡ looks_at key block n i
    unfolding looks_at
    looks n all right long is_all is_right input i r e p = rw (p, e, (looks_right keys n all right long is_all is_right).0, is-first)
