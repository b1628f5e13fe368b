-- The joined engine is DES, as the plain one is; and what it carries from block to block stands for the blocks of output feedback.
use mathlib.Core.Path.{◌≡◌, refl, sym, ap, ap₂, ◌∙◌}
use mathlib.Core.List.{List, ◌++◌}
use Prim.Native.Nat.{ℕ, zero, suc, ◌<◌}
use native.Mathlib.Omega.{arith}
use lib.ListN.{length, get_or, take, drop, length-drop, length-append, take-append-drop}
use lib.Seq.{ext_get_or, take_at, drop_at, length-take-le}
use Rattle.octets.specs.Lists.{tab, iterate}
use Rattle.octets.specs.Bits.{bit, octets_from, Bits, Octets}
use Rattle.octets.proofs.BitLaws.{bit-octets_from, length-octets_from, octets-octets_from, octets_ext}
use Rattle.octets.proofs.ListLaws.{length-tab, get_or-tab}
use Rattle.des.specs.Tables.{ip, ip⁻¹}
use Rattle.des.specs.Des.{permuted, xor_bits, cipher_f, Halves, rounds, halved, preoutput, enciphered, round_key, des}
use Rattle.joineddes.specs.Joined.{joined_f, joined_rounds, first_halves, carried_on, block_of, joined_des, keys_in, Scheduled}
use Rattle.des.proofs.BitLists.{BitList, bits_of, bits_append, bits-permuted, bits-take, bits-drop, bits_xor, length-permuted, length_xor}
use Rattle.des.proofs.TableRules.{length_ip, length-inverse, undone, redone}
use Rattle.joineddes.proofs.HalfLaws.{halves}
use Rattle.joineddes.proofs.JoinedLaws.{joined_f_lem}

-- ---- both engines

-- one round after the other, the halves are the same; a round looks at its own key alone
rounds_same : (keys own : ℕ → List ℕ) (h : Halves) (n : ℕ) → ((i : ℕ) → i < n → keys i ≡ own i) → joined_rounds keys h n ≡ rounds own h n
unfolding joined_rounds rounds
rounds_same keys own h zero e = refl
rounds_same keys own h (suc n) e =
    let before : joined_rounds keys h n ≡ rounds own h n = rounds_same keys own h n (λ i l. e i (omega arith)) in
    ap₂ halves (ap (λ (x : Halves). x.right) before)
    (ap₂ xor_bits (ap (λ (x : Halves). x.left) before)
    (joined_f_lem (joined_rounds keys h n).right (keys n) ∙ ap₂ cipher_f (ap (λ (x : Halves). x.right) before) (e n (omega arith))))

-- a block by keys that are a key's
block_by_lem : (key block : List ℕ) (keys : ℕ → List ℕ) → ((i : ℕ) → i < 16 → keys i ≡ round_key (tab (bit key) 64) i)
    → block_of (carried_on keys (first_halves block)) ≡ des key block
unfolding block_of carried_on first_halves des enciphered preoutput
block_by_lem key block keys e =
    ap (λ (x : Halves). octets_from 8 (λ k. get_or (permuted ip⁻¹ (x.right ++ x.left)) k 0))
    (rounds_same keys (round_key (tab (bit key) 64)) (halved (permuted ip (tab (bit block) 64))) 16 e)

-- for every key and block the joined engine gives what the plain one does
pub both_engines : (key block : List ℕ) → joined_des key block ≡ des key block
unfolding joined_des
both_engines key block = block_by_lem key block (round_key (tab (bit key) 64)) (λ i l. refl)

-- as the code finds a block
pub enciphers : (words block : List ℕ) (h next : Halves) (out : List ℕ) → h ≡ first_halves block → next ≡ carried_on (keys_in words) h → out ≡ block_of next
    → (key : List ℕ) → Scheduled key words → out ≡ joined_des key block
enciphers words block h next out e f g key its =
    g ∙ ap block_of (f ∙ ap (carried_on (keys_in words)) e) ∙ block_by_lem key block (keys_in words) its.keys ∙ sym (both_engines key block)

-- ---- what is carried from block to block

-- halves of 32 bits
pub record Whole (h : Halves) : Type 0 where
  pub long_left : length h.left ≡ 32
  pub long_right : length h.right ≡ 32
  pub bits_left : BitList h.left
  pub bits-right : BitList h.right

whole-first : (block : List ℕ) → Whole (first_halves block)
unfolding first_halves halved
whole-first block =
    let all : List ℕ = permuted ip (tab (bit block) 64) in
    let long : length all ≡ 64 = length-permuted ip (tab (bit block) 64) ∙ length_ip in
    let bits : BitList all = bits-permuted ip (tab (bit block) 64) (bits_of block 64) in
    record {
      long_left = length-take-le 32 all (omega arith);
      long_right = length-drop 32 all ∙ omega arith;
      bits_left = bits-take 32 all bits;
      bits-right = bits-drop 32 all bits;
    }

module _ (keys : ℕ → List ℕ) where
  whole-rounds : (h : Halves) → Whole h → (n : ℕ) → Whole (joined_rounds keys h n)
  unfolding joined_rounds
  whole-rounds h w zero = w
  whole-rounds h w (suc n) =
      let b = whole-rounds h w n in
      let f : List ℕ = joined_f (joined_rounds keys h n).right (keys n) in
      record {
        long_left = b.long_right;
        long_right = length_xor (joined_rounds keys h n).left f ∙ b.long_left;
        bits_left = b.bits-right;
        bits-right = bits_xor (joined_rounds keys h n).left f;
      }

  whole-on : (h : Halves) → Whole h → Whole (carried_on keys h)
  unfolding carried_on
  whole-on h w =
      let b = whole-rounds h w 16 in
      record { long_left = b.long_right; long_right = b.long_left; bits_left = b.bits-right; bits-right = b.bits_left }

-- halves are those of their own block
own-halves : (h : Halves) → Whole h → first_halves (block_of h) ≡ h
unfolding first_halves block_of halved
own-halves h w =
    let all : List ℕ = h.left ++ h.right in
    let long : length all ≡ 64 = length-append h.left h.right ∙ omega (arith, w.long_left, w.long_right) in
    let back : List ℕ = permuted ip⁻¹ all in
    let bits : BitList back = bits-permuted ip⁻¹ all (bits_append h.left h.right w.bits_left w.bits-right) in
    let same : tab (bit (octets_from 8 (λ k. get_or back k 0))) 64 ≡ back =
    ext_get_or 0 _ _ (length-tab _ 64 ∙ sym (length-permuted ip⁻¹ all ∙ length-inverse))
    (λ i l.
    let b : i < 64 = omega (arith, length-tab (bit (octets_from 8 (λ k. get_or back k 0))) 64) in
    get_or-tab (bit (octets_from 8 (λ k. get_or back k 0))) 64 i b ∙ bit-octets_from 8 (λ k. get_or back k 0) bits i b) in
    let e : permuted ip (tab (bit (octets_from 8 (λ k. get_or back k 0))) 64) ≡ all = ap (permuted ip) same ∙ redone all long in
    ap₂ halves (ap (take 32) e ∙ take_at h.left h.right 32 w.long_left) (ap (drop 32) e ∙ drop_at h.left h.right 32 w.long_left)

-- eight octets are the block of their own halves
own_block : (block : List ℕ) → length block ≡ 8 → Octets block → block_of (first_halves block) ≡ block
unfolding first_halves block_of halved
own_block block long octets =
    let all : List ℕ = permuted ip (tab (bit block) 64) in
    let same : permuted ip⁻¹ (take 32 all ++ drop 32 all) ≡ tab (bit block) 64 =
    ap (permuted ip⁻¹) (take-append-drop 32 all) ∙ undone (tab (bit block) 64) (length-tab (bit block) 64) in
    let bits : Bits (λ k. get_or (permuted ip⁻¹ (take 32 all ++ drop 32 all)) k 0) = rw same (bits_of block 64) in
    octets_ext _ block (octets-octets_from 8 _ bits) octets (length-octets_from 8 _ ∙ sym long)
    (λ k l.
    let b : k < 64 = omega (arith, length-octets_from 8 (λ k. get_or (permuted ip⁻¹ (take 32 all ++ drop 32 all)) k 0)) in
    bit-octets_from 8 _ bits k b ∙ ap (λ (x : List ℕ). get_or x k 0) same ∙ get_or-tab (bit block) 64 k b)

module _ (key block : List ℕ) (keys : ℕ → List ℕ) (its : (i : ℕ) → i < 16 → keys i ≡ round_key (tab (bit key) 64) i) where
  abbrev at : ℕ → Halves
  at n = iterate (carried_on keys) n (first_halves block)

  whole-at : (n : ℕ) → Whole (at n)
  unfolding iterate
  whole-at zero = whole-first block
  whole-at (suc n) = whole-on keys (at n) (whole-at n)

  -- carried n times, the halves are those of the block that comes n encipherments later
  pub block_at : length block ≡ 8 → Octets block → (n : ℕ) → block_of (at n) ≡ iterate (des key) n block
  unfolding iterate
  block_at long octets zero = own_block block long octets
  block_at long octets (suc n) =
      ap (λ (h : Halves). block_of (carried_on keys h)) (sym (own-halves (at n) (whole-at n)))
      ∙ block_by_lem key (block_of (at n)) keys its
      ∙ ap (des key) (block_at long octets n)
