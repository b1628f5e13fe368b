-- The halves of a block in two numbers, and the block in one.
use mathlib.Core.Path.{◌≡◌, sym, ap, ap₂, ◌∙◌}
use mathlib.Core.List.{List, ◌++◌}
use Prim.Native.Nat.{ℕ, suc, ◌+◌, ◌-◌, ◌*◌, ◌/◌, ◌%◌, ◌^◌, ◌<◌}
use native.Mathlib.Numerals.{add-one}
use native.Mathlib.Omega.{arith}
use lib.Bits.{bit_xor}
use lib.ListN.{get_or, take, drop, length-drop, take-append-drop}
use lib.Pow.{shr-shr}
use lib.Seq.{get_or-take, get_or-drop, length-take-le}
use Rattle.octets.specs.Lists.{tab}
use Rattle.octets.specs.Bits.{bit, octets_from, Bits}
use Rattle.octets.proofs.BitLaws.{bit-low, bit-octets_from, length-octets_from, octets-octets_from, octets_ext}
use Rattle.octets.proofs.ListLaws.{length-tab, get_or-tab}
use Rattle.des.specs.Tables.{ip, ip⁻¹}
use Rattle.des.specs.Des.{permuted, xor_bits, Halves, halved}
use Rattle.joineddes.specs.Joined.{bits_in, joined_f, joined_rounds, carried_on, first_halves, block_of, halves_in}
use Rattle.joineddes.specs.declared.Carried.{Carried}
use Rattle.des.proofs.BitLists.{bits_append, bits-permuted}
use Rattle.joineddes.proofs.NumberBits.{length-bits_in, get_or-bits_in, bits-bits_in, bits_in-is, bits_in_xor}

module _ (x : ℕ) where
  high_half : bits_in 32 (x / 2 ^ 32) ≡ take 32 (bits_in 64 x)
  high_half =
      bits_in-is 32 (x / 2 ^ 32) (take 32 (bits_in 64 x)) (length-take-le 32 (bits_in 64 x) (omega (arith, length-bits_in 64 x)))
      (λ i h.
      let e : 32 + (32 - suc i) ≡ 64 - suc i = omega arith in
      ap (λ (z : ℕ). z % 2) (shr-shr x 32 (32 - suc i))
      ∙ ap (λ (z : ℕ). x / 2 ^ z % 2) e
      ∙ sym (get_or-take 32 (bits_in 64 x) i 0 h ∙ get_or-bits_in 64 x i (omega arith)))

  low_half : bits_in 32 (x % 2 ^ 32) ≡ drop 32 (bits_in 64 x)
  low_half =
      bits_in-is 32 (x % 2 ^ 32) (drop 32 (bits_in 64 x)) (length-drop 32 (bits_in 64 x) ∙ omega (arith, length-bits_in 64 x))
      (λ i h.
      let e : 32 - suc i ≡ 64 - suc (32 + i) = omega arith in
      bit-low x 32 (32 - suc i) (omega arith)
      ∙ ap (λ (z : ℕ). x / 2 ^ z % 2) e
      ∙ sym (get_or-drop 32 (bits_in 64 x) i 0 ∙ get_or-bits_in 64 x (32 + i) (omega arith)))

abbrev pub halves : List ℕ → List ℕ → Halves
halves l r = record { left = l; right = r }

-- a number past the initial permutation of a block has the block's halves
pub halves-first : (block : List ℕ) (n x : ℕ) → ((k : ℕ) → k < 64 → n / 2 ^ (63 - k) % 2 ≡ bit block k) → bits_in 64 x ≡ permuted ip (bits_in 64 n)
    → halves_in (record { left = x / 2 ^ 32; right = x % 2 ^ 32 }) ≡ first_halves block
unfolding first_halves halved
halves-first block n x h e =
    let same : bits_in 64 n ≡ tab (bit block) 64 =
    bits_in-is 64 n (tab (bit block) 64) (length-tab (bit block) 64)
    (λ i b. let z : 64 - suc i ≡ 63 - i = omega arith in rw z (h i b ∙ sym (get_or-tab (bit block) 64 i b))) in
    let all : bits_in 64 x ≡ permuted ip (tab (bit block) 64) = e ∙ ap (permuted ip) same in
    ap₂ halves (high_half x ∙ ap (take 32) all) (low_half x ∙ ap (drop 32) all)

-- two numbers one after the other have their bits one after the other
joined-halves : (l r : ℕ) → l < 2 ^ 32 → r < 2 ^ 32 → bits_in 64 (l * 2 ^ 32 + r) ≡ bits_in 32 l ++ bits_in 32 r
joined-halves l r hl hr =
    let x : ℕ = l * 2 ^ 32 + r in
    let high : x / 2 ^ 32 ≡ l = omega arith in
    let low : x % 2 ^ 32 ≡ r = omega arith in
    sym (take-append-drop 32 (bits_in 64 x))
    ∙ ap₂ ◌++◌ (sym (high_half x) ∙ ap (bits_in 32) high) (sym (low_half x) ∙ ap (bits_in 32) low)

-- a block is made of bits
block-bits : (c : Carried) → Bits (λ k. get_or (permuted ip⁻¹ (bits_in 32 c.left ++ bits_in 32 c.right)) k 0)
block-bits c =
    bits-permuted ip⁻¹ (bits_in 32 c.left ++ bits_in 32 c.right)
    (bits_append (bits_in 32 c.left) (bits_in 32 c.right) (bits-bits_in 32 c.left) (bits-bits_in 32 c.right))

-- past the inverse of the initial permutation a number has its bits, and so its octets
module _ (c : Carried) (y : ℕ) where
  pub bits-block : (x : ℕ) → c.left < 2 ^ 32 → c.right < 2 ^ 32 → x ≡ c.left * 2 ^ 32 + c.right → bits_in 64 y ≡ permuted ip⁻¹ (bits_in 64 x)
      → (k : ℕ) → k < 64 → y / 2 ^ (63 - k) % 2 ≡ bit (block_of (halves_in c)) k
  unfolding block_of
  bits-block x hl hr ex e k h =
      let z : 64 - suc k ≡ 63 - k = omega arith in
      rw z at (sym (get_or-bits_in 64 y k h))
      ∙ ap (λ (b : List ℕ). get_or b k 0) (e ∙ ap (permuted ip⁻¹) (ap (bits_in 64) ex ∙ joined-halves c.left c.right hl hr))
      ∙ sym (bit-octets_from 8 _ (block-bits c) k h)

  pub octets-block : ((k : ℕ) → k < 64 → y / 2 ^ (63 - k) % 2 ≡ bit (block_of (halves_in c)) k) → octets_from 8 (λ k. y / 2 ^ (63 - k) % 2) ≡ block_of (halves_in c)
  unfolding block_of
  octets-block e =
      octets_ext (octets_from 8 (λ k. y / 2 ^ (63 - k) % 2)) _ (octets-octets_from 8 _ (λ k. omega arith)) (octets-octets_from 8 _ (block-bits c))
      (length-octets_from 8 _ ∙ sym (length-octets_from 8 _))
      (λ k h.
      let b : k < 64 = omega (arith, length-octets_from 8 (λ k. y / 2 ^ (63 - k) % 2)) in
      bit-octets_from 8 (λ k. y / 2 ^ (63 - k) % 2) (λ k. omega arith) k b ∙ e k b)

-- ---- the rounds

module _ (keys : ℕ → List ℕ) (h : Halves) where
  abbrev pub After : ℕ → ℕ → ℕ → Type 0
  After n l r = halves (bits_in 32 l) (bits_in 32 r) ≡ joined_rounds keys h n

  pub after_none : (l r : ℕ) → halves (bits_in 32 l) (bits_in 32 r) ≡ h → After 0 l r
  unfolding joined_rounds
  after_none l r e = e

  pub after_more : (n l r f : ℕ) → After n l r → bits_in 32 f ≡ joined_f (bits_in 32 r) (keys n) → After (n + 1) r (bit_xor l f)
  unfolding joined_rounds
  after_more n l r f e q =
      let next : bits_in 32 (bit_xor l f) ≡ (joined_rounds keys h (suc n)).right =
      bits_in_xor 32 l f ∙ ap₂ xor_bits (ap left e) (q ∙ ap (λ (x : List ℕ). joined_f x (keys n)) (ap right e)) in
      rw (add-one n) (ap₂ halves (ap right e) next)
    where
      left : Halves → List ℕ
      left x = x.left

      right : Halves → List ℕ
      right x = x.right

  pub after-all : (n l r : ℕ) → n ≡ 16 → After n l r → halves (bits_in 32 r) (bits_in 32 l) ≡ carried_on keys h
  unfolding carried_on
  after-all n l r z e = let q : After 16 l r = rw z at e in ap (λ (x : Halves). halves x.right x.left) q
