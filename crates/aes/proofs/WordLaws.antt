-- Laws of words: the octets of a word and the word of its octets, words rotated by rows and added, and a list of octets as words.
use mathlib.Core.Path.{◌≡◌, refl, sym, ap, ap₂, ◌∙◌}
use mathlib.Core.List.{List, [], ◌∷◌}
use Prim.Native.Nat.{ℕ, zero, suc, ◌+◌, ◌*◌, ◌/◌, ◌%◌, ◌^◌, ◌≤◌, ◌<◌}
use native.Mathlib.Nat.{add-zero}
use native.Mathlib.Omega.{arith}
use lib.Bits.{bit_or, bit_xor, or_shifted, xor_block, xor_shr, xor_mod}
use lib.ListN.{length, get_or, take}
use lib.Seq.{ext_get_or, get_or-take, length-take-le}
use Rattle.std.specs.Int.{w32, from_le_bytes, to_le_bytes}
use Rattle.octets.specs.Bits.{Octets}
use Rattle.octets.specs.Lists.{tab}
use Rattle.octets.proofs.Front.{Front}
use Rattle.octets.proofs.ListLaws.{length-tab, get_or-tab, tab_same, octets-tab}
use Rattle.aes.specs.Cipher.{word}
use Rattle.aes.specs.Prepared.{as_word, word_in, octet_of, octets_of, octets_in}

-- ---- a word

-- of the library's methods: a word of four octets, and its octets
pub le_word : (a b c d : ℕ) → from_le_bytes w32 (a ∷ b ∷ c ∷ d ∷ []) ≡ a + 256 * b + 65536 * c + 16777216 * d
le_word a b c d = omega arith

pub le_octet : (w r : ℕ) → r < 4 → get_or (to_le_bytes w32 w) r 0 ≡ octet_of w r
unfolding octet_of
le_octet w zero h = omega arith
le_octet w (suc zero) h = refl
le_octet w (suc (suc zero)) h = refl
le_octet w (suc (suc (suc zero))) h = refl
le_octet w (suc (suc (suc (suc r)))) h = absurd (omega arith)

pub octet_lt : (w r : ℕ) → octet_of w r < 256
unfolding octet_of
octet_lt w r = omega arith

-- an octet of a sum
pub octet_xor : (v w r : ℕ) → octet_of (bit_xor v w) r ≡ bit_xor (octet_of v r) (octet_of w r)
unfolding octet_of
octet_xor v w r = ap (λ (x : ℕ). x % 256) (xor_shr v w (8 * r)) ∙ xor_mod (v / 2 ^ (8 * r)) (w / 2 ^ (8 * r)) 8

pub word_same : (f g : ℕ → ℕ) → ((r : ℕ) → r < 4 → f r ≡ g r) → as_word f ≡ as_word g
unfolding as_word
word_same f g e = rw (e 0 (omega arith), e 1 (omega arith), e 2 (omega arith), e 3 (omega arith))

module _ (f : ℕ → ℕ) (o : (r : ℕ) → f r < 256) where
  pub octet-word : (r : ℕ) → r < 4 → octet_of (as_word f) r ≡ f r
  unfolding as_word octet_of
  octet-word zero h = omega (arith, o 0, o 1, o 2, o 3)
  octet-word (suc zero) h =
      let e : as_word f / 256 ≡ f 1 + 256 * f 2 + 65536 * f 3 = omega (arith, o 0, o 1, o 2, o 3) in
      rw e (omega (arith, o 1))
  octet-word (suc (suc zero)) h =
      let e : as_word f / 65536 ≡ f 2 + 256 * f 3 = omega (arith, o 0, o 1, o 2, o 3) in
      rw e (omega (arith, o 2))
  octet-word (suc (suc (suc zero))) h =
      let e : as_word f / 16777216 ≡ f 3 = omega (arith, o 0, o 1, o 2, o 3) in
      rw e (omega (arith, o 3))
  octet-word (suc (suc (suc (suc r)))) h = absurd (omega arith)

  pub rotated_8 : bit_or (as_word f * 256 % 4294967296) (as_word f / 16777216) ≡ as_word (λ r. f ((r + 3) % 4))
  unfolding as_word
  rotated_8 =
      let h : as_word f * 256 % 4294967296 ≡ (f 0 + 256 * f 1 + 65536 * f 2) * 2 ^ 8 = omega (arith, o 0, o 1, o 2, o 3) in
      let l : as_word f / 16777216 ≡ f 3 = omega (arith, o 0, o 1, o 2, o 3) in
      ap₂ bit_or h l ∙ or_shifted (f 0 + 256 * f 1 + 65536 * f 2) 8 (f 3) (o 3) ∙ omega arith

  pub rotated_16 : bit_or (as_word f * 65536 % 4294967296) (as_word f / 65536) ≡ as_word (λ r. f ((r + 2) % 4))
  unfolding as_word
  rotated_16 =
      let h : as_word f * 65536 % 4294967296 ≡ (f 0 + 256 * f 1) * 2 ^ 16 = omega (arith, o 0, o 1, o 2, o 3) in
      let l : as_word f / 65536 ≡ f 2 + 256 * f 3 = omega (arith, o 0, o 1, o 2, o 3) in
      ap₂ bit_or h l ∙ or_shifted (f 0 + 256 * f 1) 16 (f 2 + 256 * f 3) (omega (arith, o 2, o 3)) ∙ omega arith

  pub rotated_24 : bit_or (as_word f * 16777216 % 4294967296) (as_word f / 256) ≡ as_word (λ r. f ((r + 1) % 4))
  unfolding as_word
  rotated_24 =
      let h : as_word f * 16777216 % 4294967296 ≡ f 0 * 2 ^ 24 = omega (arith, o 0, o 1, o 2, o 3) in
      let l : as_word f / 256 ≡ f 1 + 256 * f 2 + 65536 * f 3 = omega (arith, o 0, o 1, o 2, o 3) in
      ap₂ bit_or h l ∙ or_shifted (f 0) 24 (f 1 + 256 * f 2 + 65536 * f 3) (omega (arith, o 1, o 2, o 3)) ∙ omega arith

-- a word is that of its octets
divided : (w a b c p q r : ℕ) → w ≡ p + 256 * a → a ≡ q + 256 * b → b ≡ r + 256 * c → p + 256 * q + 65536 * r + 16777216 * c ≡ w
divided w a b c p q r ew ea eb = omega arith

pub as_octets : (w : ℕ) → w < 4294967296 → as_word (octet_of w) ≡ w
unfolding as_word octet_of
as_octets w h =
    let a : w / 65536 ≡ w / 256 / 256 = omega arith in
    let b : w / 16777216 ≡ w / 256 / 256 / 256 = omega arith in
    let c : w / 256 / 256 / 256 % 256 ≡ w / 256 / 256 / 256 = omega arith in
    let one : w / 1 % 256 ≡ w % 256 = omega arith in
    rw (a, b, c, one)
    (divided w (w / 256) (w / 256 / 256) (w / 256 / 256 / 256) (w % 256) (w / 256 % 256) (w / 256 / 256 % 256) (omega arith) (omega arith) (omega arith))

-- the sum of two words
pub word_xor : (f g : ℕ → ℕ) → ((r : ℕ) → f r < 256) → ((r : ℕ) → g r < 256) → bit_xor (as_word f) (as_word g) ≡ as_word (λ r. bit_xor (f r) (g r))
unfolding as_word
word_xor f g o p =
    let split : (h : ℕ → ℕ) → as_word h ≡ ((h 3 * 2 ^ 8 + h 2) * 2 ^ 8 + h 1) * 2 ^ 8 + h 0 = λ h. omega arith in
    ap₂ bit_xor (split f) (split g)
    ∙ xor_block 8 ((f 3 * 2 ^ 8 + f 2) * 2 ^ 8 + f 1) ((g 3 * 2 ^ 8 + g 2) * 2 ^ 8 + g 1) (f 0) (g 0) (o 0) (p 0)
    ∙ ap (λ (z : ℕ). z * 2 ^ 8 + bit_xor (f 0) (g 0)) (xor_block 8 (f 3 * 2 ^ 8 + f 2) (g 3 * 2 ^ 8 + g 2) (f 1) (g 1) (o 1) (p 1))
    ∙ ap (λ (z : ℕ). (z * 2 ^ 8 + bit_xor (f 1) (g 1)) * 2 ^ 8 + bit_xor (f 0) (g 0)) (xor_block 8 (f 3) (g 3) (f 2) (g 2) (o 2) (p 2))
    ∙ sym (split (λ r. bit_xor (f r) (g r)))

-- ---- the four octets of a word

pub octet-at : (w r : ℕ) → r < 4 → get_or (octets_of w) r 0 ≡ octet_of w r
unfolding octets_of
octet-at w = get_or-tab (octet_of w) 4

pub four_octets : (f : ℕ → ℕ) → ((r : ℕ) → f r < 256) → octets_of (as_word f) ≡ tab f 4
unfolding octets_of
four_octets f o = tab_same (octet_of (as_word f)) f 4 (octet-word f o)

-- ---- octets as words

pub octets-at : (n : ℕ) (w : List ℕ) (i : ℕ) → i < 4 * n → get_or (octets_in n w) i 0 ≡ octet_of (get_or w (i / 4) 0) (i % 4)
unfolding octets_in
octets-at n w i h = get_or-tab (λ i. octet_of (get_or w (i / 4) 0) (i % 4)) (4 * n) i h

pub length-octets_in : (n : ℕ) (w : List ℕ) → length (octets_in n w) ≡ 4 * n
unfolding octets_in
length-octets_in n w = length-tab (λ i. octet_of (get_or w (i / 4) 0) (i % 4)) (4 * n)

-- octets that are those of n words, each of its word
pub octets-are : (n : ℕ) (w x : List ℕ) → length x ≡ 4 * n → ((i : ℕ) → i < 4 * n → get_or x i 0 ≡ octet_of (get_or w (i / 4) 0) (i % 4)) → x ≡ octets_in n w
octets-are n w x l e = ext_get_or 0 x (octets_in n w) (l ∙ sym (length-octets_in n w)) (λ i h. e i (omega arith) ∙ sym (octets-at n w i (omega arith)))

pub octets-octets_in : (n : ℕ) (w : List ℕ) → Octets (octets_in n w)
unfolding octets_in
octets-octets_in n w = octets-tab (λ i. octet_of (get_or w (i / 4) 0) (i % 4)) (4 * n) (λ i h. octet_lt (get_or w (i / 4) 0) (i % 4))

-- octets of words that are the same
pub octets_same : (n : ℕ) (v w : List ℕ) → ((q : ℕ) → q < n → get_or v q 0 ≡ get_or w q 0) → octets_in n v ≡ octets_in n w
unfolding octets_in
octets_same n v w e = tab_same _ _ (4 * n) (λ i h. ap (λ (x : ℕ). octet_of x (i % 4)) (e (i / 4) (omega arith)))

-- the first of them
pub octets-take : (m n : ℕ) (w : List ℕ) → m ≤ n → take (4 * m) (octets_in n w) ≡ octets_in m w
octets-take m n w h =
    ext_get_or 0 (take (4 * m) (octets_in n w)) (octets_in m w) (size ∙ sym (length-octets_in m w))
    (λ i l.
    let k : i < 4 * m = omega (arith, size) in
    get_or-take (4 * m) (octets_in n w) i 0 k ∙ octets-at n w i (omega arith) ∙ sym (octets-at m w i k))
  where
    size : length (take (4 * m) (octets_in n w)) ≡ 4 * m
    size = length-take-le (4 * m) (octets_in n w) (omega (arith, length-octets_in n w))

-- word q of them
pub word-octets : (n : ℕ) (w : List ℕ) (q : ℕ) → q < n → word (octets_in n w) q ≡ octets_of (get_or w q 0)
unfolding word octets_of
word-octets n w q h =
    tab_same (λ r. get_or (octets_in n w) (4 * q + r) 0) (octet_of (get_or w q 0)) 4
    (λ r l.
    let d : (4 * q + r) / 4 ≡ q = omega arith in
    let m : (4 * q + r) % 4 ≡ r = omega arith in
    octets-at n w (4 * q + r) (omega arith) ∙ rw (d, m))

-- word q, of its four octets
pub word-is : (x : List ℕ) (q a b c d : ℕ) → a ≡ get_or x (4 * q) 0 → b ≡ get_or x (4 * q + 1) 0 → c ≡ get_or x (4 * q + 2) 0 → d ≡ get_or x (4 * q + 3) 0
    → a + 256 * b + 65536 * c + 16777216 * d ≡ word_in x q
unfolding word_in as_word
word-is x q a b c d ea eb ec ed = rw (ea, eb, ec, ed, add-zero)

-- and of any four octets that are its
pub word-bytes : (x : List ℕ) (q : ℕ) (b : List ℕ) → ((r : ℕ) → r < 4 → get_or b r 0 ≡ get_or x (4 * q + r) 0) → from_le_bytes w32 b ≡ word_in x q
unfolding word_in as_word
word-bytes x q b e = le_word (get_or b 0 0) (get_or b 1 0) (get_or b 2 0) (get_or b 3 0) ∙ word_same (λ r. get_or b r 0) (λ r. get_or x (4 * q + r) 0) e

-- the words of x have the octets of x
module _ (x : List ℕ) (o : Octets x) where
  word-octet : (i : ℕ) → octet_of (word_in x (i / 4)) (i % 4) ≡ get_or x i 0
  unfolding word_in
  word-octet i =
      let e : 4 * (i / 4) + i % 4 ≡ i = omega arith in
      octet-word (λ r. get_or x (4 * (i / 4) + r) 0) (λ r. o (4 * (i / 4) + r)) (i % 4) (omega arith) ∙ ap (λ (k : ℕ). get_or x k 0) e

  pub octets-words : (n : ℕ) (w : List ℕ) → length x ≡ 4 * n → ((q : ℕ) → q < n → get_or w q 0 ≡ word_in x q) → octets_in n w ≡ x
  octets-words n w l e =
      ext_get_or 0 (octets_in n w) x (length-octets_in n w ∙ sym l)
      (λ i h.
      let k : i < 4 * n = omega (arith, length-octets_in n w) in
      octets-at n w i k ∙ ap (λ (v : ℕ). octet_of v (i % 4)) (e (i / 4) (omega arith)) ∙ word-octet i)

  -- a list whose first n words are those of x
  pub front_words : (n m : ℕ) (w₀ w : List ℕ) (i : ℕ) → length x ≡ 4 * n → n ≤ i → n ≤ m → Front (tab (word_in x) m) w₀ w i → octets_in n w ≡ x
  front_words n m w₀ w i l h k f = octets-words n w l (λ q b. f.done q (omega arith) ∙ get_or-tab (word_in x) m q (omega arith))
