-- Lists of bits: what is made of bits is bits, how long it is, and what stands at a place.
use mathlib.Core.Path.{◌≡◌, refl, sym, ◌∙◌}
use mathlib.Core.List.{List, [], ◌∷◌, ◌++◌, map-append}
use Prim.Native.Nat.{ℕ, zero, suc, ◌+◌, ◌-◌, ◌*◌, ◌/◌, ◌%◌, ◌^◌, ◌<◌}
use native.Mathlib.Nat.{le_of_suc-le-suc, not-suc-le-zero}
use native.Mathlib.Decide.{dec_lt}
use native.Mathlib.Omega.{arith}
use lib.Bits.{bit_xor}
use lib.ListN.{length, get_or, take, drop, length-map, get_or-eq_default}
use lib.Seq.{get_or-drop, ext_get_or}
use Rattle.octets.specs.Lists.{tab}
use Rattle.octets.specs.Bits.{bit, flip, Bits}
use Rattle.octets.proofs.ListLaws.{length-tab, get_or-tab}
use Rattle.octets.proofs.BitLaws.{bit_lt, flip_lt}
use Rattle.des.specs.Des.{permuted, xor_bits, box_place, substituted, cipher_f}
use Rattle.des.specs.Tables.{table_s, table_p}

-- each element is a bit
abbrev pub BitList : List ℕ → Type 0
BitList l = Bits (λ k. get_or l k 0)

pub bits_cons : (x : ℕ) (l : List ℕ) → x < 2 → BitList l → BitList (x ∷ l)
bits_cons x l h b zero = h
bits_cons x l h b (suc k) = b k

pub bits-tab : (f : ℕ → ℕ) (n : ℕ) → Bits f → BitList (tab f n)
bits-tab f n b k = go (dec_lt k n)
  where
    go : Dec (k < n) → get_or (tab f n) k 0 < 2
    go (yes h) = rw (get_or-tab f n k h) (b k)
    go (no h) = let e = get_or-eq_default (tab f n) 0 {n = k} (omega (arith, length-tab f n)) in omega arith

pub bits_of : (xs : List ℕ) (n : ℕ) → BitList (tab (bit xs) n)
bits_of xs n = bits-tab (bit xs) n (bit_lt xs)

pub bits_append : (a b : List ℕ) → BitList a → BitList b → BitList (a ++ b)
bits_append [] b ha hb = hb
bits_append (x ∷ a) b ha hb = bits_cons x (a ++ b) (ha 0) (bits_append a b (λ k. ha (suc k)) hb)

pub bits-drop : (n : ℕ) (l : List ℕ) → BitList l → BitList (drop n l)
bits-drop n l b k = rw (get_or-drop n l k 0) (b (n + k))

pub bits-take : (n : ℕ) (l : List ℕ) → BitList l → BitList (take n l)
bits-take zero l b k = omega arith
bits-take (suc n) [] b k = b k
bits-take (suc n) (x ∷ l) b k = bits_cons x (take n l) (b 0) (bits-take n l (λ j. b (suc j))) k

-- permuted
pub length-permuted : (t l : List ℕ) → length (permuted t l) ≡ length t
unfolding permuted
length-permuted t l = length-map t (λ (k : ℕ). get_or l (k - 1) 0)

pub get_or-permuted : (t l : List ℕ) (i : ℕ) → i < length t → get_or (permuted t l) i 0 ≡ get_or l (get_or t i 0 - 1) 0
unfolding permuted
get_or-permuted [] l i h = absurd (not-suc-le-zero h)
get_or-permuted (x ∷ t) l zero h = refl
get_or-permuted (x ∷ t) l (suc i) h = get_or-permuted t l i (le_of_suc-le-suc h)

pub bits-permuted : (t l : List ℕ) → BitList l → BitList (permuted t l)
unfolding permuted
bits-permuted [] l b k = omega arith
bits-permuted (x ∷ t) l b k = bits_cons _ (permuted t l) (b (x - 1)) (bits-permuted t l b) k

pub permuted_append : (t u l : List ℕ) → permuted (t ++ u) l ≡ permuted t l ++ permuted u l
unfolding permuted
permuted_append t u l = map-append (λ (k : ℕ). get_or l (k - 1) 0) t u

pub permuted_same : (t a b : List ℕ) → ((i : ℕ) → i < length t → get_or a (get_or t i 0 - 1) 0 ≡ get_or b (get_or t i 0 - 1) 0) → permuted t a ≡ permuted t b
permuted_same t a b same =
    ext_get_or 0 (permuted t a) (permuted t b) (length-permuted t a ∙ sym (length-permuted t b))
    (λ i h.
    let inside : i < length t = omega (arith, length-permuted t a) in
    get_or-permuted t a i inside ∙ same i inside ∙ sym (get_or-permuted t b i inside))

-- added
pub length_xor : (a b : List ℕ) → length (xor_bits a b) ≡ length a
unfolding xor_bits
length_xor a b = length-tab _ (length a)

pub xor_flip : (a b : ℕ) → a < 2 → b < 2 → bit_xor a b ≡ flip a b
xor_flip zero zero ha hb = refl
xor_flip zero (suc zero) ha hb = refl
xor_flip zero (suc (suc b)) ha hb = absurd (omega arith)
xor_flip (suc zero) zero ha hb = refl
xor_flip (suc zero) (suc zero) ha hb = refl
xor_flip (suc zero) (suc (suc b)) ha hb = absurd (omega arith)
xor_flip (suc (suc a)) b ha hb = absurd (omega arith)

pub get_or-xor : (a b : List ℕ) → BitList a → BitList b → (i : ℕ) → i < length a → bit_xor (get_or a i 0) (get_or b i 0) ≡ get_or (xor_bits a b) i 0
unfolding xor_bits
get_or-xor a b ha hb i h = xor_flip _ _ (ha i) (hb i) ∙ sym (get_or-tab (λ i. flip (get_or a i 0) (get_or b i 0)) (length a) i h)

pub bits_xor : (a b : List ℕ) → BitList (xor_bits a b)
unfolding xor_bits
bits_xor a b = bits-tab _ (length a) (λ i. flip_lt (get_or a i 0) (get_or b i 0))

-- selected
pub length-substituted : (b : List ℕ) → length (substituted b) ≡ 32
unfolding substituted
length-substituted b = length-tab _ 32

pub get_or-substituted : (b : List ℕ) (v i r : ℕ) → i < 8 → r < 4 → v ≡ get_or table_s (box_place b i) 0 → v / 2 ^ (3 - r) % 2 ≡ get_or (substituted b) (4 * i + r) 0
unfolding substituted
get_or-substituted b v i r h s e =
    let q : (4 * i + r) / 4 ≡ i = omega arith in
    let m : (4 * i + r) % 4 ≡ r = omega arith in
    sym (get_or-tab (λ k. get_or table_s (box_place b (k / 4)) 0 / 2 ^ (3 - k % 4) % 2) 32 (4 * i + r) (omega arith) ∙ rw (q, m, e))

pub bits-substituted : (b : List ℕ) → BitList (substituted b)
unfolding substituted
bits-substituted b = bits-tab _ 32 (λ k. omega arith)

pub bits-cipher_f : (r k : List ℕ) → BitList (cipher_f r k)
unfolding cipher_f
bits-cipher_f r k = bits-permuted table_p _ (bits-substituted _)
