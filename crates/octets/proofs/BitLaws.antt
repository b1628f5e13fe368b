-- Laws of bits and octets.
use mathlib.Core.Path.{◌≡◌, refl, sym, ap, ap₂, ◌∙◌}
use mathlib.Core.Bool.{Bool, true, false, ◌&&◌}
use mathlib.Core.List.{List, [], ◌∷◌, ◌++◌}
use Prim.Native.Nat.{ℕ, zero, suc, ◌+◌, ◌-◌, ◌*◌, ◌/◌, ◌%◌, ◌^◌, ◌<◌}
use native.Mathlib.Nat.{add-mod, div-one, div-eq_of_lt, mod-eq_of_lt, div-div-eq-div-mul}
use native.Mathlib.Decide.{dec_lt}
use native.Mathlib.Omega.{arith}
use lib.Bits.{bit_or, bit_xor, differ, or_lt, or_add_and, and_le_l, and_le_r, xor_lt, xor_shr, xor_step}
use lib.Dec.{ltb, eqb}
use lib.Pow.{field, mod-mod-pow}
use lib.ListN.{length, get_or}
use borrow.Author.Tests.{ltb-true, ltb-false, lt-ltb, le-ltb, ne_eqb}
use Rattle.octets.specs.Bits.{bit, flip, octet, octets_from, Bits, Octets}

pub flip-flip : (a b : ℕ) → a < 2 → flip (flip a b) b ≡ a
flip-flip a b h = omega arith

pub flip-zero : (a : ℕ) → a < 2 → flip a 0 ≡ a
flip-zero a h = omega arith

pub flip-between : (x y z : ℕ) → flip (flip x y) (flip y z) ≡ flip x z
flip-between x y z = omega arith

pub flip_cancel : (x y z : ℕ) → y < 2 → z < 2 → flip x y ≡ flip x z → y ≡ z
flip_cancel x y z h l e = omega arith

pub flip_assoc : (a b c : ℕ) → flip a (flip b c) ≡ flip (flip a b) c
flip_assoc a b c = omega arith

pub flip-mixed : (a b c d : ℕ) → flip (flip a b) (flip c d) ≡ flip (flip a c) (flip b d)
flip-mixed a b c d =
    let e : a + b + (c + d) ≡ a + c + (b + d) = omega arith in
    sym (add-mod (a + b) (c + d) 2) ∙ ap (λ (z : ℕ). z % 2) e ∙ add-mod (a + c) (b + d) 2

pub flip_lt : (a b : ℕ) → flip a b < 2
flip_lt a b = omega arith

pub bit_lt : (xs : List ℕ) (n : ℕ) → bit xs n < 2
bit_lt xs n = omega arith

octet-bit : (f : ℕ → ℕ) → Bits f → (k : ℕ) → k < 8 → octet f / 2 ^ (7 - k) % 2 ≡ f k
unfolding octet
octet-bit f h zero l = omega (arith, h 0, h 1, h 2, h 3, h 4, h 5, h 6, h 7)
octet-bit f h (suc zero) l = omega (arith, h 0, h 1, h 2, h 3, h 4, h 5, h 6, h 7)
octet-bit f h (suc (suc zero)) l = omega (arith, h 0, h 1, h 2, h 3, h 4, h 5, h 6, h 7)
octet-bit f h (suc (suc (suc zero))) l = omega (arith, h 0, h 1, h 2, h 3, h 4, h 5, h 6, h 7)
octet-bit f h (suc (suc (suc (suc zero)))) l = omega (arith, h 0, h 1, h 2, h 3, h 4, h 5, h 6, h 7)
octet-bit f h (suc (suc (suc (suc (suc zero))))) l = omega (arith, h 0, h 1, h 2, h 3, h 4, h 5, h 6, h 7)
octet-bit f h (suc (suc (suc (suc (suc (suc zero)))))) l = omega (arith, h 0, h 1, h 2, h 3, h 4, h 5, h 6, h 7)
octet-bit f h (suc (suc (suc (suc (suc (suc (suc zero))))))) l = omega (arith, h 0, h 1, h 2, h 3, h 4, h 5, h 6, h 7)
octet-bit f h (suc (suc (suc (suc (suc (suc (suc (suc k)))))))) l = absurd (omega arith)

octet_lt : (f : ℕ → ℕ) → Bits f → octet f < 256
unfolding octet
octet_lt f h = omega (arith, h 0, h 1, h 2, h 3, h 4, h 5, h 6, h 7)

half_ext : (x y m : ℕ) → x / (m * 2) ≡ y / (m * 2) → x / m % 2 ≡ y / m % 2 → x / m ≡ y / m
half_ext x y m h e =
    let a : x / m / 2 ≡ y / m / 2 = div-div-eq-div-mul x m 2 ∙ h ∙ sym (div-div-eq-div-mul y m 2) in
    omega arith

-- two octets with the same eight bits
pub octet_ext : (x y : ℕ) → x < 256 → y < 256 → ((k : ℕ) → k < 8 → x / 2 ^ (7 - k) % 2 ≡ y / 2 ^ (7 - k) % 2) → x ≡ y
octet_ext x y hx hy e =
    let s = half_ext x y in
    let top : x / 256 ≡ y / 256 = div-eq_of_lt hx ∙ sym (div-eq_of_lt hy) in
    sym (div-one x)
    ∙ s 1 (s 2 (s 4 (s 8 (s 16 (s 32 (s 64 (s 128 top
    (e 0 (omega arith))) (e 1 (omega arith))) (e 2 (omega arith))) (e 3 (omega arith))) (e 4 (omega arith))) (e 5 (omega arith))) (e 6 (omega arith))) (e 7 (omega arith))
    ∙ div-one y

-- an octet is that of its bits
pub octet_of_lem : (x : ℕ) (f : ℕ → ℕ) → x < 256 → Bits f → ((k : ℕ) → k < 8 → x / 2 ^ (7 - k) % 2 ≡ f k) → x ≡ octet f
octet_of_lem x f h b e = octet_ext x (octet f) h (octet_lt f b) (λ k l. e k l ∙ sym (octet-bit f b k l))

pub octet_same : (f g : ℕ → ℕ) → ((k : ℕ) → f k ≡ g k) → octet f ≡ octet g
unfolding octet
octet_same f g e = rw (e 0, e 1, e 2, e 3, e 4, e 5, e 6, e 7)

-- bits of a longer list
bit_head : (x : ℕ) (xs : List ℕ) (k : ℕ) → k < 8 → bit (x ∷ xs) k ≡ x / 2 ^ (7 - k) % 2
bit_head x xs k h = rw (div-eq_of_lt h, mod-eq_of_lt h)

bit_tail : (x : ℕ) (xs : List ℕ) (k : ℕ) → bit (x ∷ xs) (k + 8) ≡ bit xs k
bit_tail x xs k =
    let q : (k + 8) / 8 ≡ suc (k / 8) = omega arith in
    let r : (k + 8) % 8 ≡ k % 8 = omega arith in
    rw (q, r)

-- the bits of a longer list are f's, if the first octet's and the rest's are
cons_bits : (x : ℕ) (xs : List ℕ) (n : ℕ) (f : ℕ → ℕ) → ((k : ℕ) → k < 8 → x / 2 ^ (7 - k) % 2 ≡ f k) → ((j : ℕ) → j < 8 * n → bit xs j ≡ f (j + 8))
    → (k : ℕ) → k < 8 * suc n → bit (x ∷ xs) k ≡ f k
cons_bits x xs n f head tail k l = go (dec_lt k 8)
  where
    go : Dec (k < 8) → bit (x ∷ xs) k ≡ f k
    go (yes a) = bit_head x xs k a ∙ head k a
    go (no a) =
        let e : k ≡ k - 8 + 8 = omega arith in
        rw e (bit_tail x xs (k - 8) ∙ tail (k - 8) (omega arith))

-- the octets of f have f's bits
pub bit-octets_from : (n : ℕ) (f : ℕ → ℕ) → Bits f → (k : ℕ) → k < 8 * n → bit (octets_from n f) k ≡ f k
unfolding octets_from
bit-octets_from zero f h k l = absurd (omega arith)
bit-octets_from (suc n) f h k l =
    cons_bits (octet f) (octets_from n (λ i. f (i + 8))) n f (octet-bit f h) (bit-octets_from n (λ i. f (i + 8)) (λ i. h (i + 8))) k l

-- the octets of functions that agree
pub octets_from_same : (n : ℕ) (f g : ℕ → ℕ) → ((k : ℕ) → f k ≡ g k) → octets_from n f ≡ octets_from n g
unfolding octets_from
octets_from_same zero f g e = refl
octets_from_same (suc n) f g e = ap₂ ◌∷◌ (octet_same f g e) (octets_from_same n (λ k. f (k + 8)) (λ k. g (k + 8)) (λ k. e (k + 8)))

-- octet i of the octets of f
pub get_or-octets_from : (n : ℕ) (f : ℕ → ℕ) (i : ℕ) → i < n → get_or (octets_from n f) i 0 ≡ octet (λ k. f (8 * i + k))
unfolding octets_from
get_or-octets_from zero f i h = absurd (omega arith)
get_or-octets_from (suc n) f zero h = octet_same f (λ k. f (8 * 0 + k)) (λ k. ap f (omega arith))
get_or-octets_from (suc n) f (suc i) h =
    get_or-octets_from n (λ k. f (k + 8)) i (omega arith)
    ∙ octet_same (λ k. f (8 * i + k + 8)) (λ k. f (8 * suc i + k)) (λ k. let e : 8 * i + k + 8 ≡ 8 * suc i + k = omega arith in ap f e)

pub length-octets_from : (n : ℕ) (f : ℕ → ℕ) → length (octets_from n f) ≡ n
unfolding octets_from
length-octets_from zero f = refl
length-octets_from (suc n) f = ap suc (length-octets_from n (λ i. f (i + 8)))

pub octets-octets_from : (n : ℕ) (f : ℕ → ℕ) → Bits f → Octets (octets_from n f)
unfolding octets_from
octets-octets_from zero f h i = omega arith
octets-octets_from (suc n) f h zero = octet_lt f h
octets-octets_from (suc n) f h (suc i) = octets-octets_from n (λ i. f (i + 8)) (λ i. h (i + 8)) i

-- octet lists of one length with the same bits are equal
pub octets_ext : (xs ys : List ℕ) → Octets xs → Octets ys → length xs ≡ length ys → ((k : ℕ) → k < 8 * length xs → bit xs k ≡ bit ys k) → xs ≡ ys
octets_ext [] [] hx hy l e = refl
octets_ext [] (y ∷ ys) hx hy l e = absurd (omega arith)
octets_ext (x ∷ xs) [] hx hy l e = absurd (omega arith)
octets_ext (x ∷ xs) (y ∷ ys) hx hy l e =
    ap₂ ◌∷◌
    (octet_ext x y (hx 0) (hy 0) (λ k h. sym (bit_head x xs k h) ∙ e k (omega arith) ∙ bit_head y ys k h))
    (octets_ext xs ys (λ i. hx (suc i)) (λ i. hy (suc i)) (omega arith) (λ k h. sym (bit_tail x xs k) ∙ e (k + 8) (omega arith) ∙ bit_tail y ys k))

-- bit k of octet i
pub bit_at : (xs : List ℕ) (i k : ℕ) → k < 8 → bit xs (8 * i + k) ≡ get_or xs i 0 / 2 ^ (7 - k) % 2
bit_at xs i k h =
    let q : (8 * i + k) / 8 ≡ i = omega arith in
    let r : (8 * i + k) % 8 ≡ k = omega arith in
    rw (q, r)

-- a bit of a number's w low bits is a bit of the number
pub bit-low : (n w i : ℕ) → i < w → n % 2 ^ w / 2 ^ i % 2 ≡ n / 2 ^ i % 2
bit-low n w i h =
    let e : w - i - 1 + 1 + i ≡ w = omega arith in
    ap (λ (z : ℕ). n % 2 ^ z / 2 ^ i % 2) (sym e)
    ∙ ap (λ (z : ℕ). z % 2) (field n (w - i - 1 + 1) i)
    ∙ mod-mod-pow (n / 2 ^ i) (w - i - 1) 1

-- a bit is decided by the digits up to it
pub same_low : (w x y k : ℕ) → k < w → x % 2 ^ w ≡ y % 2 ^ w → x / 2 ^ k % 2 ≡ y / 2 ^ k % 2
same_low w x y k h e = sym (bit-low x w k h) ∙ ap (λ (z : ℕ). z / 2 ^ k % 2) e ∙ bit-low y w k h

pub octets_append : (xs ys : List ℕ) → Octets xs → Octets ys → Octets (xs ++ ys)
octets_append [] ys hx hy i = hy i
octets_append (x ∷ xs) ys hx hy zero = hx 0
octets_append (x ∷ xs) ys hx hy (suc i) = octets_append xs ys (λ k. hx (suc k)) hy i

differ-flip : (a b : ℕ) → a < 2 → b < 2 → differ a b ≡ (a + b) % 2
differ-flip zero zero h k = refl
differ-flip zero (suc zero) h k = refl
differ-flip zero (suc (suc b)) h k = absurd (omega arith)
differ-flip (suc zero) zero h k = refl
differ-flip (suc zero) (suc zero) h k = refl
differ-flip (suc zero) (suc (suc b)) h k = absurd (omega arith)
differ-flip (suc (suc a)) b h k = absurd (omega arith)

pub xor_low : (a b : ℕ) → bit_xor a b % 2 ≡ flip (a % 2) (b % 2)
xor_low a b =
    let d : differ (a % 2) (b % 2) ≡ (a % 2 + b % 2) % 2 = differ-flip (a % 2) (b % 2) (omega arith) (omega arith) in
    omega (arith, xor_step a b)

-- a bit of an exclusive or
pub xor_bit : (a b k : ℕ) → bit_xor a b / 2 ^ k % 2 ≡ flip (a / 2 ^ k % 2) (b / 2 ^ k % 2)
xor_bit a b k = ap (λ (x : ℕ). x % 2) (xor_shr a b k) ∙ xor_low (a / 2 ^ k) (b / 2 ^ k)

pub xor_assoc : (a b c : ℕ) → a < 256 → b < 256 → c < 256 → bit_xor (bit_xor a b) c ≡ bit_xor a (bit_xor b c)
xor_assoc a b c ha hb hc =
    octet_ext _ _ (xor_lt 8 (bit_xor a b) c (xor_lt 8 a b ha hb) hc) (xor_lt 8 a (bit_xor b c) ha (xor_lt 8 b c hb hc)) (λ k h. same (7 - k))
  where
    same : (k : ℕ) → bit_xor (bit_xor a b) c / 2 ^ k % 2 ≡ bit_xor a (bit_xor b c) / 2 ^ k % 2
    same k =
        xor_bit (bit_xor a b) c k
        ∙ ap (λ (z : ℕ). flip z (c / 2 ^ k % 2)) (xor_bit a b k)
        ∙ sym (flip_assoc (a / 2 ^ k % 2) (b / 2 ^ k % 2) (c / 2 ^ k % 2))
        ∙ ap (flip (a / 2 ^ k % 2)) (sym (xor_bit b c k))
        ∙ sym (xor_bit a (bit_xor b c) k)

-- an or has w bits where both sides have
pub or_below : (w a b : ℕ) → ltb (bit_or a b) (2 ^ w) ≡ (ltb a (2 ^ w) && ltb b (2 ^ w))
or_below w a b = go (ltb a (2 ^ w)) (ltb b (2 ^ w)) refl refl
  where
    go : (s t : Bool) → ltb a (2 ^ w) ≡ s → ltb b (2 ^ w) ≡ t → ltb (bit_or a b) (2 ^ w) ≡ (s && t)
    go true true e f = lt-ltb (bit_or a b) (2 ^ w) (or_lt w a b (ltb-true a (2 ^ w) e) (ltb-true b (2 ^ w) f))
    go true false e f = le-ltb (bit_or a b) (2 ^ w) (omega (arith, ltb-false b (2 ^ w) f, or_add_and a b, and_le_l a b))
    go false t e f = le-ltb (bit_or a b) (2 ^ w) (omega (arith, ltb-false a (2 ^ w) e, or_add_and a b, and_le_r a b))

below_one : (a : ℕ) → ltb a 1 ≡ eqb a 0
below_one zero = refl
below_one (suc a) = le-ltb (suc a) 1 (omega arith) ∙ sym (ne_eqb (suc a) 0 (λ e. omega arith))

-- an or is zero where both sides are
pub or_zero : (a b : ℕ) → eqb (bit_or a b) 0 ≡ (eqb a 0 && eqb b 0)
or_zero a b = sym (below_one (bit_or a b)) ∙ or_below 0 a b ∙ ap₂ ◌&&◌ (below_one a) (below_one b)
