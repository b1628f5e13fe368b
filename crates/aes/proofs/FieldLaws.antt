-- Laws of the field: what `aes::xtime` computes, {02} and {03} times an octet, the inverse, and that all of these are octets. What is said
-- of each octet is a test at all 256, which antt computes.
use mathlib.Core.Path.{◌≡◌, refl, ap}
use mathlib.Core.Bool.{true}
use mathlib.Core.List.{List}
use Prim.Native.Nat.{ℕ, zero, suc, ◌*◌, ◌/◌, ◌%◌, ◌<◌, min}
use native.Mathlib.Omega.{arith}
use lib.Bits.{bit_xor, xor_lt, xor_zero_r}
use lib.Dec.{eqb, ltb}
use lib.ListN.{length, get_or}
use borrow.Author.Tests.{ltb-true}
use Rattle.octets.specs.Tests.{all_below}
use Rattle.octets.proofs.TestLaws.{agree, all-at}
use Rattle.aes.specs.Field.{reduce, xtime, digit, mul_bits, mul, squares, inverse, around, affine, sbox_of}
use Rattle.aes.specs.Prepared.{IsSbox}

-- the double with no branch
pub xtime-is : (b : ℕ) → b < 256 → bit_xor (b * 2 % 256) (b / 128 * 27) ≡ xtime b
unfolding all_below xtime reduce
xtime-is = agree (λ (b : ℕ). bit_xor (b * 2 % 256) (b / 128 * 27)) xtime 256 refl

pub mul-two : (a : ℕ) → mul a 2 ≡ xtime a
unfolding mul mul_bits digit
mul-two a = xor_zero_r (xtime a)

pub mul-three : (a : ℕ) → mul a 3 ≡ bit_xor a (xtime a)
unfolding mul mul_bits digit
mul-three a = ap (bit_xor a) (xor_zero_r (xtime a))

-- `inverse` is the field's: the product is {01}, and {00} at {00}
pub inverse-is : (x : ℕ) → x < 256 → mul x (inverse x) ≡ min x 1
unfolding all_below inverse squares mul mul_bits digit xtime reduce
inverse-is = agree (λ x. mul x (inverse x)) (λ x. min x 1) 256 refl

-- a function whose value at each octet is one, by the test
octet-at : (f : ℕ → ℕ) → all_below (λ x. ltb (f x) 256) 256 ≡ true → (b : ℕ) → b < 256 → f b < 256
octet-at f t b h = ltb-true (f b) 256 (all-at (λ x. ltb (f x) 256) 256 b h t)

pub xtime_lt : (b : ℕ) → b < 256 → xtime b < 256
unfolding all_below xtime reduce
xtime_lt = octet-at xtime refl

digit_lt : (n a : ℕ) → a < 256 → digit n a < 256
unfolding digit
digit_lt zero a h = omega arith
digit_lt (suc n) a h = h

mul_bits_lt : (n a b : ℕ) → a < 256 → mul_bits n a b < 256
unfolding mul_bits
mul_bits_lt zero a b h = omega arith
mul_bits_lt (suc n) a b h = xor_lt 8 (digit (b % 2) a) (mul_bits n (xtime a) (b / 2)) (digit_lt (b % 2) a h) (mul_bits_lt n (xtime a) (b / 2) (xtime_lt a h))

pub mul_lt : (a b : ℕ) → a < 256 → mul a b < 256
unfolding mul
mul_lt a b h = mul_bits_lt 8 a b h

inverse_lt : (b : ℕ) → b < 256 → inverse b < 256
unfolding inverse squares
inverse_lt b h = mul_lt (mul b b) _ (mul_lt b b h)

affine_lt : (b : ℕ) → b < 256 → affine b < 256
unfolding all_below affine around
affine_lt = octet-at affine refl

pub sbox_lt : (b : ℕ) → b < 256 → sbox_of b < 256
unfolding sbox_of
sbox_lt b h = affine_lt (inverse b) (inverse_lt b h)

-- a table that passes the test at all of its entries
pub is_sbox : (t : List ℕ) → length t ≡ 256 → all_below (λ x. eqb (get_or t x 0) (sbox_of x)) 256 ≡ true → IsSbox t
is_sbox t l e = record { size = l; rule = agree (λ x. get_or t x 0) sbox_of 256 e }
