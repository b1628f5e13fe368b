-- FIPS 197, sections 4.2 and 5.1.1: octets as elements of GF(2^8), and the S-box's rule. An octet is a number below 256, whose bit i has the
-- weight 2^i; the sum of two elements is their exclusive or, bit_xor.
use Rattle.std.specs.Prelude.{Bool, true, false, ℕ, zero, suc, ◌+◌, ◌*◌, ◌/◌, ◌%◌, ◌^◌, ◌-◌, ltb}
use Rattle.std.specs.Int.Bits.{bit_xor}

-- 4.2: a double d modulo x^8 + x^4 + x^3 + x + 1, which is {01}{1b}: d where that is an octet already, as the test says, else their sum
unfoldable pub reduce : Bool → ℕ → ℕ
reduce true d = d
reduce false d = bit_xor d 0x11b

-- 4.2: {02} • b, the standard's xtime
unfoldable pub xtime : ℕ → ℕ
xtime b = reduce (ltb b 128) (b * 2)

-- a where the bit is 1, else 0
unfoldable pub digit : ℕ → ℕ → ℕ
digit zero a = 0
digit (suc n) a = a

-- 4.2: the sum of {02}^i • a over those i below n at which b has a 1 for its bit i
unfoldable pub mul_bits : ℕ → ℕ → ℕ → ℕ
mul_bits zero a b = 0
mul_bits (suc n) a b = bit_xor (digit (b % 2) a) (mul_bits n (xtime a) (b / 2))

-- 4.2: a • b
unfoldable pub mul : ℕ → ℕ → ℕ
mul a b = mul_bits 8 a b

-- a • a^2 • a^4 • .., n factors
unfoldable pub squares : ℕ → ℕ → ℕ
squares zero a = 1
squares (suc n) a = mul a (squares n (mul a a))

-- 5.1.1: the multiplicative inverse, and {00} for {00}. It is b^254, that is b^2 • b^4 • .. • b^128; the law `inverse-is`, in
-- proofs/FieldLaws.antt, has that b • inverse b is {01}
unfoldable pub inverse : ℕ → ℕ
inverse b = squares 7 (mul b b)

-- b rotated by k bits: its bit i is b's bit i - k, mod 8
unfoldable pub around : ℕ → ℕ → ℕ
around k b = (b * 2 ^ k) % 256 + b / 2 ^ (8 - k)

-- 5.1.1, the affine transformation: its bit i is the sum of b's bits i, i + 4, i + 5, i + 6 and i + 7, mod 8, and of {63}'s bit i
unfoldable pub affine : ℕ → ℕ
affine b = bit_xor b (bit_xor (around 1 b) (bit_xor (around 2 b) (bit_xor (around 3 b) (bit_xor (around 4 b) 0x63))))

-- 5.1.1: the S-box's value at b
unfoldable pub sbox_of : ℕ → ℕ
sbox_of b = affine (inverse b)
