-- FIPS 197's worked examples, two blocks of output feedback, and zeros enciphered.
use mathlib.Core.Path.{◌≡◌, refl, ap, ◌∙◌}
use mathlib.Core.List.{List, [], ◌∷◌}
use Prim.Native.Nat.{ℕ}
use lib.ListN.{replicate}
use Rattle.octets.specs.Lists.{tab}
use Rattle.octets.specs.Bits.{bit}
use Rattle.aes.specs.Field.{reduce, xtime, digit, mul_bits, mul, squares, inverse, around, affine, sbox_of}
use Rattle.aes.specs.Cipher.{word, xors, sub_bytes, shift_rows, mixed, mix_columns, add_round_key, rounds, cipher, rot_word, sub_word, rcon_of, temp, next_word, expanded, key_expansion, aes}

-- 4.2: {57} • {13} = {fe}
product : mul 0x57 0x13 ≡ 0xfe
unfolding mul mul_bits digit xtime reduce
product = refl

-- 5.1.1: {53} goes to {ed}
box : sbox_of 0x53 ≡ 0xed
unfolding sbox_of affine inverse squares mul mul_bits digit xtime reduce around
box = refl

abbrev pub key : List ℕ
key =
    0x00 ∷ 0x01 ∷ 0x02 ∷ 0x03 ∷ 0x04 ∷ 0x05 ∷ 0x06 ∷ 0x07 ∷ 0x08 ∷ 0x09 ∷ 0x0a ∷ 0x0b ∷ 0x0c ∷ 0x0d ∷ 0x0e ∷ 0x0f
    ∷ 0x10 ∷ 0x11 ∷ 0x12 ∷ 0x13 ∷ 0x14 ∷ 0x15 ∷ 0x16 ∷ 0x17 ∷ 0x18 ∷ 0x19 ∷ 0x1a ∷ 0x1b ∷ 0x1c ∷ 0x1d ∷ 0x1e ∷ 0x1f ∷ []

block : List ℕ
block = 0x00 ∷ 0x11 ∷ 0x22 ∷ 0x33 ∷ 0x44 ∷ 0x55 ∷ 0x66 ∷ 0x77 ∷ 0x88 ∷ 0x99 ∷ 0xaa ∷ 0xbb ∷ 0xcc ∷ 0xdd ∷ 0xee ∷ 0xff ∷ []

-- C.3: AES-256
enciphered : aes key block
    ≡ 0x8e ∷ 0xa2 ∷ 0xb7 ∷ 0xca ∷ 0x51 ∷ 0x67 ∷ 0x45 ∷ 0xbf ∷ 0xea ∷ 0xfc ∷ 0x49 ∷ 0x90 ∷ 0x4b ∷ 0x49 ∷ 0x60 ∷ 0x89 ∷ []
unfolding block sbox_of affine inverse squares mul mul_bits digit xtime reduce around tab sub_bytes shift_rows mix_columns mixed add_round_key rounds expanded next_word temp xors word rot_word sub_word rcon_of cipher key_expansion aes
enciphered = refl

-- the second block from each of two others, by the first: that is, of the session of 001's first vector, and of its second one's (7.2.3), the first that is used
abbrev pub session_one : List ℕ
session_one = 0xab ∷ 0xcd ∷ 0xef ∷ 0x12 ∷ 0x34 ∷ 0x56 ∷ 0x78 ∷ 0x90 ∷ 0x8b ∷ 0x8d ∷ 0xde ∷ 0xeb ∷ 0x89 ∷ 0x0f ∷ 0x4c ∷ 0xf1 ∷ []

abbrev pub session_two : List ℕ
session_two = 0x8b ∷ 0x8d ∷ 0xde ∷ 0xeb ∷ 0x89 ∷ 0x0f ∷ 0x4c ∷ 0xf1 ∷ 0xc8 ∷ 0x3a ∷ 0xb2 ∷ 0x07 ∷ 0x3a ∷ 0x8d ∷ 0x80 ∷ 0xe8 ∷ []

abbrev first_one : List ℕ
first_one = 0x32 ∷ 0xbf ∷ 0x16 ∷ 0x52 ∷ 0x48 ∷ 0xf9 ∷ 0x34 ∷ 0xef ∷ 0xc9 ∷ 0x65 ∷ 0x0b ∷ 0x90 ∷ 0x05 ∷ 0xab ∷ 0x4b ∷ 0xe7 ∷ []

abbrev first_two : List ℕ
first_two = 0x7f ∷ 0xe8 ∷ 0x17 ∷ 0x91 ∷ 0x42 ∷ 0xda ∷ 0x24 ∷ 0x8d ∷ 0xf7 ∷ 0x8f ∷ 0x4d ∷ 0x7b ∷ 0xcc ∷ 0x73 ∷ 0xe5 ∷ 0xa4 ∷ []

blocks : (aes key session_one ≡ first_one) × (aes key session_two ≡ first_two) × (bit (aes key first_one) 2 ≡ 1) × (bit (aes key first_two) 2 ≡ 0)
unfolding sbox_of affine inverse squares mul mul_bits digit xtime reduce around tab sub_bytes shift_rows mix_columns mixed add_round_key rounds expanded next_word temp xors word rot_word sub_word rcon_of cipher key_expansion aes
blocks = (refl, refl, refl, refl)

-- they differ in their third bit
pub sessions-differ : (bit (aes key (aes key session_one)) 2 ≡ 1) × (bit (aes key (aes key session_two)) 2 ≡ 0)
sessions-differ = (
  ap (λ (x : List ℕ). bit (aes key x) 2) blocks.0 ∙ blocks.2,
  ap (λ (x : List ℕ). bit (aes key x) 2) blocks.1 ∙ blocks.3,
)

-- zeros enciphered: bit 1 is 1
pub zeros : bit (aes key (replicate 16 0)) 1 ≡ 1
unfolding sbox_of affine inverse squares mul mul_bits digit xtime reduce around tab sub_bytes shift_rows mix_columns mixed add_round_key rounds expanded next_word temp xors word rot_word sub_word rcon_of cipher key_expansion aes
zeros = refl
