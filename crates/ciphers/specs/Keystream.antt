-- The keystreams (document 01, "Keystreams"): for each cipher the bits of a session, counted from 0. Voice and data, sending and receiving, are turned by these.
use Rattle.std.specs.Prelude.{List, ℕ, ◌+◌, ◌/◌, ◌%◌}
use Rattle.octets.specs.Lists.{iterate}
use Rattle.octets.specs.Bits.{bit}
use Rattle.des.specs.Des.{des}
use Rattle.aes.specs.Cipher.{aes}
use Rattle.generator.specs.Generator.{aes_vector}
use Rattle.scramble.specs.Sequence.{P}
use Rattle.sizes.specs.Ciphers.{by_cipher, block_bits}

-- Output feedback (001, 5.3.2.1 and 5.3.3.1): the vector is enciphered once and that block is fed back but not used; the next one is the
-- first used, and each further one is the encipherment of the one before. Used block j, counted from 0:
unfoldable pub used_block : (List ℕ → List ℕ) → List ℕ → ℕ → List ℕ
used_block encipher vector j = iterate encipher (j + 2) vector

-- the bits of the used blocks in order, those of a block most significant first
unfoldable pub feedback : (List ℕ → List ℕ) → ℕ → List ℕ → ℕ → ℕ
feedback encipher width vector n = bit (used_block encipher vector (n / width)) (n % width)

-- bit n of a session: scramble takes the sequence P, DES the vector S as its input vector, AES S followed by L(S)
unfoldable pub stream : ℕ → List ℕ → List ℕ → ℕ → ℕ
stream c key vector n =
    by_cipher c (P key n) (feedback (des key) (block_bits 2) vector n) (feedback (aes key) (block_bits 3) (aes_vector vector) n) 0
