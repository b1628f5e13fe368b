-- The two engines of DES, and the keystream with DES by an engine.
use Rattle.std.specs.Prelude.{List, ℕ}
use Rattle.des.specs.Des.{des}
use Rattle.joineddes.specs.Joined.{joined_des}
use Rattle.aes.specs.Cipher.{aes}
use Rattle.generator.specs.Generator.{aes_vector}
use Rattle.scramble.specs.Sequence.{P}
use Rattle.sizes.specs.Ciphers.{by_cipher, block_bits}
use Rattle.ciphers.specs.Keystream.{feedback}

pub data DesEngine : Type 0 where
  Plain Joined : DesEngine

-- what each makes of a key and a block: the plain one goes by the standard's steps, the other by tables that join the selection functions and P
abbrev pub des_by : DesEngine → List ℕ → List ℕ → List ℕ
des_by Plain = des
des_by Joined = joined_des

-- bit n of a session, with DES by whatever makes a block of a key and a block
unfoldable pub stream_by : (List ℕ → List ℕ → List ℕ) → ℕ → List ℕ → List ℕ → ℕ → ℕ
stream_by by c key vector n =
    by_cipher c (P key n) (feedback (by key) (block_bits 2) vector n) (feedback (aes key) (block_bits 3) (aes_vector vector) n) 0
