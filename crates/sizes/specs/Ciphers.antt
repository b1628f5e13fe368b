-- The cipher types, 1 scramble, 2 DES and 3 AES, and the sizes that belong to each (document 01, "Ciphers and keys").
use Rattle.std.specs.Prelude.{Bool, List, ℕ, eqb, replicate}
use Rattle.octets.specs.Tests.{pick}

module _ {ℓ} {A : Type ℓ} where
  -- what belongs to a cipher type: scramble's, DES's or AES's, and the last for a number that is none
  abbrev pub by_cipher : ℕ → A → A → A → A → A
  by_cipher c scramble des aes none = pick (eqb c 1) scramble (pick (eqb c 2) des (pick (eqb c 3) aes none))

abbrev pub key_octets : ℕ → ℕ
key_octets c = by_cipher c 2 8 32 0

-- the room for a key of any cipher
abbrev pub key_room : ℕ
key_room = 32

-- DES and AES are block ciphers, scramble is none
abbrev pub block_bits : ℕ → ℕ
block_bits c = by_cipher c 0 64 128 0

abbrev pub session_slots : ℕ → ℕ
session_slots c = by_cipher c 4 8 8 0

-- a session is one superframe, or two
abbrev pub superframe_slots : ℕ
superframe_slots = 4

-- ---- vectors

-- scramble needs none
abbrev pub scrambles : ℕ → Bool
scrambles c = eqb c 1

-- the octets of one that is announced (001, 5.3.2.1 and 5.3.3.1)
abbrev pub vector_octets : ℕ
vector_octets = 8

-- what stands for one that is unknown, or that scramble does not have
abbrev pub no_vector : List ℕ
no_vector = replicate vector_octets 0
