-- Two keys, as a call and a packet keep them, and a vector: those of document 01's marked examples.
use Rattle.std.specs.Prelude.{List, [], ◌∷◌, ℕ, replicate}

-- scramble key 0001
abbrev pub scramble0001 : List ℕ
scramble0001 = 0x00 ∷ 0x01 ∷ replicate 30 0

-- DES key ABCDEF0123456789
abbrev pub des_abcd : List ℕ
des_abcd = 0xAB ∷ 0xCD ∷ 0xEF ∷ 0x01 ∷ 0x23 ∷ 0x45 ∷ 0x67 ∷ 0x89 ∷ replicate 24 0

-- ABCDEF1234567890
abbrev pub seed : List ℕ
seed = 0xAB ∷ 0xCD ∷ 0xEF ∷ 0x12 ∷ 0x34 ∷ 0x56 ∷ 0x78 ∷ 0x90 ∷ []
