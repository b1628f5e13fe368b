-- 7.2.3 of the standard: the first rows of its table.
use mathlib.Core.Path.{◌≡◌, refl}
use mathlib.Core.List.{List, [], ◌∷◌, ◌++◌}
use Prim.Native.Nat.{ℕ}
use Rattle.octets.specs.Lists.{iterate}
use Rattle.octets.specs.Bits.{octet, octets_from}
use Rattle.generator.specs.Generator.{filled, announced, shifted, next_vector, aes_vector}

-- ABCDEF12 34567890
abbrev pub seed : List ℕ
seed = 0xAB ∷ 0xCD ∷ 0xEF ∷ 0x12 ∷ 0x34 ∷ 0x56 ∷ 0x78 ∷ 0x90 ∷ []

-- 8B8DDEEB 890F4CF1
abbrev pub second : List ℕ
second = 0x8B ∷ 0x8D ∷ 0xDE ∷ 0xEB ∷ 0x89 ∷ 0x0F ∷ 0x4C ∷ 0xF1 ∷ []

-- C83AB207 3A8D80E8
abbrev pub third : List ℕ
third = 0xC8 ∷ 0x3A ∷ 0xB2 ∷ 0x07 ∷ 0x3A ∷ 0x8D ∷ 0x80 ∷ 0xE8 ∷ []

pub example_second : next_vector seed ≡ second
unfolding next_vector announced iterate shifted filled octets_from octet
example_second = refl

pub example_third : next_vector second ≡ third
unfolding next_vector announced iterate shifted filled octets_from octet
example_third = refl

pub example_aes : aes_vector seed ≡ seed ++ second
unfolding aes_vector next_vector announced iterate shifted filled octets_from octet
example_aes = refl
