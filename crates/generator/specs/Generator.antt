-- The vector generator (001, 5.3.2.2, 5.3.3.2 and figure 5.4-1): a register of 64 stages, b63 to b0. A register is a function from a
-- stage's number to its bit.
use Rattle.std.specs.Prelude.{◌≡◌, List, ◌++◌, ℕ, zero, suc, ◌+◌, ◌-◌, ◌%◌, length}
use Rattle.octets.specs.Lists.{iterate}
use Rattle.octets.specs.Bits.{bit, octets_from, Octets}

-- a vector, as it is announced: eight octets
pub record IsVector (v : List ℕ) : Type 0 where
  pub long : length v ≡ 8
  pub octets : Octets v

-- the register that holds announced octets: b63 comes first
unfoldable pub filled : List ℕ → ℕ → ℕ
filled octets i = bit octets (63 - i)

-- the octets that announce a register
unfoldable pub announced : (ℕ → ℕ) → List ℕ
announced b = octets_from 8 (λ k. b (63 - k))

-- one shift: each bit moves up one place, b63 drops out, and the exclusive or of six stages is fed to b0
unfoldable pub shifted : (ℕ → ℕ) → ℕ → ℕ
shifted b zero = (b 63 + b 61 + b 45 + b 37 + b 26 + b 14) % 2
shifted b (suc i) = b i

-- L(S), the next session's vector: the register after 64 shifts from S
unfoldable pub next_vector : List ℕ → List ℕ
next_vector s = announced (iterate shifted 64 (filled s))

-- the AES input vector: S, then L(S)
unfoldable pub aes_vector : List ℕ → List ℕ
aes_vector s = s ++ next_vector s
