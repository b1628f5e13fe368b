-- The register's stages are bits, which shifts move up; the vectors are octets: eight for a session, sixteen for AES.
use mathlib.Core.Path.{◌≡◌, ◌∙◌}
use mathlib.Core.List.{List}
use Prim.Native.Nat.{ℕ, zero, suc, ◌+◌, ◌-◌}
use native.Mathlib.Nat.{add-zero, add-suc}
use native.Mathlib.Omega.{arith}
use lib.ListN.{length, length-append}
use Rattle.octets.specs.Lists.{iterate}
use Rattle.octets.specs.Bits.{Bits, Octets}
use Rattle.octets.proofs.BitLaws.{bit_lt, length-octets_from, octets-octets_from, octets_append}
use Rattle.generator.specs.Generator.{IsVector, filled, announced, shifted, next_vector, aes_vector}

pub bits-filled : (s : List ℕ) → Bits (filled s)
unfolding filled
bits-filled s i = bit_lt s (63 - i)

pub bits-iterate : (n : ℕ) (b : ℕ → ℕ) → Bits b → Bits (iterate shifted n b)
unfolding iterate shifted
bits-iterate zero b h i = h i
bits-iterate (suc n) b h zero = omega arith
bits-iterate (suc n) b h (suc i) = bits-iterate n b h i

-- k shifts on, a bit stands k stages higher
pub moved : (b : ℕ → ℕ) (k n i : ℕ) → iterate shifted (n + k) b (i + k) ≡ iterate shifted n b i
unfolding iterate shifted
moved b zero n i = rw (add-zero n, add-zero i)
moved b (suc k) n i = rw (add-suc n k, add-suc i k) (moved b k n i)

pub length-announced : (b : ℕ → ℕ) → length (announced b) ≡ 8
unfolding announced
length-announced b = length-octets_from 8 (λ k. b (63 - k))

pub octets-announced : (b : ℕ → ℕ) → Bits b → Octets (announced b)
unfolding announced
octets-announced b h = octets-octets_from 8 (λ k. b (63 - k)) (λ k. h (63 - k))

module _ (s : List ℕ) where
  pub next-is-vector : IsVector (next_vector s)
  unfolding next_vector
  next-is-vector =
      let register = iterate shifted 64 (filled s) in
      record { long = length-announced register; octets = octets-announced register (bits-iterate 64 (filled s) (bits-filled s)) }

  pub length-aes_vector : length s ≡ 8 → length (aes_vector s) ≡ 16
  unfolding aes_vector
  length-aes_vector h = length-append s (next_vector s) ∙ omega (arith, next-is-vector.long)

  pub octets-aes_vector : Octets s → Octets (aes_vector s)
  unfolding aes_vector
  octets-aes_vector h = octets_append s (next_vector s) h next-is-vector.octets
