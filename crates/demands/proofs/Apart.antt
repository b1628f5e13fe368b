-- Under the sample keys the sessions of S and of L(S) differ in their first word: at the second bit with DES, at the third with AES.
use mathlib.Core.Path.{◌≡◌, sym, ap, ◌∙◌}
use mathlib.Core.Bool.{false, true≢false}
use mathlib.Core.List.{List, ◌++◌}
use Prim.Native.Nat.{ℕ, ◌≤◌, ◌<◌}
use native.Mathlib.Omega.{arith}
use Rattle.octets.specs.Lists.{iterate}
use Rattle.octets.specs.Bits.{bit, octet, octets_from}
use Rattle.aes.specs.Cipher.{aes}
use Rattle.worked.proofs.DesBlocks as des_blocks
use Rattle.worked.proofs.AesBlocks as aes_blocks
use Rattle.generator.specs.Generator.{next_vector, aes_vector}
use Rattle.generator.proofs.Examples.{second, example_second, example_third}
use Rattle.sizes.specs.Ciphers.{scrambles}
use Rattle.sizes.proofs.Cases.{by_range}
use Rattle.ciphers.specs.Keystream.{used_block, feedback, stream}
use Rattle.openings.specs.Samples.{seed}
use Rattle.demands.proofs.SampleKeys.{key_abcd, key1_f, key_of}

des-apart : (stream 2 key_abcd seed 1 ≡ 0) × (stream 2 key_abcd second 1 ≡ 1)
unfolding stream feedback used_block iterate octet octets_from
des-apart = des_blocks.sessions-differ

aes-apart : (stream 3 key1_f seed 2 ≡ 1) × (stream 3 key1_f second 2 ≡ 0)
unfolding stream feedback used_block iterate aes_vector
aes-apart = (
  ap (λ (v : List ℕ). bit (aes key1_f (aes key1_f (seed ++ v))) 2) example_second ∙ (aes_blocks.sessions-differ).0,
  ap (λ (v : List ℕ). bit (aes key1_f (aes key1_f (second ++ v))) 2) example_third ∙ (aes_blocks.sessions-differ).1,
)

-- a place, in the first word of either rate, at which they differ
pub apart : (c : ℕ) → (1 ≤ c) × (c ≤ 3) → scrambles c ≡ false → (k : ℕ) × (k < 49) × (stream c (key_of c) seed k ≡ stream c (key_of c) (next_vector seed) k → ⊥)
apart =
    by_range (λ c. scrambles c ≡ false → (k : ℕ) × (k < 49) × (stream c (key_of c) seed k ≡ stream c (key_of c) (next_vector seed) k → ⊥)) (λ e. absurd (true≢false e))
    (λ e. (1, omega arith, λ q. let z : ◌≡◌ {A = ℕ} 0 1 = sym des-apart.0 ∙ q ∙ ap (λ (v : List ℕ). stream 2 key_abcd v 1) example_second ∙ des-apart.1 in omega arith))
    (λ e. (2, omega arith, λ q. let z : ◌≡◌ {A = ℕ} 1 0 = sym aes-apart.0 ∙ q ∙ ap (λ (v : List ℕ). stream 3 key1_f v 2) example_second ∙ aes-apart.1 in omega arith))
