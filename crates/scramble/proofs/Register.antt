-- The register: its bits come out lowest first.
use mathlib.Core.Path.{◌≡◌, sym, ap, ◌∙◌}
use mathlib.Core.List.{List}
use Prim.Native.Nat.{ℕ, zero, suc, ◌+◌, ◌*◌, ◌/◌, ◌%◌, ◌^◌, ◌<◌}
use native.Mathlib.Omega.{arith}
use lib.Pow.{shr-shr}
use Rattle.octets.specs.Lists.{iterate}
use Rattle.octets.specs.Bits.{flip}
use Rattle.octets.proofs.ListLaws.{iterate_add}
use Rattle.octets.proofs.BitLaws.{same_low}
use Rattle.scramble.specs.Sequence.{key_number, stepped}

pub key_lt : (key : List ℕ) → key_number key < 2 ^ 15
unfolding key_number
key_lt key = omega arith

stepped_lt : (r : ℕ) → r < 2 ^ 15 → stepped r < 2 ^ 15
unfolding stepped
stepped_lt r h = omega arith

pub register_lt : (n r : ℕ) → r < 2 ^ 15 → iterate stepped n r < 2 ^ 15
unfolding iterate
register_lt zero r h = h
register_lt (suc n) r h = stepped_lt (iterate stepped n r) (register_lt n r h)

stepped-bit : (r k : ℕ) → k < 14 → stepped r / 2 ^ k % 2 ≡ r / 2 ^ suc k % 2
unfolding stepped
stepped-bit r k h =
    let e : 1 + k ≡ suc k = omega arith in
    same_low 14 (r / 2 + 2 ^ 14 * flip (r / 2 % 2) (r % 2)) (r / 2) k h (omega arith)
    ∙ ap (λ (z : ℕ). z % 2) (shr-shr r 1 k)
    ∙ ap (λ (z : ℕ). r / 2 ^ z % 2) e

pub out-bit : (k r : ℕ) → k < 15 → iterate stepped k r % 2 ≡ r / 2 ^ k % 2
unfolding iterate
out-bit zero r h = omega arith
out-bit (suc k) r h =
    let e : k + 1 ≡ suc k = omega arith in
    ap (λ (z : ℕ). iterate stepped z r % 2) (sym e)
    ∙ ap (λ (z : ℕ). z % 2) (sym (iterate_add stepped k 1 r))
    ∙ out-bit k (stepped r) (omega arith)
    ∙ stepped-bit r k (omega arith)
