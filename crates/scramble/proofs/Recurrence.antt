-- P (n + 15) = P (n + 1) xor P n.
use mathlib.Core.Path.{◌≡◌, sym, ap, ◌∙◌}
use mathlib.Core.List.{List}
use Prim.Native.Nat.{ℕ, ◌+◌, ◌*◌, ◌/◌, ◌%◌, ◌^◌, ◌<◌}
use native.Mathlib.Omega.{arith}
use Rattle.octets.specs.Lists.{iterate}
use Rattle.octets.specs.Bits.{flip}
use Rattle.octets.proofs.ListLaws.{iterate_add}
use Rattle.scramble.specs.Sequence.{key_number, stepped, P}
use Rattle.scramble.proofs.Register.{key_lt, register_lt, out-bit}

pub P-bit : (key : List ℕ) (n : ℕ) → P key n < 2
unfolding P
P-bit key n = omega arith

-- k places on, by the register
on : (key : List ℕ) (n k : ℕ) → P key (n + k) ≡ iterate stepped k (iterate stepped n (key_number key)) % 2
unfolding P
on key n k =
    let e : n + k ≡ k + n = omega arith in
    ap (λ (z : ℕ). iterate stepped z (key_number key) % 2) e ∙ ap (λ (z : ℕ). z % 2) (sym (iterate_add stepped k n (key_number key)))

top : (x f : ℕ) → x < 2 ^ 14 → f < 2 → (x + 2 ^ 14 * f) / 2 ^ 14 % 2 ≡ f
top x f h l = omega arith

fed : (r : ℕ) → r < 2 ^ 15 → iterate stepped 1 r / 2 ^ 14 % 2 ≡ flip (r / 2 % 2) (r % 2)
unfolding stepped iterate
fed r h = top (r / 2) (flip (r / 2 % 2) (r % 2)) (omega arith) (omega arith)

pub recurrence : (key : List ℕ) (n : ℕ) → P key (n + 15) ≡ flip (P key (n + 1)) (P key n)
unfolding P
recurrence key n =
    let r : ℕ = iterate stepped n (key_number key) in
    on key n 15
    ∙ ap (λ (z : ℕ). z % 2) (sym (iterate_add stepped 14 1 r))
    ∙ out-bit 14 (iterate stepped 1 r) (omega arith)
    ∙ fed r (register_lt n (key_number key) (key_lt key))
    ∙ ap (λ (z : ℕ). flip z (r % 2)) (sym (on key n 1 ∙ out-bit 1 r (omega arith)))
