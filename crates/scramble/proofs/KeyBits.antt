-- P 0 to P 14 are the key's bits, the least significant first.
use mathlib.Core.Path.{◌≡◌, sym, ap, ◌∙◌}
use mathlib.Core.List.{List}
use Prim.Native.Nat.{ℕ, ◌+◌, ◌-◌, ◌*◌, ◌/◌, ◌%◌, ◌^◌, ◌<◌}
use native.Mathlib.Decide.{dec_lt}
use native.Mathlib.Omega.{arith}
use lib.ListN.{get_or}
use lib.Pow.{shr-shr}
use Rattle.octets.specs.Bits.{bit, Octets}
use Rattle.octets.proofs.BitLaws.{bit_at, same_low}
use Rattle.scramble.specs.Sequence.{key_number, P}
use Rattle.scramble.proofs.Register.{out-bit}

pub P-key : (key : List ℕ) (n : ℕ) → n < 15 → P key n ≡ key_number key / 2 ^ n % 2
unfolding P
P-key key n h = out-bit n (key_number key) h

pub key-bits : (key : List ℕ) (n : ℕ) → Octets key → n < 15 → P key n ≡ bit key (15 - n)
unfolding key_number
key-bits key n o h = P-key key n h ∙ same_low 15 (key_number key) (256 * a + b) n h (omega arith) ∙ go (dec_lt n 8)
  where
    a : ℕ
    a = get_or key 0 0

    b : ℕ
    b = get_or key 1 0

    go : Dec (n < 8) → (256 * a + b) / 2 ^ n % 2 ≡ bit key (15 - n)
    go (yes l) =
        let e : 8 * 1 + (7 - n) ≡ 15 - n = omega arith in
        let f : 7 - (7 - n) ≡ n = omega arith in
        same_low 8 (256 * a + b) b n l (omega arith)
        ∙ ap (λ (z : ℕ). b / 2 ^ z % 2) (sym f)
        ∙ sym (bit_at key 1 (7 - n) (omega arith))
        ∙ ap (bit key) e
    go (no l) =
        let e : 8 * 0 + (15 - n) ≡ 15 - n = omega arith in
        let f : 8 + (n - 8) ≡ n = omega arith in
        let g : n - 8 ≡ 7 - (15 - n) = omega arith in
        let high : (256 * a + b) / 2 ^ 8 ≡ a = omega (arith, o 1) in
        ap (λ (z : ℕ). (256 * a + b) / 2 ^ z % 2) (sym f)
        ∙ ap (λ (z : ℕ). z % 2) (sym (shr-shr (256 * a + b) 8 (n - 8)))
        ∙ ap (λ (z : ℕ). z / 2 ^ (n - 8) % 2) high
        ∙ ap (λ (z : ℕ). a / 2 ^ z % 2) g
        ∙ sym (bit_at key 0 (15 - n) (omega arith))
        ∙ ap (bit key) e
