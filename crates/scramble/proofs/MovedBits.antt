-- Fifteen bits moved on. Every number of fifteen bits is held by some key at place 0, so what the code makes of the bits of a key it makes of all.
use mathlib.Core.Path.{◌≡◌, sym, ap, ◌∙◌}
use mathlib.Core.List.{List, [], ◌∷◌}
use Prim.Native.Nat.{ℕ, zero, suc, ◌+◌, ◌-◌, ◌*◌, ◌/◌, ◌%◌, ◌^◌, ◌≤◌, ◌<◌}
use native.Mathlib.Nat.{zero-add, add-zero}
use native.Mathlib.Omega.{arith}
use lib.Bits.{bit_xor}
use lib.Pow.{shr-shr}
use Rattle.octets.specs.Lists.{iterate}
use Rattle.octets.specs.Bits.{Bits}
use Rattle.scramble.specs.Sequence.{key_number, P}
use Rattle.scramble.specs.Held.{as_number, held, moved}
use Rattle.scramble.proofs.Recurrence.{P-bit, recurrence}
use Rattle.scramble.proofs.KeyBits.{P-key}
use Rattle.scramble.proofs.AsNumber.{as_number_lt, as_number-first, as_number-moved}
use Rattle.scramble.proofs.HeldBits.{held-later}

moved_lt : (b : ℕ) → moved b < 2 ^ 15
unfolding moved
moved_lt b = omega arith

pub iterate_lt : (k b : ℕ) → b < 2 ^ 15 → iterate moved k b < 2 ^ 15
unfolding iterate
iterate_lt zero b h = h
iterate_lt (suc k) b h = moved_lt (iterate moved k b)

pub held_moved : (key : List ℕ) (n k : ℕ) → iterate moved k (held key n) ≡ held key (n + k)
unfolding iterate held
held_moved key n zero = ap (held key) (sym (add-zero n))
held_moved key n (suc k) =
    let e : n + k + 1 ≡ n + suc k = omega arith in
    ap moved (held_moved key n k) ∙ as_number-moved (P key) (P-bit key) (recurrence key) (n + k) ∙ ap (held key) e

-- the key whose bits are those of b, the first of them lowest
module _ (b : ℕ) (small : b < 2 ^ 15) where
  bit_of : ℕ → ℕ
  bit_of i = b / 2 ^ i % 2

  bitOf-lt : Bits bit_of
  unfolding bit_of
  bitOf-lt i = omega arith

  number : ℕ
  number = as_number bit_of 0 15

  key_of : List ℕ
  key_of = number / 256 ∷ number % 256 ∷ []

  key-is : key_number key_of ≡ number
  unfolding key_number key_of number
  key-is = omega (arith, as_number_lt bit_of bitOf-lt 0 15)

  place_is : (i : ℕ) → i < 15 → P key_of i ≡ bit_of (14 - i)
  unfolding as_number number
  place_is i h =
      let e : suc (14 - i) ≡ 15 - i = omega arith in
      let f : 15 ≡ 15 - i + i = omega arith in
      let top : number / 2 ^ i ≡ as_number bit_of 0 (suc (14 - i)) = ap (λ (k : ℕ). as_number bit_of 0 k / 2 ^ i) f ∙ as_number-first bit_of bitOf-lt 0 (15 - i) i ∙ ap (as_number bit_of 0) (sym e) in
      P-key key_of i h ∙ ap (λ (x : ℕ). x / 2 ^ i % 2) key-is ∙ omega (arith, top, bitOf-lt (14 - i), ap bit_of (zero-add (14 - i)))

  gathered : (j : ℕ) → j ≤ 15 → as_number (P key_of) 0 j ≡ b / 2 ^ (15 - j)
  unfolding as_number bit_of
  gathered zero h = omega arith
  gathered (suc j) h =
      let e : 15 - j ≡ 14 - j + 1 = omega arith in
      let half : b / 2 ^ (15 - j) ≡ b / 2 ^ (14 - j) / 2 = ap (λ (k : ℕ). b / 2 ^ k) e ∙ sym (shr-shr b (14 - j) 1) in
      let f : 15 - suc j ≡ 14 - j = omega arith in
      omega (arith, half, gathered j (omega arith), ap (P key_of) (zero-add j) ∙ place_is j (omega arith), ap (λ (k : ℕ). b / 2 ^ k) f)

  every_held : held key_of 0 ≡ b
  unfolding held
  every_held = gathered 15 (omega arith) ∙ omega arith

  pub later-moved : (k : ℕ) → k ≤ 14
      → b * 2 ^ k % 2 ^ 64 % 32768 + bit_xor b (b * 2 ^ 1 % 2 ^ 64) % 32768 / 2 ^ (15 - k) ≡ iterate moved k b
  later-moved k h = rw every_held at (held-later key_of 0 k h ∙ sym (held_moved key_of 0 k))
