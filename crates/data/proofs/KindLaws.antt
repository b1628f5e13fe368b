-- What belongs to each kind of message, by cases.
use mathlib.Core.Path.{◌≡◌}
use mathlib.Core.Bool.{true}
use Prim.Native.Nat.{ℕ, zero, suc, ◌+◌, ◌≤◌}
use native.Mathlib.Omega.{arith}
use lib.Dec.{leb}
use borrow.Author.Tests.{leb-true}
use Rattle.octets.proofs.TestLaws.{and_left, and_right}
use Rattle.data.specs.Kinds.{is_kind, message_octets, head_octets, protected_octets}

pub kind_range : (k : ℕ) → is_kind k ≡ true → (1 ≤ k) × (k ≤ 4)
unfolding is_kind
kind_range k e = (leb-true 1 k (and_left (leb 1 k) _ e), leb-true k 4 (and_right (leb 1 k) _ e))

by_number : (P : ℕ → Type 0) → P 1 → P 2 → P 3 → P 4 → (k : ℕ) → (1 ≤ k) × (k ≤ 4) → P k
by_number P a b c d zero h = absurd (omega arith)
by_number P a b c d (suc zero) h = a
by_number P a b c d (suc (suc zero)) h = b
by_number P a b c d (suc (suc (suc zero))) h = c
by_number P a b c d (suc (suc (suc (suc zero)))) h = d
by_number P a b c d (suc (suc (suc (suc (suc k))))) h = absurd (omega arith)

-- what holds of the four kinds holds of each
pub by_kind : (P : ℕ → Type 0) → P 1 → P 2 → P 3 → P 4 → (k : ℕ) → is_kind k ≡ true → P k
by_kind P a b c d k e = by_number P a b c d k (kind_range k e)

-- the protected octets lie in the message
pub kind_fits : (k : ℕ) → is_kind k ≡ true → head_octets + protected_octets k ≤ message_octets k
kind_fits = by_kind (λ k. head_octets + protected_octets k ≤ message_octets k) (omega arith) (omega arith) (omega arith) (omega arith)

pub kind_most : (k : ℕ) → is_kind k ≡ true → protected_octets k ≤ 20
kind_most = by_kind (λ k. protected_octets k ≤ 20) (omega arith) (omega arith) (omega arith) (omega arith)
