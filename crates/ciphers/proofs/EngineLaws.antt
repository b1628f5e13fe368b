-- Output feedback by functions that give the same blocks is the same.
use mathlib.Core.Path.{◌≡◌, ap, ◌∙◌}
use mathlib.Core.List.{List}
use Prim.Native.Nat.{ℕ, ◌+◌, ◌/◌, ◌%◌}
use lib.ListN.{take}
use Rattle.octets.specs.Bits.{bit}
use Rattle.octets.proofs.ListLaws.{iterate_same}
use Rattle.des.specs.Des.{des}
use Rattle.des.proofs.DesLaws.{first_eight}
use Rattle.ciphers.specs.Keystream.{used_block, feedback}

pub feedback_same : (E F : List ℕ → List ℕ) (w : ℕ) (v : List ℕ) → ((b : List ℕ) → E b ≡ F b) → (n : ℕ) → feedback E w v n ≡ feedback F w v n
unfolding feedback used_block
feedback_same E F w v e n = ap (λ (b : List ℕ). bit b (n % w)) (iterate_same E F e (n / w + 2) v)

-- DES looks at no more of a key than its first eight octets
pub by_first_eight : (key own v : List ℕ) → own ≡ take 8 key → (w n : ℕ) → feedback (des own) w v n ≡ feedback (des key) w v n
by_first_eight key own v e w = feedback_same (des own) (des key) w v (λ b. ap (λ (k : List ℕ). des k b) e ∙ first_eight key b)
