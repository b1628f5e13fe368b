-- `octets::turn_bits` meets its contract: the octets below `at` are turned, and the others as they were.
-- each turn takes octets
use mathlib.Core.Path.{◌≡◌}
use Prim.Native.Nat.{◌+◌, ◌-◌, ◌≤◌}
use lib.ListN.{length}
use Rattle.octets.specs.Bits.{bit}
use Rattle.octets.specs.Turn.{turned}
use Rattle.octets.proofs.Front.{Front}
use Rattle.octets.proofs.turn_bits.Given as goal

abbrev pub invariant-loop-at : goal.invariant-loop-at
invariant-loop-at l = (l.at ≤ l.n) × (length l.part ≡ length l.initial.part) × Front (turned l.width (λ k. bit l.stream (l.from + k)) l.initial.part) l.initial.part l.part l.at

abbrev pub decreases-loop-at : goal.decreases-loop-at
decreases-loop-at l = l.n - l.at
