-- `octets::turn_octets` meets its contract: the octets below i are turned.
use mathlib.Core.Path.{◌≡◌}
use Prim.Native.Nat.{◌-◌, ◌*◌}
use lib.ListN.{length}
use Rattle.octets.specs.Bits.{bit}
use Rattle.octets.specs.Turn.{turned}
use Rattle.octets.proofs.Front.{Front}
use Rattle.octets.proofs.turn_octets.Given as goal

abbrev pub invariant-loop-i : goal.invariant-loop-i
invariant-loop-i l = (length l.part ≡ length l.initial.part) × Front (turned (8 * length l.initial.part) (bit l.key) l.initial.part) l.initial.part l.part l.i

abbrev pub decreases-loop-i : goal.decreases-loop-i
decreases-loop-i l = length l.initial.part - l.i
