-- `des::sum_shifts` meets its contract.
use mathlib.Core.Path.{◌≡◌}
use Rattle.octets.proofs.Front.{Front}
use Rattle.des.specs.Prepared.{shifts_to, shift_sums}
use Rattle.des.proofs.sum_shifts.Given as goal

abbrev pub invariant-loop-round : goal.invariant-loop-round
invariant-loop-round l = (l.sum ≡ shifts_to l.round) × Front shift_sums l.initial.sums l.sums l.round
