-- `joineddes::key_number` meets its contract: after i turns the number has the bits of i boxes.
use Rattle.joineddes.proofs.ScheduleLaws.{HasBoxes}
use Rattle.joineddes.proofs.key_number.Given as goal

abbrev pub invariant-loop-i : goal.invariant-loop-i
invariant-loop-i l = HasBoxes l.bits l.first l.i l.number
