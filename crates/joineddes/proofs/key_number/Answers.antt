-- `joineddes::key_number` meets its contract: after i turns the number has the bits of i boxes.
use mathlib.Core.Path.{◌≡◌}
use native.Mathlib.Omega.{arith}
use Rattle.joineddes.proofs.ScheduleLaws.{HasBoxes, boxes_start, boxes_more}
use Rattle.joineddes.proofs.key_number.Goals as goal

pub loop-i-init : goal.loop-i-init
loop-i-init c = boxes_start _ _

pub loop-i-preserved : goal.loop-i-preserved
loop-i-preserved c = boxes_more _ _ _ _ _ (omega arith) c.top_six.ensures.0 c.top_six.ensures.1 c.loop-i.invariant

pub returns : goal.returns
unfolding HasBoxes
returns c =
    let all : c.loop-i.i ≡ 4 = omega arith in
    rw all at c.loop-i.invariant
