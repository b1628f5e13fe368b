-- `joineddes::PreparedKey::cipher_function` meets its contract: after i turns the sum is that of the first i boxes.
use mathlib.Core.Path.{ap, ◌∙◌}
use native.Mathlib.Omega.{arith}
use Rattle.joineddes.specs.Joined.{joined_entry}
use Rattle.joineddes.proofs.JoinedLaws.{joined_entry_lem}
use Rattle.joineddes.proofs.BoxBitLaws.{summed_start, summed_more, summed-all}
use Rattle.joineddes.proofs.PreparedKey.cipher_function.Goals as goal

pub loop-i-init : goal.loop-i-init
loop-i-init c = summed_start _

pub loop-i-preserved : goal.loop-i-preserved
loop-i-preserved c =
    summed_more _ _ _ _ c.loop-i.invariant (joined_entry_lem _ c.args.self.now.joined _ c.entry_place.ensures.1 ∙ ap joined_entry c.entry_place.ensures.0)

pub returns : goal.returns
returns c = summed-all _ _ _ c.roll.ensures c.roll-2.ensures _ _ _ _ (omega arith) c.loop-i.invariant
