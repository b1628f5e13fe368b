-- `joineddes::PreparedKey::carry_on` meets its contract: after n turns the halves are those after n rounds.
use mathlib.Core.Path.{refl}
use native.Mathlib.Omega.{arith}
use Rattle.joineddes.proofs.HalfLaws.{after_none, after_more, after-all}
use Rattle.joineddes.proofs.PreparedKey.carry_on.Goals as goal

pub loop-n-init : goal.loop-n-init
loop-n-init c = after_none _ _ _ _ refl

pub loop-n-preserved : goal.loop-n-preserved
loop-n-preserved c = after_more _ _ _ _ _ _ c.loop-n.invariant c.cipher_function.ensures

pub returns : goal.returns
returns c = after-all _ _ _ _ _ (omega arith) c.loop-n.invariant
