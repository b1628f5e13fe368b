-- `joineddes::top_six` meets its contract: the bits of four times the six's number.
use native.Mathlib.Omega.{arith}
use Rattle.joineddes.proofs.ScheduleLaws.{six_bit}
use Rattle.joineddes.proofs.top_six.Goals as goal

pub returns : goal.returns
returns c = (omega (arith, c.from.ensures), λ q h. rw c.from.ensures (six_bit c.args.bits.now c.args.o c.requires.1 q h))
