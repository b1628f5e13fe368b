-- `joineddes::roll` meets its contract: what is shifted out above comes in below.
use native.Mathlib.Omega.{arith}
use Rattle.joineddes.proofs.BoxBitLaws.{rolled_lt, bits-rolled}
use Rattle.joineddes.proofs.roll.Goals as goal

pub overflow_add-result : goal.overflow_add-result
overflow_add-result c = record { fits = rolled_lt c.args.x c.args.places (omega arith) (omega arith) }

pub returns : goal.returns
returns c = bits-rolled c.args.x c.args.places (omega arith) (omega arith)
