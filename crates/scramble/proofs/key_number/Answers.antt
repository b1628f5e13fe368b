-- `scramble::key_number` meets its contract.
use native.Mathlib.Omega.{arith}
use Rattle.scramble.specs.Sequence.{key_number}
use Rattle.scramble.proofs.key_number.Goals as goal

pub returns : goal.returns
unfolding key_number
returns c = omega (arith, c.from_be_bytes.ensures)
