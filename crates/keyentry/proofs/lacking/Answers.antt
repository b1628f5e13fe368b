-- `keyentry::lacking` meets its contract.
use native.Mathlib.Omega.{arith}
use Rattle.keyentry.specs.Entry.{lacks}
use Rattle.keyentry.proofs.lacking.Goals as goal

pub returns : goal.returns
unfolding lacks
returns c = omega arith
