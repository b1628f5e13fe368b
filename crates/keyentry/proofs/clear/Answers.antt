-- `keyentry::clear` meets its contract.
use mathlib.Core.Path.{refl}
use Rattle.keyentry.specs.Entry.{blank}
use Rattle.keyentry.proofs.clear.Goals as goal

pub returns : goal.returns
unfolding blank
returns c = refl
