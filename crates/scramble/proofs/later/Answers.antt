-- `scramble::later` meets its contract.
use borrow.Author.Rules.{rules}
use Rattle.scramble.proofs.MovedBits.{later-moved}
use Rattle.scramble.proofs.later.Goals as goal

pub returns : goal.returns
returns c = later-moved c.args.bits (search rules) c.args.k (search rules)
