-- `joineddes::Carried::block` meets its contract.
use borrow.Author.Rules.{rules}
use Rattle.joineddes.proofs.HalfLaws.{bits-block}
use Rattle.joineddes.proofs.Carried.block.Goals as goal

pub returns : goal.returns
returns c = bits-block _ c.inverse.result _ (search rules) (search rules) (search rules) c.inverse.ensures
