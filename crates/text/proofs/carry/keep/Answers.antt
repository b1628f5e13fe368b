-- `text::carry::keep` meets its contract.
use Rattle.text.proofs.CarryLaws.{keeps}
use borrow.Author.Rules.{rules}
use Rattle.text.proofs.carry.keep.Goals as goal

pub returns : goal.returns
returns c = (search rules, keeps _ _ (search rules) _ _ _ c.min-n.ensures c.copy_from_slice.ensures.after)
