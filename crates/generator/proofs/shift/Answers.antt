-- `generator::shift` meets its contract.
use borrow.Author.Rules.{rules}
use Rattle.generator.proofs.Register.{shift_small, shift_held}
use Rattle.generator.proofs.shift.Goals as goal

pub overflow_add-result : goal.overflow_add-result
overflow_add-result c = search (rules, shift_small c.args.r c.args.k c.fed.result c.requires.1 c.fed.ensures.1)

pub returns : goal.returns
returns c = shift_held c.args.r c.args.k c.fed.result c.requires.1 c.fed.ensures.1 c.fed.ensures.0
