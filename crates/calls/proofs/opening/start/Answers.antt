-- `calls::opening::start` meets its contract.
use Rattle.calls.specs.Opening.{start_of}
use borrow.Author.Rules.{rules}
use Rattle.calls.proofs.opening.start.Goals as goal

pub begin-requires : goal.begin-requires
unfolding start_of
begin-requires c = search rules

pub returns : goal.returns
unfolding start_of
returns c = c.begin.ensures
