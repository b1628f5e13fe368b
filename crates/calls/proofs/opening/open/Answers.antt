-- `calls::opening::open` meets its contract.
use Rattle.calls.specs.Opening.{open_of}
use borrow.Author.Rules.{rules}
use Rattle.calls.proofs.opening.open.Goals as goal

pub begin-requires : goal.begin-requires
unfolding open_of
begin-requires c = search rules

pub returns : goal.returns
unfolding open_of
returns c = c.begin.ensures
