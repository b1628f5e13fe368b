-- `openings::is_zero_for` meets its contract.
use borrow.Author.Tests.{eq-eqb, ne_eqb}
use Rattle.openings.specs.Ladder.{zero_for}
use Rattle.openings.proofs.is_zero_for.Goals as goal

pub returns-then-cipher-ne-TYPE : goal.returns-then-cipher-ne-TYPE
unfolding zero_for
returns-then-cipher-ne-TYPE c = rw (ne_eqb _ _ c.if-cipher-ne-TYPE.true) c.all_zero.ensures

pub returns-else-cipher-ne-TYPE : goal.returns-else-cipher-ne-TYPE
unfolding zero_for
returns-else-cipher-ne-TYPE c = rw (eq-eqb _ _ c.if-cipher-ne-TYPE.false)
