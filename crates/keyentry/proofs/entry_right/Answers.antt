-- `keyentry::entry_right` meets its contract.
use borrow.Author.Tests.{eq-eqb, ne_eqb}
use Rattle.keyentry.specs.Entry.{entry_right}
use Rattle.keyentry.proofs.entry_right.Goals as goal

pub returns-then-e-eq0 : goal.returns-then-e-eq0
unfolding entry_right
returns-then-e-eq0 c = rw (eq-eqb _ _ c.if-e-eq0.true) c.all_zero.ensures

pub returns : goal.returns
unfolding entry_right
returns c = rw (ne_eqb _ _ c.if-e-eq0.false) c.used_right.ensures
