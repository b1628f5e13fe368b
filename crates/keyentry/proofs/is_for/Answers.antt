-- `keyentry::is_for` meets its contract.
use borrow.Author.Tests.{eq-eqb, ne_eqb}
use Rattle.keyentry.specs.Entry.{is_for}
use Rattle.keyentry.proofs.is_for.Goals as goal

pub returns-then-e-cipher : goal.returns-then-e-cipher
unfolding is_for
returns-then-e-cipher c = rw (eq-eqb _ _ c.if-e-cipher.true)

pub returns-else-e-cipher : goal.returns-else-e-cipher
unfolding is_for
returns-else-e-cipher c = rw (ne_eqb _ _ c.if-e-cipher.false)
