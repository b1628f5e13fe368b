-- `names::is_printable` meets its contract.
use borrow.Author.Tests.{le-leb, lt-leb}
use Rattle.keyentry.specs.Name.{is_printable}
use Rattle.keyentry.proofs.names.is_printable.Goals as goal

pub returns-then-x-ge32 : goal.returns-then-x-ge32
unfolding is_printable
returns-then-x-ge32 c = rw (le-leb _ _ c.if-x-ge32.true)

pub returns-else-x-ge32 : goal.returns-else-x-ge32
unfolding is_printable
returns-else-x-ge32 c = rw (lt-leb _ _ c.if-x-ge32.false)
