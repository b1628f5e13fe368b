-- `book::entry` meets its contract.
use mathlib.Core.Path.{◌∙◌}
use Rattle.keybook.proofs.BookLaws.{entry_lent}
use Rattle.keybook.proofs.book.entry.Goals as goal

pub returns : goal.returns
returns c = (rw c.unwrap.ensures at c.as_array.ensures.cases).same ∙ entry_lent _ _
