-- `book::put` meets its contract.
use Rattle.keybook.proofs.BookLaws.{put_entry}
use Rattle.keybook.proofs.book.put.Goals as goal

pub returns : goal.returns
returns c = put_entry _ _ c.copy_from_slice.ensures.after
