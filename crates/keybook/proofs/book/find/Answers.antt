-- `book::find` meets its contract.
use borrow.Author.Rules.{rules}
use borrow.Author.Tests.{tests}
use Rattle.std.proofs.lemmas.Iterator.{YieldsList-from_slice}
use Rattle.std.proofs.lemmas.Iterator.Search.{position_from_yields_List}
use Rattle.keyentry.specs.Entry.{is_for}
use Rattle.keybook.specs.Book.{find_entry}
use Rattle.keybook.proofs.BookLaws.{entry_place}
use Rattle.keybook.proofs.book.find.Goals as goal

pub returns : goal.returns
unfolding find_entry
returns c =
    let test = is_for c.args.cipher c.args.id in
    entry_place test c.args.book.now c.entries.ensures.0 c.entries.ensures.1
    (position_from_yields_List test _ _ c.position.result c.position.ensures.ran (YieldsList-from_slice c.entries.result.now c.iter.ensures.rest) (λ x b q k. search (rules, tests)))
