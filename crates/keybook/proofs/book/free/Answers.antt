-- `book::free` meets its contract.
use borrow.Author.Rules.{rules}
use borrow.Author.Tests.{tests}
use lib.Dec.{eqb}
use mathlib.Core.List.{List}
use Prim.Native.Nat.{ℕ}
use Rattle.std.proofs.lemmas.Iterator.{YieldsList-from_slice}
use Rattle.std.proofs.lemmas.Iterator.Search.{position_from_yields_List}
use Rattle.keyentry.specs.Entry.{cipher_in}
use Rattle.keybook.specs.Book.{free_entry}
use Rattle.keybook.proofs.BookLaws.{entry_place}
use Rattle.keybook.proofs.book.free.Goals as goal

pub returns : goal.returns
unfolding free_entry
returns c =
    let test = λ (e : List ℕ). eqb (cipher_in e) 0 in
    entry_place test c.args.book.now c.entries.ensures.0 c.entries.ensures.1
    (position_from_yields_List test _ _ c.position.result c.position.ensures.ran (YieldsList-from_slice c.entries.result.now c.iter.ensures.rest) (λ x b q k. search (rules, tests)))
