-- `book::seek` meets its contract.
use mathlib.Core.Path.{sym, ap, ◌∙◌}
use mathlib.Core.List.{List}
use Prim.Native.Nat.{ℕ}
use Rattle.keybook.specs.Book.{good_book}
use Rattle.keybook.specs.Lookup.{seeking}
use Rattle.keybook.proofs.BookLaws.{good_length, seek_bad, seek_good}
use Rattle.keybook.proofs.book.seek.Goals as goal

pub returns-in_default : goal.returns-in_default
returns-in_default c = seek_bad _ _ _ (sym (good_length _ c.in_default.ensures.cases))

pub returns-then-not-good_book : goal.returns-then-not-good_book
returns-then-not-good_book c = seek_bad _ _ _ (ap good_book (sym c.in-Some.ensures.cases.same) ∙ sym c.good_book.ensures ∙ c.if-not-good_book.true)

pub returns : goal.returns
returns c =
    rw c.find.ensures (seek_good _ _ _ (sym c.good_book.ensures ∙ c.if-not-good_book.false))
    ∙ ap (λ (l : List ℕ). seeking l c.args.cipher c.args.id) c.in-Some.ensures.cases.same
