-- `book::good_book` meets its contract.
use mathlib.Core.Path.{sym, ap, ◌∙◌}
use borrow.Author.Rules.{rules}
use Rattle.octets.proofs.TestLaws.{all_none, all_more}
use Rattle.keyentry.specs.Entry.{entry_right}
use Rattle.keybook.specs.Book.{good_book}
use Rattle.keybook.proofs.BookLaws.{of_entry, right-not, right_shared, right_both, good_length, good_fails, good-all}
use Rattle.keybook.proofs.book.good_book.Goals as goal

pub returns-in_default : goal.returns-in_default
returns-in_default c = good_length _ c.in_default.ensures.cases

pub loop-k-init : goal.loop-k-init
loop-k-init c = all_none _

pub returns-then-not-entry_right : goal.returns-then-not-entry_right
returns-then-not-entry_right c =
    good_fails _ (search rules) c.loop-k.k (search rules)
    (right-not _ _ (of_entry entry_right c.entry.ensures c.entry_right.ensures (c.if-not-entry_right.true)))
    ∙ ap good_book c.in-Some.ensures.cases.same

pub returns-then-not-is_apart : goal.returns-then-not-is_apart
returns-then-not-is_apart c =
    good_fails _ (search rules) c.loop-k.k (search rules) (right_shared _ _ (sym c.is_apart.ensures ∙ c.if-not-is_apart.true))
    ∙ ap good_book c.in-Some.ensures.cases.same

pub loop-k-preserved : goal.loop-k-preserved
loop-k-preserved c =
    all_more _ _ c.loop-k.invariant
    (right_both _ _ (of_entry entry_right c.entry.ensures c.entry_right.ensures (c.if-not-entry_right.false)) (sym c.is_apart.ensures ∙ c.if-not-is_apart.false))

pub returns : goal.returns
returns c = good-all _ (search rules) (search rules) (search rules) c.loop-k.invariant ∙ ap good_book c.in-Some.ensures.cases.same
