-- `screen::inventory` meets its contract.
use mathlib.Core.Path.{refl, sym, ap, ◌∙◌}
use borrow.Author.Rules.{rules}
use mathlib.Core.List.{List}
use Prim.Native.Nat.{ℕ}
use Rattle.answers.specs.declared.Answer.TheVariants.{Done}
use Rattle.answers.proofs.ResultLaws.{refused, returned}
use Rattle.keybook.specs.declared.screen.Shown.{Shown}
use Rattle.keybook.specs.Book.{good_book, entry_of}
use Rattle.keybook.specs.Screen.{shown}
use Rattle.keybook.proofs.ScreenLaws.{list_length, list_range, list_bad, list_done}
use Rattle.keybook.proofs.screen.inventory.Goals as goal

pub returns-in_default : goal.returns-in_default
returns-in_default c = refused refl (list_length _ _ c.in_default.ensures.cases)

pub returns-then-k-ge-ENTRIES : goal.returns-then-k-ge-ENTRIES
returns-then-k-ge-ENTRIES c = refused refl (list_range _ _ c.in-Some.ensures.cases.long (search rules))

pub returns-then-not-good_book : goal.returns-then-not-good_book
returns-then-not-good_book c =
    refused refl (list_bad _ _ c.in-Some.ensures.cases.long (search rules) (ap good_book (sym c.in-Some.ensures.cases.same) ∙ sym c.good_book.ensures ∙ c.if-not-good_book.true))

pub returns : goal.returns
returns c =
    returned
    (ap (λ (s : Shown). (Done, s)) (c.show.ensures ∙ ap shown (c.entry.ensures ∙ ap (λ (l : List ℕ). entry_of l c.args.k) c.in-Some.ensures.cases.same))
    ∙ list_done _ _ c.in-Some.ensures.cases.long (search rules) (ap good_book (sym c.in-Some.ensures.cases.same) ∙ sym c.good_book.ensures ∙ c.if-not-good_book.false))
