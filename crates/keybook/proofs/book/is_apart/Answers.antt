-- `book::is_apart` meets its contract.
use mathlib.Core.Path.{◌∙◌, refl, ap}
use lib.Dec.{eqb}
use borrow.Author.Tests.{eq-eqb}
use Prim.Native.Nat.{ℕ}
use Rattle.std.specs.Prelude.{Option, Some}
use Rattle.std.specs.Option.{option_eq}
use Rattle.keybook.proofs.BookLaws.{apart_free, place_eq, apart-used}
use Rattle.keybook.proofs.book.is_apart.Goals as goal

pub returns-then-e-eq0 : goal.returns-then-e-eq0
returns-then-e-eq0 c = eq-eqb _ _ c.if-e-eq0.true ∙ apart_free _ _ c.entry-e.ensures c.if-e-eq0.true

pub returns-else-e-eq0 : goal.returns-else-e-eq0
returns-else-e-eq0 c =
    c.eq.ensures ∙ ap (λ (o : Option ℕ). option_eq eqb o (Some c.args.k)) c.find.ensures ∙ place_eq c.args.book.now _ c.requires _
    ∙ apart-used _ _ c.entry-e.ensures c.if-e-eq0.false refl
