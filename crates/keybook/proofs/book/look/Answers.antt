-- `book::look` meets its contract.
use mathlib.Core.Path.{◌≡◌, refl, ◌∙◌, sym, ap}
use mathlib.Core.List.{List}
use Prim.Native.Nat.{ℕ}
use Rattle.std.specs.Prelude.{Option, Some, None, Ok, Err}
use Rattle.std.specs.Option.{ok_or}
use Rattle.std.proofs.lemmas.Result.{err_from_is_err_and}
use Rattle.answers.specs.declared.Answer.TheVariants.{NoEntry}
use Rattle.keybook.specs.Lookup.{spotted, lookup, seeking}
use Rattle.keybook.proofs.BookLaws.{look_length, look_range, look_seek}
use Rattle.keybook.proofs.book.look.Goals as goal

-- the entry's number is asked of what was found
asked : (o : Option ℕ) → ok_or o NoEntry ≡ spotted (Ok o)
asked (Some k) = refl
asked None = refl

pub returns-in_default : goal.returns-in_default
returns-in_default c = ap spotted (look_length _ _ _ c.in_default.ensures.cases)

pub returns-then-not-in_range : goal.returns-then-not-in_range
returns-then-not-in_range c = ap spotted (look_range _ _ _ c.in-Some.ensures.cases.long (sym c.in_range.ensures ∙ c.if-not-in_range.true))

pub returns-in_err-seek : goal.returns-in_err-seek
returns-in_err-seek c =
    let p = err_from_is_err_and c.from_residual.result c.from_residual.ensures.1 in
    let b : c.in-Some.book.now ≡ c.args.book.now = c.in-Some.ensures.cases.same in
    let f : Err c.in_err-seek.field-0.0 ≡ lookup c.args.book.now c.args.cipher c.args.id =
    sym c.in_err-seek.was ∙ c.seek.ensures ∙ ap (λ (l : List ℕ). seeking l c.args.cipher c.args.id) b
    ∙ look_seek _ _ _ c.in-Some.ensures.cases.long (sym c.in_range.ensures ∙ c.if-not-in_range.false) in
    rw (p.1, p.2) (ap spotted f)

pub returns : goal.returns
returns c =
    let b : c.in-Some.book.now ≡ c.args.book.now = c.in-Some.ensures.cases.same in
    let f : Ok c.in_ok-seek.field-0 ≡ lookup c.args.book.now c.args.cipher c.args.id =
    sym c.in_ok-seek.was ∙ c.seek.ensures ∙ ap (λ (l : List ℕ). seeking l c.args.cipher c.args.id) b
    ∙ look_seek _ _ _ c.in-Some.ensures.cases.long (sym c.in_range.ensures ∙ c.if-not-in_range.false) in
    c.ok_or.ensures.value ∙ asked _ ∙ ap spotted f
