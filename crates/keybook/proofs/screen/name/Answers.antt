-- `keybook::screen::name` meets its contract.
use mathlib.Core.Path.{sym, ap, ◌∙◌}
use mathlib.Core.List.{List}
use Prim.Native.Nat.{ℕ}
use Rattle.std.proofs.lemmas.Result.{err_from_is_err_and}
use Rattle.answers.specs.declared.Answer.TheVariants.{Done}
use Rattle.answers.proofs.ResultLaws.{refused, returned}
use Rattle.keybook.proofs.OperationLaws.{way-refused, way-found, located}
use Rattle.keyentry.specs.Entry.{name_in}
use Rattle.keybook.proofs.ScreenLaws.{name_ways}
use Rattle.keybook.proofs.screen.name.Goals as goal

pub returns-in_err-k : goal.returns-in_err-k
returns-in_err-k c =
    let p = err_from_is_err_and c.from_residual.result c.from_residual.ensures.1 in
    let w = way-refused _ _ _ _ (name_ways _ _ _) _ (sym c.look.ensures ∙ c.in_err-k.was) in
    rw (p.1, p.2) (refused w.0 w.1)

pub entry-requires : goal.entry-requires
entry-requires c = let f = located _ _ _ _ (sym c.look.ensures ∙ c.in_ok-k.was) in (f.sized, f.below)

pub returns : goal.returns
returns c =
    returned
    (ap (λ (l : List ℕ). (Done, l)) (c.name_in.ensures ∙ ap name_in c.entry.ensures) ∙ way-found _ _ _ _ (name_ways _ _ _) _ (sym c.look.ensures ∙ c.in_ok-k.was))
