-- `keybook::finish` meets its contract.
use mathlib.Core.Path.{sym, ap, ◌∙◌}
use mathlib.Core.List.{List}
use Prim.Native.Nat.{ℕ}
use Rattle.std.proofs.lemmas.Result.{err_from_is_err_and}
use Rattle.answers.specs.declared.Answer.TheVariants.{Done}
use Rattle.answers.proofs.ResultLaws.{refused_with, done_with}
use Rattle.keyentry.specs.Entry.{complete_refusals, completed}
use Rattle.keybook.proofs.OperationLaws.{located, way-refused, way-found, entry_done, entry_refused, finish_ways}
use Rattle.keybook.proofs.finish.Goals as goal

pub returns-in_err-k : goal.returns-in_err-k
returns-in_err-k c =
    let p = err_from_is_err_and c.from_residual.result c.from_residual.ensures.1 in
    let w = way-refused _ _ _ _ (finish_ways _ _ _) _ (sym c.look.ensures ∙ c.in_err-k.was) in
    rw (p.1, p.2) (refused_with w.0 w.1)

pub entry-requires : goal.entry-requires
entry-requires c = let f = located _ _ _ _ (sym c.look.ensures ∙ c.in_ok-k.was) in (f.sized, f.below)

pub put-requires : goal.put-requires
put-requires c = let f = located _ _ _ _ (sym c.look.ensures ∙ c.in_ok-k.was) in (f.sized, f.below)

pub returns-in_err-complete : goal.returns-in_err-complete
returns-in_err-complete c =
    let p = err_from_is_err_and c.from_residual-in_err-complete.result c.from_residual-in_err-complete.ensures.1 in
    let w = entry_refused _ _ complete_refusals completed c.entry.ensures c.complete.ensures c.in_err-complete.was in
    rw (p.1, p.2) (refused_with w.0 (w.1 ∙ way-found _ _ _ _ (finish_ways _ _ _) _ (sym c.look.ensures ∙ c.in_ok-k.was)))

pub returns : goal.returns
returns c =
    done_with
    (ap (λ (l : List ℕ). (Done, l)) c.put.ensures ∙ entry_done _ _ complete_refusals completed c.entry.ensures c.complete.ensures c.in_ok-complete.was
    ∙ way-found _ _ _ _ (finish_ways _ _ _) _ (sym c.look.ensures ∙ c.in_ok-k.was))
