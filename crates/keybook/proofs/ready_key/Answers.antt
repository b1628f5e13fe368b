-- `keybook::ready_key` meets its contract.
use mathlib.Core.Path.{sym, ap, ◌∙◌}
use Rattle.std.proofs.lemmas.Result.{err_from_is_err_and}
use Rattle.answers.proofs.ResultLaws.{refused}
use Rattle.keybook.proofs.OperationLaws.{located, way-refused, way-found, ready_ways, readying}
use Rattle.answers.specs.Outcomes.{result_of}
use Rattle.keybook.proofs.ready_key.Goals as goal

pub returns-in_err-k : goal.returns-in_err-k
returns-in_err-k c =
    let p = err_from_is_err_and c.from_residual.result c.from_residual.ensures.1 in
    let w = way-refused _ _ _ _ (ready_ways _ _ _) _ (sym c.look.ensures ∙ c.in_err-k.was) in
    rw (p.1, p.2) (refused w.0 w.1)

pub entry-requires : goal.entry-requires
entry-requires c = let f = located _ _ _ _ (sym c.look.ensures ∙ c.in_ok-k.was) in (f.sized, f.below)

pub returns : goal.returns
returns c =
    c.ready_entry.ensures
    ∙ ap result_of (ap readying c.entry.ensures ∙ way-found _ _ _ _ (ready_ways _ _ _) _ (sym c.look.ensures ∙ c.in_ok-k.was))
