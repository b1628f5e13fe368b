-- `batch::announce_step` meets its contract.
use mathlib.Core.Path.{◌∙◌}
use Rattle.std.proofs.lemmas.Result.{err_from_is_err_and}
use Rattle.batch.proofs.BatchLaws.{announce_done, announce_refused}
use Rattle.batch.proofs.announce_step.Goals as goal

pub returns-in_err-call-clause-taken : goal.returns-in_err-call-clause-taken
returns-in_err-call-clause-taken c =
    let p = err_from_is_err_and c.from_residual.result c.from_residual.ensures.1 in
    λ step. rw (p.1, p.2) (announce_refused _ step c.call_of.ensures _ (c.anew.ensures.as_it_was.0 ∙ c.announce.ensures) c.in_err-call.was)

pub returns-clause-taken : goal.returns-clause-taken
returns-clause-taken c =
    λ step. announce_done _ step c.call_of.ensures _ (c.anew.ensures.as_it_was.0 ∙ c.announce.ensures) c.in_ok-call.was c.kept_on.ensures.handed
