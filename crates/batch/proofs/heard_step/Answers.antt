-- `batch::heard_step` meets its contract.
use Rattle.std.proofs.lemmas.Result.{err_from_is_err_and}
use Rattle.batch.proofs.BatchLaws.{heard_cached, heard_done, heard_refused}
use Rattle.batch.proofs.heard_step.Goals as goal

pub returns-in_err-hearing-clause-taken : goal.returns-in_err-hearing-clause-taken
returns-in_err-hearing-clause-taken c =
    let p = err_from_is_err_and c.from_residual.result c.from_residual.ensures.1 in
    λ step. rw (p.1, p.2) (heard_refused _ _ step c.heard.ensures c.in_err-hearing.was)

pub returns-then-hearing-ne-ONE-clause-taken : goal.returns-then-hearing-ne-ONE-clause-taken
returns-then-hearing-ne-ONE-clause-taken c = λ step. heard_done _ _ step c.heard.ensures c.in_ok-hearing.was

pub returns-else-hearing-ne-ONE-clause-taken : goal.returns-else-hearing-ne-ONE-clause-taken
returns-else-hearing-ne-ONE-clause-taken c = λ step. heard_done _ _ step c.heard.ensures c.in_ok-hearing.was

pub returns-else-hearing-ne-ONE-clause-stays_cached : goal.returns-else-hearing-ne-ONE-clause-stays_cached
returns-else-hearing-ne-ONE-clause-stays_cached c =
    λ m. heard_cached _ _ m c.heard.ensures c.in_ok-hearing.was (λ t. (t, c.if-hearing-ne-ONE.false))
