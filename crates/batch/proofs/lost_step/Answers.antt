-- `batch::lost_step` meets its contract.
use Rattle.std.proofs.lemmas.Result.{err_from_is_err_and}
use Rattle.batch.proofs.BatchLaws.{kept_cached, lost-done, lost-refused}
use Rattle.batch.proofs.lost_step.Goals as goal

pub returns-in_err-call-clause-taken : goal.returns-in_err-call-clause-taken
returns-in_err-call-clause-taken c =
    let p = err_from_is_err_and c.from_residual.result c.from_residual.ensures.1 in
    λ step. rw (p.1, p.2) (lost-refused _ step c.call_of.ensures c.lost_slot.ensures.slot c.in_err-call.was)

pub returns-clause-taken : goal.returns-clause-taken
returns-clause-taken c = λ step. lost-done _ step c.call_of.ensures c.lost_slot.ensures.slot c.in_ok-call.was c.kept_on.ensures.handed

pub returns-clause-stays_cached : goal.returns-clause-stays_cached
returns-clause-stays_cached c =
    λ m.
    rw
    (c.kept_on.ensures.as_they_were, c.lost_slot.ensures.as_they_were)
    (kept_cached c.args.before _ (rw c.in_ok-call.was at (c.lost_slot.ensures.stays_cached c.args.session.now.octets.now (rw c.call_of.ensures m))) c.kept_on.ensures.handed c.kept_on.ensures.made_before)
