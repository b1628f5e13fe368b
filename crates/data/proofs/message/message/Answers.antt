-- `data::message::message` meets its contract.
use Rattle.std.proofs.lemmas.Result.{err_from_is_err_and}
use Rattle.answers.proofs.ResultLaws.{is_returned, is_refused}
use Rattle.data.proofs.LentResults.{refused_lent, returned_lent}
use Rattle.data.proofs.MessageLaws.{none_open, none_few, none-lost, none_long, step_of, step-none, step_refused, step-turned}
use Rattle.data.proofs.message.message.Goals as goal

pub returns-in_err-next : goal.returns-in_err-next
returns-in_err-next c =
    let p = err_from_is_err_and c.from_residual.result c.from_residual.ensures.1 in
    let w = is_refused (step_of c.args.packet c.args.message.now) c.step.ensures c.in_err-next.was in
    rw (p.1, p.2) (refused_lent w.1 (step_refused c.args.packet c.args.message.now w.0 w.1))

pub turn_message-requires : goal.turn_message-requires
turn_message-requires c =
    let n = step-none c.args.packet c.args.message.now (is_returned (step_of c.args.packet c.args.message.now) c.step.ensures c.in_ok-next.was) in
    (none_open _ (none-lost _ _ n), none_few _ (none-lost _ _ n), none_long _ _ n)

pub returns : goal.returns
returns c =
    let e = is_returned (step_of c.args.packet c.args.message.now) c.step.ensures c.in_ok-next.was in
    returned_lent (step-turned c.args.packet c.args.message.now e c.turn_message.ensures)
