-- `data::message::step` meets its contract.
use mathlib.Core.Path.{refl, sym, ◌∙◌}
use Rattle.std.proofs.lemmas.Result.{err_from_is_err_and}
use Rattle.answers.proofs.ResultLaws.{refused, returned, is_returned, is_refused}
use Rattle.data.specs.Message.{lost_of}
use Rattle.data.proofs.MessageLaws.{parted, lost-none, lost_decides, message_length, lost-leaves}
use Rattle.data.proofs.message.step.Goals as goal

pub returns-in_err-next : goal.returns-in_err-next
returns-in_err-next c =
    let p = err_from_is_err_and c.from_residual.result c.from_residual.ensures.1 in
    let w = is_refused (lost_of c.args.packet) c.lost.ensures c.in_err-next.was in
    rw (p.1, p.2) (refused w.1 (parted c.args.packet c.args.message.now (lost_decides _ _ w.0 w.1)))

pub returns-then-message-message_octets : goal.returns-then-message-message_octets
returns-then-message-message_octets c =
    let n = lost-none _ (is_returned (lost_of c.args.packet) c.lost.ensures c.in_ok-next.was) in
    refused refl (parted c.args.packet c.args.message.now (message_length _ _ n (λ e. c.if-message-message_octets.true (e ∙ sym c.message_octets.ensures))))

pub returns : goal.returns
returns c =
    let e = is_returned (lost_of c.args.packet) c.lost.ensures c.in_ok-next.was in
    returned (parted c.args.packet c.args.message.now (lost-leaves _ _ e (c.if-message-message_octets.false ∙ c.message_octets.ensures)))
