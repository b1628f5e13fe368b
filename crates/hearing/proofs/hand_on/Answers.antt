-- `hearing::hand_on` meets its contract.
use Rattle.std.proofs.Common.{ap, sym, ◌∙◌}
use Rattle.answers.proofs.ResultLaws.{or_before}
use Rattle.calls.specs.Call.{standing, written}
use Rattle.calls.specs.Vector.{with_vector, announce_refusals, announce_of}
use Rattle.hearing.specs.Hearing.{alone}
use Rattle.hearing.proofs.HeardLaws.{handed_now}
use Rattle.hearing.proofs.hand_on.Goals as goal

pub returns : goal.returns
unfolding announce_of
returns c =
    let call = c.args.call in
    let w = c.args.vector in
    rw (c.alone.ensures, c.unwrap_or.ensures, c.announce.ensures)
    (ap alone (or_before call (announce_refusals (standing call) w) (written call.counts (with_vector w (standing call))))
    ∙ sym (handed_now w call (sym c.is_under_way.ensures ∙ c.if-is_under_way.false)))
