-- `data::message::lost` meets its contract.
use mathlib.Core.Path.{refl, ap, sym, ◌∙◌}
use mathlib.Core.Bool.{not}
use Rattle.answers.proofs.ResultLaws.{refused, returned}
use Rattle.data.specs.Message.{lost_refusals}
use Rattle.data.proofs.MessageLaws.{lost_refused, lost_done, not_now_closed, not_now_over, now_is}
use Rattle.data.proofs.message.lost.Goals as goal
use Rattle.data.proofs.message.lost.Goals.{then-packet-eq-NONE-via-then-packet-eq-NONE, then-packet-eq-NONE-via-else-packet-eq-NONE+then-packet-ge-MOST_MESSAGES}
use Rattle.std.proofs.lemmas.Bool.{lt-leb, le-leb}

pub returns-then-not-good_packet : goal.returns-then-not-good_packet
unfolding lost_refusals
returns-then-not-good_packet c = refused refl (lost_refused c.args.packet 0 (ap not (sym c.good_packet.ensures ∙ c.if-not-good_packet.true)))

pub returns-then-packet-eq-NONE : goal.returns-then-packet-eq-NONE
unfolding lost_refusals
returns-then-packet-eq-NONE c =
    let good = sym c.good_packet.ensures ∙ c.if-not-good_packet.false in
    refused refl (lost_refused c.args.packet 1 (ap not good, elim c.then-packet-eq-NONE.branch [ then-packet-eq-NONE-via-then-packet-eq-NONE w ↦ not_now_closed _ good w.if-packet-eq-NONE.true | then-packet-eq-NONE-via-else-packet-eq-NONE+then-packet-ge-MOST_MESSAGES w ↦ not_now_over _ (le-leb _ _ w.if-packet-ge-MOST_MESSAGES.true) ]))

pub returns : goal.returns
unfolding lost_refusals
returns c =
    rw c.count_on.ensures (returned (lost_done c.args.packet (ap not (sym c.good_packet.ensures ∙ c.if-not-good_packet.false), (now_is _ c.if-packet-eq-NONE.false (lt-leb _ _ c.if-packet-ge-MOST_MESSAGES.false), tt))))
