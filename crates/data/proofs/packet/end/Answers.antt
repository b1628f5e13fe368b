-- `data::packet::end` meets its contract.
use mathlib.Core.Path.{refl, ap, sym, ◌∙◌}
use mathlib.Core.Bool.{not}
use Rattle.answers.proofs.ResultLaws.{refused, returned}
use Rattle.data.specs.Packet.{end_refusals}
use Rattle.data.proofs.PacketLaws.{not_closed, closed_by, end_refused, end_done}
use Rattle.data.proofs.packet.end.Goals as goal

pub returns-then-not-good_packet : goal.returns-then-not-good_packet
unfolding end_refusals
returns-then-not-good_packet c = refused refl (end_refused c.args.packet 0 (ap not (sym c.good_packet.ensures ∙ c.if-not-good_packet.true)))

pub returns-then-packet-eq-NONE : goal.returns-then-packet-eq-NONE
unfolding end_refusals
returns-then-packet-eq-NONE c =
    let good = sym c.good_packet.ensures ∙ c.if-not-good_packet.false in
    refused refl (end_refused c.args.packet 1 (ap not good, closed_by _ good c.if-packet-eq-NONE.true))

pub returns : goal.returns
unfolding end_refusals
returns c =
    rw c.no_packet.ensures (returned (end_done c.args.packet (ap not (sym c.good_packet.ensures ∙ c.if-not-good_packet.false), (not_closed _ c.if-packet-eq-NONE.false, tt))))
