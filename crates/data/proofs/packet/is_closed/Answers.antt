-- `data::packet::is_closed` meets its contract.
use Rattle.std.proofs.Common.{◌≡◌, true, rules}
use Rattle.std.specs.Cmp.{both_ways}
use Rattle.data.specs.Packet.{no_packet, is_closed}
use Rattle.data.proofs.PacketLaws.{closed_is, none_closed}
use Rattle.data.proofs.packet.is_closed.Goals as goal

pub returns : goal.returns
returns c =
    let same : c.eq.result ≡ true → c.args.packet ≡ no_packet = λ e. search (rules, c.eq.ensures) in
    let equal : c.args.packet ≡ no_packet → c.eq.result ≡ true = λ e. search (rules, c.eq.ensures) in
    let closed : c.args.packet ≡ no_packet → is_closed c.args.packet ≡ true = λ e. rw e none_closed in
    both_ways _ _ (λ e. closed (same e)) (λ e. equal (closed_is c.args.packet (search (rules, c.well_formed)) (search (rules, c.well_formed)) e))
