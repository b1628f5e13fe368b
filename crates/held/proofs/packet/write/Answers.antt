-- `held::packet::write` meets its contract.
use borrow.Author.Rules.{rules}
use Rattle.held.proofs.PacketLaws.{writes}
use Rattle.held.proofs.packet.write.Goals as goal

pub returns : goal.returns
returns c =
    writes c.args.octets.now c.requires c.args.packet (search rules) (search rules) c.write_two.ensures c.copy_from_slice.ensures.after c.copy_from_slice-2.ensures.after
