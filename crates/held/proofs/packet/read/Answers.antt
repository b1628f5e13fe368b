-- `held::packet::read` meets its contract.
use Rattle.held.proofs.PacketLaws.{reads}
use Rattle.held.proofs.packet.read.Goals as goal

pub returns : goal.returns
returns c = reads _ c.copy_from_slice.ensures.after c.copy_from_slice-2.ensures.after c.two_at.ensures
