-- `nxdn::packet::nxdn_packet_end` meets its contract.
use mathlib.Core.Path.{refl}
use mathlib.Core.List.{[]}
use Rattle.nxdn.specs.Operations.{EndPacket, packet_step}
use Rattle.nxdn.proofs.CallLaws.{packet_short, packet-kept}
use Rattle.nxdn.proofs.packet.nxdn_packet_end.Goals as goal

pub returns-in_default : goal.returns-in_default
returns-in_default c = packet_short _ EndPacket _ [] c.in_default.ensures

pub returns : goal.returns
unfolding packet_step
returns c = packet-kept _ EndPacket _ c.in-Some.ensures.0 c.in-Some.ensures.1 c.end.ensures refl c.keep_packet.ensures
