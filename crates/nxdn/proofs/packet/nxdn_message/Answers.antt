-- `nxdn::packet::nxdn_message` meets its contract.
use mathlib.Core.Path.{ap}
use mathlib.Core.List.{List}
use Prim.Native.Nat.{ℕ}
use Rattle.std.specs.Prelude.{Result}
use Rattle.answers.specs.declared.Answer.{Answer}
use Rattle.data.specs.declared.packet.Packet.{Packet}
use Rattle.nxdn.specs.Operations.{Message, packet_step}
use Rattle.nxdn.proofs.CallLaws.{packet_short, packet-kept}
use Rattle.nxdn.proofs.packet.nxdn_message.Goals as goal

pub returns-in_default : goal.returns-in_default
returns-in_default c = packet_short _ (Message _) _ _ c.in_default.ensures

pub returns : goal.returns
unfolding packet_step
returns c =
    packet-kept _ (Message _) _ c.in-Some.ensures.0 c.in-Some.ensures.1 (ap (λ (q : Result Packet Answer × List ℕ). q.0) c.message.ensures) (ap (λ (q : Result Packet Answer × List ℕ). q.1) c.message.ensures) c.keep_packet.ensures
