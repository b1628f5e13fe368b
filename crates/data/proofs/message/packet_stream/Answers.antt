-- `data::message::packet_stream` meets its contract.
use mathlib.Core.Path.{sym, ◌∙◌}
use native.Mathlib.Omega.{arith}
use Rattle.ciphers.proofs.KeyLaws.{key_ranged}
use Rattle.data.proofs.PacketLaws.{open_key}
use Rattle.data.proofs.PacketOnce.{stream_stays, stream-written}
use Rattle.data.proofs.message.packet_stream.Goals as goal

pub returns-then-not-is_open : goal.returns-then-not-is_open
returns-then-not-is_open c = stream_stays _ _ (sym c.is_open.ensures ∙ c.if-not-is_open.true)

pub keystream-requires : goal.keystream-requires
keystream-requires c =
    let r = key_ranged _ _ (open_key _ (sym c.is_open.ensures ∙ c.if-not-is_open.false)) in
    (r.0, r.1, omega arith)

pub returns : goal.returns
returns c = stream-written _ _ (sym c.is_open.ensures ∙ c.if-not-is_open.false) _ c.keystream.ensures
