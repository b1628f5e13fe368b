-- `voice::slot::session_stream` meets its contract.
use Rattle.std.proofs.Common.{◌∙◌, sym, inl, inr}
use native.Mathlib.Omega.{arith}
use Rattle.calls.proofs.CallLaws.{knows-not, knows_no, knows_yes}
use Rattle.voice.proofs.SessionOnce.{knows_ranged, stream_stays, stream-written}
use Rattle.voice.proofs.slot.session_stream.Goals as goal

pub keystream-requires : goal.keystream-requires
keystream-requires c =
    let r = knows_ranged _ (knows_yes _ c.if-call-ne-UNKNOWN.true ∙ sym c.good_call.ensures ∙ c.if-good_call.true) in (r.0, r.1, omega arith)

pub returns-then-call-ne-UNKNOWN : goal.returns-then-call-ne-UNKNOWN
returns-then-call-ne-UNKNOWN c =
    stream-written _ (knows_yes _ c.if-call-ne-UNKNOWN.true ∙ sym c.good_call.ensures ∙ c.if-good_call.true) _ _ c.keystream.ensures

pub returns-else-good_call : goal.returns-else-good_call
returns-else-good_call c =
    elim c.else-good_call.either [
      | inl w ↦ stream_stays _ (knows_no _ w.1) _
      | inr e ↦ stream_stays _ (knows-not _ (sym c.good_call.ensures ∙ e)) _
    ]
