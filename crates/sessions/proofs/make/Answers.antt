-- `sessions::make` meets its contract.
use mathlib.Core.Path.{ap, ◌∙◌}
use native.Mathlib.Omega.{arith}
use Rattle.sizes.specs.Frame.{session_octets}
use Rattle.sessions.proofs.SessionLaws.{unmade, unknown_cannot, short_cannot, made_holds}
use Rattle.sessions.proofs.make.Goals as goal

pub returns-then-call-eq-UNKNOWN : goal.returns-then-call-eq-UNKNOWN
returns-then-call-eq-UNKNOWN c = (unknown_cannot _ _ c.if-call-eq-UNKNOWN.true, unmade _ _)

pub returns-then-session-octets : goal.returns-then-session-octets
returns-then-session-octets c = (short_cannot _ _ (rw (c.session_octets-octets.ensures, c.width.ensures.0) at c.if-session-octets.true), unmade _ _)

pub returns : goal.returns
returns c =
    made_holds _ _ c.session_octets-octets.result _ c.session_stream.ensures (c.session_octets-octets.ensures ∙ ap session_octets c.width.ensures.0) (omega (arith, c.if-session-octets.false)) c.if-call-eq-UNKNOWN.false c.good_call.ensures
