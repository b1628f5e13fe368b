-- `nxdn::screen::turns_now` meets its contract.
use mathlib.Core.Path.{ap, ◌∙◌}
use mathlib.Core.Bool.{not}
use Rattle.nxdn.proofs.InterfaceLaws.{turns_not, turns_unless}
use Rattle.nxdn.proofs.screen.turns_now.Goals as goal

pub returns-then-call-eq-UNKNOWN : goal.returns-then-call-eq-UNKNOWN
returns-then-call-eq-UNKNOWN c = turns_not _ c.if-call-eq-UNKNOWN.true

pub returns : goal.returns
returns c = ap not c.is_full.ensures ∙ turns_unless _ c.requires c.if-call-eq-UNKNOWN.false
