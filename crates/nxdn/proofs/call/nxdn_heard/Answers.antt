-- `nxdn::call::nxdn_heard` meets its contract.
use mathlib.Core.List.{[]}
use Rattle.nxdn.specs.Interface.{Heard}
use Rattle.nxdn.proofs.CallLaws.{call_short, heard-refused, heard_taken}
use Rattle.nxdn.proofs.call.nxdn_heard.Goals as goal

pub returns-in_default : goal.returns-in_default
returns-in_default c = call_short _ (Heard _) _ [] c.in_default.ensures

pub returns-in-Ok : goal.returns-in-Ok
returns-in-Ok c = heard_taken _ _ c.in-Some.ensures.0 c.in-Some.ensures.1 c.heard.ensures c.in-Ok.is c.write.ensures

pub returns-in-Err : goal.returns-in-Err
returns-in-Err c = heard-refused _ _ c.in-Some.ensures.0 c.in-Some.ensures.1 c.heard.ensures c.in-Err.is c.number.ensures
