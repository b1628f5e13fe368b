-- `nxdn::call::nxdn_voice` meets its contract.
use Rattle.nxdn.specs.Operations.{Voice}
use Rattle.nxdn.specs.Interface.{Of}
use Rattle.nxdn.proofs.CallLaws.{call_short, voice_refused, voice_taken}
use Rattle.nxdn.proofs.call.nxdn_voice.Goals as goal

pub returns-in_default : goal.returns-in_default
returns-in_default c = call_short _ (Of (Voice _ _)) _ _ c.in_default.ensures

pub returns-in-Ok : goal.returns-in-Ok
returns-in-Ok c =
    voice_taken _ _ _ c.in-Some.ensures.0 c.in-Some.ensures.1 c.call_of.ensures c.voice.ensures c.in-Ok.is c.from.ensures c.carry.ensures.carried c.write.ensures

pub returns-in-Err : goal.returns-in-Err
returns-in-Err c = voice_refused _ _ _ c.in-Some.ensures.0 c.in-Some.ensures.1 c.call_of.ensures c.voice.ensures c.in-Err.is c.number.ensures
