-- `records::step::voice_slot` meets its contract.
use Rattle.records.proofs.StepLaws.{slot_refused}
use Rattle.records.proofs.step.voice_slot.Goals as goal

pub returns-in-Err-clause-slot : goal.returns-in-Err-clause-slot
returns-in-Err-clause-slot c =
    rw (c.no_frame-in-Err.ensures.0, c.no_frame-in-Err.ensures.1) (slot_refused _ _ _ c.voice_slot.ensures.slot c.in-Err.is)
