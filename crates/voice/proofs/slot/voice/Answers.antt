-- `voice::slot::voice` meets its contract.
use borrow.Author.Tests.{not-true, not-false}
use Rattle.std.proofs.lemmas.Result.{err_from_is_err_and}
use Rattle.voice.specs.Slot.{stream_of}
use Rattle.voice.proofs.SlotLaws.{frame_refused, frame_stays, frame_turned, turned_long, turned_inside}
use Rattle.voice.proofs.slot.voice.Goals as goal

pub returns-in_err-slot : goal.returns-in_err-slot
returns-in_err-slot c =
    let p = err_from_is_err_and c.from_residual.result c.from_residual.ensures.1 in
    rw (p.1, p.2) (frame_refused stream_of _ _ _ c.step.ensures c.in_err-slot.was)

pub turn_slot-requires : goal.turn_slot-requires
turn_slot-requires c =
    (turned_inside stream_of _ _ _ c.step.ensures c.in_ok-slot.was, turned_long stream_of _ _ _ c.step.ensures c.in_ok-slot.was)

pub returns-then-not-slot : goal.returns-then-not-slot
returns-then-not-slot c = frame_turned stream_of _ _ _ c.step.ensures c.in_ok-slot.was (not-true _ c.if-not-slot.true) c.turn_slot.ensures

pub returns-else-not-slot : goal.returns-else-not-slot
returns-else-not-slot c = frame_stays stream_of _ _ _ c.step.ensures c.in_ok-slot.was (not-false _ c.if-not-slot.false)
