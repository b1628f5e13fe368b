-- `voice::slot::voice_by` meets its contract.
use native.Mathlib.Omega.{arith}
use borrow.Author.Tests.{not-true, not-false}
use Rattle.std.proofs.lemmas.Result.{err_from_is_err_and}
use Rattle.voice.specs.Slot.{stream_of}
use Rattle.voice.proofs.SlotLaws.{turned_long, turned_inside, lent_refused, lent_short, lent-held, lent-turned}
use Rattle.voice.proofs.slot.voice_by.Goals as goal

pub returns-in_err-slot : goal.returns-in_err-slot
returns-in_err-slot c =
    let p = err_from_is_err_and c.from_residual.result c.from_residual.ensures.1 in
    rw (p.1, p.2) (lent_refused _ _ _ _ c.step.ensures c.in_err-slot.was)

pub returns-then-session-session_octets : goal.returns-then-session-session_octets
returns-then-session-session_octets c =
    lent_short _ _ _ _ c.step.ensures c.in_ok-slot.was (omega (arith, c.if-session-session_octets.true, c.session_octets.ensures, c.width.ensures.0))

pub turn_by-requires : goal.turn_by-requires
turn_by-requires c =
    (turned_inside stream_of _ _ _ c.step.ensures c.in_ok-slot.was, turned_long stream_of _ _ _ c.step.ensures c.in_ok-slot.was, omega (arith, c.if-session-session_octets.false, c.session_octets.ensures, c.width.ensures.0))

pub returns-then-not-slot : goal.returns-then-not-slot
returns-then-not-slot c =
    lent-turned _ _ _ _ c.step.ensures c.in_ok-slot.was (omega (arith, c.if-session-session_octets.false, c.session_octets.ensures, c.width.ensures.0)) (not-true _ c.if-not-slot.true) c.turn_by.ensures

pub returns-else-not-slot : goal.returns-else-not-slot
returns-else-not-slot c =
    lent-held _ _ _ _ c.step.ensures c.in_ok-slot.was (omega (arith, c.if-session-session_octets.false, c.session_octets.ensures, c.width.ensures.0)) (not-false _ c.if-not-slot.false)
