-- `sessions::Session::voice_slot` meets its contract.
use mathlib.Core.Path.{ap}
use Rattle.std.proofs.lemmas.Result.{err_from_is_err_and}
use Rattle.voice.specs.Told.{slot_of}
use Rattle.sessions.proofs.SessionLaws.{voice_held, voice_cached}
use Rattle.sessions.proofs.Session.voice_slot.Goals as goal

pub returns-in-Some-clause-cached : goal.returns-in-Some-clause-cached
returns-in-Some-clause-cached c =
    rw c.moved_to.ensures (voice_cached _ _ c.hold.ensures.cached c.if-not-hold.false _ _ c.goes_on-self.ensures (ap slot_of c.in-Some.ensures.frame_after))

pub returns-in_err-slot-clause-slot : goal.returns-in_err-slot-clause-slot
returns-in_err-slot-clause-slot c =
    let p = err_from_is_err_and c.from_residual.result c.from_residual.ensures.1 in
    rw (p.1, p.2)
    (voice_held _ _ c.hold.ensures.cached c.if-not-hold.false _ _ (rw (c.in_err-slot.was, c.in_default.ensures.frame_unchanged) at c.voice_by.ensures))

pub returns-in_err-slot-clause-cached : goal.returns-in_err-slot-clause-cached
returns-in_err-slot-clause-cached c =
    let p = err_from_is_err_and c.from_residual.result c.from_residual.ensures.1 in rw (p.1, c.hold.ensures.held.1) c.hold.ensures.cached

pub returns-clause-slot : goal.returns-clause-slot
returns-clause-slot c =
    voice_held _ _ c.hold.ensures.cached c.if-not-hold.false _ _ (rw (c.in_ok-slot.was, c.in_default.ensures.frame_unchanged) at c.voice_by.ensures)

pub returns-clause-cached : goal.returns-clause-cached
returns-clause-cached c =
    voice_cached _ _ c.hold.ensures.cached c.if-not-hold.false _ _ c.goes_on-self-2.ensures
    (voice_held _ _ c.hold.ensures.cached c.if-not-hold.false _ _ (rw (c.in_ok-slot.was, c.in_default.ensures.frame_unchanged) at c.voice_by.ensures))
