-- `timed::timed_session_slots` is safe and ends.
use Rattle.sessions.proofs.SessionLaws.{unmade}
use Rattle.timed.proofs.timed_session_slots.Goals as goal

pub loop-init : goal.loop-init
loop-init c = unmade _ _
