-- `timed::timed_session_slots` is safe and ends.
use Rattle.sessions.specs.Session.{Cached}
use Rattle.timed.proofs.timed_session_slots.Given as goal

abbrev pub invariant-loop : goal.invariant-loop
invariant-loop l = Cached l.session.made l.call l.session.octets.now
