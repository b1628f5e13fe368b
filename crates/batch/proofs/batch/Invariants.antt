-- `batch::batch`: after i steps, what is left comes to the whole.
use lib.ListN.{length}
use Rattle.hearing.specs.Hearing.{call_of}
use Rattle.sessions.specs.Session.{Cached}
use Rattle.batch.proofs.BatchLaws.{Going}
use Rattle.batch.proofs.batch.Given as goal

abbrev pub invariant-loop-i : goal.invariant-loop-i
invariant-loop-i l =
    Going (length l.initial.answers) l.initial.hearing l.initial.steps l.i l.answers l.hearing l.steps × Cached l.session.made (call_of l.hearing) l.session.octets.now
