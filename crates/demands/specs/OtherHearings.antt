-- Receivers that demand 3 told when heard throws out: our strict one, but for what they do with a vector that is heard.
use Rattle.std.specs.Prelude.{List, ℕ, eqb}
use Rattle.octets.specs.Tests.{pick}
use Rattle.answers.specs.declared.Answer.{Answer}
use Rattle.answers.specs.declared.Answer.TheVariants.{Done}
use Rattle.calls.specs.declared.call.Call.{Call}
use Rattle.calls.specs.Call.{standing, no_call, written}
use Rattle.calls.specs.Vector.{with_vector, announce_of}
use Rattle.hearing.specs.declared.Hearing.{Hearing}
use Rattle.hearing.specs.Hearing.{one_kept, keeping, no_hearing}
use Rattle.demands.specs.Log.{Receiver}
use Rattle.demands.specs.Demand3.{ours}
use Rattle.demands.specs.ToldWhenHeard.{hearing_recorder}

-- ---- those that keep nothing

abbrev pub taking : (List ℕ → Call → Answer × Call) → Receiver
taking announce =
    record { State = Call; idle = no_call; hear = ours.hear; join = ours.join; voice = ours.voice; lost = ours.lost; announce = announce }

-- version three's fault: it is the session's own at once
abbrev pub at_once_hearing : Receiver
at_once_hearing = taking (λ v s. (Done, written s.counts (with_vector v (standing s))))

-- in the middle of a session it is answered 0 and forgotten
abbrev pub deaf : Receiver
deaf = taking (λ v s. (Done, (announce_of s v).1))

-- ---- one that keeps too long

-- what was kept stays kept after it was announced, to be announced again as the next session starts
abbrev pub clung : Hearing → Hearing → Hearing
clung before after = pick (eqb before.kept one_kept) (keeping after.call before.next) after

abbrev pub clinging : Receiver
clinging =
    record {
      State = Hearing;
      idle = no_hearing;
      hear = hearing_recorder.hear;
      join = hearing_recorder.join;
      voice = λ mask frame s. let o = hearing_recorder.voice mask frame s in (o.0, (clung s o.1.0, o.1.1));
      lost = λ s. let o = hearing_recorder.lost s in (o.0, clung s o.1);
      announce = hearing_recorder.announce;
    }
