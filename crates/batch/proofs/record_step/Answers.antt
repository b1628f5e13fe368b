-- `batch::record_step` meets its contract.
use Rattle.batch.specs.declared.Kind.TheVariants as kind
use Rattle.batch.proofs.BatchLaws.{is_voice, is_lost, is_announce, is-heard, is_unknown}
use Rattle.batch.proofs.record_step.Goals as goal

pub returns-in-Some-Voice-clause-recorded : goal.returns-in-Some-Voice-clause-recorded
returns-in-Some-Voice-clause-recorded c = is_voice _ _ (rw c.in-Some-Voice.field-0-is at c.in-Some-Voice.ensures.numbered) c.voice_step.ensures.taken

pub returns-in-Some-Lost-clause-recorded : goal.returns-in-Some-Lost-clause-recorded
returns-in-Some-Lost-clause-recorded c = is_lost _ _ (rw c.in-Some-Lost.field-0-is at c.in-Some-Lost.ensures.numbered) (c.lost_step.ensures.taken _)

pub returns-in-Some-Announce-clause-recorded : goal.returns-in-Some-Announce-clause-recorded
returns-in-Some-Announce-clause-recorded c =
    is_announce _ _ (rw c.in-Some-Announce.field-0-is at c.in-Some-Announce.ensures.numbered) (c.announce_step.ensures.taken _)

pub returns-in-Some-Heard-clause-recorded : goal.returns-in-Some-Heard-clause-recorded
returns-in-Some-Heard-clause-recorded c = is-heard _ _ (rw c.in-Some-Heard.field-0-is at c.in-Some-Heard.ensures.numbered) (c.heard_step.ensures.taken _)

pub returns-in-None-clause-recorded : goal.returns-in-None-clause-recorded
returns-in-None-clause-recorded c =
    let no = c.in-None.ensures.other in is_unknown _ _ (no kind.Voice) (no kind.Lost) (no kind.Announce) (no kind.Heard)
