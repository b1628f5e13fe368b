-- `step::load_unnamed` meets its contract.
use Rattle.keyentry.specs.Name.{no_name}
use Rattle.answers.proofs.ResultLaws.{told_with}
use Rattle.records.proofs.step.load_unnamed.Goals as goal

pub returns : goal.returns
unfolding no_name
returns c = rw c.from.ensures (told_with _ c.load.ensures)
