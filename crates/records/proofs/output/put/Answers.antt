-- `records::output::put` meets its contract.
use Rattle.records.proofs.OutputLaws.{laid_text}
use Rattle.records.proofs.output.put.Goals as goal

pub returns : goal.returns
returns c = laid_text _ _ _ _ c.copy_from_slice.ensures.after
