-- `records::output::put_answer` meets its contract.
use Rattle.records.proofs.OutputLaws.{answer_laid}
use Rattle.records.proofs.output.put_answer.Goals as goal

pub returns : goal.returns
returns c =
    answer_laid _ _ _ _ c.requires.0 c.number.ensures c.put_number-number.ensures c.put-first.ensures c.put_place-place.ensures c.put-second.ensures
    c.put_frame-shown.ensures c.put.ensures
