-- `lines::record::join_record` meets its contract.
use Rattle.lines.proofs.RecordLaws.{join_no_pair, join_is}
use Rattle.lines.proofs.record.join_record.Goals as goal

pub returns-in_err-cipher-clause-fields : goal.returns-in_err-cipher-clause-fields
returns-in_err-cipher-clause-fields c = λ xs. rw c.from_residual.ensures (join_no_pair _ _ c.in_err-cipher.ensures)

pub returns-clause-fields : goal.returns-clause-fields
returns-clause-fields c = λ xs. rw c.alone.ensures (join_is _ _ _ _ c.in_ok-cipher.ensures xs)
