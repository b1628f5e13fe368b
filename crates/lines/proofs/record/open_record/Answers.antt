-- `lines::record::open_record` meets its contract.
use native.Mathlib.Omega.{arith}
use Rattle.sizes.specs.Ciphers.{vector_octets}
use Rattle.text.proofs.FieldLaws.{last-lent}
use Rattle.lines.proofs.RecordLaws.{open_no_pair, open_is}
use Rattle.lines.proofs.record.open_record.Goals as goal

pub returns-in_err-cipher-clause-fields : goal.returns-in_err-cipher-clause-fields
returns-in_err-cipher-clause-fields c = rw c.from_residual.ensures (open_no_pair _ _ c.in_err-cipher.ensures)

pub returns-clause-fields : goal.returns-clause-fields
returns-clause-fields c =
    rw c.then_some.ensures
    (open_is _ _ _ _ c.in_ok-cipher.ensures _ _ (last-lent c.args.octets.now vector_octets (omega arith) _ _ _ (c.last_hex-read.ensures.value, c.last_hex-read.ensures.octets_after)) _)
