-- `lines::record::announce_record` meets its contract.
use native.Mathlib.Omega.{arith}
use Rattle.sizes.specs.Ciphers.{vector_octets}
use Rattle.text.proofs.FieldLaws.{last-lent}
use Rattle.lines.proofs.RecordLaws.{announce_is}
use Rattle.lines.proofs.record.announce_record.Goals as goal

pub returns-clause-fields : goal.returns-clause-fields
returns-clause-fields c =
    rw c.then_some.ensures (announce_is _ _ _ (last-lent c.args.octets.now vector_octets (omega arith) _ _ _ (c.last_hex-read.ensures.value, c.last_hex-read.ensures.octets_after)) _)
