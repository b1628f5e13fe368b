-- `lines::record::voice_record` meets its contract.
use mathlib.Core.Path.{sym}
use native.Mathlib.Omega.{arith}
use Rattle.text.proofs.DecimalLaws.{number-most}
use Rattle.text.proofs.FieldLaws.{last-lent}
use Rattle.lines.specs.Record.{record_frame}
use Rattle.lines.proofs.RecordLaws.{voice_no_mask, voice_is}
use Rattle.lines.proofs.record.voice_record.Goals as goal

pub returns-in_err-mask-clause-fields : goal.returns-in_err-mask-clause-fields
returns-in_err-mask-clause-fields c = rw c.from_residual.ensures (voice_no_mask _ (sym c.in_err-mask.ensures.number_value))

pub overflow_cast-mask : goal.overflow_cast-mask
overflow_cast-mask c = omega (arith, number-most _ _ _ c.in_ok-mask.ensures.number_value)

pub returns-clause-fields : goal.returns-clause-fields
returns-clause-fields c =
    rw c.then_some.ensures
    (voice_is _ _ c.in_ok-mask.ensures.next_value _ _ (last-lent c.args.octets.now record_frame (omega arith) _ _ _ (c.last_hex-read.ensures.value, c.last_hex-read.ensures.octets_after)) _ (sym c.in_ok-mask.ensures.number_value) _)
