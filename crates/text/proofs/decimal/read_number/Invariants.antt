-- `text::decimal::read_number` meets its contract.
use Rattle.text.proofs.DecimalLaws.{Reading}
use Rattle.text.proofs.decimal.read_number.Given as goal

abbrev pub invariant-loop-digit : goal.invariant-loop-digit
invariant-loop-digit l = Reading l.most l.field l.digit-index l.value
