-- `records::output::put_place` meets its contract.
use native.Mathlib.Omega.{arith}
use Rattle.records.proofs.OutputLaws.{laid_as, place_closed, place_open}
use Rattle.records.proofs.output.put_place.Goals as goal

pub returns-then-call-eq-CLOSED : goal.returns-then-call-eq-CLOSED
returns-then-call-eq-CLOSED c = laid_as c.put.ensures (place_closed c.args.call c.if-call-eq-CLOSED.true) (omega arith)

pub returns : goal.returns
returns c = laid_as c.put_number.ensures (place_open c.args.call c.if-call-eq-CLOSED.false) (omega arith)
