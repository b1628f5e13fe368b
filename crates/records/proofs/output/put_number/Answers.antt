-- `records::output::put_number` meets its contract.
use native.Mathlib.Omega.{arith}
use Rattle.text.proofs.DecimalLaws.{decimal_size}
use Rattle.records.proofs.OutputLaws.{laid-number}
use borrow.Author.Rules.{rules}
use Rattle.records.proofs.output.put_number.Goals as goal

pub put_decimal-requires : goal.put_decimal-requires
put_decimal-requires c = rw c.from.ensures (omega (arith, decimal_size 2 c.args.n (omega arith)))

pub overflow_add-result : goal.overflow_add-result
overflow_add-result c = omega (arith, rw c.from.ensures at c.put_decimal.ensures.0, decimal_size 2 c.args.n (omega arith))

pub returns : goal.returns
returns c = laid-number _ _ _ _ _ (omega arith) (search rules) (rw c.from.ensures at c.put_decimal.ensures.0) (rw c.from.ensures at c.put_decimal.ensures.1)
