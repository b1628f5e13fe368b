-- `text::decimal::put_decimal`, which calls itself for the tenth part, meets its contract.
use native.Mathlib.Omega.{arith}
use borrow.Author.Rules.{rules}
use Rattle.text.proofs.DecimalLaws.{decimal_some, longer, written_one, written_more}
use Rattle.text.proofs.decimal.+put_decimal.Goals as goal

pub bounds-out-0 : goal.bounds-out-0
bounds-out-0 t c = omega (arith, decimal_some c.args.n)

pub returns-then-n-lt10 : goal.returns-then-n-lt10
returns-then-n-lt10 t c = written_one _ _ c.requires (search rules)

pub put_decimal-at-requires : goal.put_decimal-at-requires
put_decimal-at-requires t c = (omega arith, omega (arith, longer c.args.n (omega arith)))

pub bounds-out-at : goal.bounds-out-at
bounds-out-at t c = omega (arith, c.put_decimal-at.ensures.0, longer c.args.n (omega arith))

pub overflow_add-result : goal.overflow_add-result
overflow_add-result t c = omega (arith, c.put_decimal-at.ensures.0, longer c.args.n (omega arith))

pub returns : goal.returns
returns t c = written_more _ _ c.requires (search rules) _ _ c.put_decimal-at.ensures
