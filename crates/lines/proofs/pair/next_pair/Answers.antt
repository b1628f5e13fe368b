-- `lines::pair::next_pair` meets its contract.
use mathlib.Core.Path.{sym}
use native.Mathlib.Omega.{arith}
use Rattle.text.proofs.DecimalLaws.{number-most}
use Rattle.lines.proofs.PairLaws.{pair_not-first, pair_not-second, pair_of}
use Rattle.lines.proofs.pair.next_pair.Goals as goal

pub returns-in_err-cipher : goal.returns-in_err-cipher
returns-in_err-cipher c = rw c.from_residual.ensures (pair_not-first _ (sym c.in_err-cipher.ensures.number_value) _)

pub returns-in_err-id : goal.returns-in_err-id
returns-in_err-id c =
    rw c.from_residual-in_err-id.ensures (pair_not-second _ _ c.in_ok-cipher.ensures.next_value (sym c.in_err-id.ensures.number_value) _)

pub overflow_cast-result : goal.overflow_cast-result
overflow_cast-result c = omega (arith, number-most _ _ _ c.in_ok-cipher.ensures.number_value)

pub overflow_cast-result-2 : goal.overflow_cast-result-2
overflow_cast-result-2 c = omega (arith, number-most _ _ _ c.in_ok-id.ensures.number_value)

pub returns : goal.returns
returns c =
    pair_of _ _ c.in_ok-cipher.ensures.next_value _ _ _ (sym c.in_ok-cipher.ensures.number_value) (sym c.in_ok-id.ensures.number_value) c.in_ok-id.ensures.next_value
