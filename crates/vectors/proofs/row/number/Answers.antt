-- `vectors::row::number` meets its contract.
use native.Mathlib.Omega.{arith}
use Rattle.text.proofs.DecimalLaws.{number_or}
use Rattle.vectors.proofs.row.number.Goals as goal

pub overflow_cast-result : goal.overflow_cast-result
overflow_cast-result c = omega (arith, c.unwrap_or.ensures, number_or _ _ _ c.read_number.ensures)
