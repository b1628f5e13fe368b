-- `vectors::row::octets_of` meets its contract.
use mathlib.Core.Bool.{false≢true}
use native.Mathlib.Omega.{arith}
use Rattle.vectors.proofs.RowLaws.{read_law}
use Rattle.vectors.proofs.row.octets_of.Goals as goal

pub returns-then-out-gt-MOST_OCTETS : goal.returns-then-out-gt-MOST_OCTETS
returns-then-out-gt-MOST_OCTETS c = (λ t. absurd (false≢true t), λ h l. absurd (omega arith))

pub returns : goal.returns
returns c = read_law _ _ _ _ _ c.field.ensures c.read_hex.ensures.value c.read_hex.ensures.out_after
