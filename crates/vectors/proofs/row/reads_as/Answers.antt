-- `vectors::row::reads_as` meets its contract.
use mathlib.Core.Bool.{false≢true}
use native.Mathlib.Omega.{arith}
use borrow.Author.Rules.{rules}
use Rattle.vectors.proofs.RowLaws.{not_read, read_same}
use Rattle.vectors.proofs.row.reads_as.Goals as goal

pub returns-then-octets-room : goal.returns-then-octets-room
returns-then-octets-room c = (λ t. absurd (false≢true t), λ e l. absurd (omega arith))

pub returns-then-not-octets_of : goal.returns-then-not-octets_of
returns-then-not-octets_of c = not_read _ _ _ _ (search rules) c.octets_of.ensures.1 (c.if-not-octets_of.true)

pub returns : goal.returns
returns c =
    read_same _ _ _ _ (λ j. omega (arith, c.slice_known-2-1.given j)) (λ j. omega (arith, c.type_inv.octets j))
    (c.octets_of.ensures.0 (c.if-not-octets_of.false)) c.same.ensures
