-- `keybook::ready_entry` meets its contract.
use mathlib.Core.Path.{refl}
use Rattle.answers.proofs.ResultLaws.{refused, returned}
use Rattle.keybook.proofs.OperationLaws.{ready-not, ready_done}
use Rattle.keybook.proofs.ready_entry.Goals as goal

pub returns-then-e-ne1 : goal.returns-then-e-ne1
returns-then-e-ne1 c = refused refl (ready-not _ c.if-e-ne1.true refl refl)

pub returns : goal.returns
returns c = returned (ready_done _ c.if-e-ne1.false c.key.ensures refl)
