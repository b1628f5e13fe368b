-- `keyentry::extend` meets its contract.
use native.Mathlib.Omega.{arith}
use borrow.Author.Rules.{rules}
use mathlib.Core.Path.{refl}
use Rattle.answers.proofs.ResultLaws.{refused_with, done_with}
use Rattle.keyentry.proofs.EntryLaws.{extend_already, extend_past, extend_done}
use Rattle.keyentry.proofs.extend.Goals as goal

pub returns-then-e-eq1 : goal.returns-then-e-eq1
returns-then-e-eq1 c = refused_with refl (extend_already _ _ (search rules))

pub returns-then-xs-lacking : goal.returns-then-xs-lacking
returns-then-xs-lacking c = refused_with refl (extend_past _ _ (search rules) (omega arith))

pub returns : goal.returns
returns c = done_with (extend_done _ _ (search rules) (omega arith) c.append.ensures)
