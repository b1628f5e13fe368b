-- `keyentry::complete` meets its contract.
use mathlib.Core.Path.{refl, sym, ◌∙◌}
use native.Mathlib.Omega.{arith}
use borrow.Author.Rules.{rules}
use Rattle.answers.proofs.ResultLaws.{refused_with, done_with}
use Rattle.keyentry.proofs.EntryLaws.{complete_already, complete_short, complete_refused, complete_done}
use Rattle.keyentry.proofs.complete.Goals as goal

pub returns-then-e-eq1 : goal.returns-then-e-eq1
returns-then-e-eq1 c = refused_with refl (complete_already _ (search rules))

pub returns-then-lacking-gt0 : goal.returns-then-lacking-gt0
returns-then-lacking-gt0 c = refused_with refl (complete_short _ (search rules) (omega arith))

pub returns-then-not-key_allowed : goal.returns-then-not-key_allowed
returns-then-not-key_allowed c = refused_with refl (complete_refused _ (search rules) (omega arith) c.key.ensures (sym c.key_allowed.ensures ∙ c.if-not-key_allowed.true))

pub returns : goal.returns
returns c = done_with (complete_done _ (search rules) (omega arith) c.key.ensures (sym c.key_allowed.ensures ∙ c.if-not-key_allowed.false))
