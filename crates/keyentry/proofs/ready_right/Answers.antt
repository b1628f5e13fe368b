-- `keyentry::ready_right` meets its contract.
use mathlib.Core.Path.{◌∙◌}
use native.Mathlib.Omega.{arith}
use borrow.Author.Rules.{rules}
use borrow.Author.Tests.{ne_eqb}
use Rattle.keyentry.proofs.EntryLaws.{ready-none, ready_other, ready_short, ready-key}
use Rattle.keyentry.proofs.ready_right.Goals as goal

pub returns-in-0 : goal.returns-in-0
returns-in-0 c = ready-none _ c.in-0.is

pub returns-then-lacking-eq0 : goal.returns-then-lacking-eq0
returns-then-lacking-eq0 c = c.key_allowed.ensures ∙ ready-key _ (λ z. absurd (omega arith)) (omega arith) (omega arith) c.key.ensures

pub returns-else-lacking-eq0 : goal.returns-else-lacking-eq0
returns-else-lacking-eq0 c = ne_eqb _ _ c.if-lacking-eq0.false ∙ ready_short _ (λ z. absurd (omega arith)) (omega arith) (λ z. absurd (omega arith))

pub returns-in_default : goal.returns-in_default
returns-in_default c = let h = c.in_default in ready_other _ (search rules) (omega arith)
