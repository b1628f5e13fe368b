-- `batch::batch` meets its contract.
use mathlib.Core.Path.{refl, ◌∙◌}
use borrow.Author.Rules.{rules}
use Rattle.sessions.proofs.SessionLaws.{unmade}
use Rattle.batch.proofs.BatchLaws.{going_none, going_all, going_on_lem, told_done, step_refused}
use Rattle.batch.proofs.batch.Goals.{in-Ok, in-Err}
use Rattle.batch.proofs.batch.Goals as goal

pub loop-i-init : goal.loop-i-init
loop-i-init c = (going_none _ _ _ _ refl c.requires, unmade _ _)

pub record_step-requires : goal.record_step-requires
record_step-requires c = (search rules, c.loop-i.invariant.1)

pub loop-i-preserved : goal.loop-i-preserved
loop-i-preserved c =
    elim c.match-record_step.branch [
      | in-Ok w ↦
          let t = told_done _ c.record_step.ensures.recorded w.in-Ok.is in
          rw (w.hearing-is, w.answers-is) (going_on_lem _ _ _ c.loop-i.invariant.0 (search rules) (search rules) t.0 (w.from.ensures ∙ t.1), rw w.in-Ok.is at c.record_step.ensures.cached)
      | in-Err w ↦
          rw (w.hearing-is, w.answers-is)
          (going_on_lem _ _ _ c.loop-i.invariant.0 (search rules) (search rules) (step_refused _ _ c.record_step.ensures.recorded w.in-Err.is) w.number.ensures, rw w.in-Err.is at c.record_step.ensures.cached)
    ]

pub returns : goal.returns
returns c = going_all _ _ _ c.loop-i.invariant.0 (search rules)
