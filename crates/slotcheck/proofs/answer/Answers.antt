-- `slotcheck::answer` meets its contract.
use mathlib.Core.Path.{sym, ◌∙◌}
use borrow.Author.Tests.{eqb-true}
use borrow.Author.Rules.{part_to_end}
use borrow.Author.Rules.{rules}
use Rattle.records.proofs.RunLaws.{fed_on, fed_all}
use Rattle.slotcheck.proofs.answer.Goals as goal

pub loop-rest-preserved : goal.loop-rest-preserved
loop-rest-preserved g c = (
  rw (part_to_end c.loop-rest.rest.now c.take-took.result.used) (sym (fed_on c.loop-rest.rest.now c.loop-rest.out _ _ c.take-took.ensures.taken) ∙ c.loop-rest.invariant.0),
  search rules,
  search rules,
)

pub returns : goal.returns
returns g c =
    sym (fed_all _ c.loop-rest.rest.now (eqb-true _ _ (sym c.is_empty.ensures ∙ c.loop-rest-test.false))) ∙ c.loop-rest.invariant.0
