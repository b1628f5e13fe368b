-- `report::counts_within` meets its contract.
use mathlib.Core.Path.{refl, sym, ◌∙◌}
use native.Mathlib.Omega.{arith}
use Rattle.report.proofs.SumLaws.{part_refused, part_passed}
use Rattle.report.proofs.counts_within.Goals as goal

pub loop-part-init : goal.loop-part-init
loop-part-init c = refl

pub returns-then-not-part_within : goal.returns-then-not-part_within
returns-then-not-part_within c =
    sym (c.loop-part.invariant ∙ part_refused 32 _ c.in-Some.ensures.cases.0 (sym c.part_within.ensures ∙ c.if-not-part_within.true))

pub loop-part-smaller : goal.loop-part-smaller
loop-part-smaller c = omega (arith, c.in-Some.ensures.cases.2)

pub loop-part-preserved : goal.loop-part-preserved
loop-part-preserved c =
    c.loop-part.invariant
    ∙ part_passed 32 _ c.in-Some.ensures.cases.0 c.in-Some.ensures.cases.1 (sym c.part_within.ensures ∙ c.if-not-part_within.false)

pub returns : goal.returns
returns c = c.part_within-2.ensures ∙ sym c.loop-part.invariant
