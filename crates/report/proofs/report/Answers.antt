-- `report::report` meets its contract.
use mathlib.Core.Path.{sym, ap, ◌∙◌}
use mathlib.Core.Logic.{inl, inr}
use native.Mathlib.Omega.{arith}
use borrow.Author.Rules.{rules}
use Rattle.std.specs.Prelude.{Ok}
use Rattle.report.proofs.SumLaws.{count_most}
use Rattle.report.proofs.ReportLaws.{some_above, refused-two, refused_past, done-result}
use Rattle.report.proofs.report.Goals as goal
use Rattle.report.proofs.report.Goals.{then-counts-gt-MOST_CALLS-via-then-counts-gt-MOST_CALLS, then-counts-gt-MOST_CALLS-via-else-counts-gt-MOST_CALLS+then-not-counts_within}

pub returns-then-counts-ne0 : goal.returns-then-counts-ne0
returns-then-counts-ne0 c = sym (refused-two _ c.if-counts-ne0.true)

pub returns-then-counts-gt-MOST_CALLS : goal.returns-then-counts-gt-MOST_CALLS
returns-then-counts-gt-MOST_CALLS c =
    sym (refused_past _ (c.if-counts-ne0.false, elim c.then-counts-gt-MOST_CALLS.branch [ then-counts-gt-MOST_CALLS-via-then-counts-gt-MOST_CALLS w ↦ inl (omega arith) | then-counts-gt-MOST_CALLS-via-else-counts-gt-MOST_CALLS+then-not-counts_within w ↦ inr (some_above _ (sym w.counts_within.ensures ∙ w.if-not-counts_within.true)) ]))

pub added-requires : goal.added-requires
added-requires c = (search rules, sym c.counts_within.ensures ∙ c.if-not-counts_within.false)

pub returns : goal.returns
returns c =
    let right = sym c.counts_within.ensures ∙ c.if-not-counts_within.false in
    ap Ok c.added.ensures ∙ sym (done-result _ (record { four = search rules; few = omega arith; small = count_most _ right }))
