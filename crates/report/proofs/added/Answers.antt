-- `report::added` meets its contract.
use native.Mathlib.Omega.{arith}
use Rattle.report.specs.Report.{opened, held}
use Rattle.report.proofs.SumLaws.{count_most, at_most, figured}
use Rattle.report.proofs.added.Goals as goal

pub overflow_add-result : goal.overflow_add-result
overflow_add-result c =
    let most = at_most c.args.counts.now (count_most c.args.counts.now c.requires.1) c.requires.0 in
    omega (arith, c.sum_at-opened.ensures, c.sum_at-held.ensures, most opened, most held)

pub returns : goal.returns
returns c = figured _ c.sum_at-opened.ensures c.sum_at-held.ensures c.sum_at-replaced.ensures c.sum_at-lost.ensures
