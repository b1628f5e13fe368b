-- `report::sum_at` meets its contract.
use mathlib.Core.Path.{◌≡◌}
use Rattle.report.specs.Report.{count_at, sum_below}
use Rattle.report.proofs.sum_at.Given as goal

abbrev pub invariant-loop-call : goal.invariant-loop-call
invariant-loop-call l = l.sum ≡ sum_below (count_at l.place l.counts) l.call
