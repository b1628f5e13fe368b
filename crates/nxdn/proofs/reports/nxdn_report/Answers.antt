-- `nxdn::reports::nxdn_report` meets its contract.
use mathlib.Core.Path.{◌∙◌}
use Rattle.nxdn.proofs.InterfaceLaws.{report_misfit, report_refused, report_returned}
use Rattle.nxdn.proofs.reports.nxdn_report.Goals as goal

pub returns-then-sums-ne-FIGURES : goal.returns-then-sums-ne-FIGURES
returns-then-sums-ne-FIGURES c = report_misfit _ _ c.if-sums-ne-FIGURES.true

pub returns-in-Ok : goal.returns-in-Ok
returns-in-Ok c = report_returned _ _ c.if-sums-ne-FIGURES.false _ c.in-Ok.ensures (c.copy_from_slice.ensures.after ∙ c.figures_of.ensures)

pub returns-in-Err : goal.returns-in-Err
returns-in-Err c = report_refused _ _ c.if-sums-ne-FIGURES.false _ c.in-Err.ensures c.number.ensures
