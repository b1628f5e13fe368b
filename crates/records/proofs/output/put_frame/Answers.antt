-- `records::output::put_frame` meets its contract.
use mathlib.Core.Path.{sym, ◌∙◌}
use mathlib.Core.Bool.{true≢false}
use native.Mathlib.Omega.{arith}
use borrow.Author.Tests.{eqb-true, eq-eqb}
use Rattle.records.proofs.OutputLaws.{laid_as, shown-none, shown_frame}
use Rattle.records.proofs.output.put_frame.Goals as goal

pub returns-then-is_empty : goal.returns-then-is_empty
returns-then-is_empty c = laid_as c.put.ensures (shown-none c.args.frame.now (eqb-true _ _ (sym c.is_empty.ensures ∙ c.if-is_empty.true))) (omega arith)

pub returns : goal.returns
returns c =
    laid_as c.put_octets.ensures (shown_frame _ (λ e. true≢false (sym (eq-eqb _ _ e) ∙ sym c.is_empty.ensures ∙ c.if-is_empty.false))) (omega arith)
