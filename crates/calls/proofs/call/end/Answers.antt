-- `calls::call::end` meets its contract.
use mathlib.Core.Path.{refl, sym, ◌∙◌}
use Rattle.answers.proofs.ResultLaws.{refused, returned}
use Rattle.calls.specs.Call.{end_refusals}
use Rattle.calls.proofs.CallLaws.{is_bad_lem, not_bad, stands-none, stands_some, end_refused, end_done}
use Rattle.calls.proofs.call.end.Goals as goal

pub returns-then-not-good_call : goal.returns-then-not-good_call
unfolding end_refusals
returns-then-not-good_call c = refused refl (end_refused _ 0 (is_bad_lem _ (sym c.good_call.ensures ∙ c.if-not-good_call.true)))

pub returns-then-call-eq-CLOSED : goal.returns-then-call-eq-CLOSED
unfolding end_refusals
returns-then-call-eq-CLOSED c =
    let good = sym c.good_call.ensures ∙ c.if-not-good_call.false in refused refl (end_refused _ 1 (not_bad _ good, stands-none _ good c.if-call-eq-CLOSED.true))

pub returns : goal.returns
unfolding end_refusals
returns c =
    let good = sym c.good_call.ensures ∙ c.if-not-good_call.false in
    rw c.no_call.ensures (returned (end_done _ (not_bad _ good, (stands_some _ good c.if-call-eq-CLOSED.false, tt))))
