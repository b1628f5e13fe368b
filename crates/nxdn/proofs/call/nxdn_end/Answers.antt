-- `nxdn::call::nxdn_end` meets its contract.
use borrow.Author.Tests.{eq-eqb, ne_eqb}
use Rattle.nxdn.specs.Operations.{End}
use Rattle.nxdn.specs.Interface.{Of}
use Rattle.nxdn.proofs.CallLaws.{call_short, call_unfit, end-refused, end-done}
use Rattle.nxdn.proofs.call.nxdn_end.Goals as goal

pub returns-in_default : goal.returns-in_default
returns-in_default c = call_short _ (Of End) _ _ c.in_default.ensures

pub returns-then-counts-ne-COUNTS : goal.returns-then-counts-ne-COUNTS
returns-then-counts-ne-COUNTS c = call_unfit _ (Of End) _ _ c.in-Some.ensures.0 (ne_eqb _ _ c.if-counts-ne-COUNTS.true)

pub returns-in-Ok : goal.returns-in-Ok
returns-in-Ok c =
    end-done _ _ c.in-Some.ensures.0 (eq-eqb _ _ c.if-counts-ne-COUNTS.false) c.in-Some.ensures.1 c.call_of.ensures c.end.ensures c.in-Ok.is c.carry.ensures.carried c.write.ensures c.lay_counts.ensures

pub returns-in-Err : goal.returns-in-Err
returns-in-Err c =
    end-refused _ _ c.in-Some.ensures.0 (eq-eqb _ _ c.if-counts-ne-COUNTS.false) c.in-Some.ensures.1 c.call_of.ensures c.end.ensures c.in-Err.is c.number.ensures
