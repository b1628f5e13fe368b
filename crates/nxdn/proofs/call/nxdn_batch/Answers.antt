-- `nxdn::call::nxdn_batch` meets its contract.
use native.Mathlib.Omega.{arith}
use Rattle.nxdn.proofs.InTurnLaws.{batch_short, batch_misfit, batch_done}
use Rattle.nxdn.proofs.call.nxdn_batch.Goals as goal

pub returns-in_default : goal.returns-in_default
returns-in_default c = batch_short _ _ _ c.in_default.ensures

pub returns-then-steps-answers : goal.returns-then-steps-answers
returns-then-steps-answers c = batch_misfit _ _ _ c.in-Some.ensures.0 (λ e. c.if-steps-answers.true (omega arith))

pub returns-then-steps-ne0 : goal.returns-then-steps-ne0
returns-then-steps-ne0 c = batch_misfit _ _ _ c.in-Some.ensures.0 (λ e. c.if-steps-ne0.true (omega arith))

pub returns : goal.returns
returns c =
    batch_done _ _ _ c.in-Some.ensures.0 (omega (arith, c.if-steps-answers.false, c.if-steps-ne0.false)) c.in-Some.ensures.1 c.batch-after.ensures c.write.ensures
