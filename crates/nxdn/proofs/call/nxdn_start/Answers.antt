-- `nxdn::call::nxdn_start` meets its contract.
use mathlib.Core.Path.{refl}
use borrow.Author.Rules.{rules}
use Rattle.nxdn.specs.Operations.{Start, call_step}
use Rattle.nxdn.proofs.CallLaws.{operated}
use Rattle.nxdn.proofs.call.nxdn_start.Goals as goal

pub returns : goal.returns
unfolding call_step
returns c = operated _ (Start _ _ _ _) _ refl refl _ c.operate.ensures.short c.operate.ensures.kept (λ r p. search rules) refl
