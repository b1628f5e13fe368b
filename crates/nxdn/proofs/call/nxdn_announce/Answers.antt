-- `nxdn::call::nxdn_announce` meets its contract.
use mathlib.Core.Path.{refl}
use borrow.Author.Rules.{rules}
use Rattle.nxdn.specs.Operations.{Announce, call_step}
use Rattle.nxdn.proofs.CallLaws.{operated}
use Rattle.nxdn.proofs.call.nxdn_announce.Goals as goal

pub returns : goal.returns
unfolding call_step
returns c = operated _ (Announce _) _ refl refl _ c.operate.ensures.short c.operate.ensures.kept (λ r p. search rules) refl
