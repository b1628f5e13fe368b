-- `nxdn::call::nxdn_next_vector` meets its contract.
use mathlib.Core.Path.{refl, ap, ◌∙◌}
use Rattle.answers.specs.declared.Answer.{Answer}
use Rattle.answers.proofs.ResultLaws.{told_with}
use Rattle.calls.specs.Vector.{next_vector_of}
use Rattle.nxdn.specs.Interface.{Next}
use Rattle.nxdn.proofs.CallLaws.{look_short, look_is, next-left}
use Rattle.nxdn.proofs.call.nxdn_next_vector.Goals as goal

pub returns-in_default : goal.returns-in_default
returns-in_default c = look_short Next _ _ c.in_default.ensures

pub returns : goal.returns
returns c =
    let t = ap (λ (a : Answer). (a, c.next_vector.new.out)) c.from.ensures ∙ told_with (next_vector_of c.call_of.result c.args.vector.now) c.next_vector.ensures in
    look_is Next _ _ c.in-Some.ensures.0 refl c.in-Some.ensures.1 c.call_of.ensures t c.number.ensures (next-left _ _ t)
