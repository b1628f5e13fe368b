-- `nxdn::book::nxdn_begin` meets its contract.
use mathlib.Core.Path.{ap, ◌∙◌}
use Rattle.answers.specs.declared.Answer.{Answer}
use Rattle.answers.proofs.ResultLaws.{told_with}
use Rattle.keybook.specs.History.{Begin, step}
use Rattle.nxdn.proofs.InterfaceLaws.{booked}
use Rattle.nxdn.proofs.book.nxdn_begin.Goals as goal

pub returns : goal.returns
unfolding step
returns c =
    let o = step (Begin c.args.cipher c.args.id c.args.name.now) c.args.book.now in
    booked (Begin _ _ _) _ (ap (λ (a : Answer). (a, c.begin.new.book)) c.from.ensures ∙ told_with o c.begin.ensures) c.number.ensures
