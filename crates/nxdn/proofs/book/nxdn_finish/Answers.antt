-- `nxdn::book::nxdn_finish` meets its contract.
use mathlib.Core.Path.{ap, ◌∙◌}
use Rattle.answers.specs.declared.Answer.{Answer}
use Rattle.answers.proofs.ResultLaws.{told_with}
use Rattle.keybook.specs.History.{Finish, step}
use Rattle.nxdn.proofs.InterfaceLaws.{booked}
use Rattle.nxdn.proofs.book.nxdn_finish.Goals as goal

pub returns : goal.returns
unfolding step
returns c =
    let o = step (Finish c.args.cipher c.args.id) c.args.book.now in
    booked (Finish _ _) _ (ap (λ (a : Answer). (a, c.finish.new.book)) c.from.ensures ∙ told_with o c.finish.ensures) c.number.ensures
