-- `nxdn::book::nxdn_erase` meets its contract.
use mathlib.Core.Path.{ap, ◌∙◌}
use Rattle.answers.specs.declared.Answer.{Answer}
use Rattle.answers.proofs.ResultLaws.{told_with}
use Rattle.keybook.specs.History.{Erase, step}
use Rattle.nxdn.proofs.InterfaceLaws.{booked}
use Rattle.nxdn.proofs.book.nxdn_erase.Goals as goal

pub returns : goal.returns
unfolding step
returns c =
    let o = step (Erase c.args.cipher c.args.id) c.args.book.now in
    booked (Erase _ _) _ (ap (λ (a : Answer). (a, c.erase.new.book)) c.from.ensures ∙ told_with o c.erase.ensures) c.number.ensures
