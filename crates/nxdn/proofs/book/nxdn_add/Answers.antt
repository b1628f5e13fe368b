-- `nxdn::book::nxdn_add` meets its contract.
use mathlib.Core.Path.{ap, ◌∙◌}
use Rattle.answers.specs.declared.Answer.{Answer}
use Rattle.answers.proofs.ResultLaws.{told_with}
use Rattle.keybook.specs.History.{Add, step}
use Rattle.nxdn.proofs.InterfaceLaws.{booked}
use Rattle.nxdn.proofs.book.nxdn_add.Goals as goal

pub returns : goal.returns
unfolding step
returns c =
    let o = step (Add c.args.cipher c.args.id c.args.octets.now) c.args.book.now in
    booked (Add _ _ _) _ (ap (λ (a : Answer). (a, c.add.new.book)) c.from.ensures ∙ told_with o c.add.ensures) c.number.ensures
