-- `nxdn::screen::nxdn_name` meets its contract.
use mathlib.Core.Path.{refl, sym, ap, ◌∙◌}
use borrow.Author.Tests.{eqb-false}
use Rattle.answers.specs.declared.Answer.{Answer}
use Rattle.answers.proofs.ResultLaws.{is_returned, is_refused}
use Rattle.keybook.specs.Screen.{name_of}
use Rattle.nxdn.specs.Operations.{Name}
use Rattle.nxdn.proofs.InterfaceLaws.{screen_misfit, screen_not, screen_done, named}
use Rattle.nxdn.proofs.screen.nxdn_name.Goals as goal

pub returns-then-name-ne-NAME_OCTETS : goal.returns-then-name-ne-NAME_OCTETS
returns-then-name-ne-NAME_OCTETS c = screen_misfit _ (Name _ _) _ c.if-name-ne-NAME_OCTETS.true

pub returns-in-Err : goal.returns-in-Err
returns-in-Err c =
    let o = name_of c.args.book.now c.args.cipher c.args.id in
    let w = is_refused o c.name.ensures c.in-Err.is in
    screen_not _ (Name _ _) _ (named _ _ _ (ap (λ (a : Answer). (a, o.1)) (sym w.0))) c.if-name-ne-NAME_OCTETS.false c.number.ensures (λ z. eqb-false _ _ w.1 (sym c.number.ensures ∙ z))

pub returns-in-Ok : goal.returns-in-Ok
returns-in-Ok c =
    let e = is_returned (name_of c.args.book.now c.args.cipher c.args.id) c.name.ensures c.in-Ok.is in
    screen_done _ (Name _ _) _ (named _ _ _ (sym e)) c.if-name-ne-NAME_OCTETS.false refl refl c.copy_from_slice.ensures.after
