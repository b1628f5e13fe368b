-- `nxdn::screen::nxdn_inventory` meets its contract.
use mathlib.Core.Path.{refl, sym, ap, ◌∙◌}
use borrow.Author.Tests.{eqb-false}
use Rattle.answers.specs.declared.Answer.{Answer}
use Rattle.answers.proofs.ResultLaws.{is_returned, is_refused}
use Rattle.keybook.specs.Screen.{inventory_of}
use Rattle.nxdn.specs.Operations.{Inventory}
use Rattle.nxdn.proofs.InterfaceLaws.{screen_misfit, screen_not, screen_done, listed-is}
use Rattle.nxdn.proofs.screen.nxdn_inventory.Goals as goal

pub returns-then-shown-ne-SHOWN_KEY : goal.returns-then-shown-ne-SHOWN_KEY
returns-then-shown-ne-SHOWN_KEY c = screen_misfit _ (Inventory _) _ c.if-shown-ne-SHOWN_KEY.true

pub returns-in-Err : goal.returns-in-Err
returns-in-Err c =
    let o = inventory_of c.args.book.now c.args.entry in
    let w = is_refused o c.inventory.ensures c.in-Err.is in
    screen_not _ (Inventory _) _ (listed-is _ _ (ap (λ (a : Answer). (a, o.1)) (sym w.0))) c.if-shown-ne-SHOWN_KEY.false c.number.ensures (λ z. eqb-false _ _ w.1 (sym c.number.ensures ∙ z))

pub returns-in-Ok : goal.returns-in-Ok
returns-in-Ok c =
    let e = is_returned (inventory_of c.args.book.now c.args.entry) c.inventory.ensures c.in-Ok.is in
    screen_done _ (Inventory _) _ (listed-is _ _ (sym e)) c.if-shown-ne-SHOWN_KEY.false refl refl c.lay_entry.ensures
