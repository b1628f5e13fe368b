-- `nxdn::screen::nxdn_show` meets its contract.
use mathlib.Core.Path.{refl, sym, ◌∙◌}
use native.Mathlib.Omega.{arith}
use borrow.Author.Tests.{eq-eqb, ne_eqb}
use Rattle.nxdn.specs.Interface.{Show}
use Rattle.nxdn.proofs.CallLaws.{look_short, look_unfit, look_not, look_done, show_bad, show_good}
use Rattle.nxdn.proofs.screen.nxdn_show.Goals as goal

pub returns-in_default : goal.returns-in_default
returns-in_default c = look_short Show _ _ c.in_default.ensures

pub returns-then-shown-ne-SHOWN_CALL : goal.returns-then-shown-ne-SHOWN_CALL
returns-then-shown-ne-SHOWN_CALL c = look_unfit Show _ _ c.in-Some.ensures.0 (ne_eqb _ _ c.if-shown-ne-SHOWN_CALL.true)

pub returns-then-not-good_call : goal.returns-then-not-good_call
returns-then-not-good_call c =
    look_not Show _ _ c.in-Some.ensures.0 (eq-eqb _ _ c.if-shown-ne-SHOWN_CALL.false) c.in-Some.ensures.1 c.call_of-held.ensures (show_bad _ (sym c.good_call.ensures ∙ c.if-not-good_call.true)) c.number.ensures (λ z. omega (arith, z, c.number.ensures))

pub lay_call-requires : goal.lay_call-requires
lay_call-requires c = (c.if-shown-ne-SHOWN_CALL.false, sym c.good_call.ensures ∙ c.if-not-good_call.false)

pub returns : goal.returns
returns c =
    look_done Show _ _ c.in-Some.ensures.0 (eq-eqb _ _ c.if-shown-ne-SHOWN_CALL.false) c.in-Some.ensures.1 c.call_of-held.ensures (show_good _ (sym c.good_call.ensures ∙ c.if-not-good_call.false)) refl refl c.lay_call.ensures
