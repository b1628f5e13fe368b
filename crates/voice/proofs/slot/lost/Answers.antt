-- `voice::slot::lost` meets its contract.
use mathlib.Core.Path.{refl, sym, ap, ◌∙◌}
use native.Mathlib.Omega.{arith}
use Rattle.answers.proofs.ResultLaws.{refused, returned}
use Rattle.calls.specs.Counts.{total}
use Rattle.voice.specs.Slot.{lost_refusals}
use Rattle.calls.proofs.CallLaws.{is_bad_lem, not_bad, receives-not, receives_some}
use Rattle.voice.proofs.SlotLaws.{lost_refused, lost_done}
use Rattle.voice.proofs.slot.lost.Goals as goal

pub returns-then-not-good_call : goal.returns-then-not-good_call
unfolding lost_refusals
returns-then-not-good_call c = refused refl (lost_refused _ 0 (is_bad_lem _ (sym c.good_call.ensures ∙ c.if-not-good_call.true)))

pub returns-then-call-ne-RECEIVING : goal.returns-then-call-ne-RECEIVING
unfolding lost_refusals
returns-then-call-ne-RECEIVING c =
    let good = sym c.good_call.ensures ∙ c.if-not-good_call.false in refused refl (lost_refused _ 1 (not_bad _ good, receives-not _ good c.if-call-ne-RECEIVING.true))

pub is_full-requires : goal.is_full-requires
unfolding lost_refusals
is_full-requires c = sym c.good_call.ensures ∙ c.if-not-good_call.false

pub returns-then-is_full : goal.returns-then-is_full
unfolding lost_refusals
returns-then-is_full c =
    let good = sym c.good_call.ensures ∙ c.if-not-good_call.false in refused refl (lost_refused _ 2 (not_bad _ good, (receives_some _ good c.if-call-ne-RECEIVING.false, sym c.is_full.ensures ∙ c.if-is_full.true)))

pub slot_on-requires : goal.slot_on-requires
unfolding lost_refusals
slot_on-requires c =
    (sym c.good_call.ensures ∙ c.if-not-good_call.false, (λ z. omega (arith, c.if-call-ne-RECEIVING.false)), sym c.is_full.ensures ∙ c.if-is_full.false, ap total c.lost_words.ensures)

pub returns : goal.returns
unfolding lost_refusals
returns c =
    let good = sym c.good_call.ensures ∙ c.if-not-good_call.false in
    rw (c.slot_on.ensures, c.lost_words.ensures) (returned (lost_done _ (not_bad _ good, (receives_some _ good c.if-call-ne-RECEIVING.false, (sym c.is_full.ensures ∙ c.if-is_full.false, tt)))))
