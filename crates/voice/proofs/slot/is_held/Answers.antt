-- `voice::slot::is_held` meets its contract.
use mathlib.Core.Path.{sym, ap, ◌∙◌}
use mathlib.Core.Bool.{not}
use borrow.Author.Tests.{ne_eqb, lt-ltb, le-ltb}
use Rattle.sizes.specs.Frame.{frame_octets}
use Rattle.voice.specs.Slot.{voice_refusals}
use Rattle.voice.specs.Told.{held_of}
use Rattle.calls.proofs.CallLaws.{is_bad_lem, not_bad, stands-none, stands_some, width_in_lem}
use Rattle.voice.proofs.SlotLaws.{answer_refused, held_taken}
use Rattle.voice.proofs.slot.is_held.Goals as goal

pub returns-then-mask-gt-TOP_MASK : goal.returns-then-mask-gt-TOP_MASK
unfolding voice_refusals
returns-then-mask-gt-TOP_MASK c = ap held_of (answer_refused _ _ _ 0 (lt-ltb _ _ c.if-mask-gt-TOP_MASK.true))

pub returns-then-not-good_call : goal.returns-then-not-good_call
unfolding voice_refusals
returns-then-not-good_call c =
    ap held_of (answer_refused _ _ _ 1 (le-ltb _ _ c.if-mask-gt-TOP_MASK.false, is_bad_lem _ (sym c.good_call.ensures ∙ c.if-not-good_call.true)))

pub returns-then-call-eq-CLOSED : goal.returns-then-call-eq-CLOSED
unfolding voice_refusals
returns-then-call-eq-CLOSED c =
    let good = sym c.good_call.ensures ∙ c.if-not-good_call.false in
    ap held_of (answer_refused _ _ _ 2 (le-ltb _ _ c.if-mask-gt-TOP_MASK.false, (not_bad _ good, stands-none _ good c.if-call-eq-CLOSED.true)))

pub is_full-requires : goal.is_full-requires
unfolding voice_refusals
is_full-requires c = sym c.good_call.ensures ∙ c.if-not-good_call.false

pub returns-then-is_full : goal.returns-then-is_full
unfolding voice_refusals
returns-then-is_full c =
    let good = sym c.good_call.ensures ∙ c.if-not-good_call.false in
    ap held_of (answer_refused _ _ _ 3 (le-ltb _ _ c.if-mask-gt-TOP_MASK.false, (not_bad _ good, (stands_some _ good c.if-call-eq-CLOSED.false, sym c.is_full.ensures ∙ c.if-is_full.true))))

pub returns-then-frame-frame_octets : goal.returns-then-frame-frame_octets
unfolding voice_refusals
returns-then-frame-frame_octets c =
    let good = sym c.good_call.ensures ∙ c.if-not-good_call.false in
    ap held_of (answer_refused _ _ _ 4 (le-ltb _ _ c.if-mask-gt-TOP_MASK.false, (not_bad _ good, (stands_some _ good c.if-call-eq-CLOSED.false, (sym c.is_full.ensures ∙ c.if-is_full.false, ap not (ne_eqb _ _ (λ e. c.if-frame-frame_octets.true (e ∙ ap frame_octets (width_in_lem _ good c.if-call-eq-CLOSED.false ∙ sym c.width.ensures.0) ∙ sym c.frame_octets.ensures))))))))

pub returns : goal.returns
unfolding voice_refusals
returns c =
    let good = sym c.good_call.ensures ∙ c.if-not-good_call.false in
    held_taken _ _ _ (c.if-frame-frame_octets.false ∙ c.frame_octets.ensures ∙ ap frame_octets c.width.ensures.0) c.if-mask-gt-TOP_MASK.false good c.if-call-eq-CLOSED.false (sym c.is_full.ensures ∙ c.if-is_full.false)
