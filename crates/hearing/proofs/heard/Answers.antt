-- `hearing::heard` meets its contract.
use Rattle.std.proofs.Common.{◌≡◌, refl, ap, sym, ◌∙◌, not, length, rules}
use borrow.Author.Tests.{eq-eqb, ne_eqb}
use Rattle.answers.proofs.ResultLaws.{refused, returned}
use Rattle.calls.proofs.CallLaws.{is_bad_lem, not_bad}
use Rattle.hearing.specs.Heard.{heard_refusals}
use Rattle.hearing.proofs.HeardLaws.{heard_refused, heard_done}
use Rattle.hearing.proofs.heard.Goals as goal

pub returns-in_default : goal.returns-in_default
unfolding heard_refusals
returns-in_default c =
    let other : length c.args.vector.now ≡ 8 → ⊥ = search (rules, c.in_default.ensures) in
    refused refl (heard_refused _ _ refl 0 (ap not (ne_eqb _ _ other)))

pub returns-then-not-good_call : goal.returns-then-not-good_call
unfolding heard_refusals
returns-then-not-good_call c =
    let long : length c.args.vector.now ≡ 8 = search (rules, c.in-Ok.ensures) in
    refused refl (heard_refused _ _ c.call_of-call.ensures 1 (ap not (eq-eqb _ _ long), is_bad_lem _ (sym c.good_call.ensures ∙ c.if-not-good_call.true)))

pub returns-then-not-is_hearing : goal.returns-then-not-is_hearing
unfolding heard_refusals
returns-then-not-is_hearing c =
    let long : length c.args.vector.now ≡ 8 = search (rules, c.in-Ok.ensures) in
    let good = sym c.good_call.ensures ∙ c.if-not-good_call.false in
    let deaf = ap not (sym c.is_hearing.ensures ∙ c.if-not-is_hearing.true) in
    refused refl (heard_refused _ _ c.call_of-call.ensures 2 (ap not (eq-eqb _ _ long), (not_bad _ good, deaf)))

pub returns : goal.returns
unfolding heard_refusals
returns c =
    let long : length c.args.vector.now ≡ 8 = search (rules, c.in-Ok.ensures) in
    let whole : c.in-Ok.next ≡ c.args.vector.now = search (rules, c.in-Ok.ensures) in
    let good = sym c.good_call.ensures ∙ c.if-not-good_call.false in
    let hears = ap not (sym c.is_hearing.ensures ∙ c.if-not-is_hearing.false) in
    rw (c.hand_on.ensures, whole) (returned (heard_done _ _ c.call_of-call.ensures (ap not (eq-eqb _ _ long), (not_bad _ good, (hears, tt)))))
