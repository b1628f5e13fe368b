-- `calls::vector::announce` meets its contract.
use Rattle.std.proofs.Common.{◌≡◌, refl, ap, sym, ◌∙◌, not, length, rules}
use Rattle.answers.specs.declared.Answer.TheVariants.{Done}
use Rattle.answers.proofs.ResultLaws.{refused, returned}
use Rattle.calls.specs.declared.call.Call.{Call}
use borrow.Author.Tests.{eq-eqb, ne_eqb}
use Rattle.calls.specs.Vector.{announce_refusals}
use Rattle.calls.proofs.CallLaws.{is_bad_lem, not_bad}
use Rattle.calls.proofs.VectorLaws.{told_is, announce_refused, announce_done}
use Rattle.calls.proofs.vector.announce.Goals as goal

pub returns-in_default : goal.returns-in_default
unfolding announce_refusals
returns-in_default c =
    let other : length c.args.vector.now ≡ 8 → ⊥ = search (rules, c.in_default.ensures) in
    refused refl (announce_refused _ _ 0 (ap not (ne_eqb _ _ other)))

pub is_awaiting-requires : goal.is_awaiting-requires
unfolding announce_refusals
is_awaiting-requires c = sym c.good_call.ensures ∙ c.if-not-good_call.false

pub returns-then-not-good_call : goal.returns-then-not-good_call
unfolding announce_refusals
returns-then-not-good_call c =
    let long : length c.args.vector.now ≡ 8 = search (rules, c.in-Ok.ensures) in
    refused refl (announce_refused _ _ 1 (ap not (eq-eqb _ _ long), is_bad_lem _ (sym c.good_call.ensures ∙ c.if-not-good_call.true)))

pub returns-then-not-is_awaiting : goal.returns-then-not-is_awaiting
unfolding announce_refusals
returns-then-not-is_awaiting c =
    let long : length c.args.vector.now ≡ 8 = search (rules, c.in-Ok.ensures) in
    refused refl (announce_refused _ _ 2 (ap not (eq-eqb _ _ long), (not_bad _ (sym c.good_call.ensures ∙ c.if-not-good_call.false), ap not (sym c.is_awaiting.ensures ∙ c.if-not-is_awaiting.true))))

pub returns : goal.returns
unfolding announce_refusals
returns c =
    let good = sym c.good_call.ensures ∙ c.if-not-good_call.false in
    let waits = sym c.is_awaiting.ensures ∙ c.if-not-is_awaiting.false in
    let long : length c.args.vector.now ≡ 8 = search (rules, c.in-Ok.ensures) in
    let whole : c.in-Ok.own ≡ c.args.vector.now = search (rules, c.in-Ok.ensures) in
    rw (c.receiver.ensures, whole)
    (returned (ap (λ (d : Call). (Done, d)) (sym (told_is _ good waits c.args.vector.now)) ∙ announce_done _ _ (ap not (eq-eqb _ _ long), (not_bad _ good, (ap not waits, tt)))))
