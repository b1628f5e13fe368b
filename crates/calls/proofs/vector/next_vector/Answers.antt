-- `calls::vector::next_vector` meets its contract.
use mathlib.Core.Path.{refl, sym, ap, ◌∙◌}
use mathlib.Core.Bool.{not}
use borrow.Author.Tests.{eq-eqb, ne_eqb}
use Rattle.answers.proofs.ResultLaws.{refused_with, done_with}
use Rattle.calls.specs.Vector.{next_refusals}
use Rattle.calls.proofs.CallLaws.{is_bad_lem, not_bad}
use Rattle.calls.proofs.VectorLaws.{following-is, next_refused, next_done}
use Rattle.calls.proofs.vector.next_vector.Goals as goal

pub returns-then-out-ne-VECTOR_OCTETS : goal.returns-then-out-ne-VECTOR_OCTETS
unfolding next_refusals
returns-then-out-ne-VECTOR_OCTETS c = refused_with refl (next_refused _ _ 0 (ap not (ne_eqb _ _ c.if-out-ne-VECTOR_OCTETS.true)))

pub returns-then-not-good_call : goal.returns-then-not-good_call
unfolding next_refusals
returns-then-not-good_call c =
    refused_with refl (next_refused _ _ 1 (ap not (eq-eqb _ _ c.if-out-ne-VECTOR_OCTETS.false), is_bad_lem _ (sym c.good_call.ensures ∙ c.if-not-good_call.true)))

pub returns-then-not-is_generating : goal.returns-then-not-is_generating
unfolding next_refusals
returns-then-not-is_generating c =
    refused_with refl (next_refused _ _ 2 (ap not (eq-eqb _ _ c.if-out-ne-VECTOR_OCTETS.false), (not_bad _ (sym c.good_call.ensures ∙ c.if-not-good_call.false), ap not (sym c.is_generating.ensures ∙ c.if-not-is_generating.true))))

pub returns : goal.returns
unfolding next_refusals
returns c =
    let good = sym c.good_call.ensures ∙ c.if-not-good_call.false in
    let has = sym c.is_generating.ensures ∙ c.if-not-is_generating.false in
    let next = c.next_vector.ensures ∙ sym (following-is _ good has) in
    rw (c.copy_from_slice.ensures.after, next) (done_with (next_done _ _ (ap not (eq-eqb _ _ c.if-out-ne-VECTOR_OCTETS.false), (not_bad _ good, (ap not has, tt)))))
