-- `openings::opening_key_with` meets its contract.
use mathlib.Core.Path.{refl, sym, ap, ◌∙◌}
use Rattle.std.proofs.lemmas.Result.{err_from_is_err_and}
use Rattle.answers.specs.declared.Answer.{Answer}
use Rattle.answers.specs.Numbers.{is_done}
use Rattle.answers.proofs.ResultLaws.{refused, returned, is_returned, is_refused}
use Rattle.openings.specs.Ladder.{opening_key_of, vector_refusals}
use Rattle.openings.proofs.LadderLaws.{heard-taken, some_taken, key-none, vector-length, vector-key_refused, vector-zero, vector-ready}
use Rattle.openings.proofs.opening_key_with.Goals as goal
use Rattle.openings.proofs.opening_key_with.Goals.{else-sends-via-then-sends+else-is_zero_for, else-sends-via-else-sends}

pub returns-then-vector-ne-VECTOR_OCTETS : goal.returns-then-vector-ne-VECTOR_OCTETS
unfolding vector_refusals
returns-then-vector-ne-VECTOR_OCTETS c = refused refl (vector-length _ _ _ _ _ _ _ _ c.if-vector-ne-VECTOR_OCTETS.true)

pub returns-in_err-key : goal.returns-in_err-key
returns-in_err-key c =
    let p = err_from_is_err_and c.from_residual.result c.from_residual.ensures.1 in
    let o = opening_key_of c.args.ranged c.args.bad c.args.busy c.args.cipher c.args.id c.args.book.now in
    let w = is_refused o c.opening_key.ensures c.in_err-key.was in
    rw (p.1, p.2)
    (refused w.1
    (ap (λ (a : Answer). (a, o.1)) (sym w.0) ∙ vector-key_refused _ _ _ _ _ _ _ _ c.if-vector-ne-VECTOR_OCTETS.false refl (ap is_done w.0 ∙ w.1)))

pub returns-then-is_zero_for : goal.returns-then-is_zero_for
returns-then-is_zero_for c =
    let e = is_returned (opening_key_of c.args.ranged c.args.bad c.args.busy c.args.cipher c.args.id c.args.book.now) c.opening_key.ensures c.in_ok-key.was in
    refused refl
    (vector-zero _ _ _ _ _ _ _ _ c.if-vector-ne-VECTOR_OCTETS.false (key-none _ _ _ _ _ _ (sym e) refl) c.if-sends.true (sym c.is_zero_for.ensures ∙ c.if-is_zero_for.true))

pub returns : goal.returns
returns c =
    let e = is_returned (opening_key_of c.args.ranged c.args.bad c.args.busy c.args.cipher c.args.id c.args.book.now) c.opening_key.ensures c.in_ok-key.was in
    returned
    (vector-ready _ _ _ _ _ _ _ _ c.if-vector-ne-VECTOR_OCTETS.false (sym e) (key-none _ _ _ _ _ _ (sym e) refl)
    (elim c.else-sends.branch [ else-sends-via-then-sends+else-is_zero_for w ↦ some_taken _ _ _ (sym w.is_zero_for.ensures ∙ w.if-is_zero_for.false) | else-sends-via-else-sends w ↦ heard-taken _ _ _ w.if-sends.false ]))
