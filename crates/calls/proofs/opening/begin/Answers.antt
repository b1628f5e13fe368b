-- `calls::opening::begin` meets its contract.
use mathlib.Core.Path.{refl, sym, ap}
use mathlib.Core.Bool.{not}
use lib.Dec.{eqb}
use Rattle.std.proofs.lemmas.Result.{err_from_is_err_and}
use Rattle.answers.specs.declared.Answer.{Answer}
use Rattle.answers.proofs.ResultLaws.{refused, returned, is_returned, is_refused}
use Rattle.openings.specs.Ladder.{vector_key_of}
use Rattle.openings.proofs.BegunLaws.{begun_sized}
use Rattle.calls.specs.Call.{closed_end, sending_end}
use Rattle.calls.proofs.OpeningLaws.{begun_refused, begun_done}
use Rattle.calls.proofs.opening.begin.Goals as goal

pub returns-in_err-key : goal.returns-in_err-key
returns-in_err-key c =
    let p = err_from_is_err_and c.from_residual.result c.from_residual.ensures.1 in
    let o = vector_key_of (eqb c.args.end sending_end) c.terms_right.result (not c.good_call.result) (not (eqb c.args.call.end closed_end)) c.args.cipher c.args.id c.args.vector.now c.args.book.now in
    let w = is_refused o c.opening_key_with.ensures c.in_err-key.was in
    rw (p.1, p.2)
    (refused w.1 (begun_refused _ _ c.good_call.ensures _ _ _ _ _ _ c.args.end _ _ c.terms_right.ensures (ap (λ (a : Answer). (a, o.1)) (sym w.0)) w.1))

pub session_vector-requires : goal.session_vector-requires
session_vector-requires c =
    let e = is_returned (vector_key_of (eqb c.args.end sending_end) c.terms_right.result (not c.good_call.result) (not (eqb c.args.call.end closed_end)) c.args.cipher c.args.id c.args.vector.now c.args.book.now) c.opening_key_with.ensures c.in_ok-key.was in
    begun_sized _ _ _ _ _ _ _ _ (sym e) refl

pub returns : goal.returns
returns c =
    let e = is_returned (vector_key_of (eqb c.args.end sending_end) c.terms_right.result (not c.good_call.result) (not (eqb c.args.call.end closed_end)) c.args.cipher c.args.id c.args.vector.now c.args.book.now) c.opening_key_with.ensures c.in_ok-key.was in
    rw (c.begun.ensures, c.session_vector.ensures) (returned (begun_done _ _ c.good_call.ensures _ _ _ _ _ _ c.args.end _ _ c.terms_right.ensures (sym e) refl))
