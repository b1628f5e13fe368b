-- `calls::opening::join` meets its contract.
use mathlib.Core.Path.{refl, sym, ap}
use mathlib.Core.Bool.{not}
use lib.Dec.{eqb}
use Rattle.std.proofs.lemmas.Result.{err_from_is_err_and}
use Rattle.answers.specs.declared.Answer.{Answer}
use Rattle.answers.proofs.ResultLaws.{refused, returned, is_returned, is_refused}
use Rattle.openings.specs.Ladder.{opening_key_of}
use Rattle.calls.specs.Call.{closed_end}
use Rattle.calls.proofs.OpeningLaws.{join_refused, join_done}
use Rattle.calls.proofs.opening.join.Goals as goal

pub returns-in_err-key : goal.returns-in_err-key
returns-in_err-key c =
    let p = err_from_is_err_and c.from_residual.result c.from_residual.ensures.1 in
    let o = opening_key_of c.terms_right.result (not c.good_call.result) (not (eqb c.args.call.end closed_end)) c.args.cipher c.args.id c.args.book.now in
    let w = is_refused o c.opening_key.ensures c.in_err-key.was in
    rw (p.1, p.2) (refused w.1 (join_refused _ _ c.good_call.ensures _ _ _ _ _ _ _ c.terms_right.ensures (ap (λ (a : Answer). (a, o.1)) (sym w.0)) w.1))

pub returns : goal.returns
returns c =
    let e = is_returned (opening_key_of c.terms_right.result (not c.good_call.result) (not (eqb c.args.call.end closed_end)) c.args.cipher c.args.id c.args.book.now) c.opening_key.ensures c.in_ok-key.was in
    rw c.joining.ensures (returned (join_done _ _ c.good_call.ensures _ _ _ _ _ _ _ c.terms_right.ensures (sym e) refl))
