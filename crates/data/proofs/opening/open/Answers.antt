-- `data::opening::open` meets its contract.
use mathlib.Core.Path.{refl, sym, ap}
use mathlib.Core.Bool.{not}
use lib.Dec.{eqb}
use Rattle.std.proofs.lemmas.Result.{err_from_is_err_and}
use Rattle.answers.specs.declared.Answer.{Answer}
use Rattle.answers.proofs.ResultLaws.{refused, returned, is_returned, is_refused}
use Rattle.openings.specs.Ladder.{vector_key_of}
use Rattle.openings.proofs.BegunLaws.{begun_sized}
use Rattle.data.specs.Opening.{to_send}
use Rattle.data.proofs.OpeningLaws.{open_refused, open_done}
use Rattle.data.proofs.opening.open.Goals as goal

pub returns-in_err-key : goal.returns-in_err-key
returns-in_err-key c =
    let p = err_from_is_err_and c.from_residual.result c.from_residual.ensures.1 in
    let o = vector_key_of (eqb c.args.end to_send) c.is_end_and_kind.result (not c.good_packet.result) (not (eqb c.args.packet.kind 0)) c.args.cipher c.args.id c.args.vector.now c.args.book.now in
    let w = is_refused o c.opening_key_with.ensures c.in_err-key.was in
    rw (p.1, p.2) (refused w.1 (open_refused _ _ _ _ _ _ _ _ _ c.is_end_and_kind.ensures c.good_packet.ensures _ _ (ap (λ (a : Answer). (a, o.1)) (sym w.0)) w.1))

pub session_vector-requires : goal.session_vector-requires
session_vector-requires c =
    let e = is_returned (vector_key_of (eqb c.args.end to_send) c.is_end_and_kind.result (not c.good_packet.result) (not (eqb c.args.packet.kind 0)) c.args.cipher c.args.id c.args.vector.now c.args.book.now) c.opening_key_with.ensures c.in_ok-key.was in
    begun_sized _ _ _ _ _ _ _ _ (sym e) refl

pub returns : goal.returns
returns c =
    let e = is_returned (vector_key_of (eqb c.args.end to_send) c.is_end_and_kind.result (not c.good_packet.result) (not (eqb c.args.packet.kind 0)) c.args.cipher c.args.id c.args.vector.now c.args.book.now) c.opening_key_with.ensures c.in_ok-key.was in
    rw c.session_vector.ensures (returned (open_done _ _ _ _ _ _ _ _ _ c.is_end_and_kind.ensures c.good_packet.ensures _ _ (sym e) refl))
