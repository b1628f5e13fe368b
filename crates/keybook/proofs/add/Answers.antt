-- `keybook::add` meets its contract.
use mathlib.Core.Path.{sym, ap, refl, ◌∙◌}
use mathlib.Core.List.{List}
use Prim.Native.Nat.{ℕ}
use Rattle.std.proofs.lemmas.Result.{err_from_is_err_and}
use Rattle.answers.specs.declared.Answer.TheVariants.{Done}
use Rattle.answers.proofs.ResultLaws.{refused_with, done_with}
use Rattle.keyentry.specs.Entry.{extend_refusals, extended}
use Rattle.keybook.proofs.OperationLaws.{located, located_count, way-refused, way-found, entry_done, entry_refused, add_ways, add_length}
use Rattle.keybook.proofs.add.Goals as goal

pub returns-in_err-k : goal.returns-in_err-k
returns-in_err-k c =
    let p = err_from_is_err_and c.from_residual.result c.from_residual.ensures.1 in
    let w = way-refused _ _ _ _ (add_ways _ _ _ _ c.if-xs-gt-KEY_ROOM.false) _ (sym c.look.ensures ∙ c.in_err-k.was) in
    rw (p.1, p.2) (refused_with w.0 w.1)

pub entry-requires : goal.entry-requires
entry-requires c = let f = located _ _ _ _ (sym c.look.ensures ∙ c.in_ok-k.was) in (f.sized, f.below)

pub put-requires : goal.put-requires
put-requires c = let f = located _ _ _ _ (sym c.look.ensures ∙ c.in_ok-k.was) in (f.sized, f.below)

pub returns-in_err-extend : goal.returns-in_err-extend
returns-in_err-extend c =
    let p = err_from_is_err_and c.from_residual-in_err-extend.result c.from_residual-in_err-extend.ensures.1 in
    let w = entry_refused _ _ (λ e. extend_refusals e c.args.xs.now) (λ e. extended e c.args.xs.now) c.entry.ensures c.extend.ensures c.in_err-extend.was in
    rw (p.1, p.2) (refused_with w.0 (w.1 ∙ way-found _ _ _ _ (add_ways _ _ _ _ c.if-xs-gt-KEY_ROOM.false) _ (sym c.look.ensures ∙ c.in_ok-k.was)))

pub returns : goal.returns
returns c =
    done_with
    (ap (λ (l : List ℕ). (Done, l)) c.put.ensures ∙ entry_done _ _ (λ e. extend_refusals e c.args.xs.now) (λ e. extended e c.args.xs.now) c.entry.ensures c.extend.ensures c.in_ok-extend.was
    ∙ way-found _ _ _ _ (add_ways _ _ _ _ c.if-xs-gt-KEY_ROOM.false) _ (sym c.look.ensures ∙ c.in_ok-k.was))

pub returns-then-xs-gt-KEY_ROOM : goal.returns-then-xs-gt-KEY_ROOM
returns-then-xs-gt-KEY_ROOM c = refused_with refl (add_length _ _ _ _ c.if-xs-gt-KEY_ROOM.true)

pub extend-requires : goal.extend-requires
extend-requires c = rw c.entry.ensures (located_count _ _ _ _ (sym c.look.ensures ∙ c.in_ok-k.was))
