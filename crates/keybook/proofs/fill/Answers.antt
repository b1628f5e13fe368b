-- `keybook::fill` meets its contract.
use mathlib.Core.Path.{ap, ◌∙◌}
use mathlib.Core.List.{List}
use Prim.Native.Nat.{ℕ}
use Rattle.std.proofs.lemmas.Result.{err_from_is_err_and}
use Rattle.answers.specs.declared.Answer.{Answer}
use Rattle.answers.specs.Outcomes.{done_of}
use Rattle.answers.proofs.ResultLaws.{is_done_with, is_refused_with, refused_with}
use Rattle.keybook.specs.Operations.{add_of, finish_of}
use Rattle.keybook.proofs.LoadLaws.{not_next, and_next}
use Rattle.keybook.proofs.fill.Goals as goal

pub returns-in_err-add : goal.returns-in_err-add
returns-in_err-add c =
    let p = err_from_is_err_and c.from_residual.result c.from_residual.ensures.1 in
    let w = is_refused_with (add_of c.args.book.now c.args.cipher c.args.id c.args.key.now) c.add.ensures c.in_err-add.was in
    rw (p.1, p.2) (refused_with w.1 (not_next _ (λ y. finish_of y c.args.cipher c.args.id) w.0 w.1))

pub returns : goal.returns
returns c =
    c.finish.ensures
    ∙ ap (λ (o : Answer × List ℕ). done_of o)
    (and_next _ (λ y. finish_of y c.args.cipher c.args.id) (is_done_with (add_of c.args.book.now c.args.cipher c.args.id c.args.key.now) c.add.ensures c.in_ok-add.was))
