-- `keybook::load` meets its contract.
use mathlib.Core.Path.{sym, ap, ◌∙◌}
use mathlib.Core.List.{List}
use Prim.Native.Nat.{ℕ}
use Rattle.std.specs.Prelude.{Result}
use Rattle.std.proofs.lemmas.Result.{err_from_is_err_and}
use Rattle.answers.specs.declared.Answer.{Answer}
use Rattle.answers.proofs.ResultLaws.{is_done_with, is_refused_with, refused_with}
use Rattle.keybook.specs.Operations.{begin_of}
use Rattle.keybook.proofs.LoadLaws.{load_refused, load_gives_up, load_ends}
use Rattle.keybook.proofs.load.Goals as goal

pub returns-in_err-begin : goal.returns-in_err-begin
returns-in_err-begin c =
    let p = err_from_is_err_and c.from_residual.result c.from_residual.ensures.1 in
    let w = is_refused_with (begin_of c.args.book.now c.args.cipher c.args.id c.args.name.now) c.begin.ensures c.in_err-begin.was in
    rw (p.1, p.2) (refused_with w.1 (load_refused _ _ _ _ _ w.0 w.1))

pub returns-then-refused : goal.returns-then-refused
returns-then-refused c =
    let w = is_done_with (begin_of c.args.book.now c.args.cipher c.args.id c.args.name.now) c.begin.ensures c.in_ok-begin.was in
    load_gives_up _ _ _ _ c.args.key.now w c.fill-filled.result c.fill-filled.ensures (sym c.is_err-refused.ensures.value ∙ c.if-refused.true) (ap (λ (o : Result (Unit {0}) Answer × List ℕ). o.1) c.erase-erased.ensures)

pub returns-else-refused : goal.returns-else-refused
returns-else-refused c =
    let w = is_done_with (begin_of c.args.book.now c.args.cipher c.args.id c.args.name.now) c.begin.ensures c.in_ok-begin.was in
    load_ends _ _ _ _ c.args.key.now w c.fill-filled.result c.fill-filled.ensures (sym c.is_err-refused.ensures.value ∙ c.if-refused.false)
