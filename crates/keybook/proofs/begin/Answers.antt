-- `keybook::begin` meets its contract.
use mathlib.Core.Path.{refl, sym, ap, ◌∙◌}
use mathlib.Core.List.{List}
use Prim.Native.Nat.{ℕ}
use native.Mathlib.Omega.{arith}
use Rattle.std.specs.Prelude.{Option}
use Rattle.std.specs.Option.{ok_or}
use Rattle.std.proofs.lemmas.Result.{err_from_is_err_and}
use Rattle.answers.specs.declared.Answer.TheVariants.{Done, Full}
use Rattle.answers.proofs.ResultLaws.{refused_with, done_with}
use Rattle.keyentry.specs.Name.{name_right}
use Rattle.keyentry.specs.Entry.{new_entry}
use Rattle.keybook.specs.Book.{free_entry, with_entry}
use Rattle.keybook.specs.Lookup.{place, seeking}
use Rattle.keybook.proofs.OperationLaws.{begin_name_length, begin_length, begin_range, begin_bad_name, begin_refused, begin_some, begin_full, begin_done, seek_not-done, none_there, place_full, place_free}
use Rattle.keybook.proofs.begin.Goals as goal

pub returns-in_default : goal.returns-in_default
returns-in_default c = refused_with refl (begin_name_length _ _ _ _ c.in_default.ensures.cases)

pub returns-in_default-as_array : goal.returns-in_default-as_array
returns-in_default-as_array c = refused_with refl (begin_length _ _ _ _ c.in-Some.ensures.cases.long c.in_default-as_array.ensures.cases)

pub returns-then-not-in_range : goal.returns-then-not-in_range
returns-then-not-in_range c = refused_with refl (begin_range _ _ _ _ c.in-Some.ensures.cases.long c.in-Some-as_array.ensures.cases.long (sym c.in_range.ensures ∙ c.if-not-in_range.true))

pub returns-then-not-name_right : goal.returns-then-not-name_right
returns-then-not-name_right c = refused_with refl (begin_bad_name _ _ _ _ c.in-Some.ensures.cases.long c.in-Some-as_array.ensures.cases.long (sym c.in_range.ensures ∙ c.if-not-in_range.false) (ap name_right (sym c.in-Some.ensures.cases.same) ∙ sym c.name_right.ensures ∙ c.if-not-name_right.true))

pub returns-in_err-seek : goal.returns-in_err-seek
returns-in_err-seek c =
    let p = err_from_is_err_and c.from_residual.result c.from_residual.ensures.1 in
    let q = (ap (λ (l : List ℕ). seeking l c.args.cipher c.args.id) (sym c.in-Some-as_array.ensures.cases.same) ∙ sym c.seek.ensures ∙ c.in_err-seek.was) in
    rw (p.1, p.2) (refused_with (seek_not-done _ _ _ _ q) (begin_refused _ _ _ _ c.in-Some.ensures.cases.long c.in-Some-as_array.ensures.cases.long (sym c.in_range.ensures ∙ c.if-not-in_range.false) (ap name_right (sym c.in-Some.ensures.cases.same) ∙ sym c.name_right.ensures ∙ c.if-not-name_right.false) _ q))

pub returns-then-is_some : goal.returns-then-is_some
returns-then-is_some c = refused_with refl (begin_some _ _ _ _ c.in-Some.ensures.cases.long c.in-Some-as_array.ensures.cases.long (sym c.in_range.ensures ∙ c.if-not-in_range.false) (ap name_right (sym c.in-Some.ensures.cases.same) ∙ sym c.name_right.ensures ∙ c.if-not-name_right.false) _ (ap (λ (l : List ℕ). seeking l c.args.cipher c.args.id) (sym c.in-Some-as_array.ensures.cases.same) ∙ sym c.seek.ensures ∙ c.in_ok-seek.was) (sym c.is_some.ensures ∙ c.if-is_some.true))

pub returns-in_err-first : goal.returns-in_err-first
returns-in_err-first c =
    let p = err_from_is_err_and c.from_residual-in_err-first.result c.from_residual-in_err-first.ensures.1 in
    let f = place_full _ (ap (λ (l : List ℕ). ok_or (place (free_entry l)) Full) (sym c.in-Some-as_array.ensures.cases.same) ∙ ap (λ (o : Option ℕ). ok_or o Full) (sym c.free.ensures) ∙ sym c.ok_or.ensures.value ∙ c.in_err-first.was) in
    rw (p.1, p.2, f.0) (refused_with refl (begin_full _ _ _ _ c.in-Some.ensures.cases.long c.in-Some-as_array.ensures.cases.long (sym c.in_range.ensures ∙ c.if-not-in_range.false) (ap name_right (sym c.in-Some.ensures.cases.same) ∙ sym c.name_right.ensures ∙ c.if-not-name_right.false) (none_there _ _ _ _ (ap (λ (l : List ℕ). seeking l c.args.cipher c.args.id) (sym c.in-Some-as_array.ensures.cases.same) ∙ sym c.seek.ensures ∙ c.in_ok-seek.was) (sym c.is_some.ensures ∙ c.if-is_some.false)) refl f.1))

pub put-requires : goal.put-requires
put-requires c = let f = place_free _ (ap (λ (l : List ℕ). ok_or (place (free_entry l)) Full) (sym c.in-Some-as_array.ensures.cases.same) ∙ ap (λ (o : Option ℕ). ok_or o Full) (sym c.free.ensures) ∙ sym c.ok_or.ensures.value ∙ c.in_ok-first.was) in (c.in-Some-as_array.ensures.cases.long, omega arith)

pub returns : goal.returns
returns c =
    let f = place_free _ (ap (λ (l : List ℕ). ok_or (place (free_entry l)) Full) (sym c.in-Some-as_array.ensures.cases.same) ∙ ap (λ (o : Option ℕ). ok_or o Full) (sym c.free.ensures) ∙ sym c.ok_or.ensures.value ∙ c.in_ok-first.was) in
    let e = c.write_new.ensures ∙ ap (new_entry c.args.cipher c.args.id) c.in-Some.ensures.cases.same in
    done_with
    (ap (λ (l : List ℕ). (Done, l)) (c.put.ensures ∙ ap (with_entry c.args.book.now c.in_ok-first.first) e)
    ∙ begin_done _ _ _ _ c.in-Some.ensures.cases.long c.in-Some-as_array.ensures.cases.long (sym c.in_range.ensures ∙ c.if-not-in_range.false) (ap name_right (sym c.in-Some.ensures.cases.same) ∙ sym c.name_right.ensures ∙ c.if-not-name_right.false) (none_there _ _ _ _ (ap (λ (l : List ℕ). seeking l c.args.cipher c.args.id) (sym c.in-Some-as_array.ensures.cases.same) ∙ sym c.seek.ensures ∙ c.in_ok-seek.was) (sym c.is_some.ensures ∙ c.if-is_some.false)) f.0 f.1)
