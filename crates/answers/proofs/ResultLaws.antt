-- What a Result says of an outcome, as the code meets it, and what a caller learns from it.
use mathlib.Core.Path.{◌≡◌, refl, sym, ap, ap₂, ◌∙◌}
use mathlib.Core.Bool.{Bool, true, false, true≢false}
use Rattle.std.specs.Prelude.{Result, Ok, Err}
use Rattle.std.specs.Result.{result_unwrap_or}
use borrow.Author.Tests.{eqb-true}
use Rattle.octets.specs.Tests.{pick}
use Rattle.answers.specs.declared.Answer.{Answer}
use Rattle.answers.specs.declared.Answer.TheVariants.{Done}
use Rattle.answers.specs.Numbers.{number_of, is_done}
use Rattle.answers.specs.Outcomes.{Refusals, outcome, result_of, done_of, answer_in}
use Rattle.answers.proofs.NumberLaws.{one_number}
use Rattle.answers.proofs.OutcomeLaws.{by_refusals}

-- the answer that is done
pub done_is : (a : Answer) → is_done a ≡ true → a ≡ Done
done_is a d = one_number a Done (eqb-true (number_of a) 0 d)

module _ {S : Type 0} where
  paired : {a b : Answer} {x y : S} → a ≡ b → x ≡ y → ◌≡◌ {A = Answer × S} (a, x) (b, y)
  paired p q = ap₂ (λ (a : Answer) (x : S). (a, x)) p q

  -- ---- what the code returns

  pub refused : {o : Answer × S} {a : Answer} {x : S} → is_done a ≡ false → (a, x) ≡ o → Err a ≡ result_of o
  refused {o} {a} {x} n e = ap (λ (t : Bool). pick t (Ok x) (Err a)) (sym n) ∙ ap (λ (p : Answer × S). result_of p) e

  pub returned : {o : Answer × S} {x : S} → (Done, x) ≡ o → Ok x ≡ result_of o
  returned e = ap (λ (p : Answer × S). result_of p) e

  pub refused_with : {o : Answer × S} {a : Answer} {x : S} → is_done a ≡ false → (a, x) ≡ o → (Err a, x) ≡ done_of o
  refused_with {o} {a} {x} n e = ap (λ (t : Bool). (pick t (Ok (tt {0})) (Err a), x)) (sym n) ∙ ap (λ (p : Answer × S). done_of p) e

  pub done_with : {o : Answer × S} {x : S} → (Done, x) ≡ o → (Ok tt, x) ≡ done_of o
  done_with e = ap (λ (p : Answer × S). done_of p) e

  -- ---- what it learns

  module _ (o : Answer × S) {r : Result S Answer} (e : r ≡ result_of o) where
    pub is_returned : {x : S} → r ≡ Ok x → o ≡ (Done, x)
    is_returned {x} p = go (is_done o.0) refl (sym e ∙ p)
      where
        go : (t : Bool) → is_done o.0 ≡ t → pick t (Ok o.1) (Err o.0) ≡ Ok x → o ≡ (Done, x)
        go true d q = let z : o.1 ≡ x = cc in paired (done_is o.0 d) z
        go false d q = let z : true ≡ false = cc in absurd (true≢false z)

    pub is_refused : {a : Answer} → r ≡ Err a → (o.0 ≡ a) × (is_done a ≡ false)
    is_refused {a} p = go (is_done o.0) refl (sym e ∙ p)
      where
        go : (t : Bool) → is_done o.0 ≡ t → pick t (Ok o.1) (Err o.0) ≡ Err a → (o.0 ≡ a) × (is_done a ≡ false)
        go true d q = let z : true ≡ false = cc in absurd (true≢false z)
        go false d q = let y : o.0 ≡ a = cc in (y, sym (ap is_done y) ∙ d)

    pub told : answer_in r ≡ o.0
    told = ap (λ (s : Result S Answer). answer_in s) e ∙ go (is_done o.0) refl
      where
        go : (t : Bool) → is_done o.0 ≡ t → answer_in {S = S} (pick t (Ok o.1) (Err o.0)) ≡ o.0
        go true d = sym (done_is o.0 d)
        go false d = refl

  -- a caller that goes on with what was before, where the operation is refused, goes on with what it leaves
  pub or_before : (before : S) (rs : Refusals) (after : S) → result_unwrap_or (result_of (outcome before rs after)) before ≡ (outcome before rs after).1
  or_before before rs after = by_refusals (λ o. result_unwrap_or (result_of o) before ≡ o.1) before rs (Done, after) (λ a m. go a (is_done a)) (λ n. refl)
    where
      go : (a : Answer) (t : Bool) → result_unwrap_or {E = Answer} (pick t (Ok before) (Err a)) before ≡ before
      go a true = refl
      go a false = refl

  module _ (o : Answer × S) {r : Result (Unit {0}) Answer} {x : S} (e : (r, x) ≡ done_of o) where
    as_result : r ≡ pick (is_done o.0) (Ok (tt {0})) (Err o.0)
    as_result = ap (λ (p : Result (Unit {0}) Answer × S). p.0) e

    left : o.1 ≡ x
    left = sym (ap (λ (p : Result (Unit {0}) Answer × S). p.1) e)

    -- the operation answers done
    pub is_done_with : {u : Unit {0}} → r ≡ Ok u → o ≡ (Done, x)
    is_done_with {u} p = go (is_done o.0) refl (sym as_result ∙ p)
      where
        go : (t : Bool) → is_done o.0 ≡ t → pick t (Ok (tt {0})) (Err o.0) ≡ Ok u → o ≡ (Done, x)
        go true d q = paired (done_is o.0 d) left
        go false d q = let z : true ≡ false = cc in absurd (true≢false z)

    -- or what refuses it
    pub is_refused_with : {a : Answer} → r ≡ Err a → (o ≡ (a, x)) × (is_done a ≡ false)
    is_refused_with {a} p = go (is_done o.0) refl (sym as_result ∙ p)
      where
        go : (t : Bool) → is_done o.0 ≡ t → pick t (Ok (tt {0})) (Err o.0) ≡ Err a → (o ≡ (a, x)) × (is_done a ≡ false)
        go true d q = let z : true ≡ false = cc in absurd (true≢false z)
        go false d q = let y : o.0 ≡ a = cc in (paired y left, sym (ap is_done y) ∙ d)

    pub told_with : (answer_in r, x) ≡ o
    told_with = paired (ap (λ (s : Result (Unit {0}) Answer). answer_in s) as_result ∙ go (is_done o.0) refl) (sym left)
      where
        go : (t : Bool) → is_done o.0 ≡ t → answer_in {S = Unit {0}} (pick t (Ok (tt {0})) (Err o.0)) ≡ o.0
        go true d = sym (done_is o.0 d)
        go false d = refl
