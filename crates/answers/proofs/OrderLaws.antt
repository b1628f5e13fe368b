-- Laws of the order of refusals: it is the paper's, and refusals that keep to an order answer no number from outside it.
use mathlib.Core.Path.{◌≡◌, refl}
use mathlib.Core.Bool.{Bool, true, false, ◌||◌, or-true}
use mathlib.Core.Logic.{inl, inr}
use mathlib.Core.List.{List, [], ◌∷◌}
use Prim.Native.Nat.{ℕ, ◌<◌}
use native.Mathlib.Omega.{arith}
use lib.Dec.{eqb}
use Rattle.octets.specs.Tests.{pick}
use Rattle.octets.proofs.TestLaws.{and_left, and_right}
use Rattle.answers.specs.declared.Answer.{Answer}
use Rattle.answers.specs.Numbers.{number_of, is_one_of}
use Rattle.answers.specs.Outcomes.{Refusals, answered}
use Rattle.answers.specs.Order.{refusal_order, numbers_of, after_number, in_order}
use Rattle.answers.proofs.OutcomeLaws.{Refusal, Among, by_refusals}

pub paper_order : refusal_order ≡ 2 ∷ 3 ∷ 17 ∷ 10 ∷ 4 ∷ 9 ∷ 16 ∷ 4 ∷ 5 ∷ 11 ∷ 6 ∷ 13 ∷ 7 ∷ 12 ∷ 8 ∷ []
paper_order = refl

-- what comes after a number in an order is of that order
after_of : (n m : ℕ) (order : List ℕ) → is_one_of n (after_number m order) ≡ true → is_one_of n order ≡ true
after_of n m [] e = e
after_of n m (x ∷ xs) e = go (eqb m x) (eqb m 2) (after_of n m xs) e
  where
    rest : is_one_of n xs ≡ true → (eqb n x || is_one_of n xs) ≡ true
    rest h = rw (h, or-true (eqb n x))

    go : (t u : Bool) → (is_one_of n (after_number m xs) ≡ true → is_one_of n xs ≡ true) → is_one_of n (pick t (pick u (x ∷ xs) xs) (after_number m xs)) ≡ true
        → (eqb n x || is_one_of n xs) ≡ true
    go true true later h = h
    go true false later h = rest h
    go false u later h = rest (later h)

among_listed : (a : Answer) (order : List ℕ) (rs : Refusals) → in_order order (numbers_of rs) ≡ true → Among a rs → is_one_of (number_of a) order ≡ true
among_listed a order [] h x' = elim x' [ ]
among_listed a order (r ∷ rs) h (inl e) =
    rw (← e) (and_left (is_one_of (number_of r.1) order) (in_order (after_number (number_of r.1) order) (numbers_of rs)) h)
among_listed a order (r ∷ rs) h (inr m) =
    let m' = number_of r.1 in
    after_of (number_of a) m' order
    (among_listed a (after_number m' order) rs (and_right (is_one_of m' order) (in_order (after_number m' order) (numbers_of rs)) h) m)

pub of_its_order : (order : List ℕ) (rs : Refusals) (last : Answer) → in_order order (numbers_of rs) ≡ true → number_of last < 2
    → Refusal (answered rs last) → is_one_of (number_of (answered rs last)) order ≡ true
of_its_order order rs last h l =
    by_refusals (λ x. Refusal x.0 → is_one_of (number_of x.0) order ≡ true) tt rs (last, tt) (λ a m r. among_listed a order rs h m)
    (λ none r. absurd (omega arith))
