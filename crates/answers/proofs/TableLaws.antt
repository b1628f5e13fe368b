-- What an operation answers is a number of document 01's table, settled by its refusals in their order; and a refusal leaves all as it was.
use mathlib.Core.Path.{◌≡◌, refl, sym, ap, subst, ◌∙◌}
use mathlib.Core.Bool.{Bool, true, false, ◌&&◌, ◌||◌, true≢false}
use mathlib.Core.Logic.{inl, inr}
use mathlib.Core.List.{List, [], ◌∷◌}
use Prim.Native.Nat.{ℕ, zero, suc, ◌<◌}
use native.Mathlib.Omega.{arith}
use lib.Dec.{leb, eqb}
use borrow.Author.Tests.{eqb-true, leb-true}
use Rattle.octets.proofs.TestLaws.{and_left, and_right}
use Rattle.answers.specs.declared.Answer.{Answer}
use Rattle.answers.specs.Numbers.{number_of, is_one_of, operation_numbers}
use Rattle.answers.specs.Outcomes.{Refusals, settled, answered}
use Rattle.answers.specs.Order.{refusal_order}
use Rattle.answers.proofs.NumberLaws.{answer_of}
use Rattle.answers.proofs.OutcomeLaws as outcomes
use Rattle.answers.proofs.OutcomeLaws.{Refusal, NoneHolds, Among, by_refusals, none_settles, around}

-- every refusal is one of the table
abbrev pub in_table : Refusals → Bool
in_table [] = true
in_table (r ∷ rs) = is_one_of (number_of r.1) refusal_order && in_table rs

-- what is tested of each of a list holds of one of it
abbrev all_of : (ℕ → Bool) → List ℕ → Bool
all_of f [] = true
all_of f (m ∷ ms) = f m && all_of f ms

one_of : (f : ℕ → Bool) (n : ℕ) (ms : List ℕ) → all_of f ms ≡ true → is_one_of n ms ≡ true → f n ≡ true
one_of f n [] t e = absurd (true≢false (sym e))
one_of f n (m ∷ ms) t e = go (eqb n m) refl (one_of f n ms (and_right (f m) (all_of f ms) t)) e
  where
    go : (b : Bool) → eqb n m ≡ b → (is_one_of n ms ≡ true → f n ≡ true) → (b || is_one_of n ms) ≡ true → f n ≡ true
    go true p later e = rw (eqb-true n m p) (and_left (f m) (all_of f ms) t)
    go false p later e = later e

-- each number that is listed is an answer's
pub numbered : (n : ℕ) → is_one_of n operation_numbers ≡ true → number_of (answer_of n) ≡ n
numbered n e = eqb-true _ _ (one_of (λ m. eqb (number_of (answer_of m)) m) n operation_numbers refl e)

-- an answer of the order of refusals is one that an operation can give, and it changes nothing
of_table : (a : Answer) → is_one_of (number_of a) refusal_order ≡ true → (is_one_of (number_of a) operation_numbers ≡ true) × Refusal a
of_table a e =
    (one_of (λ n. is_one_of n operation_numbers) (number_of a) refusal_order refl e, leb-true 2 (number_of a) (one_of (leb 2) (number_of a) refusal_order refl e))

-- and so are 0 and 1
under-two : (n : ℕ) → n < 2 → is_one_of n operation_numbers ≡ true
under-two zero l = refl
under-two (suc zero) l = refl
under-two (suc (suc n)) l = absurd (omega arith)

among_table : (a : Answer) (rs : Refusals) → in_table rs ≡ true → Among a rs → (is_one_of (number_of a) operation_numbers ≡ true) × Refusal a
among_table a [] t x' = elim x' [ ]
among_table a (r ∷ rs) t (inl e) =
    subst (λ (x : Answer). (is_one_of (number_of x) operation_numbers ≡ true) × Refusal x) e
    (of_table r.1 (and_left (is_one_of (number_of r.1) refusal_order) (in_table rs) t))
among_table a (r ∷ rs) t (inr m) = among_table a rs (and_right (is_one_of (number_of r.1) refusal_order) (in_table rs) t) m

-- where no test holds, the last answer is given
none-answered : (rs : Refusals) (a : Answer) → NoneHolds rs → answered rs a ≡ a
none-answered rs a n = ap (λ (o : Answer × Unit {0}). o.0) (none_settles rs tt (a, tt) n)

module _ {S : Type 0} where
  -- what is answered is settled by the refusals and the last answer, whatever state they are about
  pub answer_alone : (before : S) (rs : Refusals) (last : Answer × S) → (settled before rs last).0 ≡ answered rs last.0
  answer_alone before rs last = ap (λ (o : Answer × Unit {0}). o.0) (around (λ (x : S). tt {0}) before rs last)

  -- an outcome answers by the table and by its refusals, or a where none of them holds; and where it refuses leaves all as it was before
  pub record Settles (before : S) (rs : Refusals) (a : Answer) (o : Answer × S) : Type 0 where
    pub number : is_one_of (number_of o.0) operation_numbers ≡ true
    pub answer : o.0 ≡ answered rs a
    -- 0 and 1 are given only where none holds
    pub none_holds : number_of o.0 < 2 → NoneHolds rs
    pub keeps : Refusal o.0 → o.1 ≡ before

  pub settles : (before : S) (rs : Refusals) (last : Answer × S) → in_table rs ≡ true → number_of last.0 < 2
      → Settles before rs last.0 (settled before rs last)
  settles before rs last t l =
      record {
        number =
            by_refusals (λ o. is_one_of (number_of o.0) operation_numbers ≡ true) before rs last (λ a m. (among_table a rs t m).0)
            (λ n. under-two (number_of last.0) l);
        answer = answer_alone before rs last;
        none_holds =
            by_refusals (λ o. number_of o.0 < 2 → NoneHolds rs) before rs last (λ a m h. absurd (omega (arith, (among_table a rs t m).1))) (λ n h. n);
        keeps = outcomes.keeps before rs last l;
      }

  pub not_refused : {before : S} {rs : Refusals} {a : Answer} {o : Answer × S} → Settles before rs a o → number_of o.0 < 2 → o.0 ≡ a
  not_refused {before} {rs} {a} {o} s l = s.answer ∙ none-answered rs a (s.none_holds l)
