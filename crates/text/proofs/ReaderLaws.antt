-- Feeding an input, in two parts or whole, and then its end comes to what its lines come to.
use mathlib.Core.Path.{◌≡◌, refl, sym, ap, ◌∙◌}
use mathlib.Core.Bool.{Bool, true, false}
use mathlib.Core.List.{List, [], ◌∷◌, ◌++◌, append_assoc, append-nil}
use Prim.Native.Nat.{ℕ, ◌≤◌, ◌<◌}
use native.Mathlib.Decide.{dec_lt}
use native.Mathlib.Omega.{arith}
use lib.Dec.{eqb}
use lib.ListN.{length, take, length-take}
use lib.Seq.{take_all, take-append-le, length-take-le}
use borrow.Author.Tests.{ne_eqb}
use Rattle.octets.specs.Tests.{pick}
use Rattle.text.specs.Parted.{line_end, onto, parted}
use Rattle.text.specs.Reader.{without_last, lines_of, Reader, Reading, fresh, and_then, all_answered, kept, ended, fed, finished}

-- ---- one after the other

-- with this output before
abbrev behind : {B : Type 0} → List ℕ → List ℕ × B → List ℕ × B
behind out m = (out ++ m.0, m.1)

then-then : {A B C : Type 0} (one : List ℕ × A) (f : A → List ℕ × B) (g : B → List ℕ × C) → and_then (and_then one f) g ≡ and_then one (λ a. and_then (f a) g)
then-then one f g = rw (append_assoc one.0 (f one.1).0 (g (f one.1).1).0)

-- ---- octets kept of a line, one after the other or at once

module _ (most : ℕ) where
  kept_more : (l ys : List ℕ) → take most (take most l ++ ys) ≡ take most (l ++ ys)
  kept_more l ys = go (dec_lt most (length l))
    where
      go : Dec (most < length l) → take most (take most l ++ ys) ≡ take most (l ++ ys)
      go (yes h) =
          let long = length-take-le most l (omega arith) in
          take-append-le most (take most l) ys (omega (arith, long)) ∙ take_all most (take most l) (omega (arith, long)) ∙ sym (take-append-le most l ys (omega arith))
      go (no h) = rw (take_all most l (omega arith))

  pub kept-kept : (l xs ys : List ℕ) → take most (take most (l ++ xs) ++ ys) ≡ take most (l ++ (xs ++ ys))
  kept-kept l xs ys = rw (← append_assoc l xs ys) (kept_more (l ++ xs) ys)

-- ---- the parts of an input

-- parts with more before the first
abbrev after : List ℕ → List (List ℕ) → List (List ℕ)
after p [] = p ∷ []
after p (q ∷ qs) = (p ++ q) ∷ qs

after-onto : (p : List ℕ) (x : ℕ) (qs : List (List ℕ)) → after p (onto x qs) ≡ after (p ++ (x ∷ [])) qs
after-onto p x [] = refl
after-onto p x (q ∷ qs) = rw (append_assoc p (x ∷ []) q)

-- there is always a first part
after_none : (xs : List ℕ) → after [] (parted line_end xs) ≡ parted line_end xs
unfolding parted
after_none [] = refl
after_none (x ∷ xs) = go (eqb x line_end) (parted line_end xs)
  where
    go : (b : Bool) (qs : List (List ℕ)) → after [] (pick b ([] ∷ qs) (onto x qs)) ≡ pick b ([] ∷ qs) (onto x qs)
    go true qs = refl
    go false [] = refl
    go false (q ∷ qs) = refl

-- so a line that ends is a line, whatever comes after it
line_first : (l xs : List ℕ) → without_last (l ∷ parted line_end xs) ≡ l ∷ without_last (parted line_end xs)
unfolding parted
line_first l [] = refl
line_first l (x ∷ xs) = go (eqb x line_end) (parted line_end xs)
  where
    go : (b : Bool) (qs : List (List ℕ)) → without_last (l ∷ pick b ([] ∷ qs) (onto x qs)) ≡ l ∷ without_last (pick b ([] ∷ qs) (onto x qs))
    go true qs = refl
    go false [] = refl
    go false (q ∷ qs) = refl

-- ---- pieces

module _ {S : Type 0} (r : Reader S) where
  -- what is fed, and then more
  pub fed_append : (xs : List ℕ) (s : Reading S) (ys : List ℕ) → fed r s (xs ++ ys) ≡ and_then (fed r s xs) (λ t. fed r t ys)
  unfolding fed
  fed_append [] s ys = refl
  fed_append (x ∷ xs) s ys = go (eqb x line_end) (fed_append xs)
    where
      go : (b : Bool) → ((s : Reading S) (ys : List ℕ) → fed r s (xs ++ ys) ≡ and_then (fed r s xs) (λ t. fed r t ys))
          → pick b (and_then (ended r s) (λ t. fed r (fresh t) (xs ++ ys))) (fed r (kept r s (x ∷ [])) (xs ++ ys))
          ≡ and_then (pick b (and_then (ended r s) (λ t. fed r (fresh t) xs)) (fed r (kept r s (x ∷ [])) xs)) (λ t. fed r t ys)
      go true more = ap (behind (ended r s).0) (more (fresh (ended r s).1) ys) ∙ sym (then-then (ended r s) (λ t. fed r (fresh t) xs) (λ t. fed r t ys))
      go false more = more (kept r s (x ∷ [])) ys

  -- what the laws ask of a reader: some octet is kept, and what is kept of a line is as good as all of it
  pub record Enough : Type 0 where
    pub some : 1 ≤ r.most
    pub as_all : (l : List ℕ) (s : S) → r.act (take r.most l) s ≡ r.act l s

  module _ (enough : Enough) where
    -- while p is what the line has so far
    abbrev reading : List ℕ → S → Reading S
    reading p s = record { line = take r.most p; state = s }

    last_line : (p : List ℕ) (s : S) → finished r (reading p s) ≡ all_answered r (without_last ((p ++ []) ∷ [])) s
    unfolding finished all_answered
    last_line [] s = rw (take_all {A = ℕ} r.most [] (omega arith))
    last_line (x ∷ p) s =
        let some : length (take r.most (x ∷ p)) ≡ 0 → ⊥ = λ e. omega (arith, length-take r.most (x ∷ p), enough.some) in
        let more : length (x ∷ (p ++ [])) ≡ 0 → ⊥ = λ e. omega arith in
        rw (ne_eqb (length (take r.most (x ∷ p))) 0 some, ne_eqb (length (x ∷ (p ++ []))) 0 more, enough.as_all (x ∷ p) s, append-nil p, append-nil (r.act (x ∷ p) s).0)

    whole-after : (xs p : List ℕ) (s : S) → and_then (fed r (reading p s) xs) (finished r) ≡ all_answered r (without_last (after p (parted line_end xs))) s
    unfolding fed parted all_answered
    whole-after [] p s = last_line p s
    whole-after (x ∷ xs) p s = go (eqb x line_end) (whole-after xs)
      where
        here : Reading S
        here = reading p s

        go : (b : Bool) → ((p : List ℕ) (s : S) → and_then (fed r (reading p s) xs) (finished r) ≡ all_answered r (without_last (after p (parted line_end xs))) s)
            → and_then (pick b (and_then (ended r here) (λ t. fed r (fresh t) xs)) (fed r (kept r here (x ∷ [])) xs)) (finished r)
            ≡ all_answered r (without_last (after p (pick b ([] ∷ parted line_end xs) (onto x (parted line_end xs))))) s
        go true more =
            let one = r.act p s in
            let rest : and_then (fed r (fresh one.1) xs) (finished r) ≡ all_answered r (without_last (parted line_end xs)) one.1 =
            rw (after_none xs, take_all {A = ℕ} r.most [] (omega arith)) at (more [] one.1) in
            rw (enough.as_all p s, line_first (p ++ []) xs, append-nil p) (then-then one (λ t. fed r (fresh t) xs) (finished r) ∙ ap (behind one.0) rest)
        go false more = rw (kept_more r.most p (x ∷ []), after-onto p x (parted line_end xs)) (more (p ++ (x ∷ [])) s)

    -- an input whole
    pub whole : (xs : List ℕ) (s : S) → and_then (fed r (fresh s) xs) (finished r) ≡ all_answered r (lines_of xs) s
    unfolding lines_of
    whole xs s =
        let none : reading [] s ≡ fresh s = rw (take_all {A = ℕ} r.most [] (omega arith)) in
        rw (← after_none xs, ← none) (whole-after xs [] s)
