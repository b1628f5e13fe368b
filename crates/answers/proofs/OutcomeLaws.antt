-- Laws of every outcome, whatever it refuses and leaves.
use mathlib.Core.Path.{◌≡◌, refl, sym, ap, ◌∙◌}
use Prim.Native.Nat.{ℕ, zero, suc, ◌≤◌, ◌<◌}
use native.Mathlib.Omega.{arith}
use mathlib.Core.Logic.{◌⊎◌, inl, inr}
use mathlib.Core.Bool.{Bool, true, false, ◌&&◌, not, true≢false}
use mathlib.Core.List.{[], ◌∷◌, ◌++◌, append-nil}
use lib.Dec.{leb}
use borrow.Author.Tests.{not-true, eq-eqb, ne_eqb, leb-true}
use Rattle.octets.specs.Tests.{pick}
use Rattle.octets.proofs.TestLaws.{and_left, and_right}
use Rattle.answers.specs.declared.Answer.{Answer}
use Rattle.answers.specs.declared.Answer.TheVariants.{Done}
use Rattle.answers.specs.Numbers.{number_of, is_done}
use Rattle.answers.specs.Outcomes.{Refusals, settled, outcome}

-- an answer that is done, by its number
pub is_done_lem : (a : Answer) {n : ℕ} → n ≡ number_of a → n ≡ 0 → is_done a ≡ true
is_done_lem a p q = eq-eqb (number_of a) 0 (sym p ∙ q)

pub not_done : (a : Answer) {n : ℕ} → n ≡ number_of a → (n ≡ 0 → ⊥) → is_done a ≡ false
not_done a p q = ne_eqb (number_of a) 0 (λ e. q (p ∙ e))

-- an answer that changes nothing: 2 and up
abbrev pub Refusal : Answer → Type 0
Refusal a = 2 ≤ number_of a

-- no test holds
abbrev pub NoneHolds : Refusals → Type 0
NoneHolds [] = Unit {0}
NoneHolds (r ∷ rs) = (r.0 ≡ false) × NoneHolds rs

pub none_left : (rs rest : Refusals) → NoneHolds (rs ++ rest) → NoneHolds rs
none_left [] rest n = tt
none_left (r ∷ rs) rest n = (n.0, none_left rs rest n.1)

pub none_right : (rs rest : Refusals) → NoneHolds (rs ++ rest) → NoneHolds rest
none_right [] rest n = n
none_right (r ∷ rs) rest n = none_right rs rest n.1

-- one of the refusals gives this answer
abbrev pub Among : Answer → Refusals → Type 0
Among a [] = ⊥
Among a (r ∷ rs) = (r.1 ≡ a) ⊎ Among a rs

-- no refusal answers done
abbrev pub never_done : Refusals → Bool
never_done [] = true
never_done (r ∷ rs) = not (is_done r.1) && never_done rs

pub among_not_done : (a : Answer) (rs : Refusals) → never_done rs ≡ true → Among a rs → is_done a ≡ false
among_not_done a [] n x' = elim x' [ ]
among_not_done a (r ∷ rs) n (inl e) = ap is_done (sym e) ∙ not-true (is_done r.1) (and_left (not (is_done r.1)) (never_done rs) n)
among_not_done a (r ∷ rs) n (inr m) = among_not_done a rs (and_right (not (is_done r.1)) (never_done rs) n) m

-- every refusal is 2 or more
abbrev pub from_two : Refusals → Bool
from_two [] = true
from_two (r ∷ rs) = leb 2 (number_of r.1) && from_two rs

pub among_refuses : (a : Answer) (rs : Refusals) → from_two rs ≡ true → Among a rs → Refusal a
among_refuses a [] t x' = elim x' [ ]
among_refuses a (r ∷ rs) t (inl e) = rw (← e) (leb-true 2 (number_of r.1) (and_left (leb 2 (number_of r.1)) (from_two rs) t))
among_refuses a (r ∷ rs) t (inr m) = among_refuses a rs (and_right (leb 2 (number_of r.1)) (from_two rs) t) m

-- P holds of each answer whose test holds where none before it does
abbrev pub Gives : (Answer → Type 0) → Refusals → Type 0
Gives P [] = Unit {0}
Gives P (r ∷ rs) = (r.0 ≡ true → P r.1) × (r.0 ≡ false → Gives P rs)

-- and refusals after them
pub gives_more : (P : Answer → Type 0) (rs more : Refusals) → Gives P rs → Gives P more → Gives P (rs ++ more)
gives_more P [] more g h = h
gives_more P (r ∷ rs) more g h = (g.0, λ e. gives_more P rs more (g.1 e) h)

module _ {S : Type 0} where
  -- what holds of each refusal, and of the last answer where no test holds, holds of the outcome
  pub by_refusals : (P : Answer × S → Type 0) (before : S) (rs : Refusals) (last : Answer × S)
      → ((a : Answer) → Among a rs → P (a, before)) → (NoneHolds rs → P last) → P (settled before rs last)
  by_refusals P before [] last f g = g tt
  by_refusals P before (r ∷ rs) last f g = go r.0 refl (by_refusals P before rs last (λ a m. f a (inr m)))
    where
      go : (t : Bool) → r.0 ≡ t → ((NoneHolds rs → P last) → P (settled before rs last)) → P (pick t (r.1, before) (settled before rs last))
      go true e h = f r.1 (inl refl)
      go false e h = h (λ n. g (e, n))

  -- and of two outcomes that are refused alike
  pub side_by_side : {T : Type 0} (P : Answer × S → Answer × T → Type 0) (before : S) (before' : T) (rs : Refusals) (last : Answer × S) (last' : Answer × T)
      → ((a : Answer) → P (a, before) (a, before')) → (NoneHolds rs → P last last') → P (settled before rs last) (settled before' rs last')
  side_by_side P before before' [] last last' f g = g tt
  side_by_side P before before' (r ∷ rs) last last' f g = go r.0 refl (side_by_side P before before' rs last last' f)
    where
      go : (t : Bool) → r.0 ≡ t → ((NoneHolds rs → P last last') → P (settled before rs last) (settled before' rs last'))
          → P (pick t (r.1, before) (settled before rs last)) (pick t (r.1, before') (settled before' rs last'))
      go true e h = f r.1
      go false e h = h (λ n. g (e, n))

  -- what holds before, and of what is left where no test holds, holds of what is left
  pub leaves : (P : S → Type 0) (before : S) (rs : Refusals) (last : Answer × S) → P before → (NoneHolds rs → P last.1) → P (settled before rs last).1
  leaves P before rs last b = by_refusals (λ o. P o.1) before rs last (λ a m. b)

  -- what holds of each answer that is given, and of the last one, holds of the outcome's
  pub gives : (P : Answer → Type 0) (before : S) (rs : Refusals) (last : Answer × S) → Gives P rs → P last.0 → P (settled before rs last).0
  gives P before [] last g l = l
  gives P before (r ∷ rs) last g l = go r.0 g.0 (λ e. gives P before rs last (g.1 e) l)
    where
      go : (t : Bool) → (t ≡ true → P r.1) → (t ≡ false → P (settled before rs last).0) → P (pick t (r.1, before) (settled before rs last)).0
      go true p q = p refl
      go false p q = q refl

  -- a refusal leaves all as it was before
  pub refusal_keeps : (before : S) (rs : Refusals) (last : Answer × S)
      → ((settled before rs last).0 ≡ last.0 → ⊥) → (settled before rs last).1 ≡ before
  refusal_keeps before rs last =
      by_refusals (λ o. (o.0 ≡ last.0 → ⊥) → o.1 ≡ before) before rs last (λ a m n. refl) (λ h n. absurd (n refl))

  -- so, where the last answer is 0 or 1, any other
  pub keeps : (before : S) (rs : Refusals) (last : Answer × S) → number_of last.0 < 2
      → Refusal (settled before rs last).0 → (settled before rs last).1 ≡ before
  keeps before rs last l = by_refusals (λ o. Refusal o.0 → o.1 ≡ before) before rs last (λ a m h. refl) (λ n h. absurd (omega arith))

  -- where some test holds, whichever, all is refused and stays as it was
  pub some_refuses : (before : S) (rs : Refusals) (last : Answer × S) → from_two rs ≡ true → (NoneHolds rs → ⊥)
      → Refusal (settled before rs last).0 × ((settled before rs last).1 ≡ before)
  some_refuses before rs last t some =
      by_refusals (λ o. Refusal o.0 × (o.1 ≡ before)) before rs last (λ a m. (among_refuses a rs t m, refl)) (λ n. absurd (some n))

  -- an outcome settles both the answer and what is left: any two that meet one equation are equal
  pub one-outcome : {o : Answer × S} (a b : Answer) (x y : S) → (a, x) ≡ o → (b, y) ≡ o → (a ≡ b) × (x ≡ y)
  one-outcome a b x y p q = (ap (λ (r : Answer × S). r.0) (p ∙ sym q), ap (λ (r : Answer × S). r.1) (p ∙ sym q))

  pub none_settles : (rs : Refusals) (before : S) (last : Answer × S) → NoneHolds rs → settled before rs last ≡ last
  none_settles [] before last n = refl
  none_settles (r ∷ rs) before last n = rw n.0 (none_settles rs before last n.1)

  -- two lists one after the other: the first decides where one of its tests holds, and else the second
  pub in_a_row : (rs rest : Refusals) (before : S) (last : Answer × S) → settled before (rs ++ rest) last ≡ settled before rs (settled before rest last)
  in_a_row [] rest before last = refl
  in_a_row (r ∷ rs) rest before last = ap (pick r.0 (r.1, before)) (in_a_row rs rest before last)

  pub none_first : (rs rest : Refusals) (before : S) (last : Answer × S) → NoneHolds rs
      → settled before (rs ++ rest) last ≡ settled before rest last
  none_first rs rest before last n = in_a_row rs rest before last ∙ none_settles rs before (settled before rest last) n

  -- what holds of one last outcome, and of the whole with another, holds of the whole with the one
  pub or_last : (P : Answer × S → Type 0) (before : S) (rs : Refusals) (one two : Answer × S) → P one → P (settled before rs two) → P (settled before rs one)
  or_last P before [] one two p q = p
  or_last P before (r ∷ rs) one two p q = go r.0 (or_last P before rs one two p) q
    where
      go : (t : Bool) → (P (settled before rs two) → P (settled before rs one)) → P (pick t (r.1, before) (settled before rs two))
          → P (pick t (r.1, before) (settled before rs one))
      go true h q = q
      go false h q = h q

  -- a refusal is the same whatever comes last
  pub refused_alike : (before : S) (rs : Refusals) (one two : Answer × S) → number_of two.0 < 2 → Refusal (settled before rs two).0
      → settled before rs one ≡ settled before rs two
  refused_alike before [] one two l h = absurd (omega arith)
  refused_alike before (r ∷ rs) one two l h = go r.0 (refused_alike before rs one two l) h
    where
      go : (t : Bool) → (Refusal (settled before rs two).0 → settled before rs one ≡ settled before rs two)
          → Refusal (pick t (r.1, before) (settled before rs two)).0 → pick t (r.1, before) (settled before rs one) ≡ pick t (r.1, before) (settled before rs two)
      go true h q = refl
      go false h q = h q

  -- one refusal more at the end: it is given where its test holds and all else would be done
  pub asked-last : (rs : Refusals) (t : Bool) (a : Answer) (before after : S) → never_done rs ≡ true
      → outcome before (rs ++ ((t, a) ∷ [])) after ≡ pick (is_done (outcome before rs after).0 && t) (a, before) (outcome before rs after)
  asked-last [] t a before after n = refl
  asked-last (r ∷ rs) t a before after n =
      go r.0 (not-true (is_done r.1) (and_left (not (is_done r.1)) (never_done rs) n)) (asked-last rs t a before after (and_right (not (is_done r.1)) (never_done rs) n))
    where
      go : (u : Bool) → is_done r.1 ≡ false
          → outcome before (rs ++ ((t, a) ∷ [])) after ≡ pick (is_done (outcome before rs after).0 && t) (a, before) (outcome before rs after)
          → pick u (r.1, before) (outcome before (rs ++ ((t, a) ∷ [])) after)
          ≡ pick (is_done (pick u (r.1, before) (outcome before rs after)).0 && t) (a, before) (pick u (r.1, before) (outcome before rs after))
      go true d h = rw d
      go false d h = h

module _ {S T : Type 0} where
  -- what stands around the state changes no refusal
  pub around : (f : S → T) (before : S) (rs : Refusals) (last : Answer × S)
      → ((settled before rs last).0, f (settled before rs last).1) ≡ settled (f before) rs (last.0, f last.1)
  around f before [] last = refl
  around f before (r ∷ rs) last = go r.0 (around f before rs last)
    where
      go : (t : Bool) → ((settled before rs last).0, f (settled before rs last).1) ≡ settled (f before) rs (last.0, f last.1)
          → ((pick t (r.1, before) (settled before rs last)).0, f (pick t (r.1, before) (settled before rs last)).1)
          ≡ pick t (r.1, f before) (settled (f before) rs (last.0, f last.1))
      go true e = refl
      go false e = e

  -- so a part of the refusals may be asked of another operation
  pub first_refuses : (rs rest : Refusals) (k after : T) (before : S) (last : Answer × S) → is_done (outcome k rs after).0 ≡ false
      → settled before (rs ++ rest) last ≡ ((outcome k rs after).0, before)
  first_refuses [] rest k after before last d = absurd (true≢false d)
  first_refuses (r ∷ rs) rest k after before last d = go r.0 d (first_refuses rs rest k after before last)
    where
      go : (t : Bool) → is_done (pick t (r.1, k) (outcome k rs after)).0 ≡ false
          → (is_done (outcome k rs after).0 ≡ false → settled before (rs ++ rest) last ≡ ((outcome k rs after).0, before))
          → pick t (r.1, before) (settled before (rs ++ rest) last) ≡ ((pick t (r.1, k) (outcome k rs after)).0, before)
      go true e h = refl
      go false e h = h e

pub done_none : {T : Type 0} (rs : Refusals) (k after : T) → never_done rs ≡ true → is_done (outcome k rs after).0 ≡ true → NoneHolds rs
done_none rs k after n =
    by_refusals (λ o. is_done o.0 ≡ true → NoneHolds rs) k rs (Done, after)
    (λ a m d. absurd (true≢false (sym d ∙ among_not_done a rs n m))) (λ h d. h)

-- refusal n is the first whose test holds
abbrev pub Refuses : Refusals → ℕ → Type 0
Refuses [] n = ⊥
Refuses (r ∷ rs) zero = r.0 ≡ true
Refuses (r ∷ rs) (suc n) = (r.0 ≡ false) × Refuses rs n

-- what it answers
abbrev pub answer_at : Refusals → ℕ → Answer
answer_at [] n = Done
answer_at (r ∷ rs) zero = r.1
answer_at (r ∷ rs) (suc n) = answer_at rs n

module _ {S : Type 0} (before : S) where
  pub refused_at : (rs : Refusals) (last : Answer × S) (n : ℕ) → Refuses rs n → (answer_at rs n, before) ≡ settled before rs last
  refused_at [] last n e = absurd e
  refused_at (r ∷ rs) last zero e = rw e
  refused_at (r ∷ rs) last (suc n) e = rw e.0 (refused_at rs last n e.1)

-- the same refusals, asked by another operation, of k, which it leaves as `after`
pub asked_refused : {S T : Type 0} (rs : Refusals) (k after : T) (before : S) (last : Answer × S) → is_done (outcome k rs after).0 ≡ false
    → ((outcome k rs after).0, before) ≡ settled before rs last
asked_refused rs k after before last d = sym (rw append-nil at (first_refuses rs [] k after before last d))

-- what a part of the refusals refuses, all of them do
pub first_decides : {S : Type 0} (rs rest : Refusals) (before after : S) → is_done (outcome before rs after).0 ≡ false
    → outcome before rs after ≡ outcome before (rs ++ rest) after
first_decides rs rest before after d = sym (asked_refused rs before after before (Done, after) d) ∙ sym (first_refuses rs rest before after before (Done, after) d)
