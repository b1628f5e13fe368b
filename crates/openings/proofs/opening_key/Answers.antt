-- `openings::opening_key` meets its contract.
-- of the two tests of range one fails, or neither
use mathlib.Core.Path.{◌≡◌, refl, sym, ap, ◌∙◌}
use mathlib.Core.Bool.{Bool, true, false, ◌&&◌, not, true≢false}
use mathlib.Core.Logic.{◌⊎◌, inl, inr}
use borrow.Author.Tests.{eq-eqb, ne_eqb}
use Rattle.keyentry.specs.Entry.{in_range}
use Rattle.openings.specs.Ladder.{key_refusals}
use Rattle.openings.proofs.LadderLaws.{key_refused, key-ready}
use mathlib.Core.List.{List}
use Prim.Native.Nat.{ℕ}
use Rattle.answers.specs.declared.Answer.{Answer}
use Rattle.answers.specs.Outcomes.{result_of}
use Rattle.answers.proofs.ResultLaws.{refused}
use Rattle.openings.proofs.opening_key.Goals as goal
use Rattle.openings.proofs.opening_key.Goals.{then-not-ranged-via-then-not-ranged, then-not-ranged-via-else-not-ranged+then-not-in_range}

out_of_range : (ranged t : Bool) → (not ranged ≡ true) ⊎ (t ≡ false) → not (ranged && t) ≡ true
out_of_range false t e = refl
out_of_range true t (inl e) = absurd (true≢false (sym e))
out_of_range true t (inr e) = ap not e

in_range_lem : (ranged : Bool) {r t : Bool} → ranged ≡ true → r ≡ t → r ≡ true → not (ranged && t) ≡ false
in_range_lem ranged {r} {t} p e q = rw (p, sym e ∙ q)

pub returns-then-book-ne-BOOK_OCTETS : goal.returns-then-book-ne-BOOK_OCTETS
unfolding key_refusals
returns-then-book-ne-BOOK_OCTETS c =
    refused refl (key_refused _ _ _ _ _ _ 0 (ap not (ne_eqb _ _ c.if-book-ne-BOOK_OCTETS.true)))

pub returns-then-not-ranged : goal.returns-then-not-ranged
unfolding key_refusals
returns-then-not-ranged c =
    refused refl (key_refused _ _ _ _ _ _ 1 (ap not (eq-eqb _ _ c.if-book-ne-BOOK_OCTETS.false), out_of_range c.args.ranged (in_range c.args.cipher c.args.id) (elim c.then-not-ranged.branch [ then-not-ranged-via-then-not-ranged w ↦ inl (ap not w.if-not-ranged.true) | then-not-ranged-via-else-not-ranged+then-not-in_range w ↦ inr (sym w.in_range.ensures ∙ w.if-not-in_range.true) ])))

pub returns-then-bad : goal.returns-then-bad
unfolding key_refusals
returns-then-bad c =
    refused refl (key_refused _ _ _ _ _ _ 2 (ap not (eq-eqb _ _ c.if-book-ne-BOOK_OCTETS.false), (in_range_lem c.args.ranged c.if-not-ranged.false c.in_range.ensures c.if-not-in_range.false, c.if-bad.true)))

pub returns-then-busy : goal.returns-then-busy
unfolding key_refusals
returns-then-busy c =
    refused refl (key_refused _ _ _ _ _ _ 3 (ap not (eq-eqb _ _ c.if-book-ne-BOOK_OCTETS.false), (in_range_lem c.args.ranged c.if-not-ranged.false c.in_range.ensures c.if-not-in_range.false, (c.if-bad.false, c.if-busy.true))))

pub returns : goal.returns
unfolding key_refusals
returns c =
    c.ready_key.ensures
    ∙ ap (λ (o : Answer × List ℕ). result_of o) (key-ready _ _ _ _ _ _ c.if-book-ne-BOOK_OCTETS.false (c.if-not-ranged.false) (sym c.in_range.ensures ∙ c.if-not-in_range.false) c.if-bad.false c.if-busy.false)
