-- `octets::all_zero` meets its contract: the or of the octets is zero where each of them is.
use mathlib.Core.Path.{◌≡◌, refl, sym}
use lib.Dec.{eqb}
use borrow.Author.Rules.{rules}
use Rattle.std.proofs.lemmas.Fn.{fold_over, slice_gives, fronts}
use Rattle.octets.specs.Lists.{all_zero}
use Rattle.octets.proofs.Zeros.{zeros-all, zero_more}
use Rattle.octets.proofs.all_zero.Goals as goal

pub returns : goal.returns
returns c =
    fold_over fronts (λ y. y.now) _ (λ xs bits. eqb bits 0 ≡ all_zero xs) _ (λ xs bits x more f e k. (zero_more xs x.now bits more e (search rules), refl)) c.iter.result
    c.args.xs.now _ _ (search (rules, slice_gives)) (sym (zeros-all 0)) c.fold.ensures.ran
