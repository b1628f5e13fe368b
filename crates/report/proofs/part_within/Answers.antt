-- `report::part_within` meets its contract.
use mathlib.Core.Path.{◌≡◌, sym}
use borrow.Author.Rules.{rules}
use Rattle.std.proofs.lemmas.Fn.{fold_over, slice_gives, fronts}
use Rattle.report.specs.Report.{counts_within}
use Rattle.report.proofs.SumLaws.{within-none, within_more}
use Rattle.report.proofs.part_within.Goals as goal

pub returns : goal.returns
returns c =
    fold_over fronts (λ y. y.now) _ (λ xs within. within ≡ counts_within xs) _ (λ xs within x more f e k. (within_more xs x.now within more e (search rules), search rules))
    c.iter.result c.args.counts.now _ _ (search (rules, slice_gives)) (sym within-none) c.fold.ensures.ran
