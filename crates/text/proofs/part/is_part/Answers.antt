-- `text::part::is_part` meets its contract.
use mathlib.Core.Path.{◌≡◌, sym}
use borrow.Author.Rules.{rules}
use Rattle.std.proofs.lemmas.Fn.{fold_over, slice_gives, fronts}
use Rattle.text.specs.Walked.{is_part}
use Rattle.text.proofs.PartedLaws.{part_none, part_more}
use Rattle.text.proofs.part.is_part.Goals as goal

pub returns : goal.returns
returns c =
    fold_over fronts (λ y. y.now) _ (λ xs part. part ≡ is_part c.args.separator xs) _ (λ xs part x more f e k. (part_more c.args.separator xs x.now part more e (search rules), search rules))
    c.iter.result c.args.text.now _ _ (search (rules, slice_gives)) (sym (part_none c.args.separator)) c.fold.ensures.ran
