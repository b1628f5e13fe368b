-- `ciphers::key::des_key` meets its contract.
use mathlib.Core.Path.{◌≡◌, sym, ◌∙◌}
use borrow.Author.Rules.{rules}
use lib.ListN.{take}
use Rattle.std.proofs.lemmas.Fn.{fold_over, slice_gives, fronts}
use Rattle.octets.proofs.TestLaws.{all_none}
use Rattle.ciphers.proofs.KeyLaws.{all_odd, odd_more, first_odd}
use Rattle.ciphers.proofs.key.des_key.Goals as goal

pub returns : goal.returns
returns c =
    fold_over fronts (λ y. y.now) _ (λ xs odd. odd ≡ all_odd xs) _ (λ xs odd x more f e k. (odd_more xs x.now odd more e (search rules), search rules))
    c.iter.result (take 8 c.args.key.now) _ _ (search (rules, slice_gives)) (sym (all_none _)) c.fold.ensures.ran
    ∙ first_odd c.args.key.now (search rules)
