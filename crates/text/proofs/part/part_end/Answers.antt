-- `text::part::part_end` meets its contract.
use lib.Dec.{eqb}
use borrow.Author.Rules.{rules}
use borrow.Author.Tests.{tests}
use Rattle.std.proofs.lemmas.Iterator.{YieldsList-from_slice}
use Rattle.std.proofs.lemmas.Iterator.Search.{position_from_yields_List}
use Rattle.text.proofs.PartedLaws.{passed_strides, passed_found, passed_none}
use Rattle.text.proofs.part.part_end.Goals as goal

pub returns-in-Some : goal.returns-in-Some
returns-in-Some c =
    passed_found _ c.args.text.now _ (search rules) _ (passed_strides _ _ _ (search rules) _ _ c.stride-near.ensures c.stride-end.ensures) _
    (position_from_yields_List (λ x. eqb x c.args.separator) _ _ c.position.result c.position.ensures.ran (YieldsList-from_slice _ c.iter.ensures.rest) (λ x b q k. search (rules, tests)))
    _ c.in-Some.is

pub returns-in-None : goal.returns-in-None
returns-in-None c =
    passed_none _ c.args.text.now _ (search rules) _ (passed_strides _ _ _ (search rules) _ _ c.stride-near.ensures c.stride-end.ensures) _
    (position_from_yields_List (λ x. eqb x c.args.separator) _ _ c.position.result c.position.ensures.ran (YieldsList-from_slice _ c.iter.ensures.rest) (λ x b q k. search (rules, tests)))
    c.in-None.is
