-- `names::text_octets` meets its contract.
use mathlib.Core.Path.{◌∙◌, sym, ap}
use mathlib.Core.Bool.{not}
use borrow.Author.Rules.{rules}
use borrow.Author.Tests.{tests}
use Rattle.std.specs.Option.{unwrap_or}
use Rattle.std.proofs.lemmas.Iterator.{YieldsList-from_slice}
use Rattle.std.proofs.lemmas.Iterator.Search.{position_from_yields_List}
use Rattle.keyentry.specs.Name.{is_printable}
use Rattle.keyentry.proofs.NameLaws.{text_of_position}
use Rattle.keyentry.proofs.names.text_octets.Goals as goal

pub returns : goal.returns
returns c =
    let q = position_from_yields_List (λ x. not (is_printable x)) _ _ c.position.result c.position.ensures.ran (YieldsList-from_slice c.args.name.now c.iter.ensures.rest) (λ x b q k. search (rules, tests)) in
    c.unwrap_or.ensures ∙ ap (unwrap_or c.position.result) (sym c.told-name) ∙ text_of_position c.args.name.now c.position.result c.told-name q
