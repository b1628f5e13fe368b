-- `aes::shifted` meets its contract.
use mathlib.Core.Path.{◌∙◌}
use borrow.Author.Rules.{rules}
use Rattle.aes.proofs.StateLaws.{shifted_at}
use Rattle.aes.proofs.shifted.Goals as goal

pub returns : goal.returns
returns c = c.octet.ensures ∙ shifted_at _ c.args.i (search rules)
