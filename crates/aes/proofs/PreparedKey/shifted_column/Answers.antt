-- `aes::PreparedKey::shifted_column` meets its contract.
use mathlib.Core.Path.{◌∙◌}
use borrow.Author.Rules.{rules}
use Rattle.aes.proofs.WordLaws.{word-bytes}
use Rattle.aes.proofs.PreparedKey.shifted_column.Goals as goal

pub returns : goal.returns
returns c = c.from_le_bytes.ensures ∙ word-bytes _ c.args.q c.from_fn.result (λ r h. let met = (c.from_fn.ensures.items.at r 0 h).2.met in search rules)
