-- `aes::PreparedKey::substituted` meets its contract.
use mathlib.Core.Path.{◌∙◌}
use borrow.Author.Rules.{rules}
use Rattle.aes.proofs.ColumnLaws.{entry_sub}
use Rattle.aes.proofs.StateLaws.{sub_shifted}
use Rattle.aes.proofs.PreparedKey.substituted.Goals as goal

pub returns : goal.returns
returns c = c.octet.ensures ∙ entry_sub c.shifted.result _ (search rules) c.entry.ensures ∙ sub_shifted _ c.args.i _ (search rules) c.shifted.ensures
