-- `aes::mixed_alone` meets its contract.
use mathlib.Core.Path.{◌∙◌}
use Rattle.aes.proofs.WordLaws.{le_word}
use Rattle.aes.proofs.ColumnLaws.{alone_is}
use Rattle.aes.proofs.mixed_alone.Goals as goal

pub returns : goal.returns
returns c = c.from_le_bytes.ensures ∙ le_word _ _ _ _ ∙ alone_is c.args.v _ c.xtime-d.ensures
