-- `aes::word_in` meets its contract.
use mathlib.Core.Path.{refl, ◌∙◌}
use Rattle.aes.proofs.WordLaws.{le_word, word-is}
use Rattle.aes.proofs.word_in.Goals as goal

pub returns : goal.returns
returns c = c.from_le_bytes.ensures ∙ le_word _ _ _ _ ∙ word-is c.args.octets.now c.args.i _ _ _ _ refl refl refl refl
