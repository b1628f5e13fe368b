-- `aes::Sbox::sub_word` meets its contract.
use mathlib.Core.Path.{ap, ◌∙◌}
use borrow.Author.Rules.{rules}
use Rattle.aes.specs.Prepared.{octets_of}
use Rattle.aes.proofs.ScheduleLaws.{substituted-octets}
use Rattle.aes.proofs.Sbox.sub_word.Goals as goal

pub returns : goal.returns
returns c =
    ap octets_of c.from_le_bytes.ensures
    ∙ substituted-octets c.args.t c.to_le_bytes.result c.map.result c.to_le_bytes.ensures (λ r h. let met = (c.map.ensures.items.at r 0 0 h).2.met in search rules)
