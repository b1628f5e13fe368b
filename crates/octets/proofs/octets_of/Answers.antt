-- `octets::octets_of` meets its contract.
use mathlib.Core.Path.{◌∙◌}
use Rattle.octets.proofs.Numbers.{written}
use Rattle.octets.proofs.octets_of.Goals as goal

pub returns : goal.returns
returns c = c.to_be_bytes.ensures ∙ written c.args.number
