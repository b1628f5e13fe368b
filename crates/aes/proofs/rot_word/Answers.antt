-- `aes::rot_word` meets its contract.
use mathlib.Core.Path.{ap, ◌∙◌}
use borrow.Author.Rules.{rules}
use Rattle.aes.specs.Prepared.{octets_of}
use Rattle.aes.proofs.ScheduleLaws.{rotated-octets}
use Rattle.aes.proofs.rot_word.Goals as goal

pub returns : goal.returns
returns c = ap octets_of c.rotate_left.ensures ∙ rotated-octets c.args.t (search rules)
