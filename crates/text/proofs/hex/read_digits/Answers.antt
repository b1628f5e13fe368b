-- `text::hex::read_digits` meets its contract.
use mathlib.Core.Path.{sym, ◌∙◌}
use borrow.Author.Rules.{rules}
use lib.ListN.{get_or}
use Rattle.octets.proofs.TestLaws.{all_none}
use Rattle.octets.proofs.Front.{tab_start, tab_more, tab_done}
use Rattle.text.proofs.HexLaws.{worth_or, digits_more}
use Rattle.text.proofs.hex.read_digits.Goals as goal

pub loop-i-init : goal.loop-i-init
loop-i-init c = (sym (all_none _), tab_start _ _ _ (search rules))

pub loop-i-preserved : goal.loop-i-preserved
loop-i-preserved c = (
  rw c.is_some-all.ensures (digits_more c.args.field.now c.loop-i.i c.loop-i.all _ c.loop-i.invariant.0 c.hex_value-value.ensures),
  tab_more _ _ _ _ _ _ c.loop-i.invariant.1 (search rules) (c.unwrap_or.ensures ∙ worth_or (get_or c.args.field.now c.loop-i.i 0) _ c.hex_value-value.ensures),
)

pub returns-clause-values_after : goal.returns-clause-values_after
returns-clause-values_after c = tab_done _ _ _ _ _ c.loop-i.invariant.1 (search rules)
