-- `text::hex::join_digits` meets its contract.
use mathlib.Core.Path.{refl}
use borrow.Author.Rules.{rules}
use Rattle.octets.proofs.Front.{tab_start, tab_more, tab_done}
use Rattle.text.proofs.hex.join_digits.Goals as goal

pub loop-i-init : goal.loop-i-init
loop-i-init c = tab_start _ _ _ refl

pub loop-i-preserved : goal.loop-i-preserved
loop-i-preserved c = tab_more _ _ _ _ _ _ c.loop-i.invariant (search rules) refl

pub returns : goal.returns
returns c = tab_done _ _ _ _ _ c.loop-i.invariant (search rules)
