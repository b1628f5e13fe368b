-- `des::PreparedKey::first_rounds` meets its contract.
use mathlib.Core.Path.{◌∙◌}
use native.Mathlib.Omega.{arith}
use borrow.Author.Rules.{rules}
use Rattle.des.proofs.BitLists.{bits-cipher_f}
use Rattle.des.proofs.RoundLaws.{reached_start, reached_more, reached_end}
use Rattle.des.proofs.PreparedKey.first_rounds.Goals as goal

pub loop-n-init : goal.loop-n-init
loop-n-init c = reached_start _ _ _ _ (search rules) c.requires.0 c.half-left.ensures c.half-right.ensures

pub add-requires : goal.add-requires
add-requires c = (search rules, c.loop-n.invariant.bits_left, rw c.cipher_function-f.ensures (bits-cipher_f _ _))

pub loop-n-preserved : goal.loop-n-preserved
loop-n-preserved c =
    rw (c.swap.ensures.x_after, c.swap.ensures.y_after) (reached_more _ _ _ _ _ c.loop-n.invariant _ _ c.add.ensures c.cipher_function-f.ensures)

pub returns : goal.returns
returns c = c.join.ensures ∙ reached_end _ _ _ _ _ c.loop-n.invariant _ (omega arith)
