-- `des::permute` meets its contract.
use mathlib.Core.Path.{sym, ap, ◌∙◌}
use Prim.Native.Nat.{ℕ, ◌-◌}
use native.Mathlib.Omega.{arith}
use borrow.Author.Rules.{rules}
use lib.ListN.{get_or}
use Rattle.octets.proofs.Front.{front_start, front_more, front_done}
use Rattle.des.proofs.BitLists.{length-permuted, get_or-permuted}
use Rattle.des.proofs.permute.Goals as goal

pub loop-i-init : goal.loop-i-init
loop-i-init c = front_start _ _ (c.requires.out_len ∙ sym (length-permuted _ _))

pub loop-i-preserved : goal.loop-i-preserved
loop-i-preserved c =
    front_more _ _ _ _ _ c.loop-i.invariant (omega (arith, length-permuted c.args.table.now c.args.bits.now))
    (ap (λ (k : ℕ). get_or c.args.bits.now (k - 1) 0) c.from.ensures ∙ sym (get_or-permuted c.args.table.now c.args.bits.now c.loop-i.i (search rules)))

pub returns : goal.returns
returns c = front_done _ _ _ _ c.loop-i.invariant (simp length-permuted (search rules))
