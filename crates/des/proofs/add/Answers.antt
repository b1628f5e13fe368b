-- `des::add` meets its contract.
use mathlib.Core.Path.{sym, ap, ◌∙◌}
use Prim.Native.Nat.{ℕ}
use native.Mathlib.Nat.{le_refl}
use native.Mathlib.Omega.{arith}
use borrow.Author.Rules.{rules}
use lib.Bits.{bit_xor}
use lib.ListN.{get_or}
use Rattle.octets.proofs.Front.{front_start, front_more, front_done}
use Rattle.des.proofs.BitLists.{length_xor, get_or-xor}
use Rattle.des.proofs.add.Goals as goal

pub loop-i-init : goal.loop-i-init
loop-i-init c = front_start _ _ (sym (length_xor _ _))

pub loop-i-preserved : goal.loop-i-preserved
loop-i-preserved c =
    front_more _ _ _ _ _ c.loop-i.invariant (omega (arith, length_xor c.args.bits.now c.args.more.now))
    (ap (λ (x : ℕ). bit_xor x (get_or c.args.more.now c.loop-i.i 0)) (c.loop-i.invariant.left c.loop-i.i (le_refl c.loop-i.i)) ∙ get_or-xor c.args.bits.now c.args.more.now c.requires.1 c.requires.2 c.loop-i.i (search rules))

pub returns : goal.returns
returns c = front_done _ _ _ _ c.loop-i.invariant (simp length_xor (search rules))
