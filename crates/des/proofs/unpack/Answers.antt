-- `des::unpack` meets its contract.
use mathlib.Core.Path.{sym}
use native.Mathlib.Omega.{arith}
use borrow.Author.Rules.{rules}
use Rattle.octets.specs.Bits.{bit}
use Rattle.octets.proofs.Front.{front_start, front_more, front_done}
use Rattle.octets.proofs.ListLaws.{length-tab, get_or-tab}
use Rattle.des.proofs.unpack.Goals as goal

pub loop-i-init : goal.loop-i-init
loop-i-init c = front_start _ _ (sym (length-tab _ 64))

pub loop-i-preserved : goal.loop-i-preserved
loop-i-preserved c =
    let f = bit c.args.octets.now in
    front_more _ _ _ _ _ c.loop-i.invariant (omega (arith, length-tab f 64)) (sym (get_or-tab f 64 c.loop-i.i (search rules)))

pub returns : goal.returns
returns c = front_done _ _ _ _ c.loop-i.invariant (simp length-tab (search rules))
