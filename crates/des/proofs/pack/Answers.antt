-- `des::pack` meets its contract.
use mathlib.Core.Path.{sym, ◌∙◌}
use Prim.Native.Nat.{ℕ}
use native.Mathlib.Omega.{arith}
use borrow.Author.Rules.{rules}
use lib.ListN.{get_or}
use Rattle.octets.proofs.Front.{front_start, front_more, front_done}
use Rattle.octets.proofs.BitLaws.{length-octets_from, get_or-octets_from}
use Rattle.des.proofs.pack.Goals as goal

pub loop-i-init : goal.loop-i-init
loop-i-init c = front_start _ _ (search rules ∙ sym (length-octets_from 8 _))

pub loop-i-preserved : goal.loop-i-preserved
loop-i-preserved c =
    let f : ℕ → ℕ = λ k. get_or c.args.bits.now k 0 in
    front_more _ _ _ _ _ c.loop-i.invariant (omega (arith, length-octets_from 8 f)) (c.octet_of.ensures ∙ sym (get_or-octets_from 8 f c.loop-i.i (search rules)))

pub returns : goal.returns
returns c = front_done _ _ _ _ c.loop-i.invariant (simp length-octets_from (search rules))
