-- `scramble::write` meets its contract.
use mathlib.Core.Path.{◌≡◌, refl, sym, ap, ◌∙◌}
use Prim.Native.Nat.{◌+◌, ◌*◌, ◌<◌}
use native.Mathlib.Omega.{arith}
use borrow.Author.Rules.{rules}
use lib.ListN.{length, length-set}
use Rattle.octets.specs.Lists.{iterate}
use Rattle.octets.proofs.BitLaws.{length-octets_from}
use Rattle.octets.proofs.Front.{front_start, front_more}
use Rattle.scramble.specs.Held.{held, moved}
use Rattle.scramble.proofs.HeldBits.{held_lt, held-octet}
use Rattle.scramble.proofs.MovedBits.{held_moved}
use Rattle.scramble.proofs.write.Goals as goal

pub loop-octet-init : goal.loop-octet-init
loop-octet-init c =
    let z : c.args.from ≡ c.args.from + 8 * 0 = omega arith in
    (refl, c.bits_at-bits.ensures ∙ ap (held c.args.key.now) z, front_start _ _ (sym (length-octets_from _ _)))

pub overflow_cast-octet : goal.overflow_cast-octet
overflow_cast-octet c = omega (arith, held_lt c.args.key.now (c.args.from + 8 * c.loop-octet.octet-index))

pub later-bits-requires : goal.later-bits-requires
later-bits-requires c = (rw c.loop-octet.invariant.1 (held_lt _ _), omega arith)

pub loop-octet-preserved : goal.loop-octet-preserved
loop-octet-preserved c =
    let next : c.args.from + 8 * c.loop-octet.octet-index + 8 ≡ c.args.from + 8 * (c.loop-octet.octet-index + 1) = omega arith in
    let inside : c.loop-octet.octet-index < length c.args.out.now = search rules in (
      simp length-set c.loop-octet.invariant.0,
      c.later-bits.ensures ∙ ap (iterate moved 8) c.loop-octet.invariant.1 ∙ held_moved c.args.key.now (c.args.from + 8 * c.loop-octet.octet-index) 8 ∙ ap (held c.args.key.now) next,
      front_more _ _ _ _ _ c.loop-octet.invariant.2 (simp length-octets_from inside) (held-octet c.args.key.now _ c.args.from _ _ inside c.loop-octet.invariant.1),
    )
