-- `octets::turn_octets` meets its contract: the octets below i are turned.
use mathlib.Core.Path.{sym}
use borrow.Author.Rules.{rules}
use lib.ListN.{length-set}
use Rattle.octets.proofs.Front.{front_start}
use Rattle.octets.proofs.Turning.{length-turned, octets_more}
use Rattle.octets.proofs.turn_octets.Goals as goal

pub loop-i-init : goal.loop-i-init
loop-i-init c = (search rules, front_start _ _ (sym (length-turned _ _ _)))

pub loop-i-preserved : goal.loop-i-preserved
loop-i-preserved c = (
  simp length-set c.loop-i.invariant.0,
  octets_more c.args.part.now c.args.key.now c.loop-i.part c.loop-i.i c.loop-i.invariant.1 (search rules) (search rules) (search rules),
)
