-- `ciphers::feedback::feed_back` meets its contract: the first i octets are the session's, and the next stands in the block after the one that is carried.
use mathlib.Core.Path.{refl}
use native.Mathlib.Omega.{arith}
use borrow.Author.Rules.{rules}
use lib.ListN.{length}
use Rattle.octets.specs.Lists.{iterate}
use Rattle.ciphers.specs.Keystream.{used_block, feedback}
use Rattle.ciphers.proofs.Chained.{place_lt, wide_bounds, least_by, lent_count, fed_start, fed_more, fed-all}
use Rattle.ciphers.proofs.feedback.feed_back.Goals as goal

pub loop-i-init : goal.loop-i-init
loop-i-init g c =
    (refl, omega arith, place_lt _ c.args.from g.met.E.Engine.wide, λ cipher its. fed_start _ _ _ _ _ _ (c.skip-carried.ensures _ c.first.ensures))

pub loop-i-preserved : goal.loop-i-preserved
loop-i-preserved g c =
    let w = g.met.E.Engine.wide in (
      search rules,
      search rules,
      omega (arith, (wide_bounds _ w).0),
      λ cipher its.
          fed_more (g.E.Engine.StandsFor c.args.engine.now c.args.vector.now) (λ n. iterate cipher n c.args.vector.now) _ _ _ w _ _ _ _ (c.loop-i.invariant.3 cipher its) (search rules) _ _ _ _ (c.carry_on-carried.ensures _) (search rules)
          (λ i. search rules) (λ n for. c.block.ensures cipher _ n its for) (least_by _ c.loop-i.at c.loop-i.i c.min-n.ensures c.loop-i.invariant.0) _ (lent_count (length c.loop-i.out) c.loop-i.i c.min-n.result (omega (arith, c.min-n.ensures)) c.loop-i.out refl) c.copy_octets.ensures,
    )

pub returns : goal.returns
unfolding feedback used_block
returns g c cipher its = fed-all _ _ _ _ _ _ _ _ _ (c.loop-i.invariant.3 cipher its) (search rules)
