-- `text::part::stride` meets its contract.
use mathlib.Core.Path.{◌≡◌, sym, ap, ◌∙◌}
use borrow.Author.Rules.{rules}
use lib.ListN.{length}
use Rattle.std.specs.Slice.Iter.{chunks_exact_rest}
use Rattle.text.proofs.PartedLaws.{passed_start, passed_part, passed_next, rest_whole, drop_next}
use Rattle.text.proofs.part.stride.Goals as goal

pub loop-stride-init : goal.loop-stride-init
loop-stride-init c = (search rules, tt, passed_start _ _ _ (search rules), sym (ap chunks_exact_rest c.into_iter-stride-iterator.ensures.into_iter_gives ∙ c.chunks_exact-stride-items.ensures.rest ∙ rest_whole c.args.text.now c.args.at), search rules)

pub returns-then-not-is_part : goal.returns-then-not-is_part
returns-then-not-is_part c = (search rules, search rules, passed_part _ _ _ (search rules) _ c.loop-stride.invariant.2)

pub loop-stride-preserved : goal.loop-stride-preserved
loop-stride-preserved c =
    let steps = c.in-Some.ensures.steps in
    let d = c.loop-stride.invariant.3 ∙ steps.1.0 in
    let n : length c.in-Some.stride.now ≡ c.args.n = steps.1.1 ∙ c.loop-stride.invariant.4 in (
      search rules,
      tt,
      rw n at (passed_next _ _ _ (search rules) _ c.loop-stride.invariant.2 c.in-Some.stride.now _ d (sym c.is_part.ensures ∙ c.if-not-is_part.false)),
      rw n at (drop_next c.args.text.now c.loop-stride.end c.in-Some.stride.now _ d),
      steps.0 ∙ c.loop-stride.invariant.4,
    )

pub returns : goal.returns
returns c = (search rules, search rules, passed_part _ _ _ (search rules) _ c.loop-stride.invariant.2)
