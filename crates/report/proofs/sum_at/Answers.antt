-- `report::sum_at` meets its contract.
use mathlib.Core.Path.{◌≡◌, sym, ap₂, ◌∙◌}
use Prim.Native.Nat.{◌+◌}
use native.Mathlib.Omega.{arith}
use borrow.Author.Rules.{rules}
use Rattle.report.specs.Report.{calls, sum_at}
use Rattle.report.proofs.SumLaws.{sum-none, sum_more, count_most, one_more}
use Rattle.report.proofs.sum_at.Goals as goal

pub loop-call-init : goal.loop-call-init
loop-call-init c = sym (sum-none _)

pub overflow_add-sum : goal.overflow_add-sum
overflow_add-sum c =
    let small = count_most c.args.counts.now c.requires.2 in
    omega (arith, c.from-sum.ensures, one_more c.args.counts.now small c.requires.1 c.args.place c.loop-call.call c.loop-call.sum c.loop-call.invariant (search rules))

pub loop-call-preserved : goal.loop-call-preserved
loop-call-preserved c = ap₂ ◌+◌ c.loop-call.invariant c.from-sum.ensures ∙ sym (sum_more _ _)

pub returns : goal.returns
unfolding sum_at
returns c = let e : c.loop-call.call ≡ calls c.args.counts.now = omega arith in rw e at c.loop-call.invariant
