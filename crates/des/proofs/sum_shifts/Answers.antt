-- `des::sum_shifts` meets its contract.
use mathlib.Core.Path.{refl, sym, ap, ◌∙◌}
use Prim.Native.Nat.{ℕ, suc, ◌+◌}
use native.Mathlib.Numerals.{add-one}
use native.Mathlib.Omega.{arith}
use borrow.Author.Rules.{rules}
use lib.ListN.{get_or}
use Rattle.octets.proofs.Front.{tab_start, tab_more, tab_done}
use Rattle.des.specs.Tables.{left_shifts}
use Rattle.des.specs.Prepared.{shifts_to, shift_sums}
use Rattle.des.proofs.KeyLaws.{shifts_within}
use Rattle.des.proofs.sum_shifts.Goals as goal

pub loop-round-init : goal.loop-round-init
unfolding shifts_to shift_sums
loop-round-init c = (refl, tab_start (λ k. shifts_to (suc k)) 16 _ c.requires)

pub overflow_add-sum : goal.overflow_add-sum
unfolding shifts_to left_shifts
overflow_add-sum c = omega (arith, c.loop-round.invariant.0, shifts_within (suc c.loop-round.round) (search rules))

pub loop-round-preserved : goal.loop-round-preserved
unfolding shifts_to shift_sums left_shifts
loop-round-preserved c =
    let e = ap (λ (k : ℕ). k + get_or left_shifts c.loop-round.round 0) c.loop-round.invariant.0 in
    (e ∙ ap shifts_to (sym (add-one c.loop-round.round)), tab_more (λ k. shifts_to (suc k)) 16 _ _ _ _ c.loop-round.invariant.1 (search rules) e)

pub returns : goal.returns
unfolding shift_sums
returns c = tab_done (λ k. shifts_to (suc k)) 16 _ _ _ c.loop-round.invariant.1 (search rules)
