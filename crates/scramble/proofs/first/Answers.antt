-- `scramble::first` meets its contract.
use mathlib.Core.Path.{◌≡◌, refl, sym, ap, ◌∙◌}
use native.Mathlib.Nat.{div-one}
use native.Mathlib.Omega.{arith}
use borrow.Author.Rules.{rules}
use Rattle.scramble.specs.Sequence.{key_number, P}
use Rattle.scramble.specs.Held.{as_number, held}
use Rattle.scramble.proofs.HeldBits.{gathered_lt, gather, gather_rest}
use Rattle.scramble.proofs.first.Goals as goal

pub loop-init : goal.loop-init
unfolding as_number
loop-init c = (refl, c.key_number-rest.ensures ∙ sym (div-one (key_number c.args.key.now)))

pub overflow_mul-bits : goal.overflow_mul-bits
overflow_mul-bits c = omega (arith, gathered_lt c.args.key.now c.loop.counter (search rules))

pub overflow_add-bits : goal.overflow_add-bits
overflow_add-bits c = omega (arith, gathered_lt c.args.key.now c.loop.counter (search rules))

pub loop-preserved : goal.loop-preserved
loop-preserved c =
    (gather _ _ _ _ (search rules) c.loop.invariant.0 c.loop.invariant.1, gather_rest _ _ _ c.loop.invariant.1)

pub returns : goal.returns
unfolding held
returns c =
    let z : c.loop.counter ≡ 15 = omega arith in
    c.loop.invariant.0 ∙ ap (as_number (P c.args.key.now) 0) z
