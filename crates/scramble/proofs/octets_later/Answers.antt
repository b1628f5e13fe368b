-- `scramble::octets_later` meets its contract.
use mathlib.Core.Path.{◌≡◌, refl, ap, ◌∙◌}
use Prim.Native.Nat.{ℕ, ◌+◌, ◌*◌}
use native.Mathlib.Omega.{arith}
use borrow.Author.Rules.{rules}
use Rattle.octets.specs.Lists.{iterate}
use Rattle.octets.proofs.ListLaws.{iterate_add}
use Rattle.scramble.specs.Held.{moved}
use Rattle.scramble.proofs.MovedBits.{iterate_lt}
use Rattle.scramble.proofs.octets_later.Goals as goal

pub loop-init : goal.loop-init
unfolding iterate
loop-init c = refl

pub later-moved-requires : goal.later-moved-requires
later-moved-requires c = (rw c.loop.invariant (iterate_lt (8 * c.loop.counter) _ (search rules)), omega arith)

pub loop-preserved : goal.loop-preserved
loop-preserved c =
    let z : 8 + 8 * c.loop.counter ≡ 8 * (c.loop.counter + 1) = omega arith in
    (c.later-moved.ensures ∙ ap (iterate moved 8) c.loop.invariant ∙ iterate_add moved 8 (8 * c.loop.counter) _ ∙ ap (λ (k : ℕ). iterate moved k c.args.bits) z)
