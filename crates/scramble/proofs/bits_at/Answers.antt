-- `scramble::bits_at` meets its contract.
use mathlib.Core.Path.{◌≡◌, ap, ◌∙◌}
use Prim.Native.Nat.{◌+◌, ◌*◌, ◌/◌, ◌%◌}
use native.Mathlib.Omega.{arith}
use Rattle.octets.specs.Lists.{iterate}
use Rattle.scramble.specs.Held.{held, moved}
use Rattle.scramble.proofs.HeldBits.{held_lt, held_near}
use Rattle.scramble.proofs.MovedBits.{held_moved}
use Rattle.scramble.proofs.bits_at.Goals as goal

pub octets_later-requires : goal.octets_later-requires
octets_later-requires c = rw c.first.ensures (held_lt _ 0)

pub later-requires : goal.later-requires
later-requires c = (rw (c.octets_later.ensures, c.first.ensures, held_moved) (held_lt _ _), omega arith)

pub returns : goal.returns
returns c =
    let near : 0 + 8 * (c.args.place % 32767 / 8) + c.args.place % 32767 % 8 ≡ c.args.place % 32767 = omega arith in
    c.later.ensures
    ∙ ap (iterate moved (c.args.place % 32767 % 8)) (c.octets_later.ensures ∙ ap (iterate moved (8 * (c.args.place % 32767 / 8))) c.first.ensures ∙ held_moved c.args.key.now 0 (8 * (c.args.place % 32767 / 8)))
    ∙ held_moved c.args.key.now (0 + 8 * (c.args.place % 32767 / 8)) (c.args.place % 32767 % 8)
    ∙ ap (held c.args.key.now) near
    ∙ held_near c.args.key.now c.args.place
