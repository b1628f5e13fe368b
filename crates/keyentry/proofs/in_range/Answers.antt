-- `keyentry::in_range` meets its contract.
use mathlib.Core.Path.{◌∙◌}
use Prim.Native.Nat.{◌<◌}
use native.Mathlib.Omega.{arith}
use borrow.Author.Tests.{le-leb, lt-leb}
use Rattle.keyentry.specs.Entry.{in_range}
use Rattle.keyentry.proofs.in_range.Goals as goal
use Rattle.keyentry.proofs.in_range.Goals.{then-cipher-ge-TYPE, else-cipher-ge-TYPE}

pub returns-then-cipher-le-TYPE : goal.returns-then-cipher-le-TYPE
unfolding in_range
returns-then-cipher-le-TYPE c = rw (le-leb _ _ c.if-cipher-le-TYPE.true.0, le-leb _ _ c.if-cipher-le-TYPE.true.1)

pub returns-else-cipher-le-TYPE : goal.returns-else-cipher-le-TYPE
unfolding in_range
returns-else-cipher-le-TYPE c =
    elim c.if-cipher-ge-TYPE.branch [
      | then-cipher-ge-TYPE w ↦ w.t-4-is ∙ (let above : 3 < c.args.cipher = omega (arith, c.if-cipher-le-TYPE.either) in rw (le-leb _ _ w.if-cipher-ge-TYPE.true, lt-leb _ _ above))
      | else-cipher-ge-TYPE w ↦ w.t-4-is ∙ rw (lt-leb _ _ w.if-cipher-ge-TYPE.false)
    ]
