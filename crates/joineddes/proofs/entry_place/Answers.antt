-- `joineddes::entry_place` meets its contract: the six bits of box i stand in the number that i picks.
use Prim.Native.Nat.{◌%◌}
use borrow.Author.Rules.{rules}
use borrow.Author.Tests.{ne_eqb}
use Rattle.joineddes.proofs.BoxBitLaws.{six_place}
use Rattle.joineddes.proofs.entry_place.Goals as goal

pub returns-then-i-eq0 : goal.returns-then-i-eq0
returns-then-i-eq0 c = (six_place _ _ _ _ (search rules) (rw c.if-i-eq0.true c.six.ensures.0), search rules)

pub returns : goal.returns
returns c = (six_place _ _ _ _ (search rules) (rw (ne_eqb (c.args.i % 2) 0 c.if-i-eq0.false) c.six-2.ensures.0), search rules)
