-- `joineddes::PreparedKey::carry_on` meets its contract: after n turns the halves are those after n rounds.
use Rattle.joineddes.specs.Joined.{bits_in, keys_in}
use Rattle.joineddes.proofs.HalfLaws.{halves, After}
use Rattle.joineddes.proofs.PreparedKey.carry_on.Given as goal

abbrev pub invariant-loop-n : goal.invariant-loop-n
invariant-loop-n l = After (keys_in l.self.keys) (halves (bits_in 32 l.initial.left) (bits_in 32 l.initial.right)) l.n l.left l.right
