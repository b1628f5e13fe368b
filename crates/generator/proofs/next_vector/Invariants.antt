-- `generator::next_vector` meets its contract: after each turn the number holds the register after 15 i shifts.
use Prim.Native.Nat.{◌*◌}
use Rattle.octets.specs.Lists.{iterate}
use Rattle.generator.specs.Generator.{filled, shifted}
use Rattle.generator.specs.Held.{Holds}
use Rattle.generator.proofs.next_vector.Given as goal

abbrev pub invariant-loop : goal.invariant-loop
invariant-loop l = Holds l.register (iterate shifted (15 * l.counter) (filled l.vector))
