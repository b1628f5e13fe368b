-- `scramble::octets_later` meets its contract.
use mathlib.Core.Path.{◌≡◌}
use Prim.Native.Nat.{◌*◌}
use Rattle.octets.specs.Lists.{iterate}
use Rattle.scramble.specs.Held.{moved}
use Rattle.scramble.proofs.octets_later.Given as goal

abbrev pub invariant-loop : goal.invariant-loop
invariant-loop l = l.moved ≡ iterate moved (8 * l.counter) l.bits
