-- `scramble::first` meets its contract.
use mathlib.Core.Path.{◌≡◌}
use Prim.Native.Nat.{◌/◌, ◌^◌}
use Rattle.scramble.specs.Sequence.{key_number, P}
use Rattle.scramble.specs.Held.{as_number}
use Rattle.scramble.proofs.first.Given as goal

abbrev pub invariant-loop : goal.invariant-loop
invariant-loop l = (l.bits ≡ as_number (P l.key) 0 l.counter) × (l.rest ≡ key_number l.key / 2 ^ l.counter)
