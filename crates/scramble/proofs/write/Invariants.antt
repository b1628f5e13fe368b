-- `scramble::write` meets its contract.
use mathlib.Core.Path.{◌≡◌}
use Prim.Native.Nat.{◌+◌, ◌*◌}
use lib.ListN.{length}
use Rattle.octets.specs.Bits.{octets_from}
use Rattle.octets.proofs.Front.{Front}
use Rattle.scramble.specs.Sequence.{P}
use Rattle.scramble.specs.Held.{held}
use Rattle.scramble.proofs.write.Given as goal

abbrev pub invariant-loop-octet : goal.invariant-loop-octet
invariant-loop-octet l = (length l.out ≡ length l.initial.out) × (l.bits ≡ held l.key (l.from + 8 * l.octet-index)) × Front (octets_from (length l.initial.out) (λ k. P l.key (l.from + k))) l.initial.out l.out l.octet-index
