-- `joineddes::PreparedKey::cipher_function`: after i turns the sum is that of the first i boxes.
use mathlib.Core.Path.{◌≡◌}
use Rattle.joineddes.specs.Joined.{summed, box_bits}
use Rattle.joineddes.proofs.BoxBitLaws.{found}
use Rattle.joineddes.proofs.PreparedKey.cipher_function.Given as goal

abbrev pub invariant-loop-i : goal.invariant-loop-i
invariant-loop-i l = l.sum ≡ summed (found (box_bits l.first l.second)) l.i
