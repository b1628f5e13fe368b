-- `aes::PreparedKey::encipher` meets its contract.
use mathlib.Core.Path.{◌≡◌}
use Prim.Native.Nat.{◌≤◌, ◌-◌}
use Rattle.aes.specs.Cipher.{rounds}
use Rattle.aes.specs.Prepared.{octets_in}
use Rattle.aes.proofs.PreparedKey.encipher.Given as goal

abbrev pub invariant-loop-n : goal.invariant-loop-n
invariant-loop-n l = (1 ≤ l.n) × (l.n ≤ 14) × (octets_in 4 l.s ≡ rounds (octets_in 60 l.self.schedule) l.block (l.n - 1))

abbrev pub decreases-loop-n : goal.decreases-loop-n
decreases-loop-n l = 14 - l.n
