-- `aes::Sbox::key_expansion` meets its contract: the words below i are those of the schedule.
use mathlib.Core.Path.{◌≡◌}
use Prim.Native.Nat.{◌-◌, ◌≤◌}
use lib.ListN.{length}
use Rattle.aes.specs.Cipher.{expanded}
use Rattle.aes.specs.Prepared.{octets_in}
use Rattle.aes.proofs.Sbox.key_expansion.Given as goal

abbrev pub invariant-loop-i : goal.invariant-loop-i
invariant-loop-i l = (8 ≤ l.i) × (l.i ≤ 60) × (length l.w ≡ 60) × (octets_in l.i l.w ≡ expanded l.key (l.i - 8))

abbrev pub decreases-loop-i : goal.decreases-loop-i
decreases-loop-i l = 60 - l.i
