-- `aes::key_words` meets its contract.
use mathlib.Core.Path.{◌≡◌}
use Prim.Native.Nat.{◌-◌}
use lib.ListN.{length}
use Rattle.octets.specs.Lists.{tab}
use Rattle.octets.proofs.Front.{Front}
use Rattle.aes.specs.Prepared.{word_in}
use Rattle.aes.proofs.key_words.Given as goal

abbrev pub invariant-loop-i : goal.invariant-loop-i
invariant-loop-i l = (length l.w ≡ 60) × Front (tab (word_in l.key) 60) l.initial.w l.w l.i

abbrev pub decreases-loop-i : goal.decreases-loop-i
decreases-loop-i l = 8 - l.i
