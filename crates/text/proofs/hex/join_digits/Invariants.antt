-- `text::hex::join_digits` meets its contract.
use Prim.Native.Nat.{◌+◌, ◌*◌}
use lib.ListN.{length, get_or}
use Rattle.octets.specs.Lists.{tab}
use Rattle.octets.proofs.Front.{Front}
use Rattle.text.proofs.hex.join_digits.Given as goal

abbrev pub invariant-loop-i : goal.invariant-loop-i
invariant-loop-i l = Front (tab (λ k. 16 * get_or l.values (2 * k) 0 + get_or l.values (2 * k + 1) 0) (length l.initial.out)) l.initial.out l.out l.i
