-- `des::substitute` meets its contract.
use Prim.Native.Nat.{◌*◌}
use Rattle.octets.proofs.Front.{Front}
use Rattle.des.specs.Des.{substituted}
use Rattle.des.proofs.substitute.Given as goal

abbrev pub invariant-loop-i : goal.invariant-loop-i
invariant-loop-i l = Front (substituted l.bits) l.initial.out l.out (4 * l.i)
