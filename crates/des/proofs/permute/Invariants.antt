-- `des::permute` meets its contract.
use Rattle.octets.proofs.Front.{Front}
use Rattle.des.specs.Des.{permuted}
use Rattle.des.proofs.permute.Given as goal

abbrev pub invariant-loop-i : goal.invariant-loop-i
invariant-loop-i l = Front (permuted l.table l.bits) l.initial.out l.out l.i
