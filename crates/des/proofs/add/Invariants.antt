-- `des::add` meets its contract.
use Rattle.octets.proofs.Front.{Front}
use Rattle.des.specs.Des.{xor_bits}
use Rattle.des.proofs.add.Given as goal

abbrev pub invariant-loop-i : goal.invariant-loop-i
invariant-loop-i l = Front (xor_bits l.initial.bits l.more) l.initial.bits l.bits l.i
