-- `des::unpack` meets its contract.
use Rattle.octets.specs.Bits.{bit}
use Rattle.octets.specs.Lists.{tab}
use Rattle.octets.proofs.Front.{Front}
use Rattle.des.proofs.unpack.Given as goal

abbrev pub invariant-loop-i : goal.invariant-loop-i
invariant-loop-i l = Front (tab (bit l.octets) 64) l.initial.bit-items l.bit-items l.i
