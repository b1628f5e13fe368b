-- `des::pack` meets its contract.
use lib.ListN.{get_or}
use Rattle.octets.specs.Bits.{octets_from}
use Rattle.octets.proofs.Front.{Front}
use Rattle.des.proofs.pack.Given as goal

abbrev pub invariant-loop-i : goal.invariant-loop-i
invariant-loop-i l = Front (octets_from 8 (λ k. get_or l.bits k 0)) l.initial.block l.block l.i
