-- `des::octet_of` meets its contract.
use native.Mathlib.Nat.{add-zero}
use native.Mathlib.Omega.{arith}
use Rattle.octets.specs.Bits.{octet}
use Rattle.des.proofs.octet_of.Goals as goal

pub returns : goal.returns
unfolding octet
returns c = rw add-zero (omega arith)
