-- `des::PreparedKey::first_rounds` meets its contract.
use Rattle.des.specs.Des.{halved}
use Rattle.des.specs.Prepared.{keys_of}
use Rattle.des.proofs.RoundLaws.{Reached}
use Rattle.des.proofs.PreparedKey.first_rounds.Given as goal

abbrev pub invariant-loop-n : goal.invariant-loop-n
invariant-loop-n l = Reached (keys_of l.self.octets) (halved l.bits) l.n l.left l.right
