-- `des::PreparedKey::encipher` meets its contract.
use native.Mathlib.Omega.{arith}
use Rattle.des.proofs.RoundLaws.{bits-preoutput}
use Rattle.des.proofs.DesLaws.{bits-first, whole}
use Rattle.des.proofs.PreparedKey.encipher.Goals as goal

pub first_rounds-requires : goal.first_rounds-requires
first_rounds-requires c = (bits-first c.args.block.now _ c.initial.ensures, omega arith)

pub last-requires : goal.last-requires
last-requires c =
    let first = bits-first c.args.block.now _ c.initial.ensures in
    rw c.first_rounds.ensures (bits-preoutput _ _ first 16)

pub returns : goal.returns
returns c = whole c.args.block.now _ c.initial.ensures _ _ _ c.first_rounds.ensures c.last.ensures
