-- `joineddes::Carried::of` meets its contract.
use Rattle.joineddes.proofs.HalfLaws.{halves-first}
use Rattle.joineddes.proofs.Carried.of.Goals as goal

pub returns : goal.returns
returns c = halves-first _ c.number_of.result c.initial-x.result c.number_of.ensures c.initial-x.ensures
