-- `generator::fed` meets its contract.
use Rattle.generator.proofs.Register.{fed-held}
use Rattle.generator.proofs.fed.Goals as goal

pub returns : goal.returns
returns c = fed-held _ _ c.requires.1
