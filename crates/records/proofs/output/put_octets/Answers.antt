-- `records::output::put_octets` meets its contract.
use Rattle.records.proofs.OutputLaws.{laid-octets}
use Rattle.records.proofs.output.put_octets.Goals as goal

pub returns : goal.returns
returns c = laid-octets _ _ _ _ c.requires.1 c.put_hex.ensures
