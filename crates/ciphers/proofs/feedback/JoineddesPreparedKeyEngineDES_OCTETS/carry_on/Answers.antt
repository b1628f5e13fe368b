-- `ciphers::feedback::JoineddesPreparedKeyEngineDES_OCTETS::carry_on` meets its contract.
use Rattle.ciphers.proofs.CarriedFeedback.{iterate_more}
use Rattle.ciphers.proofs.feedback.JoineddesPreparedKeyEngineDES_OCTETS.carry_on.Goals as goal

pub returns : goal.returns
returns c vector n is = (is.0, is.1, iterate_more _ _ _ _ n is.2 c.carry_on.ensures)
