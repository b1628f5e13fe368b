-- `ciphers::feedback::DesPreparedKeyEngineDES_OCTETS::carry_on` meets its contract.
use Rattle.ciphers.proofs.CarriedFeedback.{iterate_more}
use Rattle.ciphers.proofs.feedback.DesPreparedKeyEngineDES_OCTETS.carry_on.Goals as goal

pub returns : goal.returns
returns c vector n is = iterate_more _ _ _ _ n is c.encipher.ensures
