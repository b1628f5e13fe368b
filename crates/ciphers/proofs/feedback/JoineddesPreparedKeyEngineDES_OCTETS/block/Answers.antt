-- `ciphers::feedback::JoineddesPreparedKeyEngineDES_OCTETS::block` meets its contract.
use mathlib.Core.Path.{◌∙◌}
use Rattle.joineddes.proofs.HalfLaws.{octets-block}
use Rattle.ciphers.proofs.CarriedFeedback.{carried-block}
use Rattle.ciphers.proofs.feedback.JoineddesPreparedKeyEngineDES_OCTETS.block.Goals as goal

pub returns : goal.returns
returns c cipher vector n enciphers is =
    rw enciphers.2 (carried-block _ vector _ n _ is.0 is.1 is.2 (c.octets_of.ensures ∙ octets-block _ _ c.block.ensures) enciphers.0 enciphers.1)
