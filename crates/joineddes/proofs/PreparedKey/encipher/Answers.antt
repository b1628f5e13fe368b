-- `joineddes::PreparedKey::encipher` meets its contract.
use mathlib.Core.Path.{◌∙◌}
use Rattle.joineddes.proofs.HalfLaws.{octets-block}
use Rattle.joineddes.proofs.BothEngines.{enciphers}
use Rattle.joineddes.proofs.PreparedKey.encipher.Goals as goal

pub returns : goal.returns
returns c =
    enciphers _ _ _ _ _ c.of.ensures c.carry_on-halves.ensures
    (c.octets_of.ensures ∙ octets-block _ _ c.block.ensures)
