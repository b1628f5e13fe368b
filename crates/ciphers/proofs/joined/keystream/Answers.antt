-- `ciphers::joined::keystream` meets its contract.
use mathlib.Core.Path.{◌∙◌}
use Rattle.octets.proofs.BitLaws.{octets_from_same}
use Rattle.ciphers.specs.Keystream.{stream}
use Rattle.sizes.proofs.Cases.{of_des}
use Rattle.ciphers.proofs.joined.keystream.Goals as goal

pub returns-then-cipher-eq-TYPE : goal.returns-then-cipher-eq-TYPE
unfolding stream
returns-then-cipher-eq-TYPE c = c.des_stream.ensures ∙ octets_from_same _ _ _ (λ k. of_des _ _ _ _ _ c.if-cipher-eq-TYPE.true)
