-- `ciphers::joined::des_stream` meets its contract.
use mathlib.Core.Path.{refl, ◌∙◌}
use Rattle.octets.proofs.BitLaws.{octets_from_same}
use Rattle.ciphers.proofs.EngineLaws.{by_first_eight}
use Rattle.ciphers.proofs.joined.des_stream.Goals as goal

pub returns : goal.returns
returns c =
    c.feed_back.ensures _ (c.des_octets.result, c.new.ensures, refl)
    ∙ octets_from_same _ _ _ (λ k. by_first_eight c.args.key.now c.des_octets.result _ c.des_octets.ensures 64 _)
