-- `ciphers::plain::keystream` meets its contract.
use mathlib.Core.Path.{◌≡◌, ◌∙◌}
use native.Mathlib.Omega.{arith}
use Rattle.octets.proofs.BitLaws.{octets_from_same}
use Rattle.ciphers.specs.Keystream.{stream}
use Rattle.sizes.proofs.Cases.{of_scramble, of_des, of_aes}
use Rattle.ciphers.proofs.plain.keystream.Goals as goal

pub returns-in-1 : goal.returns-in-1
unfolding stream
returns-in-1 c = c.write.ensures ∙ octets_from_same _ _ _ (λ k. of_scramble _ _ _ _ _ c.in-1.is)

pub returns-in-2 : goal.returns-in-2
unfolding stream
returns-in-2 c = c.des_stream.ensures ∙ octets_from_same _ _ _ (λ k. of_des _ _ _ _ _ c.in-2.is)

pub returns-in_default : goal.returns-in_default
unfolding stream
returns-in_default c =
    let e : c.args.cipher ≡ 3 = omega arith in
    c.aes_stream.ensures ∙ octets_from_same _ _ _ (λ k. of_aes _ _ _ _ _ e)
