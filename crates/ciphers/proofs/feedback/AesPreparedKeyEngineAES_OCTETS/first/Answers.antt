-- `ciphers::feedback::AesPreparedKeyEngineAES_OCTETS::first` meets its contract.
use mathlib.Core.Path.{refl}
use Rattle.octets.specs.Lists.{iterate}
use Rattle.ciphers.proofs.feedback.AesPreparedKeyEngineAES_OCTETS.first.Goals as goal

pub returns : goal.returns
unfolding iterate
returns c = refl
