-- `ciphers::feedback::JoineddesPreparedKeyEngineDES_OCTETS::first` meets its contract.
use borrow.Author.Rules.{rules}
use Rattle.octets.specs.Lists.{iterate}
use Rattle.ciphers.proofs.feedback.JoineddesPreparedKeyEngineDES_OCTETS.first.Goals as goal

pub returns : goal.returns
unfolding iterate
returns c = (search rules, c.fits-vector, c.of.ensures)
