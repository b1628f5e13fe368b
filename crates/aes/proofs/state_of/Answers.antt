-- `aes::state_of` meets its contract.
use borrow.Author.Rules.{rules}
use Rattle.aes.proofs.WordLaws.{octets-words}
use Rattle.aes.proofs.state_of.Goals as goal

pub returns : goal.returns
returns c = octets-words _ c.fits-block 4 _ (search rules) (λ q h. let met = (c.from_fn.ensures.items.at q 0 h).2.met in search rules)
