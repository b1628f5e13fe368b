-- `aes::block_of` meets its contract.
use borrow.Author.Rules.{rules}
use Rattle.aes.proofs.WordLaws.{octets-are}
use Rattle.aes.proofs.block_of.Goals as goal

pub returns : goal.returns
returns c = octets-are 4 c.args.s.now c.from_fn.result (search rules) (λ i h. let met = (c.from_fn.ensures.items.at i 0 h).2.met in search rules)
