-- `octets::number_of` meets its contract.
use borrow.Author.Rules.{rules}
use Rattle.octets.proofs.Numbers.{read-bits}
use Rattle.octets.proofs.number_of.Goals as goal

pub returns : goal.returns
returns c = read-bits c.args.octets.now c.from_be_bytes.result (search rules) (λ i. search rules) c.from_be_bytes.ensures
