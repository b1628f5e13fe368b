-- `ciphers::key::odd_octet` meets its contract.
use borrow.Author.Rules.{rules}
use Rattle.ciphers.proofs.KeyLaws.{odd_folded}
use Rattle.ciphers.proofs.key.odd_octet.Goals as goal

pub returns : goal.returns
returns c = odd_folded c.args.x (search rules)
