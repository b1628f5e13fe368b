-- `ciphers::key::scramble_key` meets its contract.
use borrow.Author.Rules.{rules}
use Rattle.ciphers.proofs.KeyLaws.{scramble-none, scramble-some}
use Rattle.ciphers.proofs.key.scramble_key.Goals as goal

pub returns-then-number-gt0 : goal.returns-then-number-gt0
returns-then-number-gt0 c = scramble-some c.args.key.now _ c.from_be_bytes-number.ensures (search rules) c.if-number-gt0.true

pub returns-else-number-gt0 : goal.returns-else-number-gt0
returns-else-number-gt0 c = scramble-none c.args.key.now _ c.from_be_bytes-number.ensures (search rules) c.if-number-gt0.false
