-- `text::hex::hex_digit` meets its contract.
use borrow.Author.Rules.{rules}
use borrow.Author.Tests.{lt-ltb, le-ltb}
use Rattle.text.specs.Hex.{hex_digit}
use Rattle.text.proofs.hex.hex_digit.Goals as goal

pub overflow_add-result : goal.overflow_add-result
unfolding hex_digit
overflow_add-result c = search rules

pub returns-then-n-lt10 : goal.returns-then-n-lt10
unfolding hex_digit
returns-then-n-lt10 c = rw (lt-ltb c.args.n 10 (search rules))

pub overflow_add-result-2 : goal.overflow_add-result-2
unfolding hex_digit
overflow_add-result-2 c = search rules

pub returns : goal.returns
unfolding hex_digit
returns c = rw (le-ltb c.args.n 10 (search rules))
