-- `text::hex::hex_value` meets its contract.
use native.Mathlib.Omega.{arith}
use borrow.Author.Rules.{rules}
use Rattle.text.proofs.RangeLaws.{below, above}
use Rattle.text.proofs.HexLaws.{worth_digit, worth_letter, worth_none}
use Rattle.text.proofs.hex.hex_value.Goals as goal

pub returns-in-48-to-57 : goal.returns-in-48-to-57
returns-in-48-to-57 c = worth_digit c.args.digit (search rules) (search rules)

pub returns-in-65-to-70 : goal.returns-in-65-to-70
returns-in-65-to-70 c = worth_letter c.args.digit (search rules) (search rules)

pub returns-in_default : goal.returns-in_default
returns-in_default c = worth_none c.args.digit (below 48 57 c.args.digit (search rules)) (below 65 70 c.args.digit (omega arith))

pub returns-in_default-2 : goal.returns-in_default-2
returns-in_default-2 c = worth_none c.args.digit (above 48 57 c.args.digit (search rules)) (below 65 70 c.args.digit (search rules))

pub returns-in_default-3 : goal.returns-in_default-3
returns-in_default-3 c = worth_none c.args.digit (above 48 57 c.args.digit (omega arith)) (above 65 70 c.args.digit (search rules))
