-- `text::hex::put_hex` meets its contract.
use native.Mathlib.Omega.{arith}
use borrow.Author.Rules.{rules}
use lib.ListN.{length-set}
use Rattle.text.proofs.HexLaws.{write_start, write_more, write_done}
use Rattle.text.proofs.hex.put_hex.Goals as goal

pub loop-i-init : goal.loop-i-init
loop-i-init c = (search rules, write_start _ _ (search rules))

pub loop-i-preserved : goal.loop-i-preserved
loop-i-preserved c = (
  simp length-set (search rules),
  write_more _ _ _ _ _ _ c.loop-i.invariant.1 (search rules) (omega (arith, c.type_inv.octets c.loop-i.i)) c.hex_digit.ensures c.hex_digit-in-loop-i.ensures,
)

pub returns : goal.returns
returns c = write_done _ _ _ _ c.loop-i.invariant.1 (search rules)
