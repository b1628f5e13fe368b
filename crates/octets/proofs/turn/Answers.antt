-- `octets::turn` meets its contract.
use Prim.Native.Nat.{◌/◌}
use native.Mathlib.Nat.{add-sub_cancel_left}
use lib.ListN.{length}
use Rattle.octets.proofs.Streams.{turned-whole, turned_seven}
use borrow.Author.Rules.{rules}
use Rattle.octets.proofs.turn.Goals as goal

pub returns-then-part-width : goal.returns-then-part-width
returns-then-part-width c =
    turned-whole c.args.width c.args.from c.args.stream.now c.args.part.now (search rules) _ _ (add-sub_cancel_left (c.args.from / 8) (length c.args.part.now)) (search rules) (search rules) c.turn_octets.ensures

pub returns-then-width-le56 : goal.returns-then-width-le56
returns-then-width-le56 c =
    turned_seven c.args.width c.args.from c.args.stream.now c.args.part.now (search rules) _ _ _ _ (search rules) (search rules) (search rules) c.bits_from.ensures c.top.ensures c.octets_of-key.ensures c.turn_octets-then-width-le56.ensures
