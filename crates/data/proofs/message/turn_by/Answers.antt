-- `data::message::turn_by` meets its contract.
use native.Mathlib.Omega.{arith}
use Rattle.data.proofs.MessageLaws.{put_part, part_most, part_ends}
use Rattle.data.proofs.message.turn_by.Goals as goal

pub slice_bounds-turn-end : goal.slice_bounds-turn-end
slice_bounds-turn-end c = omega (arith, part_ends _ c.args.message.now c.requires.0 c.protected_octets-part.ensures c.requires.1)

pub overflow_mul-part : goal.overflow_mul-part
overflow_mul-part c = omega (arith, part_most _ c.requires.0 c.protected_octets-part.ensures)

pub returns : goal.returns
returns c = put_part _ c.args.kind _ c.args.message.now _ c.protected_octets-part.ensures c.turn.ensures
