-- `slotcheck::answer` meets its contract.
-- what is left of the piece comes to what the whole came to; and it has octets, so some are taken, and less is left
use mathlib.Core.Path.{◌≡◌}
use lib.ListN.{length}
use Rattle.text.specs.Reader.{fed}
use Rattle.records.specs.Reader.{line_reader, reading_of}
use Rattle.slotcheck.proofs.answer.Given as goal

abbrev pub invariant-loop-rest : goal.invariant-loop-rest
invariant-loop-rest g l =
    ((fed line_reader (reading_of l.carry l.book) l.rest).1 ≡ (fed line_reader (reading_of l.initial.carry l.initial.book) l.piece).1)
    × (length l.book ≡ length l.initial.book) × (length l.out ≡ length l.initial.out)

abbrev pub decreases-loop-rest : goal.decreases-loop-rest
decreases-loop-rest g l = length l.rest
