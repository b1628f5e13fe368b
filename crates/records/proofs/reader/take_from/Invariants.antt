-- `records::reader::take_from` meets its contract.
use mathlib.Core.Path.{◌≡◌}
use Prim.Native.Nat.{◌-◌, ◌≤◌}
use lib.ListN.{length}
use Rattle.text.proofs.TakeLaws.{Taken}
use Rattle.sessions.specs.Session.{Cached}
use Rattle.records.specs.Reader.{kept_octets, line_reader, reading_of}
use Rattle.records.proofs.reader.take_from.Given as goal

abbrev pub invariant-loop-out : goal.invariant-loop-out
invariant-loop-out l =
    Taken line_reader l.piece l.initial.out (reading_of l.initial.carry l.initial.book) l.used l.wrote (reading_of l.carry l.book) l.out
    × (length l.carry.line ≡ kept_octets) × (l.carry.count ≤ kept_octets) × Cached l.session.made l.carry.call l.session.octets.now
    × (length l.book ≡ length l.initial.book)

abbrev pub decreases-loop-out : goal.decreases-loop-out
decreases-loop-out l = length l.piece - l.used
