-- `records::reader::finish_from` meets its contract.
use mathlib.Core.Path.{refl, sym, ◌∙◌}
use lib.Seq.{length-take-le}
use Rattle.text.proofs.TakeLaws.{closing-none, closing_empty, closing_line}
use Rattle.records.specs.Reader.{line_reader}
use Rattle.records.proofs.ReaderLaws.{as_closing}
use borrow.Author.Rules.{rules}
use Rattle.records.proofs.reader.finish_from.Goals.{then-out-lt-ANSWER_ROOM-via-then-out-lt-ANSWER_ROOM, then-out-lt-ANSWER_ROOM-via-else-out-lt-ANSWER_ROOM+then-count-eq0}
use Rattle.records.proofs.reader.finish_from.Goals as goal

pub returns-then-out-lt-ANSWER_ROOM : goal.returns-then-out-lt-ANSWER_ROOM
returns-then-out-lt-ANSWER_ROOM c =
    elim c.then-out-lt-ANSWER_ROOM.branch [
      | then-out-lt-ANSWER_ROOM-via-then-out-lt-ANSWER_ROOM w ↦ rw c.cleared.ensures (as_closing _ _ (closing-none line_reader _ _ w.if-out-lt-ANSWER_ROOM.true))
      | then-out-lt-ANSWER_ROOM-via-else-out-lt-ANSWER_ROOM+then-count-eq0 w ↦
          rw (c.cleared.ensures, w.if-count-eq0.true) (as_closing _ _ (closing_empty line_reader _ _ w.if-out-lt-ANSWER_ROOM.false refl))
    ]

pub returns : goal.returns
returns c =
    rw c.start.ensures (as_closing _ _ (closing_line line_reader _ _ c.if-out-lt-ANSWER_ROOM.false (λ e. c.if-count-eq0.false (sym (length-take-le c.args.carry.count c.args.carry.line (search rules)) ∙ e)) c.respond-done.ensures.responded))
