-- `records::reader::take_from` meets its contract.
use mathlib.Core.Path.{refl}
use native.Mathlib.Omega.{arith}
use Rattle.text.proofs.CarryLaws.{take_short}
use Rattle.text.proofs.TakeLaws.{taken_none, taken-on, took_some, took_all}
use Rattle.sessions.proofs.SessionLaws.{unmade}
use Rattle.records.specs.Reader.{line_reader}
use Rattle.records.proofs.ReaderLaws.{enough, as_taken}
use borrow.Author.Rules.{rules}
use Rattle.records.proofs.reader.take_from.Goals as goal

pub loop-out-init : goal.loop-out-init
loop-out-init c = (taken_none line_reader enough _ _ _ (take_short _ _ _ c.requires), search rules, c.requires, unmade _ _, refl)

pub returns-then-end-piece : goal.returns-then-end-piece
returns-then-end-piece c =
    rw c.cleared.ensures (as_taken _ _ _ (took_all line_reader enough _ _ _ c.loop-out.invariant.0 c.part_end-end.ensures.0 c.if-end-piece.true c.loop-out-test.true (rw c.loop-out.invariant.1 at c.keep.ensures.1)))

pub loop-out-preserved : goal.loop-out-preserved
loop-out-preserved c =
    rw c.end_line-wrote.ensures.none_kept.0
    (taken-on line_reader enough _ _ _ c.loop-out.invariant.0 _ c.part_end-end.ensures.0 (omega (arith, c.part_end-end.ensures.2, c.if-end-piece.false)) c.loop-out-test.true c.end_line-wrote.ensures.responded, c.end_line-wrote.ensures.none_kept.1, omega arith, c.end_line-wrote.ensures.cached, search rules)

pub returns : goal.returns
returns c = rw c.cleared-2.ensures (as_taken _ _ _ (took_some line_reader enough _ _ _ c.loop-out.invariant.0 c.loop-out-test.false))
