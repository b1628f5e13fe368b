-- `records::reader::take` meets its contract.
use mathlib.Core.Path.{ap, ◌∙◌}
use Rattle.text.specs.Reader.{Reading}
use Rattle.records.specs.Answered.{Recorder}
use Rattle.records.specs.Reader.{take_from}
use Rattle.records.proofs.ReaderLaws.{take_bounds}
use borrow.Author.Rules.{rules}
use Rattle.records.proofs.reader.take.Goals as goal

pub returns : goal.returns
returns c =
    let bounds = take_bounds _ _ _ c.take_from.ensures (search rules) in
    record {
      taken = c.take_from.ensures ∙ ap (λ (s : Reading Recorder). take_from s c.args.piece.now c.args.out.now) (c.within.ensures.same c.args.book.now);
      within = bounds.0;
      goes_on = bounds.1;
    }
