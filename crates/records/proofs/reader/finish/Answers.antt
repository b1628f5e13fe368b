-- `records::reader::finish` meets its contract.
use mathlib.Core.Path.{ap, ◌∙◌}
use Rattle.text.specs.Reader.{Reading}
use Rattle.records.specs.Answered.{Recorder}
use Rattle.records.specs.Reader.{close_from}
use Rattle.records.proofs.ReaderLaws.{close_bounds}
use borrow.Author.Rules.{rules}
use Rattle.records.proofs.reader.finish.Goals as goal

pub returns : goal.returns
returns c =
    record {
      closed = c.finish_from.ensures ∙ ap (λ (s : Reading Recorder). close_from s c.args.out.now) (c.within.ensures.same c.args.book.now);
      within = close_bounds _ _ c.finish_from.ensures (search rules);
    }
