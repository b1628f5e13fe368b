-- `records::reader::Carry::end_line` meets its contract.
use mathlib.Core.Path.{◌≡◌, refl, ap, ◌∙◌}
use native.Mathlib.Omega.{arith}
use Rattle.text.proofs.TakeLaws.{responded_kept}
use lib.ListN.{length}
use borrow.Author.Rules.{rules}
use Rattle.records.specs.declared.reader.Carry.{Carry}
use Rattle.records.specs.Reader.{kept_octets, line_reader}
use Rattle.records.proofs.ReaderLaws.{enough}
use Rattle.records.proofs.reader.Carry.end_line.Goals.{then-count-gt0, else-count-gt0}
use Rattle.records.proofs.reader.Carry.end_line.Goals as goal

pub returns-clause-responded : goal.returns-clause-responded
returns-clause-responded c =
    elim c.if-count-gt0.branch [
      | then-count-gt0 w ↦
          let long : length c.args.self.now.line ≡ kept_octets = search rules in
          rw (w.done-is, w.out-is, w.book-is) (responded_kept line_reader enough _ _ (rw (rw long at w.keep-all.ensures.1) at w.respond-done.ensures.responded))
      | else-count-gt0 w ↦
          let none : c.args.self.now.count ≡ 0 = omega (arith, w.if-count-gt0.false) in
          rw (w.done-is, w.out-is, w.book-is, none) w.respond-done-else-count-gt0.ensures.responded
    ]

pub returns-clause-none_kept : goal.returns-clause-none_kept
returns-clause-none_kept c =
    elim c.if-count-gt0.branch [ then-count-gt0 w ↦ (refl, ap (λ (d : Carry). length d.line) w.self-is ∙ search rules) | else-count-gt0 w ↦ (refl, ap (λ (d : Carry). length d.line) w.self-is ∙ search rules) ]
