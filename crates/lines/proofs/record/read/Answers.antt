-- `lines::record::read` meets its contract.
use mathlib.Core.Path.{sym, ◌∙◌}
use borrow.Author.Rules.{rules}
use Rattle.lines.specs.declared.record.Parsed.TheVariants as code
use Rattle.lines.proofs.RecordLaws.{alone-is}
use Rattle.lines.proofs.LineLaws.{line_long, line_some, line_no_letter, by_letter_lem, by_none}
use Rattle.lines.proofs.record.read.Goals as goal

pub returns-then-line-gt-LINE_OCTETS-clause-line : goal.returns-then-line-gt-LINE_OCTETS-clause-line
returns-then-line-gt-LINE_OCTETS-clause-line c = line_long _ (search rules)

pub returns-in_err-next-clause-line : goal.returns-in_err-next-clause-line
returns-in_err-next-clause-line c = absurd (line_some _ _ c.of-fields.ensures c.in_err-next.ensures.steps.0)

pub returns-in_default-clause-line : goal.returns-in_default-clause-line
returns-in_default-clause-line c = line_no_letter _ (search rules) _ _ (sym c.of-fields.ensures ∙ c.in_ok-next.ensures.steps) (search rules)

pub returns-in_default-2-clause-line : goal.returns-in_default-2-clause-line
returns-in_default-2-clause-line c = line_no_letter _ (search rules) _ _ (sym c.of-fields.ensures ∙ c.in_ok-next.ensures.steps) (search rules)

pub returns-in-75-clause-line : goal.returns-in-75-clause-line
returns-in-75-clause-line c =
    c.load_record.ensures.fields ∙ by_letter_lem _ (search rules) _ _ (sym c.of-fields.ensures ∙ c.in_ok-next.ensures.steps) (search rules) _ c.in-75.is

pub returns-in-79-clause-line : goal.returns-in-79-clause-line
returns-in-79-clause-line c =
    c.open_record.ensures.fields ∙ by_letter_lem _ (search rules) _ _ (sym c.of-fields.ensures ∙ c.in_ok-next.ensures.steps) (search rules) _ c.in-79.is

pub returns-in-74-clause-line : goal.returns-in-74-clause-line
returns-in-74-clause-line c =
    c.join_record.ensures.fields _ ∙ by_letter_lem _ (search rules) _ _ (sym c.of-fields.ensures ∙ c.in_ok-next.ensures.steps) (search rules) _ c.in-74.is

pub returns-in-86-clause-line : goal.returns-in-86-clause-line
returns-in-86-clause-line c =
    c.voice_record.ensures.fields ∙ by_letter_lem _ (search rules) _ _ (sym c.of-fields.ensures ∙ c.in_ok-next.ensures.steps) (search rules) _ c.in-86.is

pub returns-in-73-clause-line : goal.returns-in-73-clause-line
returns-in-73-clause-line c =
    c.announce_record.ensures.fields ∙ by_letter_lem _ (search rules) _ _ (sym c.of-fields.ensures ∙ c.in_ok-next.ensures.steps) (search rules) _ c.in-73.is

pub returns-in-76-clause-line : goal.returns-in-76-clause-line
returns-in-76-clause-line c =
    rw c.alone.ensures (alone-is _ code.Lost _ ∙ by_letter_lem _ (search rules) _ _ (sym c.of-fields.ensures ∙ c.in_ok-next.ensures.steps) (search rules) _ c.in-76.is)

pub returns-in-69-clause-line : goal.returns-in-69-clause-line
returns-in-69-clause-line c =
    rw c.alone-in-69.ensures (alone-is _ code.End _ ∙ by_letter_lem _ (search rules) _ _ (sym c.of-fields.ensures ∙ c.in_ok-next.ensures.steps) (search rules) _ c.in-69.is)

pub returns-in_default-letter-clause-line : goal.returns-in_default-letter-clause-line
returns-in_default-letter-clause-line c =
    by_none _ (search rules) _ _ (sym c.of-fields.ensures ∙ c.in_ok-next.ensures.steps) (search rules) (search rules) (search rules) (search rules) (search rules) (search rules) (search rules) (search rules)
