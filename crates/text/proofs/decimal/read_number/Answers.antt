-- `text::decimal::read_number` meets its contract.
use mathlib.Core.Path.{sym, ◌∙◌}
use native.Mathlib.Omega.{arith}
use borrow.Author.Rules.{rules}
use Rattle.text.proofs.DecimalLaws.{reading_start, reading_more, refused_empty, refused_zero, refused_other, refused_large, alone, leading, taken}
use Rattle.text.proofs.decimal.read_number.Goals as goal
use Rattle.text.proofs.decimal.read_number.Goals.{else-field-gt1-via-then-field-gt1+else-field-eq48, else-field-gt1-via-else-field-gt1}

pub returns-then-is_empty : goal.returns-then-is_empty
returns-then-is_empty c = refused_empty _ _ (search rules)

pub returns-then-field-eq48 : goal.returns-then-field-eq48
returns-then-field-eq48 c = refused_zero _ _ (search rules) (search rules)

pub loop-digit-init : goal.loop-digit-init
loop-digit-init c = reading_start _ _

pub returns-then-not-is_ascii_digit : goal.returns-then-not-is_ascii_digit
returns-then-not-is_ascii_digit c = refused_other _ _ c.loop-digit.digit-index (search rules) (sym c.is_ascii_digit.ensures.value ∙ c.if-not-is_ascii_digit.true)

pub returns-then-value-limit : goal.returns-then-value-limit
returns-then-value-limit c =
    refused_large _ _ _ _ c.loop-digit.invariant (search rules) (omega (arith, c.from.ensures, c.from-limit.ensures))

pub loop-digit-preserved : goal.loop-digit-preserved
loop-digit-preserved c =
    rw c.from.ensures (reading_more _ _ _ _ c.loop-digit.invariant (search rules) (sym c.is_ascii_digit.ensures.value ∙ c.if-not-is_ascii_digit.false) (omega (arith, c.from.ensures, c.from-limit.ensures)))

pub returns : goal.returns
returns c =
    taken _ c.args.field.now _ _ c.loop-digit.invariant (search rules) (search rules)
    (elim c.else-field-gt1.branch [ else-field-gt1-via-then-field-gt1+else-field-eq48 w ↦ leading c.args.field.now w.if-field-eq48.false | else-field-gt1-via-else-field-gt1 w ↦ alone c.args.field.now w.if-field-gt1.false (search rules) ])
