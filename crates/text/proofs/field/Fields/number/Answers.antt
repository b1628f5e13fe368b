-- `text::field::Fields::number` meets its contract.
use mathlib.Core.Path.{refl, ◌∙◌}
use Rattle.text.specs.Fields.{field_at}
use Rattle.text.proofs.DecimalLaws.{refused_empty}
use Rattle.text.proofs.field.Fields.number.Goals as goal

pub returns-in_err-next-clause-number_value : goal.returns-in_err-next-clause-number_value
unfolding field_at
returns-in_err-next-clause-number_value c = c.from_residual.ensures ∙ rw c.in_err-next.ensures.steps.0 (refused_empty _ _ refl)

pub returns-clause-number_value : goal.returns-clause-number_value
unfolding field_at
returns-clause-number_value c = rw c.in_ok-next.ensures.steps c.read_number.ensures
