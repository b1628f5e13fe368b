-- `text::field::Fields::of` meets its contract.
use mathlib.Core.Path.{refl}
use Rattle.text.specs.Walked.{left}
use Rattle.text.proofs.field.Fields.of.Goals as goal

pub returns : goal.returns
unfolding left
returns c = refl
