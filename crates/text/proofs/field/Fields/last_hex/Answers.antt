-- `text::field::Fields::last_hex` meets its contract.
use mathlib.Core.Path.{sym, ◌∙◌}
use lib.ListN.{length}
use Rattle.text.proofs.FieldLaws.{no_last, is_last, last_read}
use Rattle.text.proofs.field.Fields.last_hex.Goals as goal

pub returns-in_default-clause-value : goal.returns-in_default-clause-value
returns-in_default-clause-value c = no_last _ _ c.in_default.is

pub returns-clause-value : goal.returns-clause-value
returns-clause-value c = c.read_hex.ensures.value ∙ is_last c.args.self c.in-Some.rest c.in-Some.is (length c.args.octets.now)

pub returns-clause-octets_after : goal.returns-clause-octets_after
returns-clause-octets_after c = λ e. c.read_hex.ensures.out_after ∙ last_read _ _ c.in-Some.is _ (sym c.read_hex.ensures.value ∙ e)
