-- `text::field::FieldsIterator::next` meets its contract.
use mathlib.Core.Path.{ap, ◌∙◌}
use borrow.Author.Rules.{rules}
use lib.ListN.{length}
use Rattle.text.specs.Walked.{fields_in, left}
use Rattle.text.proofs.FieldLaws.{fields_step}
use Rattle.text.proofs.field.FieldsIterator.next.Goals as goal

pub returns-in_err-rest-clause-steps : goal.returns-in_err-rest-clause-steps
unfolding left
returns-in_err-rest-clause-steps c = rw c.from_residual.ensures (ap fields_in c.in_err-rest.was, ap fields_in c.in_err-rest.was)

pub returns-clause-steps : goal.returns-clause-steps
unfolding left
returns-clause-steps c = ap fields_in c.in_ok-rest.was ∙ fields_step c.in_ok-rest.rest.now c.part_end-end.result c.get-self.result c.part_end-end.ensures.0 c.get-self.ensures.lookup

pub returns-clause-goes : goal.returns-clause-goes
unfolding left
returns-clause-goes c =
    let step = ap fields_in c.in_ok-rest.was ∙ fields_step c.in_ok-rest.rest.now c.part_end-end.result c.get-self.result c.part_end-end.ensures.0 c.get-self.ensures.lookup in
    let shorter = ap length step in search rules
