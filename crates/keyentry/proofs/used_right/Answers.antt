-- `keyentry::used_right` meets its contract.
use mathlib.Core.Path.{◌∙◌, sym}
use native.Mathlib.Omega.{arith}
use Rattle.keyentry.proofs.EntryLaws.{used_range, used_count, used-rest, used-ready, used_name}
use Rattle.keyentry.proofs.used_right.Goals as goal

pub returns-then-not-in_range : goal.returns-then-not-in_range
returns-then-not-in_range c = used_range _ (sym c.in_range.ensures ∙ c.if-not-in_range.true)

pub returns-then-from-key_octets : goal.returns-then-from-key_octets
returns-then-from-key_octets c = used_count _ (sym c.in_range.ensures ∙ c.if-not-in_range.false) (omega arith)

pub returns-then-not-rest_zero : goal.returns-then-not-rest_zero
returns-then-not-rest_zero c =
    used-rest _ (sym c.in_range.ensures ∙ c.if-not-in_range.false) (omega arith) (sym c.rest_zero.ensures ∙ c.if-not-rest_zero.true)

pub returns-else-ready_right : goal.returns-else-ready_right
returns-else-ready_right c =
    c.ready_right.ensures ∙ sym c.ready_right.ensures ∙ c.if-ready_right.false ∙
    used-ready _ (sym c.in_range.ensures ∙ c.if-not-in_range.false) (omega arith) (sym c.rest_zero.ensures ∙ c.if-not-rest_zero.false) (sym c.ready_right.ensures ∙ c.if-ready_right.false)

pub returns-then-ready_right : goal.returns-then-ready_right
returns-then-ready_right c =
    c.name_right.ensures ∙ used_name _ (sym c.in_range.ensures ∙ c.if-not-in_range.false) (omega arith) (sym c.rest_zero.ensures ∙ c.if-not-rest_zero.false) (sym c.ready_right.ensures ∙ c.if-ready_right.true) c.name_in.ensures
