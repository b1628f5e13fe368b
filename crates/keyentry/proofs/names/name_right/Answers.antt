-- `names::name_right` meets its contract.
use mathlib.Core.Path.{ap, ◌∙◌}
use native.Mathlib.Omega.{arith}
use Rattle.octets.specs.Lists.{all_zero}
use Rattle.keyentry.specs.Name.{name_right}
use Rattle.keyentry.proofs.NameLaws.{text_at-most, padding_lent}
use Rattle.keyentry.proofs.names.name_right.Goals as goal

pub slice_bounds-all_zero-count : goal.slice_bounds-all_zero-count
slice_bounds-all_zero-count c = omega (arith, text_at-most c.args.name.now)

pub slice_bounds-all_zero-start : goal.slice_bounds-all_zero-start
slice_bounds-all_zero-start c = omega (arith, text_at-most c.args.name.now)

pub returns : goal.returns
unfolding name_right
returns c = c.all_zero.ensures ∙ ap all_zero (padding_lent _ c.told-name c.text_octets-n.ensures)
