-- `generator::next_vector` meets its contract: after i turns the number holds the register after 15 i shifts.
use mathlib.Core.Path.{◌∙◌}
use native.Mathlib.Omega.{arith}
use Rattle.generator.proofs.Register.{filled-held, shift_start, shift_more, shift_done}
use Rattle.generator.proofs.next_vector.Goals as goal

pub loop-init : goal.loop-init
loop-init c = shift_start _ _ (filled-held _ _ c.number_of-register.ensures)

pub loop-preserved : goal.loop-preserved
loop-preserved c = shift_more _ _ _ _ _ _ (omega arith) c.loop.invariant c.shift-register.ensures

pub returns : goal.returns
returns c = c.octets_of.ensures ∙ shift_done _ _ (shift_more _ _ _ _ _ _ (omega arith) c.loop.invariant c.shift.ensures)
