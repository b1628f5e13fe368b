-- `aes::Sbox::temp` meets its contract.
use mathlib.Core.Path.{◌∙◌}
use Rattle.aes.proofs.ScheduleLaws.{temp-zero, temp_four, temp-rest}
use Rattle.aes.proofs.Sbox.temp.Goals as goal

pub returns-then-i-eq0 : goal.returns-then-i-eq0
returns-then-i-eq0 c = temp-zero _ _ _ _ _ c.if-i-eq0.true c.rot_word.ensures c.sub_word.ensures (c.from.ensures ∙ c.rcon.ensures)

pub returns-then-i-eq4 : goal.returns-then-i-eq4
returns-then-i-eq4 c = c.sub_word-then-i-eq4.ensures ∙ temp_four _ _ c.if-i-eq4.true

pub returns : goal.returns
returns c = temp-rest _ _ c.if-i-eq0.false c.if-i-eq4.false
