-- `ciphers::key::key_right` meets its contract.
use mathlib.Core.Path.{sym, ◌∙◌}
use borrow.Author.Rules.{rules}
use Rattle.ciphers.specs.Keys.{key_right}
use Rattle.ciphers.proofs.KeyLaws.{zeros-past}
use Rattle.ciphers.proofs.key.key_right.Goals as goal

pub returns-then-key_allowed : goal.returns-then-key_allowed
unfolding key_right
returns-then-key_allowed c =
    rw (sym c.key_allowed.ensures ∙ c.if-key_allowed.true, sym c.key_octets.ensures) (c.all_zero.ensures ∙ zeros-past c.args.key 32 c.key_octets.result (search rules))

pub returns-else-key_allowed : goal.returns-else-key_allowed
unfolding key_right
returns-else-key_allowed c = rw (sym c.key_allowed.ensures ∙ c.if-key_allowed.false) c.if-key_allowed.false
