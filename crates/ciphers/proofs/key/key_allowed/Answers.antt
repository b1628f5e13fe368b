-- `ciphers::key::key_allowed` meets its contract.
use mathlib.Core.Path.{◌∙◌}
use borrow.Author.Rules.{rules}
use Rattle.ciphers.specs.Keys.{key_allowed}
use Rattle.sizes.proofs.Cases.{of_scramble, of_des, of_aes, of_none}
use Rattle.ciphers.proofs.key.key_allowed.Goals as goal

pub returns-in-1 : goal.returns-in-1
unfolding key_allowed
returns-in-1 c = c.scramble_key.ensures ∙ of_scramble _ _ _ _ _ c.in-1.is

pub returns-in-2 : goal.returns-in-2
unfolding key_allowed
returns-in-2 c = c.des_key.ensures ∙ of_des _ _ _ _ _ c.in-2.is

pub returns-in-3 : goal.returns-in-3
unfolding key_allowed
returns-in-3 c = of_aes _ _ _ _ _ c.in-3.is

pub returns-in_default : goal.returns-in_default
unfolding key_allowed
returns-in_default c = of_none c.args.cipher _ _ _ _ (search rules) (search rules) (search rules)
