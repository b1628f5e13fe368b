-- `aes::PreparedKey::add_round_key` meets its contract.
use borrow.Author.Rules.{rules}
use Rattle.aes.proofs.StateLaws.{key_added}
use Rattle.aes.proofs.PreparedKey.add_round_key.Goals as goal

pub returns : goal.returns
returns c = key_added _ _ _ _ (search rules) (λ q h. let met = (c.from_fn.ensures.items.at q 0 h).2.met in search rules)
