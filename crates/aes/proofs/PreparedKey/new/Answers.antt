-- `aes::PreparedKey::new` meets its contract.
use borrow.Author.Rules.{rules}
use Rattle.aes.proofs.PreparedLaws.{made, key-kept}
use Rattle.aes.proofs.PreparedKey.new.Goals as goal

pub invariant_of-prepared : goal.invariant_of-prepared
invariant_of-prepared c = record { prepared = made _ _ (search rules) _ (search rules) c.key_expansion.ensures c.columns.ensures }

pub returns : goal.returns
returns c = key-kept _ c.columns.new.columns (search rules) _ (search rules) c.key_expansion.ensures
