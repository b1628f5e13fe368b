-- `aes::PreparedKey::entry` meets its contract.
use borrow.Author.Rules.{rules}
use Rattle.aes.proofs.PreparedLaws.{its_columns}
use Rattle.aes.proofs.PreparedKey.entry.Goals as goal

pub returns : goal.returns
returns c = rw c.from.ensures ((its_columns c.args.self.now.schedule _ (search rules) c.args.self.now.prepared).rule c.args.x (search rules))
