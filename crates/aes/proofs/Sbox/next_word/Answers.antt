-- `aes::Sbox::next_word` meets its contract.
use borrow.Author.Rules.{rules}
use Rattle.aes.proofs.ScheduleLaws.{next-is}
use Rattle.aes.proofs.Sbox.next_word.Goals as goal

pub returns : goal.returns
returns c = next-is _ _ _ (search rules) c.temp.ensures
