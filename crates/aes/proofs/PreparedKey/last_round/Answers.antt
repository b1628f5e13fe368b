-- `aes::PreparedKey::last_round` meets its contract.
use borrow.Author.Rules.{rules}
use Rattle.aes.proofs.WordLaws.{octets-words}
use Rattle.aes.proofs.StateLaws.{length-shift_rows, octets-shifted}
use Rattle.aes.proofs.PreparedKey.last_round.Goals as goal

pub returns : goal.returns
returns c =
    rw
    (octets-words _ (octets-shifted c.args.s.now) 4 c.from_fn.result (length-shift_rows _) (λ q h. let met = (c.from_fn.ensures.items.at q 0 h).2.met in search rules)) at c.add_round_key.ensures
