-- `aes::key_words` meets its contract.
use borrow.Author.Rules.{rules}
use Rattle.octets.proofs.Front.{tab_start, tab_more}
use Rattle.aes.proofs.WordLaws.{front_words}
use Rattle.aes.proofs.key_words.Goals as goal

pub loop-i-init : goal.loop-i-init
loop-i-init c = (search rules, tab_start _ _ _ (search rules))

pub loop-i-preserved : goal.loop-i-preserved
loop-i-preserved c = (search rules, tab_more _ _ _ _ _ _ c.loop-i.invariant.1 (search rules) c.word_in.ensures)

pub returns : goal.returns
returns c =
    front_words _ c.fits-key 8 60 _ _ c.loop-i.i (search rules) (search rules) (search rules) c.loop-i.invariant.1
