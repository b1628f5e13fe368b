-- `aes::Sbox::key_expansion` meets its contract: the words below i are those of the schedule.
use native.Mathlib.Nat.{le_antisymm}
use borrow.Author.Rules.{rules}
use Rattle.aes.specs.Cipher.{expanded, key_expansion}
use Rattle.aes.proofs.ScheduleLaws.{expand_more}
use Rattle.aes.proofs.Sbox.key_expansion.Goals as goal

pub loop-i-init : goal.loop-i-init
unfolding expanded
loop-i-init c = (search rules, search rules, search rules, c.key_words.ensures)

pub loop-i-preserved : goal.loop-i-preserved
loop-i-preserved c =
    (search rules, search rules, search rules, expand_more _ _ c.loop-i.i _ (search rules) (search rules) c.next_word.ensures c.loop-i.invariant.3)

pub returns : goal.returns
unfolding key_expansion
returns c = rw (le_antisymm c.loop-i.invariant.1 c.loop-i-test.false) at c.loop-i.invariant.3
