-- `aes::PreparedKey::encipher` meets its contract.
use mathlib.Core.Path.{ap, ◌∙◌}
use mathlib.Core.List.{List}
use Prim.Native.Nat.{ℕ}
use native.Mathlib.Nat.{le_antisymm}
use borrow.Author.Rules.{rules}
use Rattle.aes.specs.Cipher.{rounds, cipher, aes}
use Rattle.aes.proofs.StateLaws.{rounds_more, rounds-last}
use Rattle.aes.proofs.PreparedLaws.{its_schedule}
use Rattle.aes.proofs.PreparedKey.encipher.Goals as goal

pub loop-n-init : goal.loop-n-init
unfolding rounds
loop-n-init c = (search rules, search rules, rw c.state_of.ensures at c.add_round_key-s.ensures)

pub loop-n-preserved : goal.loop-n-preserved
loop-n-preserved c = (search rules, search rules, rounds_more _ _ _ c.loop-n.n c.loop-n.invariant.0 c.loop-n.invariant.2 _ c.round-s.ensures)

pub returns : goal.returns
unfolding aes
returns c =
    c.block_of.ensures
    ∙ rounds-last _ _ _ c.loop-n.n c.loop-n.invariant.0 c.loop-n.invariant.2 _ (le_antisymm c.loop-n.invariant.1 c.loop-n-test.false) c.last_round.ensures
    ∙ ap (λ (w : List ℕ). cipher w c.args.block.now) (its_schedule _ _ (search rules) c.args.self.now.prepared)
