-- `aes::Sbox::columns` meets its contract.
use mathlib.Core.Path.{ap, ◌∙◌}
use Prim.Native.Nat.{ℕ}
use borrow.Author.Rules.{rules}
use Rattle.octets.proofs.Front.{tab_start, tab_more, tab_done}
use Rattle.aes.specs.Prepared.{as_word, mixed_alone}
use Rattle.aes.proofs.ColumnLaws.{columns_done}
use Rattle.aes.proofs.Sbox.columns.Goals as goal

pub loop-x-init : goal.loop-x-init
loop-x-init c = (search rules, tab_start _ _ _ (search rules))

pub loop-x-preserved : goal.loop-x-preserved
loop-x-preserved c = (
  search rules,
  tab_more _ _ _ _ _ _ c.loop-x.invariant.1 (search rules)
      (c.mixed_alone.ensures ∙ ap (λ (v : ℕ). as_word (mixed_alone v)) (c.args.self.now.is_sbox.rule c.loop-x.x (search rules))),
)

pub returns : goal.returns
returns c = columns_done _ (tab_done _ _ _ _ _ c.loop-x.invariant.1 (search rules))
