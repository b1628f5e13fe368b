-- `generator::aes_vector` meets its contract.
-- both halves copied in
use mathlib.Core.Path.{◌≡◌, ◌∙◌}
use mathlib.Core.List.{List, [], ◌∷◌, ◌++◌, append-nil}
use Prim.Native.Nat.{ℕ}
use borrow.Author.Rules.{rules}
use borrow.Rule.Slice.PartMut.{put_mid}
use lib.ListN.{length}
use lib.Seq.{take_at, drop_at}
use Rattle.generator.specs.Generator.{next_vector, aes_vector}
use Rattle.generator.proofs.aes_vector.Goals as goal

zeros : List ℕ
zeros = 0 ∷ 0 ∷ 0 ∷ 0 ∷ 0 ∷ 0 ∷ 0 ∷ 0 ∷ []

joined : (s first second : List ℕ) → length s ≡ 8 → first ≡ s → second ≡ next_vector s → put_mid 8 8 (first ++ zeros) second ≡ aes_vector s
unfolding aes_vector zeros
joined s first second l p q = rw (p, q, take_at s zeros 8 l, drop_at s zeros 8 l, append-nil)

pub returns : goal.returns
unfolding zeros
returns c = joined _ _ _ (search rules) c.copy_from_slice.ensures.after (c.copy_from_slice-2.ensures.after ∙ c.next_vector.ensures)
