-- `vectors::row::field` meets its contract.
use mathlib.Core.Path.{ap, ◌∙◌}
use mathlib.Core.List.{List}
use Prim.Native.Nat.{ℕ}
use lib.ListN.{length}
use lib.Seq.{drop-length}
use Rattle.std.specs.Borrow.{Bor}
use Rattle.text.specs.Fields.{field_at}
use Rattle.text.proofs.PartedLaws.{rest_whole}
use Rattle.text.proofs.FieldLaws.{nth_field}
use Rattle.vectors.specs.Row.{field_of}
use Rattle.vectors.proofs.row.field.Goals as goal

pub returns : goal.returns
unfolding field_of
returns c =
    ap (λ (b : Bor (List ℕ)). b.now) c.unwrap_or.ensures
    ∙ nth_field _ _ _ _ _ (rest_whole c.args.row.now (length c.args.row.now) ∙ drop-length c.args.row.now) c.nth.ensures.ran
    ∙ ap (λ (fs : List (List ℕ)). field_at fs c.args.n) c.of.ensures
