-- `joineddes::round_bits` meets its contract.
-- D's places are the last 24
use mathlib.Core.Path.{◌≡◌, refl, ap, ap₂, ◌∙◌}
use mathlib.Core.List.{List}
use Prim.Native.Nat.{ℕ, ◌+◌}
use native.Mathlib.Omega.{arith}
use borrow.Author.Rules.{rules}
use lib.ListN.{get_or, take, drop, replicate}
use Rattle.octets.proofs.Front.{put_both}
use Rattle.des.specs.Tables.{pc_2}
use Rattle.des.proofs.RoundKeyLaws.{c-asked, d-asked, length-c-bits, length-d-bits, key_read}
use Rattle.joineddes.proofs.round_bits.Goals as goal

d_part : (t : List ℕ) → t ≡ pc_2 → take 24 (drop 24 t) ≡ drop 24 pc_2
unfolding pc_2
d_part t e = rw e

pub permute-requires-clause-by_index : goal.permute-requires-clause-by_index
permute-requires-clause-by_index c = (c-asked c.args.halves.now 112 (search rules) c.args.shifts refl (ap (take 24) c.requires.0) (search rules)).1

pub permute-requires-2-clause-by_index : goal.permute-requires-2-clause-by_index
permute-requires-2-clause-by_index c = (d-asked c.args.halves.now 112 (search rules) (c.args.shifts + 28) refl (d_part _ c.requires.0) (search rules)).1

pub returns : goal.returns
returns c key n h is-halves is-shifts =
    let is_c = ap (take 24) c.requires.0 in
    let is-d = d_part _ c.requires.0 in
    put_both (replicate 48 0) _ _ 24 24 (length-c-bits _ _ is_c) (length-d-bits _ _ is-d) refl
    _ c.permute.ensures _ c.permute-2.ensures
    ∙ key_read _ _ key 0 (search rules) (λ j b. ap₂ (λ (l : List ℕ) (k : ℕ). get_or l k 0) is-halves (omega arith)) n h c.args.shifts (omega arith) is_c is-d
