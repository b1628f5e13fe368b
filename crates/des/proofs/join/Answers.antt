-- `des::join` meets its contract.
-- the second part goes up to the end
use mathlib.Core.Path.{◌≡◌, refl, ap, ◌∙◌}
use mathlib.Core.List.{List, ◌++◌}
use Prim.Native.Nat.{ℕ, ◌+◌, ◌-◌}
use native.Mathlib.Omega.{arith}
use borrow.Rule.Slice.PartMut.{put_mid}
use lib.ListN.{length}
use Rattle.octets.proofs.Front.{first_long, put_both}
use Rattle.des.proofs.join.Goals as goal

put_rest : (d a b : List ℕ) → length d ≡ length a + length b → (first : List ℕ) → first ≡ a → (second : List ℕ) → second ≡ b
    → put_mid (length a) (length (put_mid 0 (length a) d first) - length a) (put_mid 0 (length a) d first) second ≡ a ++ b
put_rest d a b l first e second f =
    let rest : length (put_mid 0 (length a) d first) - length a ≡ length b = omega (arith, first_long d a b (length a) (length b) refl refl l first e) in
    ap (λ (n : ℕ). put_mid (length a) n (put_mid 0 (length a) d first) second) rest
    ∙ put_both d a b (length a) (length b) refl refl l first e second f

pub returns : goal.returns
returns c =
    put_rest c.args.out.now c.args.first.now c.args.second.now c.requires _ c.copy_from_slice.ensures.after _ c.copy_from_slice-2.ensures.after
