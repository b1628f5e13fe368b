-- `des::PreparedKey::new` meets its contract.
use mathlib.Core.Path.{refl}
use mathlib.Core.List.{List}
use Prim.Native.Nat.{ℕ}
use borrow.Author.Rules.{rules}
use lib.ListN.{replicate}
use Rattle.des.proofs.KeyLaws.{twice_c, twice_d}
use Rattle.des.proofs.PreparedLaws.{put_all}
use Rattle.des.proofs.PreparedKey.new.Goals as goal

abbrev zeros : List ℕ
zeros = replicate 904 0

pub invariant_of-prepared : goal.invariant_of-prepared
invariant_of-prepared c =
    let x = twice_c _ _ c.first_state-cd.ensures _ c.twice.ensures in
    let y = twice_d _ _ c.first_state-cd.ensures _ c.twice-2.ensures in
    record { prepared = (put_all zeros c.args.key.now refl (search rules) _ c.put_tables.ensures _ c.copy_from_slice.ensures.after _ x _ y _ c.sum_shifts.ensures _ refl).0 }

pub returns : goal.returns
returns c =
    let x = twice_c _ _ c.first_state-cd.ensures _ c.twice.ensures in
    let y = twice_d _ _ c.first_state-cd.ensures _ c.twice-2.ensures in
    (put_all zeros c.args.key.now refl (search rules) _ c.put_tables.ensures _ c.copy_from_slice.ensures.after _ x _ y _ c.sum_shifts.ensures _ refl).1
