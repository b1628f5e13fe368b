-- `joineddes::halves_twice` meets its contract.
use mathlib.Core.Path.{refl}
use lib.ListN.{replicate}
use Rattle.octets.proofs.Front.{put_both}
use Rattle.des.specs.Prepared.{twice_over}
use Rattle.des.proofs.KeyLaws.{length-cc, length-dd, twice_c, twice_d}
use Rattle.joineddes.proofs.halves_twice.Goals as goal

pub returns : goal.returns
unfolding twice_over
returns c =
    let x = twice_c _ _ c.first_state-cd.ensures _ c.twice.ensures in
    let y = twice_d _ _ c.first_state-cd.ensures _ c.twice-2.ensures in
    put_both (replicate 112 0) _ _ 56 56 (length-cc _) (length-dd _) refl _ x _ y
