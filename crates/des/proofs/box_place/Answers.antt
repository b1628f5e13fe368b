-- `des::box_place` meets its contract.
use native.Mathlib.Omega.{arith}
use Rattle.des.specs.Des.{box_place}
use Rattle.des.proofs.box_place.Goals as goal

pub place_in_box-place-requires : goal.place_in_box-place-requires
place_in_box-place-requires c = (c.requires.0 _, c.requires.0 _, c.requires.0 _, c.requires.0 _, c.requires.0 _, c.requires.0 _)

pub returns : goal.returns
unfolding box_place
returns c = (omega (arith, c.from.ensures), omega (arith, c.from.ensures))
