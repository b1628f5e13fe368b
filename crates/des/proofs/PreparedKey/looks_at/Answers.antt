-- `des::PreparedKey::looks_at` meets its contract.
use borrow.Author.Rules.{rules}
use Rattle.des.specs.Des.{box_input}
use Rattle.des.proofs.BitLists.{bits_xor}
use Rattle.des.proofs.DesLaws.{bits-first, looks_right, looks}
use Rattle.des.proofs.PreparedKey.looks_at.Goals as goal

pub first_rounds-requires : goal.first_rounds-requires
first_rounds-requires c = (bits-first c.args.block.now _ c.initial.ensures, search rules)

pub box_input-input-requires : goal.box_input-input-requires
box_input-input-requires c =
    let r = looks_right c.args.block.now _ c.initial.ensures _ _ _ _ (search rules) c.first_rounds.ensures c.half-right.ensures in
    (r.2, search rules)

pub box_place-requires : goal.box_place-requires
unfolding box_input
box_place-requires c = (rw c.box_input-input.ensures (bits_xor _ _), search rules)

pub returns : goal.returns
returns c = (
  looks _ _ c.initial.ensures _ _ _ _ (search rules) c.first_rounds.ensures c.half-right.ensures _ _ _ c.box_input-input.ensures c.box_place.ensures.0,
  search rules,
)
