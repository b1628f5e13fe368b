-- `des::first_state` meets its contract.
use mathlib.Core.Path.{refl}
use borrow.Author.Rules.{rules}
use Rattle.des.specs.Tables.{pc_1}
use Rattle.des.proofs.PlaceLaws.{permutable, permutable-long, pc1_places}
use Rattle.des.proofs.first_state.Goals as goal

pub permute-requires : goal.permute-requires
unfolding pc_1
permute-requires c =
    record { out_len = permutable-long {table = pc_1} refl refl; by_index = (permutable {table = pc_1} refl pc1_places refl (search rules)).1 }

pub returns : goal.returns
unfolding pc_1
returns c = cc
