-- `des::PreparedKey::box_input` meets its contract.
use mathlib.Core.Path.{refl}
use borrow.Author.Rules.{rules}
use Rattle.des.specs.Des.{box_input}
use Rattle.des.specs.Tables.{table_e}
use Rattle.des.specs.Prepared.{key_of}
use Rattle.des.proofs.BitLists.{bits-permuted}
use Rattle.des.proofs.PlaceLaws.{permutable, permutable-long, e_places}
use Rattle.des.proofs.TableLaws.{e_part}
use Rattle.des.proofs.KeyLaws.{bits_key}
use Rattle.des.proofs.PreparedKey.box_input.Goals as goal

pub permute-requires : goal.permute-requires
unfolding table_e
permute-requires c =
    record { out_len = permutable-long (e_part _ _ c.args.self.now.prepared.parts) refl; by_index = (permutable (e_part _ _ c.args.self.now.prepared.parts) e_places refl (search rules)).1 }

pub add-requires : goal.add-requires
add-requires c = (search rules, rw c.permute.ensures (bits-permuted _ _ c.requires.0), bits_key (key_of _) _ c.round_key-key.ensures)

pub returns : goal.returns
unfolding box_input
returns c = cc (e_part _ _ c.args.self.now.prepared.parts)
