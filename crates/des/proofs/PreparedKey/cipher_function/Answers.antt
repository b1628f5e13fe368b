-- `des::PreparedKey::cipher_function` meets its contract.
use mathlib.Core.Path.{refl}
use borrow.Author.Rules.{rules}
use Rattle.des.specs.Des.{box_input, cipher_f}
use Rattle.des.specs.Tables.{table_p}
use Rattle.des.proofs.BitLists.{bits_xor}
use Rattle.des.proofs.PlaceLaws.{permutable, permutable-long, p_places}
use Rattle.des.proofs.TableLaws.{p_part, s_part}
use Rattle.des.proofs.PreparedKey.cipher_function.Goals as goal

pub substitute-selected-requires : goal.substitute-selected-requires
unfolding box_input
substitute-selected-requires c = (s_part _ _ c.args.self.now.prepared.parts, rw c.box_input-input.ensures (bits_xor _ _))

pub permute-requires : goal.permute-requires
unfolding table_p
permute-requires c =
    record { out_len = permutable-long (p_part _ _ c.args.self.now.prepared.parts) refl; by_index = (permutable (p_part _ _ c.args.self.now.prepared.parts) p_places refl (search rules)).1 }

pub returns : goal.returns
unfolding cipher_f
returns c = cc (p_part _ _ c.args.self.now.prepared.parts)
