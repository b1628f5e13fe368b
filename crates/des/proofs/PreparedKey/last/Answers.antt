-- `des::PreparedKey::last` meets its contract.
use mathlib.Core.Path.{refl}
use borrow.Author.Rules.{rules}
use Rattle.des.specs.Tables.{ip⁻¹}
use Rattle.des.proofs.BitLists.{bits-permuted}
use Rattle.des.proofs.PlaceLaws.{permutable, permutable-long, inverse_places}
use Rattle.des.proofs.TableLaws.{inverse_part}
use Rattle.des.proofs.PreparedKey.last.Goals as goal

pub permute-requires : goal.permute-requires
unfolding ip⁻¹
permute-requires c =
    record { out_len = permutable-long (inverse_part _ _ c.args.self.now.prepared.parts) refl; by_index = (permutable (inverse_part _ _ c.args.self.now.prepared.parts) inverse_places refl (search rules)).1 }

pub pack-requires : goal.pack-requires
pack-requires c = rw c.permute.ensures (bits-permuted _ _ c.requires)

pub returns : goal.returns
returns c = rw (c.pack.ensures, c.permute.ensures, inverse_part _ _ c.args.self.now.prepared.parts)
