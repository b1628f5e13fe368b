-- `des::PreparedKey::initial` meets its contract.
use mathlib.Core.Path.{refl}
use borrow.Author.Rules.{rules}
use Rattle.des.specs.Tables.{ip}
use Rattle.des.proofs.PlaceLaws.{permutable, permutable-long, ip_places}
use Rattle.des.proofs.TableLaws.{ip_part}
use Rattle.des.proofs.PreparedKey.initial.Goals as goal

pub permute-requires : goal.permute-requires
unfolding ip
permute-requires c =
    record { out_len = permutable-long (ip_part _ _ c.args.self.now.prepared.parts) (search rules); by_index = (permutable (ip_part _ _ c.args.self.now.prepared.parts) ip_places refl (search rules)).1 }

pub returns : goal.returns
returns c = cc (ip_part _ _ c.args.self.now.prepared.parts)
