-- `des::PreparedKey::round_key` meets its contract.
use mathlib.Core.Path.{refl, ◌∙◌}
use Prim.Native.Nat.{◌+◌}
use native.Mathlib.Omega.{arith}
use borrow.Author.Rules.{rules}
use lib.ListN.{replicate}
use Rattle.octets.proofs.Front.{put_both}
use Rattle.des.proofs.TableLaws.{c_part, d_part}
use Rattle.des.proofs.PreparedLaws.{within, halves-at}
use Rattle.des.proofs.RoundKeyLaws.{c-asked, d-asked, length-c-bits, length-d-bits, key_read}
use Rattle.des.proofs.PreparedKey.round_key.Goals as goal

pub permute-requires-clause-by_index : goal.permute-requires-clause-by_index
permute-requires-clause-by_index c = (c-asked _ 904 (within _ c.args.self.now.prepared (omega arith)) c.c_in_round-c.result refl (c_part _ _ c.args.self.now.prepared.parts) (search rules)).1

pub permute-requires-2-clause-by_index : goal.permute-requires-2-clause-by_index
permute-requires-2-clause-by_index c = (d-asked _ 904 (within _ c.args.self.now.prepared (omega arith)) (c.c_in_round-c.result + 28) refl (d_part _ _ c.args.self.now.prepared.parts) (search rules)).1

pub returns : goal.returns
returns c =
    let is_c = c_part _ _ c.args.self.now.prepared.parts in
    let is-d = d_part _ _ c.args.self.now.prepared.parts in
    put_both (replicate 48 0) _ _ 24 24 (length-c-bits _ _ is_c) (length-d-bits _ _ is-d) refl
    _ c.permute.ensures _ c.permute-2.ensures
    ∙ key_read _ 904 _ 776 (omega arith) (halves-at _ c.args.self.now.prepared) _ c.requires _ c.c_in_round-c.ensures.0 is_c is-d
