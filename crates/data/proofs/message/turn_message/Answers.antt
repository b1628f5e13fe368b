-- `data::message::turn_message` meets its contract.
use mathlib.Core.Path.{refl, sym}
use native.Mathlib.Omega.{arith}
use lib.ListN.{replicate}
use lib.Seq.{length-take-le}
use Rattle.ciphers.proofs.KeyLaws.{key_ranged}
use Rattle.data.proofs.PacketLaws.{open_kind, open_key}
use Rattle.data.proofs.MessageLaws.{by_own, own-length, part_most, place-fits}
use Rattle.data.proofs.message.turn_message.Goals as goal

pub overflow_mul-part : goal.overflow_mul-part
overflow_mul-part c =
    omega (arith, place-fits _ c.from-count.result (part_most _ (open_kind _ c.requires.0) c.protected_octets-part.ensures) (omega arith))

pub slice_bounds-stream-end : goal.slice_bounds-stream-end
slice_bounds-stream-end c = part_most _ (open_kind _ c.requires.0) c.protected_octets-part.ensures

pub slice_bounds-keystream-end : goal.slice_bounds-keystream-end
slice_bounds-keystream-end c = sym (length-take-le _ _ (part_most _ (open_kind _ c.requires.0) c.protected_octets-part.ensures))

pub keystream-requires : goal.keystream-requires
keystream-requires c =
    let r = key_ranged _ _ (open_key _ c.requires.0) in
    (r.0, r.1, omega (arith, place-fits _ c.from-count.result (part_most _ (open_kind _ c.requires.0) c.protected_octets-part.ensures) (omega arith)))

pub slice_bounds-turn_by-end : goal.slice_bounds-turn_by-end
slice_bounds-turn_by-end c =
    own-length _ _ (replicate 20 0) _ (part_most _ (open_kind _ c.requires.0) c.protected_octets-part.ensures) c.keystream.ensures

pub turn_by-requires : goal.turn_by-requires
turn_by-requires c =
    let most = part_most _ (open_kind _ c.requires.0) c.protected_octets-part.ensures in
    (open_kind _ c.requires.0, c.requires.2, omega (arith, most, c.protected_octets-part.ensures, own-length _ _ (replicate 20 0) _ most c.keystream.ensures))

pub returns : goal.returns
returns c =
    by_own c.args.packet _ _ _ _ (replicate 20 0) _ c.protected_octets-part.ensures refl (part_most _ (open_kind _ c.requires.0) c.protected_octets-part.ensures) (rw c.from-count.ensures at c.keystream.ensures) c.turn_by.ensures
