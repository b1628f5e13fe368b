-- `voice::slot::turn_slot` meets its contract.
use mathlib.Core.Path.{ap, ap₂, ◌∙◌}
use Prim.Native.Nat.{ℕ, ◌*◌}
use native.Mathlib.Omega.{arith}
use lib.Seq.{length-take-le}
use Rattle.sizes.specs.Frame.{slot_octets}
use Rattle.voice.proofs.SlotLaws.{by_slot, slot_room}
use Rattle.voice.proofs.slot.turn_slot.Goals as goal

pub returns : goal.returns
returns c =
    let from = ap₂ (λ (m n : ℕ). m * n) c.slot_bits.ensures c.from.ensures in
    let size = length-take-le c.slot_octets.result _ (omega arith) ∙ c.slot_octets.ensures ∙ ap slot_octets c.width-width.ensures.0 in
    by_slot c.args.call _ _ _ _ _ _ _ c.width-width.ensures.0 (slot_room c.args.call c.width-width.ensures.0 from size) from c.keystream.ensures c.turn_frame.ensures
