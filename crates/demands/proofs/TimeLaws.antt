-- What an operation is not refused came in its time.
use mathlib.Core.Path.{◌≡◌, refl, sym, ap, ◌∙◌}
use mathlib.Core.Bool.{Bool, true, false, ◌||◌, not, true≢false}
use mathlib.Core.List.{List}
use Prim.Native.Nat.{ℕ, ◌<◌}
use lib.Dec.{leb, eqb}
use borrow.Author.Tests.{eq-eqb, eqb-true, leb-false, not-false}
use Rattle.octets.proofs.TestLaws.{or_neither}
use Rattle.answers.proofs.OutcomeLaws.{NoneHolds}
use Rattle.sizes.specs.Ciphers.{scrambles}
use Rattle.openings.specs.Ladder as ladder
use Rattle.voice.proofs.SlotLaws.{below_limit}
use Rattle.calls.specs.declared.call.Call.{Call}
use Rattle.calls.specs.Call.{closed_end, sending_end, receiving_end, Standing, standing, is_bad, stands, receives, end_refusals}
use Rattle.calls.specs.Opening.{join_refusals, begun_refusals}
use Rattle.voice.specs.Slot.{lost_refusals, voice_refusals}
use Rattle.calls.specs.Vector.{announce_refusals, generates, next_refusals}
use Rattle.calls.proofs.CallLaws.{by_stands, good_by, stands-none}
use Rattle.calls.proofs.Exactly.{timely}
use Rattle.data.specs.declared.packet.Packet.{Packet}
use Rattle.data.specs.Packet as packet
use Rattle.data.specs.Opening as opening
use Rattle.data.specs.Message as message
use Rattle.data.proofs.PacketLaws.{kind_closed}
use Rattle.nxdn.specs.Operations.{CallOperation, Open, Start, Join, Voice, Lost, End, Announce, NextVector, PacketOperation, OpenPacket, Message, LostMessage, EndPacket}
use Rattle.demands.specs.Device.{Device, Operation, OfBook, OfScreen, OfCall, OfPacket}
use Rattle.demands.specs.Refusals.{call_refusals, packet_refusals, refusals_of}
use Rattle.demands.specs.Demand1.{TimeOfCall, TimeOfPacket, InTime}

-- ---- a call

not_scramble : (c : ℕ) → not (scrambles c) ≡ true → c ≡ 1 → ⊥
not_scramble c e z = true≢false (sym e ∙ ap not (eq-eqb c 1 z))

module _ (c : Call) (good : is_bad (standing c) ≡ false) where
  -- a test of its standing that holds, and is no test of this one
  unlike : {s : Standing} (t : Standing → Bool) → t (standing c) ≡ true → standing c ≡ s → t s ≡ false → ⊥
  unlike t e q f = true≢false (sym e ∙ ap t q ∙ f)

  closed-time : stands (standing c) ≡ false → c.end ≡ closed_end
  closed-time f =
      by_stands c (good_by c good) (λ o e s. e) (λ o e s. absurd (true≢false (sym (ap stands s) ∙ f))) (λ o e s. absurd (true≢false (sym (ap stands s) ∙ f)))

  standing-time : not (stands (standing c)) ≡ false → c.end ≡ closed_end → ⊥
  standing-time f z = true≢false (sym (stands-none c (good_by c good) z) ∙ f)

  receiving-time : not (receives (standing c)) ≡ false → c.end ≡ receiving_end
  receiving-time f =
      let r = not-false (receives (standing c)) f in
      by_stands c (good_by c good) (λ o e s. absurd (unlike receives r s refl)) (λ o e s. absurd (unlike receives r s refl)) (λ o e s. e)

  next-time : not (generates (standing c)) ≡ false → (c.end ≡ sending_end) × (c.terms.cipher ≡ 1 → ⊥)
  next-time f =
      let r = not-false (generates (standing c)) f in
      by_stands c (good_by c good) (λ o e s. absurd (unlike generates r s refl)) (λ o e s. (e, not_scramble c.terms.cipher (sym (ap generates s) ∙ r)))
      (λ o e s. absurd (unlike generates r s refl))

call_time : (b : List ℕ) (c : Call) (o : CallOperation) → NoneHolds (call_refusals b c o) → TimeOfCall c o
unfolding begun_refusals join_refusals ladder.vector_refusals ladder.key_refusals voice_refusals lost_refusals end_refusals announce_refusals next_refusals
call_time b c (Open m i r s w) n = closed-time c n.1.1.1.0 n.1.1.1.1.0
call_time b c (Start m i r w) n = closed-time c n.1.1.1.0 n.1.1.1.1.0
call_time b c (Join m i r s) n = closed-time c n.1.1.0 n.1.1.1.0
call_time b c (Voice mask frame) n = (standing-time c n.1.0 n.1.1.0, below_limit c (good_by c n.1.0) n.1.1.1.0)
call_time b c Lost n =
    let e = receiving-time c n.0 n.1.0 in
    (e, below_limit c (good_by c n.0) n.1.1.0 e)
call_time b c End n = standing-time c n.0 n.1.0
call_time b c (Announce w) n =
    let t = timely c w n in
    (t.receives, λ z. true≢false (sym (eq-eqb _ _ z) ∙ t.vectored), t.starts, t.untold)
call_time b c (NextVector out) n = next-time c n.1.0 n.1.1.0

-- ---- a packet

module _ (p : Packet) (good : not (packet.good_packet p) ≡ false) where
  packet-closed : eqb p.kind 0 ≡ packet.is_closed p
  packet-closed = kind_closed p (not-false (packet.good_packet p) good)

  none-time : not (packet.is_closed p) ≡ false → p.kind ≡ 0
  none-time f = eqb-true p.kind 0 (packet-closed ∙ not-false (packet.is_closed p) f)

  some-time : packet.is_closed p ≡ false → p.kind ≡ 0 → ⊥
  some-time f z = true≢false (sym (eq-eqb p.kind 0 z) ∙ packet-closed ∙ f)

  message-time : (packet.is_closed p || leb 1000 p.count) ≡ false → (p.kind ≡ 0 → ⊥) × (p.count < 1000)
  message-time f =
      let q = or_neither (packet.is_closed p) (leb 1000 p.count) f in
      (some-time q.0, leb-false 1000 p.count q.1)

packet_time : (b : List ℕ) (p : Packet) (o : PacketOperation) → NoneHolds (packet_refusals b p o) → TimeOfPacket p o
unfolding opening.open_refusals ladder.vector_refusals ladder.key_refusals message.message_refusals message.lost_refusals packet.end_refusals
packet_time b p (OpenPacket end kind c i w) n = none-time p n.1.1.1.0 n.1.1.1.1.0
packet_time b p (Message octets) n = message-time p n.0 n.1.0
packet_time b p LostMessage n = message-time p n.0 n.1.0
packet_time b p EndPacket n = some-time p n.0 n.1.0

pub unrefused_in_time : (d : Device) (o : Operation) → NoneHolds (refusals_of d o) → InTime d o
unrefused_in_time d (OfBook o) n = tt
unrefused_in_time d (OfScreen o) n = tt
unrefused_in_time d (OfCall m o) n = call_time d.book (d.calls m) o n
unrefused_in_time d (OfPacket m o) n = packet_time d.book (d.packets m) o n
