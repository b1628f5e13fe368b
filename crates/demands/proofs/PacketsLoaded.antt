-- Whatever a device has been through, a packet that stands holds a key that was completely loaded when it was opened.
use mathlib.Core.Path.{◌≡◌, refl}
use mathlib.Core.Bool.{◌&&◌, not}
use mathlib.Core.List.{List}
use Prim.Native.Nat.{ℕ}
use lib.Dec.{eqb}
use borrow.Author.Tests.{ne_eqb}
use Rattle.octets.proofs.TestLaws.{and_false_r}
use Rattle.answers.specs.declared.Answer.TheVariants.{Done}
use Rattle.keybook.specs.History as book
use Rattle.openings.specs.Ladder.{key_for}
use Rattle.openings.proofs.LadderLaws.{vector-never}
use Rattle.data.specs.declared.packet.Packet.{Packet}
use Rattle.data.specs.Kinds.{is_kind}
use Rattle.data.specs.Packet as packet
use Rattle.data.specs.Opening as opening
use Rattle.data.specs.Message as message
use Rattle.nxdn.specs.Operations.{screen_step, call_step, PacketOperation, OpenPacket, Message, LostMessage, EndPacket, packet_step}
use Rattle.demands.specs.Device.{Device, Operation, OfBook, OfScreen, OfCall, OfPacket, step, device_after, history}
use Rattle.demands.specs.Demand1.{OpensPacket, by-opening, renews_packet}
use Rattle.demands.proofs.LoadedLaws.{Holder, begins, Left, Held, always_loaded, as_it_was, renewing, keeping, of_number}
use Rattle.openings.proofs.ReadyLaws.{none-ready-vector}

-- ---- a packet

abbrev pub the_packets : Holder
the_packets =
    record {
      State = Packet;
      of = λ d n. d.packets n;
      Fixed = ℕ;
      opens = OpensPacket;
      renews = renews_packet;
      stands = λ p. p.kind ≡ 0 → ⊥;
      fixed = λ p. p.kind;
      cipher = λ p. p.cipher;
      key = λ p. p.key;
    }

packet-left : (n : ℕ) (b : List ℕ) (p : Packet) (o : PacketOperation) → Left the_packets n b (OfPacket n o) p (packet_step b p o).0 (packet_step b p o).1.0
unfolding packet_step opening.open_of message.message_of message.lost_of packet.end_of opening.open_refusals packet.end_refusals
packet-left n b p (OpenPacket end kind c i w) =
    renewing the_packets n b (OfPacket n (OpenPacket end kind c i w)) p (opening.new_packet kind c w (key_for b c i)) (opening.open_refusals p end kind c i w b)
    (vector-never (opening.is_end end && is_kind kind) (not (packet.good_packet p)) (not (packet.is_closed p)) c i b w (eqb end opening.to_send))
    (λ h s.
    begins kind c i (key_for b c i) refl (by-opening end w)
    (none-ready-vector (eqb end opening.to_send) (opening.is_end end && is_kind kind) (not (packet.good_packet p)) (not (packet.is_closed p)) c i b w h) refl refl refl)
packet-left n b p (Message octets) =
    keeping the_packets n b (OfPacket n (Message octets)) (λ (r : Packet × List ℕ). r.0) (p, octets) (message.message_refusals p octets)
    (Done, (message.counted p, message.message_turned p octets)) (and_false_r (eqb n n)) (λ s. (s, refl, refl, refl))
packet-left n b p LostMessage =
    keeping the_packets n b (OfPacket n LostMessage) (λ (q : Packet). q) p (message.lost_refusals p) (Done, message.counted p) (and_false_r (eqb n n))
    (λ s. (s, refl, refl, refl))
packet-left n b p EndPacket = renewing the_packets n b (OfPacket n EndPacket) p packet.no_packet (packet.end_refusals p) refl (λ h s. absurd (s refl))

-- ---- the packets of a device

device_left : (d : Device) (o : Operation) (n : ℕ) → Left the_packets n d.book o (d.packets n) (step d o).0 ((step d o).1.0.packets n)
unfolding step
device_left d (OfBook o) n = as_it_was the_packets n d.book (OfBook o) refl (d.packets n) (book.step o d.book).0
device_left d (OfScreen o) n = as_it_was the_packets n d.book (OfScreen o) refl (d.packets n) (screen_step d.book o).0
device_left d (OfCall m o) n = as_it_was the_packets n d.book (OfCall m o) refl (d.packets n) (call_step d.book (d.calls m) o).0
device_left d (OfPacket m o) n =
    let r = packet_step d.book (d.packets m) o in
    of_number the_packets d.book (OfPacket m o) m r.1.0 d.packets r.0 (packet-left m d.book (d.packets m) o) (λ n q. rw (ne_eqb m n q)) n

pub packets_loaded : (os : List Operation) (n : ℕ) → Held the_packets n (history step os) ((device_after step os).packets n)
packets_loaded = always_loaded the_packets (λ n s. s refl) device_left
