-- Every operation leaves a call, and a packet, that its octets have room for: a vector of 8 octets, a key of 32, and counts that fit. Good or bad.
use mathlib.Core.Path.{◌≡◌, refl}
use mathlib.Core.Bool.{Bool, true, false, ◌&&◌, not}
use mathlib.Core.List.{List}
use Prim.Native.Nat.{ℕ, ◌+◌, ◌≤◌}
use native.Mathlib.Omega.{arith}
use lib.Dec.{ltb, eqb}
use lib.ListN.{length}
use borrow.Author.Tests.{eqb-true, not-false}
use Rattle.octets.specs.Tests.{pick}
use Rattle.answers.specs.declared.Answer.TheVariants.{Done}
use Rattle.answers.proofs.OutcomeLaws.{NoneHolds, none_left, leaves}
use Rattle.sizes.specs.Ciphers.{session_slots, key_room, vector_octets, no_vector, scrambles}
use Rattle.sizes.specs.Frame.{words, most_words}
use Rattle.generator.specs.Generator.{next_vector}
use Rattle.generator.proofs.VectorLaws.{next-is-vector}
use Rattle.keybook.proofs.Laws.{ready-key-is-right}
use Rattle.openings.specs.Ladder.{session_vector, key_for, vector_refusals}
use Rattle.openings.proofs.LadderLaws.{vector_sized}
use Rattle.openings.proofs.ReadyLaws.{none-ready, none-ready-vector}
use Rattle.calls.specs.declared.counts.Counts.{Counts}
use Rattle.calls.specs.declared.call.Terms.{Terms}
use Rattle.calls.specs.declared.call.Call.{Call}
use Rattle.calls.specs.Counts.{no_counts, plus, total, lost_words, arrived_words}
use Rattle.calls.specs.Call.{sending_end, receiving_end, by_default, terms_right, Known, unknown, told, carried, is_known, known_vector, known_by, untold, Standing, closed, bad, sending, receiving, standing, is_closed, is_open, terms_of, no_call, written, is_bad, stands, knows, end_refusals, after_end, end_of}
use Rattle.calls.specs.Opening.{join_refusals, begun_refusals, begun, begun_of, open_of, start_of, joined, join_of}
use Rattle.voice.specs.Slot.{going_on, rides, ridden, slot_on, lost_refusals, lost_of, voice_refusals, stream_of, voice_after, voice_by}
use Rattle.calls.specs.Vector.{with_vector, announce_refusals, announce_of}
use Rattle.calls.proofs.CallLaws.{good_by, counts_most}
use Rattle.calls.proofs.CountLaws.{lost-fits, arrived-fits}
use Rattle.data.specs.declared.packet.Packet.{Packet}
use Rattle.data.specs.Kinds.{is_kind}
use Rattle.data.specs.Packet as packet
use Rattle.data.specs.Opening as opening
use Rattle.data.specs.Message as message
use Rattle.data.proofs.MessageLaws.{none_few}
use Rattle.held.proofs.CallLaws.{FourOctets}
use Rattle.held.proofs.PacketLaws.{PacketSized}
use Rattle.nxdn.specs.Operations.{CallOperation, Open, Start, Join, Voice, Lost, End, Announce, NextVector, call_step, PacketOperation, OpenPacket, Message, LostMessage, EndPacket, packet_step}

-- ---- a call

pub record CallSized (c : Call) : Type 0 where
  pub vector : length c.vector ≡ vector_octets
  pub key : length c.terms.key ≡ key_room
  pub counts : FourOctets c.counts

pub none_four : FourOctets no_counts
none_four = record { opened = omega arith; held = omega arith; replaced = omega arith; lost = omega arith }

pub no_call_sized : CallSized no_call
no_call_sized = record { vector = refl; key = refl; counts = none_four }

-- what a good call counted, and one slot's words
four_more : (n w : Counts) → total n ≤ most_words → total w ≡ words → FourOctets (plus n w)
four_more n w l f = record { opened = omega arith; held = omega arith; replaced = omega arith; lost = omega arith }

-- what it stands for
abbrev Roomy : Standing → Type 0
Roomy closed = Unit {0}
Roomy bad = Unit {0}
Roomy (sending t p v) = (length t.key ≡ key_room) × (length v ≡ vector_octets)
Roomy (receiving t p k) = (length t.key ≡ key_room) × (length (known_vector k) ≡ vector_octets)

either : (b : Bool) (s u : Standing) → Roomy s → Roomy u → Roomy (pick b s u)
either true s u p q = p
either false s u p q = q

long_either : (b : Bool) (v w : List ℕ) → length v ≡ vector_octets → length w ≡ vector_octets → length (pick b v w) ≡ vector_octets
long_either true v w p q = p
long_either false v w p q = q

known_either : (b : Bool) (k j : Known) → length (known_vector k) ≡ vector_octets → length (known_vector j) ≡ vector_octets
    → length (known_vector (pick b k j)) ≡ vector_octets
known_either true k j p q = p
known_either false k j p q = q

written_sized : (n : Counts) (s : Standing) → Roomy s → FourOctets n → CallSized (written n s)
written_sized n closed r f = no_call_sized
written_sized n bad r f = no_call_sized
written_sized n (sending t p v) r f = record { vector = r.1; key = r.0; counts = none_four }
written_sized n (receiving t p k) r f = record { vector = r.1; key = r.0; counts = f }

slot_roomy : (s : Standing) → Roomy s → Roomy (slot_on s)
unfolding slot_on going_on
slot_roomy closed r = tt
slot_roomy bad r = tt
slot_roomy (sending t p v) r =
    either (ltb (p + 1) (session_slots t.cipher)) (sending t (p + 1) v) (sending t 0 (going_on t.cipher v)) r
    (r.0, long_either (scrambles t.cipher) no_vector (next_vector v) refl (next-is-vector v).long)
slot_roomy (receiving t p k) r =
    either (ltb (p + 1) (session_slots t.cipher)) (receiving t (p + 1) k) (receiving t 0 (ridden t k)) r (
      r.0,
      known_either (rides t (is_known k)) (carried (next_vector (known_vector k))) (untold t.cipher) (next-is-vector (known_vector k)).long
          (known_either (scrambles t.cipher) (told no_vector) unknown refl refl),
    )

told_roomy : (w : List ℕ) → length w ≡ vector_octets → (s : Standing) → Roomy s → Roomy (with_vector w s)
told_roomy w l closed r = tt
told_roomy w l bad r = tt
told_roomy w l (sending t p v) r = r
told_roomy w l (receiving t p k) r = (r.0, l)

begun_roomy : (end : ℕ) (t : Terms) (v : List ℕ) → length t.key ≡ key_room → length v ≡ vector_octets → Roomy (begun end t v)
begun_roomy end t v k l = either (eqb end sending_end) (sending t 0 v) (receiving t 0 (told v)) (k, l) (k, l)

-- the vector of an opening, and the key that it takes out of the book
vector_long : (c : ℕ) (w : List ℕ) → length w ≡ vector_octets → length (session_vector c w) ≡ vector_octets
vector_long c w l = long_either (scrambles c) no_vector w refl l

key_long : (sends ranged wrong busy : Bool) (c i : ℕ) (b w : List ℕ) → NoneHolds (vector_refusals sends ranged wrong busy c i w b)
    → length (key_for b c i) ≡ key_room
key_long sends ranged wrong busy c i b w n = (ready-key-is-right b c i (key_for b c i) (none-ready-vector sends ranged wrong busy c i b w n)).0

module _ (c : Call) (s : CallSized c) where
  stands-roomy : Roomy (standing c)
  unfolding standing
  stands-roomy =
      either (is_closed c) closed _ tt
      (either (is_open c) _ bad
      (either (eqb c.end sending_end) (sending c.terms c.position c.vector) (receiving c.terms c.position (known_by c.known c.vector))
      (s.key, s.vector) (s.key, known)) tt)
    where
      known : length (known_vector (known_by c.known c.vector)) ≡ vector_octets
      known =
          known_either (eqb c.known 0) unknown _ refl
          (known_either (eqb c.known 1) (told c.vector) (carried c.vector) s.vector s.vector)

  on_sized : is_bad (standing c) ≡ false → (w : Counts) → total w ≡ words → CallSized (written (plus c.counts w) (slot_on (standing c)))
  on_sized b w f =
      written_sized (plus c.counts w) (slot_on (standing c)) (slot_roomy (standing c) stands-roomy) (four_more c.counts w (counts_most c (good_by c b)) f)

  begun_sized : (end n i r m : ℕ) (w b : List ℕ) → CallSized (begun_of end c n i r m w b).1
  unfolding begun_refusals
  begun_sized end n i r m w b =
      let t = terms_of n (key_for b n i) r m in
      leaves CallSized c (begun_refusals end (standing c) n i r m w b) (Done, written no_counts (begun end t (session_vector n w))) s
      (λ h.
      written_sized no_counts (begun end t (session_vector n w))
      (begun_roomy end t (session_vector n w) (key_long (eqb end sending_end) (terms_right end r m) (is_bad (standing c)) (stands (standing c)) n i b w h)
      (vector_long n w (vector_sized (terms_right end r m) (is_bad (standing c)) (stands (standing c)) n i b w (eqb end sending_end) h))) none_four)

  pub announced_sized : (w : List ℕ) → CallSized (announce_of c w).1
  unfolding announce_of announce_refusals
  announced_sized w =
      leaves CallSized c (announce_refusals (standing c) w) (Done, written c.counts (with_vector w (standing c))) s
      (λ h. written_sized c.counts (with_vector w (standing c)) (told_roomy w (eqb-true _ _ (not-false _ h.0)) (standing c) stands-roomy) s.counts)

  pub call_sized : (b : List ℕ) (o : CallOperation) → CallSized (call_step b c o).1.0
  unfolding call_step open_of start_of join_of join_refusals voice_by voice_refusals lost_of lost_refusals end_of
  call_sized b (Open n i r m w) = begun_sized receiving_end n i r m w b
  call_sized b (Start n i r w) = begun_sized sending_end n i r by_default w b
  call_sized b (Join n i r m) =
      let t = terms_of n (key_for b n i) r m in
      leaves CallSized c (join_refusals (standing c) n i r m b) (Done, written no_counts (joined t)) s
      (λ h.
      written_sized no_counts (joined t) (
        (ready-key-is-right b n i (key_for b n i) (none-ready (terms_right receiving_end r m) (is_bad (standing c)) (stands (standing c)) n i b h)).0,
        known_either (scrambles n) (told no_vector) unknown refl refl,
      ) none_four)
  call_sized b (Voice mask frame) =
      leaves (λ (d : Call × List ℕ). CallSized d.0) (c, frame) (voice_refusals c mask frame) (voice_after stream_of mask frame c.counts (standing c)) s
      (λ h. on_sized h.1.0 (arrived_words mask (knows (standing c))) (arrived-fits mask (knows (standing c))).four)
  call_sized b Lost =
      leaves CallSized c (lost_refusals c) (Done, written (plus c.counts lost_words) (slot_on (standing c))) s
      (λ h. on_sized h.0 lost_words (lost-fits (knows (standing c))).four)
  call_sized b End =
      leaves (λ (d : Call × Counts). CallSized d.0) (c, no_counts) (end_refusals (standing c)) (Done, after_end c) s
      (λ h. no_call_sized)
  call_sized b (Announce w) = announced_sized w
  call_sized b (NextVector out) = s

-- ---- a packet

pub no_packet_sized : PacketSized packet.no_packet
no_packet_sized = record { vector = refl; key = refl; count = omega arith }

module _ (p : Packet) (s : PacketSized p) where
  counted-sized : NoneHolds (message.lost_refusals p) → PacketSized (message.counted p)
  counted-sized h = let few = none_few p h in record { vector = s.vector; key = s.key; count = omega arith }

  pub packet_sized : (b : List ℕ) (o : PacketOperation) → PacketSized (packet_step b p o).1.0
  unfolding packet_step opening.open_of opening.open_refusals message.message_of message.message_refusals message.lost_of packet.end_of
  packet_sized b (OpenPacket end kind c i w) =
      let own = opening.is_end end && is_kind kind in
      leaves PacketSized p (opening.open_refusals p end kind c i w b) (Done, opening.new_packet kind c w (key_for b c i)) s
      (λ h.
      record {
        vector = vector_long c w (vector_sized own (not (packet.good_packet p)) (not (packet.is_closed p)) c i b w (eqb end opening.to_send) h);
        key = key_long (eqb end opening.to_send) own (not (packet.good_packet p)) (not (packet.is_closed p)) c i b w h;
        count = omega arith;
      })
  packet_sized b (Message octets) =
      leaves (λ (q : Packet × List ℕ). PacketSized q.0) (p, octets) (message.message_refusals p octets)
      (Done, (message.counted p, message.message_turned p octets)) s (λ h. counted-sized (none_left (message.lost_refusals p) _ h))
  packet_sized b LostMessage = leaves PacketSized p (message.lost_refusals p) (Done, message.counted p) s counted-sized
  packet_sized b EndPacket = leaves PacketSized p (packet.end_refusals p) (Done, packet.no_packet) s (λ h. no_packet_sized)
