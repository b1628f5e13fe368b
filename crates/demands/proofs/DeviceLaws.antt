-- Every operation on a device answers by the table, and where it refuses leaves book, calls, packets and lent octets as they were.
use mathlib.Core.Path.{◌≡◌, refl, sym, ap, ◌∙◌}
use mathlib.Core.Bool.{Bool, true, false, ◌&&◌, not}
use mathlib.Core.List.{List, []}
use Prim.Native.Nat.{ℕ, ◌<◌}
use native.Mathlib.Omega.{arith}
use lib.Dec.{eqb}
use borrow.Author.Tests.{eqb-true, eqb-false}
use Rattle.octets.specs.Tests.{pick}
use Rattle.answers.specs.declared.Answer.{Answer}
use Rattle.answers.specs.declared.Answer.TheVariants.{Done}
use Rattle.answers.specs.Numbers.{number_of, is_one_of, operation_numbers}
use Rattle.answers.specs.Outcomes.{Refusals, answered}
use Rattle.answers.proofs.OutcomeLaws.{Refusal, NoneHolds}
use Rattle.answers.proofs.TableLaws.{Settles, settles}
use Rattle.keyentry.specs.Name.{no_name}
use Rattle.keyentry.specs.Entry.{extend_refusals, complete_refusals, name_in, blank, extended, completed}
use Rattle.keybook.specs.Book.{entry_of, book_refusals}
use Rattle.keybook.specs.Operations as operations
use Rattle.keybook.specs.Screen as screen
use Rattle.keybook.specs.History as book
use Rattle.openings.specs.Ladder as ladder
use Rattle.openings.specs.Ladder.{session_vector, key_for, vector_refusals}
use Rattle.openings.proofs.LadderLaws.{vector_in_table}
use Rattle.calls.specs.Counts.{no_counts, plus, lost_words}
use Rattle.calls.specs.declared.counts.Counts.{Counts}
use Rattle.calls.specs.declared.call.Call.{Call}
use Rattle.calls.specs.Call.{sending_end, receiving_end, by_default, standing, terms_of, written, knows, end_refusals, after_end, end_of}
use Rattle.calls.specs.Opening.{join_refusals, begun_refusals, begun, open_of, start_of, joined, join_of}
use Rattle.voice.specs.Slot.{slot_on, lost_refusals, lost_of, voice_refusals, stream_of, voice_after, voice_by}
use Rattle.calls.specs.Vector.{with_vector, announce_refusals, announce_of, following, next_refusals, next_vector_of}
use Rattle.voice.proofs.SlotLaws.{taken-under-two}
use Rattle.data.specs.declared.packet.Packet.{Packet}
use Rattle.data.specs.Kinds.{is_kind}
use Rattle.data.specs.Packet as packet
use Rattle.data.specs.Opening as opening
use Rattle.data.specs.Message as message
use Rattle.nxdn.specs.Operations.{with_none, handed_out, ScreenOperation, Name, Inventory, listed, screen_step, lent_screen, CallOperation, Open, Start, Join, Voice, Lost, End, Announce, NextVector, call_step, lent_call, PacketOperation, OpenPacket, Message, LostMessage, EndPacket, packet_step, lent_packet}
use Rattle.demands.specs.Device.{Device, Operation, OfBook, OfScreen, OfCall, OfPacket, with_number, step}
use Rattle.demands.specs.Refusals.{key_refusals, screen_refusals, call_refusals, packet_refusals, refusals_of, call_unrefused, unrefused}
use Rattle.demands.specs.Demand1.{Same, SameBeside}

-- ---- on the book, a call, a packet

pub book_settles : (b : List ℕ) (o : book.Operation) → Settles b (key_refusals b o) Done (book.step o b)
unfolding book.step operations.begin_of operations.add_of operations.finish_of operations.erase_of operations.begin_refusals operations.add_refusals
    operations.finish_refusals operations.entry_refusals book_refusals extend_refusals complete_refusals
book_settles b (book.Begin c i n) = settles b (operations.begin_refusals b c i n) (Done, operations.begin_after b c i n) refl (omega arith)
book_settles b (book.Add c i xs) =
    settles b (operations.add_refusals b c i xs) (Done, operations.with_for b c i (extended (operations.entry_for b c i) xs)) refl (omega arith)
book_settles b (book.Finish c i) =
    settles b (operations.finish_refusals b c i) (Done, operations.with_for b c i (completed (operations.entry_for b c i))) refl (omega arith)
book_settles b (book.Erase c i) = settles b (operations.entry_refusals b c i) (Done, operations.with_for b c i blank) refl (omega arith)

pub screen_settles : (b : List ℕ) (o : ScreenOperation) → Settles (lent_screen o) (screen_refusals b o) Done (screen_step b o)
unfolding screen_step screen.name_of screen.inventory_of screen.inventory_refusals screen.shown operations.entry_refusals book_refusals no_name blank
screen_settles b (Name c i) = settles no_name (operations.entry_refusals b c i) (Done, name_in (operations.entry_for b c i)) refl (omega arith)
screen_settles b (Inventory k) =
    let s = settles screen.nothing_shown (screen.inventory_refusals b k) (Done, screen.shown (entry_of b k)) refl (omega arith) in
    record { number = s.number; answer = s.answer; none_holds = s.none_holds; keeps = λ h. ap listed (s.keeps h) }

-- an operation that writes no lent octets
none_lent : {S : Type 0} {before : S} {rs : Refusals} {a : Answer} {o : Answer × S} → Settles before rs a o → Settles (before, []) rs a (with_none o)
none_lent {S} s = record { number = s.number; answer = s.answer; none_holds = s.none_holds; keeps = λ h. ap (λ (x : S). (x, [])) (s.keeps h) }

pub call_settles : (b : List ℕ) (c : Call) (o : CallOperation) → Settles (c, lent_call o) (call_refusals b c o) (call_unrefused c o) (call_step b c o)
unfolding call_step open_of start_of join_of voice_by lost_of end_of announce_of next_vector_of begun_refusals join_refusals vector_refusals ladder.key_refusals ladder.zero_refusals
    voice_refusals lost_refusals end_refusals announce_refusals next_refusals
call_settles b c (Open n i r s w) = none_lent (settles c (begun_refusals receiving_end (standing c) n i r s w b) (Done, written no_counts (begun receiving_end (terms_of n (key_for b n i) r s) (session_vector n w))) refl (omega arith))
call_settles b c (Start n i r w) = none_lent (settles c (begun_refusals sending_end (standing c) n i r by_default w b) (Done, written no_counts (begun sending_end (terms_of n (key_for b n i) r by_default) (session_vector n w))) refl (omega arith))
call_settles b c (Join n i r s) = none_lent (settles c (join_refusals (standing c) n i r s b) (Done, written no_counts (joined (terms_of n (key_for b n i) r s))) refl (omega arith))
call_settles b c (Voice mask frame) =
    settles (c, frame) (voice_refusals c mask frame) (voice_after stream_of mask frame c.counts (standing c)) refl (taken-under-two (knows (standing c)))
call_settles b c Lost = none_lent (settles c (lost_refusals c) (Done, written (plus c.counts lost_words) (slot_on (standing c))) refl (omega arith))
call_settles b c End =
    let s = settles {S = Call × Counts} (c, no_counts) (end_refusals (standing c)) (Done, after_end c) refl (omega arith) in
    record { number = s.number; answer = s.answer; none_holds = s.none_holds; keeps = λ h. ap (λ (x : Call × Counts). (x.0, handed_out x.1)) (s.keeps h) }
call_settles b c (Announce w) = none_lent (settles c (announce_refusals (standing c) w) (Done, written c.counts (with_vector w (standing c))) refl (omega arith))
call_settles b c (NextVector out) =
    let s = settles out (next_refusals (standing c) out) (Done, following (standing c)) refl (omega arith) in
    record { number = s.number; answer = s.answer; none_holds = s.none_holds; keeps = λ h. ap (λ (x : List ℕ). (c, x)) (s.keeps h) }

pub packet_settles : (b : List ℕ) (p : Packet) (o : PacketOperation) → Settles (p, lent_packet o) (packet_refusals b p o) Done (packet_step b p o)
unfolding packet_step opening.open_of message.message_of message.lost_of packet.end_of opening.open_refusals vector_refusals ladder.key_refusals
    message.message_refusals message.lost_refusals packet.end_refusals
packet_settles b p (OpenPacket end kind c i w) =
    none_lent
    (settles p (opening.open_refusals p end kind c i w b) (Done, opening.new_packet kind c w (key_for b c i))
    (vector_in_table (opening.is_end end && is_kind kind) (not (packet.good_packet p)) (not (packet.is_closed p)) c i b w (eqb end opening.to_send)) (omega arith))
packet_settles b p (Message octets) =
    settles (p, octets) (message.message_refusals p octets) (Done, (message.counted p, message.message_turned p octets)) refl (omega arith)
packet_settles b p LostMessage = none_lent (settles p (message.lost_refusals p) (Done, message.counted p) refl (omega arith))
packet_settles b p EndPacket = none_lent (settles p (packet.end_refusals p) (Done, packet.no_packet) refl (omega arith))

-- ---- on a device

-- what holds of x for number m, and of f n for every other, holds of them together
pub by_number : {A : Type 0} (P : A → Type 0) (m : ℕ) (x : A) (f : ℕ → A) (n : ℕ) → (n ≡ m → P x) → ((n ≡ m → ⊥) → P (f n)) → P (with_number m x f n)
by_number {A} P m x f n its others = go (eqb n m) refl
  where
    go : (t : Bool) → eqb n m ≡ t → P (pick t x (f n))
    go true e = its (eqb-true n m e)
    go false e = others (eqb-false n m e)

-- a number's own again
pub same_number : {A : Type 0} (m : ℕ) {x : A} (f : ℕ → A) → x ≡ f m → (n : ℕ) → with_number m x f n ≡ f n
same_number {A} m {x} f e n = by_number (λ (y : A). y ≡ f n) m x f n (λ q. e ∙ ap f (sym q)) (λ q. refl)

pub answers_by_table : (d : Device) (o : Operation) → is_one_of (number_of (step d o).0) operation_numbers ≡ true
unfolding step
answers_by_table d (OfBook o) = (book_settles d.book o).number
answers_by_table d (OfScreen o) = (screen_settles d.book o).number
answers_by_table d (OfCall n o) = (call_settles d.book (d.calls n) o).number
answers_by_table d (OfPacket n o) = (packet_settles d.book (d.packets n) o).number

-- the answer is the first refusal's that holds, in their order, or else 0, or 1
pub refusals_decide : (d : Device) (o : Operation) → (step d o).0 ≡ answered (refusals_of d o) (unrefused d o)
unfolding step
refusals_decide d (OfBook o) = (book_settles d.book o).answer
refusals_decide d (OfScreen o) = (screen_settles d.book o).answer
refusals_decide d (OfCall n o) = (call_settles d.book (d.calls n) o).answer
refusals_decide d (OfPacket n o) = (packet_settles d.book (d.packets n) o).answer

pub unrefused_only : (d : Device) (o : Operation) → number_of (step d o).0 < 2 → NoneHolds (refusals_of d o)
unfolding step
unrefused_only d (OfBook o) = (book_settles d.book o).none_holds
unrefused_only d (OfScreen o) = (screen_settles d.book o).none_holds
unrefused_only d (OfCall n o) = (call_settles d.book (d.calls n) o).none_holds
unrefused_only d (OfPacket n o) = (packet_settles d.book (d.packets n) o).none_holds

pub refusal_changes_nothing : (d : Device) (o : Operation) → Refusal (step d o).0 → Same (step d o).1.0 d
unfolding step
refusal_changes_nothing d (OfBook o) h = record { book = (book_settles d.book o).keeps h; calls = λ n. refl; packets = λ n. refl }
refusal_changes_nothing d (OfScreen o) h = record { book = refl; calls = λ n. refl; packets = λ n. refl }
refusal_changes_nothing d (OfCall m o) h =
    let e = (call_settles d.book (d.calls m) o).keeps h in
    record { book = refl; calls = same_number m d.calls (ap (λ (r : Call × List ℕ). r.0) e); packets = λ n. refl }
refusal_changes_nothing d (OfPacket m o) h =
    let e = (packet_settles d.book (d.packets m) o).keeps h in
    record { book = refl; calls = λ n. refl; packets = same_number m d.packets (ap (λ (r : Packet × List ℕ). r.0) e) }

-- every other number's is as it was
others_stay : {A : Type 0} (m : ℕ) (x : A) (f : ℕ → A) (n : ℕ) → (n ≡ m → ⊥) → with_number m x f n ≡ f n
others_stay {A} m x f n q = by_number (λ (y : A). y ≡ f n) m x f n (λ e. absurd (q e)) (λ e. refl)

pub reaches_its-own : (d : Device) (o : Operation) → SameBeside o (step d o).1.0 d
unfolding step
reaches_its-own d (OfBook o) = ((λ n. refl), (λ n. refl))
reaches_its-own d (OfScreen o) = record { book = refl; calls = λ n. refl; packets = λ n. refl }
reaches_its-own d (OfCall m o) = (refl, others_stay m (call_step d.book (d.calls m) o).1.0 d.calls, (λ n. refl))
reaches_its-own d (OfPacket m o) = (refl, (λ n. refl), others_stay m (packet_step d.book (d.packets m) o).1.0 d.packets)
