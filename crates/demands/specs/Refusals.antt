-- What refuses each operation, all in one table, what it is answered else, and the order in which refusals count (document 01, "Answer numbers": "Several at once").
use Rattle.std.specs.Prelude.{Bool, true, false, List, [], ◌∷◌, ◌++◌, ℕ, eqb}
use Rattle.octets.specs.Tests.{pick}
use Rattle.answers.specs.declared.Answer.{Answer}
use Rattle.answers.specs.declared.Answer.TheVariants.{Done, Held}
use Rattle.answers.specs.Outcomes.{Refusals}
use Rattle.answers.specs.Order.{of_given, of_name, of_call, of_slots, of_book, without_zeros, opening_order}
use Rattle.keybook.specs.Operations.{begin_refusals, add_refusals, finish_refusals, entry_refusals}
use Rattle.keybook.specs.Screen.{inventory_refusals}
use Rattle.keybook.specs.History as book
use Rattle.calls.specs.declared.call.Call.{Call}
use Rattle.calls.specs.Call.{sending_end, receiving_end, by_default, standing, knows, end_refusals}
use Rattle.calls.specs.Opening.{join_refusals, begun_refusals}
use Rattle.voice.specs.Slot.{lost_refusals, voice_refusals}
use Rattle.calls.specs.Vector.{announce_refusals, next_refusals}
use Rattle.data.specs.declared.packet.Packet.{Packet}
use Rattle.data.specs.Packet as packet
use Rattle.data.specs.Opening as opening
use Rattle.data.specs.Message as message
use Rattle.nxdn.specs.Operations.{ScreenOperation, Name, Inventory, CallOperation, Open, Start, Join, Voice, Lost, End, Announce, NextVector, PacketOperation, OpenPacket, Message, LostMessage, EndPacket}
use Rattle.demands.specs.Device.{Device, Operation, OfBook, OfScreen, OfCall, OfPacket}

abbrev pub key_refusals : List ℕ → book.Operation → Refusals
key_refusals b (book.Begin c i n) = begin_refusals b c i n
key_refusals b (book.Add c i xs) = add_refusals b c i xs
key_refusals b (book.Finish c i) = finish_refusals b c i
key_refusals b (book.Erase c i) = entry_refusals b c i

abbrev pub screen_refusals : List ℕ → ScreenOperation → Refusals
screen_refusals b (Name c i) = entry_refusals b c i
screen_refusals b (Inventory k) = inventory_refusals b k

abbrev pub call_refusals : List ℕ → Call → CallOperation → Refusals
call_refusals b c (Open cipher i rate s w) = begun_refusals receiving_end (standing c) cipher i rate s w b
call_refusals b c (Start cipher i rate w) = begun_refusals sending_end (standing c) cipher i rate by_default w b
call_refusals b c (Join cipher i rate s) = join_refusals (standing c) cipher i rate s b
call_refusals b c (Voice mask frame) = voice_refusals c mask frame
call_refusals b c Lost = lost_refusals c
call_refusals b c End = end_refusals (standing c)
call_refusals b c (Announce w) = announce_refusals (standing c) w
call_refusals b c (NextVector out) = next_refusals (standing c) out

abbrev pub packet_refusals : List ℕ → Packet → PacketOperation → Refusals
packet_refusals b p (OpenPacket end kind c i w) = opening.open_refusals p end kind c i w b
packet_refusals b p (Message octets) = message.message_refusals p octets
packet_refusals b p LostMessage = message.lost_refusals p
packet_refusals b p EndPacket = packet.end_refusals p

abbrev pub refusals_of : Device → Operation → Refusals
refusals_of d (OfBook o) = key_refusals d.book o
refusals_of d (OfScreen o) = screen_refusals d.book o
refusals_of d (OfCall n o) = call_refusals d.book (d.calls n) o
refusals_of d (OfPacket n o) = packet_refusals d.book (d.packets n) o

-- what is answered where none of these holds: the operation is done, but a slot in a receiving call whose vector is unknown is held (a closed or a bad call
-- was refused before)
abbrev pub call_unrefused : Call → CallOperation → Answer
call_unrefused c (Open cipher i rate s w) = Done
call_unrefused c (Start cipher i rate w) = Done
call_unrefused c (Join cipher i rate s) = Done
call_unrefused c (Voice mask frame) = pick (knows (standing c)) Done Held
call_unrefused c Lost = Done
call_unrefused c End = Done
call_unrefused c (Announce w) = Done
call_unrefused c (NextVector out) = Done

abbrev pub unrefused : Device → Operation → Answer
unrefused d (OfBook o) = Done
unrefused d (OfScreen o) = Done
unrefused d (OfCall n o) = call_unrefused (d.calls n) o
unrefused d (OfPacket n o) = Done

-- the order of each, "where the operation can give it": an operation on the book has no call, only begin has 17, only an opening has both call and book, only
-- one that sends has 8, and only a slot has 16
abbrev pub without_call : List ℕ
without_call = of_given ++ of_book

abbrev pub begin_order : List ℕ
begin_order = of_given ++ (of_name ++ of_book)

abbrev pub without_book : List ℕ
without_book = of_given ++ of_call

abbrev pub lost_order : List ℕ
lost_order = without_book ++ of_slots

-- the paper's two exceptions: a frame's length depends on its call (document 02, W-205), so there 10, 4, 9 and 16 come before 2; and a data message's
-- on its packet, so there 4 and 9 do
abbrev pub voice_order : List ℕ
voice_order = 10 ∷ 4 ∷ 9 ∷ 16 ∷ 2 ∷ []

abbrev pub message_order : List ℕ
message_order = 4 ∷ 9 ∷ 2 ∷ []

abbrev key_order : book.Operation → List ℕ
key_order (book.Begin c i n) = begin_order
key_order (book.Add c i xs) = without_call
key_order (book.Finish c i) = without_call
key_order (book.Erase c i) = without_call

abbrev call_order : CallOperation → List ℕ
call_order (Open cipher i rate s w) = without_zeros
call_order (Start cipher i rate w) = opening_order
call_order (Join cipher i rate s) = without_zeros
call_order (Voice mask frame) = voice_order
call_order Lost = lost_order
call_order End = without_book
call_order (Announce w) = without_book
call_order (NextVector out) = without_book

abbrev packet_order : PacketOperation → List ℕ
packet_order (OpenPacket end kind c i w) = pick (eqb end opening.to_send) opening_order without_zeros
packet_order (Message octets) = message_order
packet_order LostMessage = without_book
packet_order EndPacket = without_book

abbrev pub order_of : Operation → List ℕ
order_of (OfBook o) = key_order o
order_of (OfScreen o) = without_call
order_of (OfCall n o) = call_order o
order_of (OfPacket n o) = packet_order o

-- a begin
abbrev pub is_begin : Operation → Bool
is_begin (OfBook (book.Begin c i n)) = true
is_begin (OfBook (book.Add c i xs)) = false
is_begin (OfBook (book.Finish c i)) = false
is_begin (OfBook (book.Erase c i)) = false
is_begin (OfScreen o) = false
is_begin (OfCall n o) = false
is_begin (OfPacket n o) = false

-- an erase
abbrev pub is_erase : Operation → Bool
is_erase (OfBook (book.Begin c i n)) = false
is_erase (OfBook (book.Add c i xs)) = false
is_erase (OfBook (book.Finish c i)) = false
is_erase (OfBook (book.Erase c i)) = true
is_erase (OfScreen o) = false
is_erase (OfCall n o) = false
is_erase (OfPacket n o) = false

-- a slot, arrived or lost
abbrev pub is_slot : Operation → Bool
is_slot (OfBook o) = false
is_slot (OfScreen o) = false
is_slot (OfCall n (Open c i r m w)) = false
is_slot (OfCall n (Start c i r w)) = false
is_slot (OfCall n (Join c i r m)) = false
is_slot (OfCall n (Voice mask frame)) = true
is_slot (OfCall n Lost) = true
is_slot (OfCall n End) = false
is_slot (OfCall n (Announce w)) = false
is_slot (OfCall n (NextVector out)) = false
is_slot (OfPacket n o) = false
