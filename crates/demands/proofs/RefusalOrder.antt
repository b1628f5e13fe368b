-- Every operation's refusals stand in the order in which document 01 has them count, whatever the device, and it answers by no others.
use mathlib.Core.Path.{◌≡◌, refl, sym, ◌∙◌}
use mathlib.Core.Bool.{true, false, ◌&&◌, not, Bool}
use mathlib.Core.List.{List, [], ◌∷◌}
use Prim.Native.Nat.{ℕ, ◌≤◌, ◌<◌}
use native.Mathlib.Omega.{arith}
use lib.Dec.{eqb}
use lib.ListN.{length}
use borrow.Author.Tests.{eq-eqb}
use Rattle.octets.specs.Tests.{pick}
use Rattle.answers.specs.declared.Answer.{Answer}
use Rattle.answers.specs.declared.Answer.TheVariants.{NotNow}
use Rattle.answers.specs.Numbers.{number_of, is_one_of}
use Rattle.answers.specs.Outcomes.{answered}
use Rattle.answers.specs.Order.{refusal_order, without_zeros, opening_order, numbers_of, in_order}
use Rattle.answers.proofs.OrderLaws.{of_its_order}
use Rattle.keyentry.specs.Entry.{in_range, extend_refusals, complete_refusals}
use Rattle.keybook.specs.Book.{book_octets, book_refusals}
use Rattle.keybook.specs.Operations.{begin_refusals, add_refusals, finish_refusals, entry_refusals, not_ready, ready_refusals}
use Rattle.keybook.specs.Screen.{inventory_refusals}
use Rattle.keybook.specs.History as book
use Rattle.sizes.specs.Ciphers.{vector_octets}
use Rattle.openings.specs.Ladder.{key_refusals, zero_refusals, vector_refusals}
use Rattle.openings.proofs.LadderLaws.{key_in_order, vector_in_order}
use Rattle.calls.specs.Call.{sending_end, receiving_end, by_default, terms_right, Standing, standing, is_bad, stands, end_refusals, knows}
use Rattle.calls.specs.Opening.{join_refusals, begun_refusals}
use Rattle.voice.specs.Slot.{lost_refusals, voice_refusals}
use Rattle.calls.specs.Vector.{announce_refusals, next_refusals}
use Rattle.voice.proofs.SlotLaws.{taken-under-two}
use Rattle.data.specs.declared.packet.Packet.{Packet}
use Rattle.data.specs.Kinds.{is_kind}
use Rattle.data.specs.Packet as packet
use Rattle.data.specs.Opening as opening
use Rattle.data.specs.Message as message
use Rattle.nxdn.specs.Operations.{Name, Inventory, Open, Start, Join, Voice, Lost, End, Announce, NextVector, OpenPacket, Message, LostMessage, EndPacket}
use Rattle.demands.specs.Device.{Device, Operation, OfBook, OfScreen, OfCall, OfPacket, step}
use Rattle.demands.proofs.DeviceLaws.{refusals_decide}
use Rattle.demands.specs.Refusals.{refusals_of, without_call, begin_order, voice_order, order_of, unrefused, without_book, lost_order, is_begin, is_slot}

-- open and start
begun_in_order : (end : ℕ) (s : Standing) (c i r m : ℕ) (w b : List ℕ)
    → in_order (pick (eqb end sending_end) opening_order without_zeros) (numbers_of (begun_refusals end s c i r m w b)) ≡ true
unfolding begun_refusals
begun_in_order end s c i r m w b = vector_in_order (terms_right end r m) (is_bad s) (stands s) c i b w (eqb end sending_end)

pub in_order_lem : (d : Device) (o : Operation) → in_order (order_of o) (numbers_of (refusals_of d o)) ≡ true
unfolding begin_refusals add_refusals finish_refusals entry_refusals book_refusals inventory_refusals extend_refusals complete_refusals join_refusals voice_refusals lost_refusals
    end_refusals announce_refusals next_refusals opening.open_refusals message.message_refusals message.lost_refusals packet.end_refusals
in_order_lem d (OfBook (book.Begin c i name)) = refl
in_order_lem d (OfBook (book.Add c i xs)) = refl
in_order_lem d (OfBook (book.Finish c i)) = refl
in_order_lem d (OfBook (book.Erase c i)) = refl
in_order_lem d (OfScreen (Name c i)) = refl
in_order_lem d (OfScreen (Inventory k)) = refl
in_order_lem d (OfCall n (Open c i r m w)) = begun_in_order receiving_end (standing (d.calls n)) c i r m w d.book
in_order_lem d (OfCall n (Start c i r w)) = begun_in_order sending_end (standing (d.calls n)) c i r by_default w d.book
in_order_lem d (OfCall n (Join c i r m)) =
    let s = standing (d.calls n) in
    key_in_order (terms_right receiving_end r m) (is_bad s) (stands s) c i d.book
in_order_lem d (OfCall n (Voice mask frame)) = refl
in_order_lem d (OfCall n Lost) = refl
in_order_lem d (OfCall n End) = refl
in_order_lem d (OfCall n (Announce w)) = refl
in_order_lem d (OfCall n (NextVector out)) = refl
in_order_lem d (OfPacket n (OpenPacket end kind c i w)) =
    let p = d.packets n in
    vector_in_order (opening.is_end end && is_kind kind) (not (packet.good_packet p)) (not (packet.is_closed p)) c i d.book w (eqb end opening.to_send)
in_order_lem d (OfPacket n (Message octets)) = refl
in_order_lem d (OfPacket n LostMessage) = refl
in_order_lem d (OfPacket n EndPacket) = refl

-- these orders are parts of the one order, but for the two exceptions
pub one_order : (in_order refusal_order opening_order ≡ true) × (in_order refusal_order without_zeros ≡ true) × (in_order refusal_order without_call ≡ true)
    × (in_order refusal_order begin_order ≡ true) × (in_order refusal_order without_book ≡ true) × (in_order refusal_order lost_order ≡ true)
one_order = (refl, refl, refl, refl, refl, refl)

-- ---- an operation answers nothing from outside its order, 16 is a slot's alone, and 17 begin's

unrefused-under : (d : Device) (o : Operation) → number_of (unrefused d o) < 2
unrefused-under d (OfBook o) = omega arith
unrefused-under d (OfScreen o) = omega arith
unrefused-under d (OfCall n (Open c i r m w)) = omega arith
unrefused-under d (OfCall n (Start c i r w)) = omega arith
unrefused-under d (OfCall n (Join c i r m)) = omega arith
unrefused-under d (OfCall n (Voice mask frame)) = taken-under-two (knows (standing (d.calls n)))
unrefused-under d (OfCall n Lost) = omega arith
unrefused-under d (OfCall n End) = omega arith
unrefused-under d (OfCall n (Announce w)) = omega arith
unrefused-under d (OfCall n (NextVector out)) = omega arith
unrefused-under d (OfPacket n o) = omega arith

pub only_its-own : (d : Device) (o : Operation) → 2 ≤ number_of (step d o).0 → is_one_of (number_of (step d o).0) (order_of o) ≡ true
only_its-own d o h =
    let e = refusals_decide d o in
    rw e (of_its_order (order_of o) (refusals_of d o) (unrefused d o) (in_order_lem d o) (unrefused-under d o) (rw e at h))

-- where 16 and 17 stand in an operation's order
its_numbers : (o : Operation) → (is_one_of 16 (order_of o) ≡ is_slot o) × (is_one_of 17 (order_of o) ≡ is_begin o)
its_numbers (OfBook (book.Begin c i name)) = (refl, refl)
its_numbers (OfBook (book.Add c i xs)) = (refl, refl)
its_numbers (OfBook (book.Finish c i)) = (refl, refl)
its_numbers (OfBook (book.Erase c i)) = (refl, refl)
its_numbers (OfScreen o) = (refl, refl)
its_numbers (OfCall n (Open c i r m w)) = (refl, refl)
its_numbers (OfCall n (Start c i r w)) = (refl, refl)
its_numbers (OfCall n (Join c i r m)) = (refl, refl)
its_numbers (OfCall n (Voice mask frame)) = (refl, refl)
its_numbers (OfCall n Lost) = (refl, refl)
its_numbers (OfCall n End) = (refl, refl)
its_numbers (OfCall n (Announce w)) = (refl, refl)
its_numbers (OfCall n (NextVector out)) = (refl, refl)
its_numbers (OfPacket n (OpenPacket end kind c i w)) = go (eqb end opening.to_send)
  where
    go : (b : Bool) → (is_one_of 16 (pick b opening_order without_zeros) ≡ false) × (is_one_of 17 (pick b opening_order without_zeros) ≡ false)
    go true = (refl, refl)
    go false = (refl, refl)
its_numbers (OfPacket n (Message octets)) = (refl, refl)
its_numbers (OfPacket n LostMessage) = (refl, refl)
its_numbers (OfPacket n EndPacket) = (refl, refl)

pub slots-alone : (d : Device) (o : Operation) → number_of (step d o).0 ≡ 16 → is_slot o ≡ true
slots-alone d o e = sym (its_numbers o).0 ∙ (rw e at (only_its-own d o (omega (arith, e))))

pub begins-alone : (d : Device) (o : Operation) → number_of (step d o).0 ≡ 17 → is_begin o ≡ true
begins-alone d o e = sym (its_numbers o).1 ∙ (rw e at (only_its-own d o (omega (arith, e))))

-- begin, and what a screen shows, in full
pub begin_order_lem : (d : Device) (c i : ℕ) (name : List ℕ) → numbers_of (refusals_of d (OfBook (book.Begin c i name))) ≡ 2 ∷ 2 ∷ 3 ∷ 17 ∷ 4 ∷ 11 ∷ 12 ∷ []
unfolding begin_refusals
begin_order_lem d c i name = refl

pub screen_orders : (d : Device) (c i k : ℕ) → (numbers_of (refusals_of d (OfScreen (Name c i))) ≡ 2 ∷ 3 ∷ 4 ∷ 5 ∷ [])
    × (numbers_of (refusals_of d (OfScreen (Inventory k))) ≡ 2 ∷ 3 ∷ 4 ∷ [])
unfolding entry_refusals book_refusals inventory_refusals
screen_orders d c i k = (refl, refl)

-- the openings with a vector and announce, in full: 8 is a sender's alone
pub vector_orders : (d : Device) (n kind c i r m : ℕ) (w : List ℕ)
    → (numbers_of (refusals_of d (OfCall n (Open c i r m w))) ≡ 2 ∷ 2 ∷ 3 ∷ 4 ∷ 9 ∷ 4 ∷ 5 ∷ 6 ∷ [])
    × (numbers_of (refusals_of d (OfCall n (Start c i r w))) ≡ 2 ∷ 2 ∷ 3 ∷ 4 ∷ 9 ∷ 4 ∷ 5 ∷ 6 ∷ 8 ∷ [])
    × (numbers_of (refusals_of d (OfCall n (Announce w))) ≡ 2 ∷ 4 ∷ 9 ∷ [])
    × (numbers_of (refusals_of d (OfPacket n (OpenPacket 0 kind c i w))) ≡ 2 ∷ 2 ∷ 3 ∷ 4 ∷ 9 ∷ 4 ∷ 5 ∷ 6 ∷ [])
    × (numbers_of (refusals_of d (OfPacket n (OpenPacket 1 kind c i w))) ≡ 2 ∷ 2 ∷ 3 ∷ 4 ∷ 9 ∷ 4 ∷ 5 ∷ 6 ∷ 8 ∷ [])
unfolding begun_refusals opening.open_refusals vector_refusals key_refusals zero_refusals announce_refusals
vector_orders d n kind c i r m w = (refl, refl, refl, refl, refl)

-- a lost slot, in full
pub lost_order_lem : (d : Device) (n : ℕ) → numbers_of (refusals_of d (OfCall n Lost)) ≡ 4 ∷ 9 ∷ 16 ∷ []
unfolding lost_refusals
lost_order_lem d n = refl

-- the two exceptions are all of their own lists
pub voice_order_lem : (d : Device) (n mask : ℕ) (frame : List ℕ) → numbers_of (refusals_of d (OfCall n (Voice mask frame))) ≡ 10 ∷ 4 ∷ 9 ∷ 16 ∷ 2 ∷ []
unfolding voice_refusals
voice_order_lem d n mask frame = refl

pub message_order_lem : (d : Device) (n : ℕ) (octets : List ℕ) → numbers_of (refusals_of d (OfPacket n (Message octets))) ≡ 4 ∷ 9 ∷ 2 ∷ []
unfolding message.message_refusals message.lost_refusals
message_order_lem d n octets = refl

-- and so do those of the ready key
pub ready_in_order : (b : List ℕ) (c i : ℕ) → in_order without_call (numbers_of (ready_refusals b c i)) ≡ true
unfolding ready_refusals book_refusals not_ready
ready_in_order b c i = refl

-- ---- the two 4s

-- the test is of numbers, and an opening has 4 twice: with 9 between them, the one after it is the book's. What stands is 9, whatever the book holds
module _ (c i : ℕ) (b : List ℕ) (long : length b ≡ 832) (in_range_lem : in_range c i ≡ true) where
  module _ (r m : ℕ) (s : Standing) (good : is_bad s ≡ false) (there : stands s ≡ true) where
    pub busy_join : terms_right receiving_end r m ≡ true → (a : Answer) → answered (join_refusals s c i r m b) a ≡ NotNow
    unfolding join_refusals key_refusals
    busy_join right a = rw (eq-eqb (length b) book_octets long, right, in_range_lem, good, there)

    pub busy-begun : (end : ℕ) → terms_right end r m ≡ true → (w : List ℕ) → length w ≡ 8 → (a : Answer) → answered (begun_refusals end s c i r m w b) a ≡ NotNow
    unfolding begun_refusals vector_refusals key_refusals
    busy-begun end right w l a = rw (eq-eqb (length w) vector_octets l, eq-eqb (length b) book_octets long, right, in_range_lem, good, there)

  pub busy-packet : (p : Packet) → packet.good_packet p ≡ true → packet.is_closed p ≡ false → (end kind : ℕ) → (opening.is_end end && is_kind kind) ≡ true → (w : List ℕ)
      → length w ≡ 8 → (a : Answer) → answered (opening.open_refusals p end kind c i w b) a ≡ NotNow
  unfolding opening.open_refusals vector_refusals key_refusals
  busy-packet p good there end kind k w l a = rw (eq-eqb (length w) vector_octets l, eq-eqb (length b) book_octets long, k, in_range_lem, good, there)

-- ---- what the test throws out

-- an opening that asks whether a call stands before whether it is bad, or for a good book before whether a call stands; and a slot that asks for its
-- length first, or in the middle, or whether a call stands before whether it is bad, or for the limit before that or after its length; and a begin that asks for the name
-- before the range, or after the book
pub wrong_orders : (in_order opening_order (2 ∷ 2 ∷ 3 ∷ 9 ∷ 4 ∷ 4 ∷ 5 ∷ 6 ∷ 8 ∷ []) ≡ false)
    × (in_order opening_order (2 ∷ 2 ∷ 3 ∷ 4 ∷ 4 ∷ 9 ∷ 5 ∷ 6 ∷ 8 ∷ []) ≡ false)
    × (in_order voice_order (2 ∷ 10 ∷ 4 ∷ 9 ∷ []) ≡ false)
    × (in_order voice_order (10 ∷ 2 ∷ 4 ∷ 9 ∷ []) ≡ false)
    × (in_order voice_order (10 ∷ 4 ∷ 2 ∷ 9 ∷ []) ≡ false)
    × (in_order voice_order (10 ∷ 9 ∷ 4 ∷ 2 ∷ []) ≡ false)
    × (in_order voice_order (10 ∷ 4 ∷ 16 ∷ 9 ∷ 2 ∷ []) ≡ false)
    × (in_order voice_order (10 ∷ 4 ∷ 9 ∷ 2 ∷ 16 ∷ []) ≡ false)
    × (in_order lost_order (4 ∷ 16 ∷ 9 ∷ []) ≡ false)
    × (in_order begin_order (2 ∷ 2 ∷ 17 ∷ 3 ∷ 4 ∷ 11 ∷ 12 ∷ []) ≡ false)
    × (in_order begin_order (2 ∷ 2 ∷ 3 ∷ 4 ∷ 17 ∷ 11 ∷ 12 ∷ []) ≡ false)
wrong_orders = (refl, refl, refl, refl, refl, refl, refl, refl, refl, refl, refl)
