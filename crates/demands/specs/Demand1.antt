-- Demand 1, of any device: every operation answers by the table for all lent octets and numbers; what is wrong or not in time is refused, and a refusal
-- changes nothing; an operation reaches only what it is for; and no key that isn't completely loaded ever touches a word or a message. (That each ends is
-- part of every proof of code.)
use Rattle.std.specs.Prelude.{◌≡◌, List, [], ◌∷◌, ◌++◌, Bool, true, false, ◌&&◌, ◌⊎◌, ℕ, ◌≤◌, ◌<◌, eqb, length, replicate}
use Rattle.answers.specs.declared.Answer.TheVariants.{Done}
use Rattle.answers.specs.Numbers.{number_of, is_done, is_one_of, operation_numbers}
use Rattle.keyentry.specs.Name.{IsName}
use Rattle.keybook.specs.Book.{good_book}
use Rattle.keybook.specs.History as book
use Rattle.keybook.specs.History.{Told}
use Rattle.calls.specs.declared.call.Call.{Call}
use Rattle.calls.specs.Counts.{total}
use Rattle.voice.specs.Slot.{stream_of, in_slot}
use Rattle.calls.specs.Call.{closed_end, sending_end, receiving_end, unknown_vector, carried_vector, good_call}
use Rattle.data.specs.declared.packet.Packet.{Packet}
use Rattle.data.specs.Kinds.{message_octets}
use Rattle.data.specs.Packet.{good_packet}
use Rattle.data.specs.Message.{message_turned}
use Rattle.demands.specs.Rates.{layout}
use Rattle.nxdn.specs.Operations.{ScreenOperation, Name, Inventory, CallOperation, Open, Start, Join, Voice, Lost, End, Announce, NextVector, PacketOperation, OpenPacket, Message, LostMessage, EndPacket}
use Rattle.demands.specs.Device.{Device, Operation, OfBook, OfScreen, OfCall, OfPacket, Step, lent, History, device_after, history, key_operations}

-- ---- what an operation has to be given, or it is refused: lengths, numbers, the book where it reads it, and what it is for

-- a good book of 832 octets, a cipher type of 1 to 3 and a key ID of at most 63
pub record Keyed (b : List ℕ) (c i : ℕ) : Type 0 where
  pub long : length b ≡ 832
  pub good : good_book b ≡ true
  pub cipher : (1 ≤ c) × (c ≤ 3)
  pub id : i ≤ 63

-- begin is given a name, 16 octets, printable ASCII padded at its end with zeros (document 02, W-201), and add at most 32 octets
abbrev pub RightBook : List ℕ → book.Operation → Type 0
RightBook b (book.Begin c i n) = Keyed b c i × IsName n
RightBook b (book.Add c i xs) = Keyed b c i × (length xs ≤ 32)
RightBook b (book.Finish c i) = Keyed b c i
RightBook b (book.Erase c i) = Keyed b c i

-- the inventory is of entries 0 to 15
abbrev pub RightScreen : List ℕ → ScreenOperation → Type 0
RightScreen b (Name c i) = Keyed b c i
RightScreen b (Inventory k) = (length b ≡ 832) × (k ≤ 15) × (good_book b ≡ true)

-- with DES or AES a sender's vector is not all zero
abbrev pub NotZeros : ℕ → List ℕ → Type 0
NotZeros c w = (c ≡ 1 → ⊥) → w ≡ replicate 8 0 → ⊥

-- a rate is 0 or 1, and so is a strictness, a vector has 8 octets, a mask is at most 15, and a frame has 28 octets, or at full rate 36
abbrev pub RightCall : List ℕ → Call → CallOperation → Type 0
RightCall b c (Open cipher i rate strictness w) = Keyed b cipher i × (rate ≤ 1) × (strictness ≤ 1) × (length w ≡ 8) × (good_call c ≡ true)
RightCall b c (Start cipher i rate w) = Keyed b cipher i × (rate ≤ 1) × (length w ≡ 8) × NotZeros cipher w × (good_call c ≡ true)
RightCall b c (Join cipher i rate strictness) = Keyed b cipher i × (rate ≤ 1) × (strictness ≤ 1) × (good_call c ≡ true)
RightCall b c (Voice mask frame) = (mask ≤ 15) × (good_call c ≡ true) × (length frame ≡ (layout c.terms.rate).frame)
RightCall b c Lost = good_call c ≡ true
RightCall b c End = good_call c ≡ true
RightCall b c (Announce w) = (length w ≡ 8) × (good_call c ≡ true)
RightCall b c (NextVector out) = (length out ≡ 8) × (good_call c ≡ true)

-- a packet is opened to receive, 0, or to send, 1; a message kind is 1 to 4, and a message has the length of its packet's kind
abbrev pub RightPacket : List ℕ → Packet → PacketOperation → Type 0
RightPacket b p (OpenPacket end kind c i w) =
    Keyed b c i × (end ≤ 1) × ((1 ≤ kind) × (kind ≤ 4)) × (length w ≡ 8) × (end ≡ 1 → NotZeros c w) × (good_packet p ≡ true)
RightPacket b p (Message octets) = (length octets ≡ message_octets p.kind) × (good_packet p ≡ true)
RightPacket b p LostMessage = good_packet p ≡ true
RightPacket b p EndPacket = good_packet p ≡ true

abbrev pub RightInput : Device → Operation → Type 0
RightInput d (OfBook o) = RightBook d.book o
RightInput d (OfScreen o) = RightScreen d.book o
RightInput d (OfCall n o) = RightCall d.book (d.calls n) o
RightInput d (OfPacket n o) = RightPacket d.book (d.packets n) o

-- ---- when it is time for it, or it is refused

-- a receiver was told no vector of its session: a strict one's is unknown, and one's by default is unknown or carried
abbrev pub NotTold : Call → Type 0
NotTold c = (c.known ≡ unknown_vector) ⊎ ((c.known ≡ carried_vector) × (c.terms.strictness ≡ 0))

-- it was told of fewer than 1,000,000 slots, four words to each (document 02, W-207)
abbrev pub BelowLimit : Call → Type 0
BelowLimit c = total c.counts < 4000000

-- open, join and start while no call stands, the others while one does; a receiver is told of no slot past its limit, and a sender has none; a lost slot and
-- announce are a receiver's, and announce is right only for DES or AES at position 0, where no vector was told; next vector is a sender's, for DES or AES
abbrev pub TimeOfCall : Call → CallOperation → Type 0
TimeOfCall c (Open cipher i rate strictness w) = c.end ≡ closed_end
TimeOfCall c (Start cipher i rate w) = c.end ≡ closed_end
TimeOfCall c (Join cipher i rate strictness) = c.end ≡ closed_end
TimeOfCall c (Voice mask frame) = (c.end ≡ closed_end → ⊥) × (c.end ≡ receiving_end → BelowLimit c)
TimeOfCall c Lost = (c.end ≡ receiving_end) × BelowLimit c
TimeOfCall c End = c.end ≡ closed_end → ⊥
TimeOfCall c (Announce w) = (c.end ≡ receiving_end) × (c.terms.cipher ≡ 1 → ⊥) × (c.position ≡ 0) × NotTold c
TimeOfCall c (NextVector out) = (c.end ≡ sending_end) × (c.terms.cipher ≡ 1 → ⊥)

-- opening while there is no packet, the others with one, and no message past the 1,000th
abbrev pub TimeOfPacket : Packet → PacketOperation → Type 0
TimeOfPacket p (OpenPacket end kind c i w) = p.kind ≡ 0
TimeOfPacket p (Message octets) = (p.kind ≡ 0 → ⊥) × (p.count < 1000)
TimeOfPacket p LostMessage = (p.kind ≡ 0 → ⊥) × (p.count < 1000)
TimeOfPacket p EndPacket = p.kind ≡ 0 → ⊥

-- keys may be loaded, erased and looked through at any time
abbrev pub InTime : Device → Operation → Type 0
InTime d (OfBook o) = Unit {0}
InTime d (OfScreen o) = Unit {0}
InTime d (OfCall n o) = TimeOfCall (d.calls n) o
InTime d (OfPacket n o) = TimeOfPacket (d.packets n) o

-- ---- what it reaches

-- book, calls and packets are the same
pub record Same (d e : Device) : Type 0 where
  pub book : d.book ≡ e.book
  pub calls : (n : ℕ) → d.calls n ≡ e.calls n
  pub packets : (n : ℕ) → d.packets n ≡ e.packets n

-- all but what the operation is for is the same: the book, or the call, or packet, of its number; what only looks is for none of them
abbrev pub SameBeside : Operation → Device → Device → Type 0
SameBeside (OfBook o) d e = ((n : ℕ) → d.calls n ≡ e.calls n) × ((n : ℕ) → d.packets n ≡ e.packets n)
SameBeside (OfScreen o) d e = Same d e
SameBeside (OfCall m o) d e = (d.book ≡ e.book) × ((n : ℕ) → (n ≡ m → ⊥) → d.calls n ≡ e.calls n) × ((n : ℕ) → d.packets n ≡ e.packets n)
SameBeside (OfPacket m o) d e = (d.book ≡ e.book) × ((n : ℕ) → d.calls n ≡ e.calls n) × ((n : ℕ) → (n ≡ m → ⊥) → d.packets n ≡ e.packets n)

-- ---- what may be held

-- a voice slot in a receiving call whose session vector is unknown
pub data Unknown (d : Device) : Operation → Type 0 where
  slot : (n mask : ℕ) (frame : List ℕ) → (d.calls n).end ≡ receiving_end → (d.calls n).known ≡ unknown_vector → Unknown d (OfCall n (Voice mask frame))

-- ---- which key it is

-- the operation opens call n at a rate and with a strictness, which a sender's is 0, or packet n for a kind, with cipher c and key ID i
pub data OpensCall (n : ℕ) (ways : ℕ × ℕ) (c i : ℕ) : Operation → Type 0 where
  by-open : (w : List ℕ) → OpensCall n ways c i (OfCall n (Open c i ways.0 ways.1 w))
  by-start : (w : List ℕ) → ways.1 ≡ 0 → OpensCall n ways c i (OfCall n (Start c i ways.0 w))
  by-join : OpensCall n ways c i (OfCall n (Join c i ways.0 ways.1))

pub data OpensPacket (n kind c i : ℕ) : Operation → Type 0 where
  by-opening : (end : ℕ) (w : List ℕ) → OpensPacket n kind c i (OfPacket n (OpenPacket end kind c i w))

-- it opens or ends call n, or packet n
abbrev pub opens_or_ends : CallOperation → Bool
opens_or_ends (Open c i r s w) = true
opens_or_ends (Start c i r w) = true
opens_or_ends (Join c i r s) = true
opens_or_ends (Voice mask frame) = false
opens_or_ends Lost = false
opens_or_ends End = true
opens_or_ends (Announce w) = false
opens_or_ends (NextVector out) = false

abbrev pub opens_or_ends_packet : PacketOperation → Bool
opens_or_ends_packet (OpenPacket end kind c i w) = true
opens_or_ends_packet (Message octets) = false
opens_or_ends_packet LostMessage = false
opens_or_ends_packet EndPacket = true

abbrev pub renews_call : ℕ → Operation → Bool
renews_call n (OfBook o) = false
renews_call n (OfScreen o) = false
renews_call n (OfCall m o) = eqb m n && opens_or_ends o
renews_call n (OfPacket m o) = false

abbrev pub renews_packet : ℕ → Operation → Bool
renews_packet n (OfBook o) = false
renews_packet n (OfScreen o) = false
renews_packet n (OfCall m o) = false
renews_packet n (OfPacket m o) = eqb m n && opens_or_ends_packet o

-- no operation of these was done in a history
abbrev pub NoneDone : (Operation → Bool) → History → Type 0
NoneDone renews [] = Unit {0}
NoneDone renews (h ∷ hs) = ((is_done h.1 && renews h.0) ≡ false) × NoneDone renews hs

-- the history has an opening that was done, for what it fixed, a call's rate and strictness or a packet's kind, by cipher c and some key ID, and that still
-- stands; when it was done, the key operations told of key k: exactly the octets that were added to that cipher and key ID since the begin that took its
-- entry, in order, as many as the cipher's key length, allowed, and a finish was done. What key operations came since does not matter
pub record Loaded {F : Type 0} (opens : F → ℕ → ℕ → Operation → Type 0) (renews : Operation → Bool) (h : History) (f : F) (c : ℕ) (k : List ℕ) : Type 0 where
  pub id : ℕ
  pub opening : Operation
  pub since : History
  pub before : History
  pub is-history : h ≡ since ++ ((opening, Done) ∷ before)
  pub opens_it : opens f c id opening
  pub still_stands : NoneDone renews since
  pub told : Told (key_operations before) c id k

-- a word: the frame after a slot that was done is turned by the keystream of the call as it stood, and its key was loaded, for its rate and strictness
pub record WordsTurned (h : History) (n : ℕ) (c : Call) (mask : ℕ) (frame after : List ℕ) : Type 0 where
  pub turned : after ≡ in_slot stream_of mask frame c
  pub loaded : Loaded (OpensCall n) (renews_call n) h (c.terms.rate, c.terms.strictness) c.terms.cipher c.terms.key

-- a message, and its packet's kind
pub record MessageTurned (h : History) (n : ℕ) (p : Packet) (message after : List ℕ) : Type 0 where
  pub turned : after ≡ message_turned p message
  pub loaded : Loaded (OpensPacket n) (renews_packet n) h p.kind p.cipher p.key

-- ---- the demand

pub record Demand1 (st : Step) : Type 0 where
  -- on every device, good or bad: the answer is a number of the table that an operation can give
  pub answers : (d : Device) (o : Operation) → is_one_of (number_of (st d o).0) operation_numbers ≡ true
  -- what is not right is refused
  pub refused : (d : Device) (o : Operation) → (RightInput d o → ⊥) → 2 ≤ number_of (st d o).0
  -- and so is what is not in time
  pub untimely : (d : Device) (o : Operation) → (InTime d o → ⊥) → 2 ≤ number_of (st d o).0
  -- any answer but 0 and 1 leaves the device as it was
  pub changes_nothing : (d : Device) (o : Operation) → 2 ≤ number_of (st d o).0 → Same (st d o).1.0 d
  -- any but 0 leaves the lent octets as they came, and where something is handed out it is zeros
  pub untouched : (d : Device) (o : Operation) → (number_of (st d o).0 ≡ 0 → ⊥) → (st d o).1.1 ≡ lent o
  -- only a slot whose vector is unknown is held, and no such slot is done: what was not opened is not handed out as opened
  pub held : (d : Device) (o : Operation) → number_of (st d o).0 ≡ 1 → Unknown d o
  pub unopened : (d : Device) (o : Operation) → Unknown d o → number_of (st d o).0 ≡ 0 → ⊥
  -- an operation reaches only what it is for: a key operation, erase too, no call and no packet
  pub apart : (d : Device) (o : Operation) → SameBeside o (st d o).1.0 d
  -- over every list of operations from an all-zero book with no call and no packet: whenever words are turned, and whenever a message is
  pub words : (os : List Operation) (n mask : ℕ) (frame : List ℕ) → number_of (st (device_after st os) (OfCall n (Voice mask frame))).0 ≡ 0
      → WordsTurned (history st os) n ((device_after st os).calls n) mask frame (st (device_after st os) (OfCall n (Voice mask frame))).1.1
  pub messages : (os : List Operation) (n : ℕ) (message : List ℕ) → number_of (st (device_after st os) (OfPacket n (Message message))).0 ≡ 0
      → MessageTurned (history st os) n ((device_after st os).packets n) message (st (device_after st os) (OfPacket n (Message message))).1.1
