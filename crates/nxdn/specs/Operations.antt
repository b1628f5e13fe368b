-- Every operation of documents 01 and 02 on a book, a call and a packet, with all that it is given: what it answers and leaves, and the octets that it may
-- write, or what it hands out. (The key operations are keybook's.)
use Rattle.std.specs.Prelude.{List, [], ◌∷◌, ℕ, replicate}
use Rattle.octets.specs.Tests.{pick}
use Rattle.answers.specs.declared.Answer.{Answer}
use Rattle.keybook.specs.declared.screen.Shown.{Shown}
use Rattle.keybook.specs.Screen.{name_of, inventory_of}
use Rattle.calls.specs.declared.counts.Counts.{Counts}
use Rattle.calls.specs.declared.call.Call.{Call}
use Rattle.calls.specs.Counts.{no_counts}
use Rattle.calls.specs.Call.{end_of}
use Rattle.calls.specs.Opening.{open_of, start_of, join_of}
use Rattle.voice.specs.Slot.{lost_of, voice_of}
use Rattle.calls.specs.Vector.{announce_of, next_vector_of}
use Rattle.data.specs.declared.packet.Packet.{Packet}
use Rattle.data.specs.Packet as packet
use Rattle.data.specs.Opening as opening
use Rattle.data.specs.Message as message

module _ {S : Type 0} where
  -- an outcome of an operation that writes no lent octets
  abbrev pub with_none : Answer × S → Answer × (S × List ℕ)
  with_none o = (o.0, (o.1, []))

-- ---- on what a screen shows of the book (document 02, W-201)

pub data ScreenOperation : Type 0 where
  -- cipher and key ID
  Name : ℕ → ℕ → ScreenOperation
  -- the entry's number
  Inventory : ℕ → ScreenOperation

-- what the inventory hands out, in this order
abbrev pub listed : Shown → List ℕ
listed s = s.cipher ∷ s.id ∷ s.loaded ∷ pick s.ready 1 0 ∷ s.name

unfoldable pub screen_step : List ℕ → ScreenOperation → Answer × List ℕ
screen_step b (Name c i) = name_of b c i
screen_step b (Inventory k) = let o = inventory_of b k in (o.0, listed o.1)

-- where it isn't done it hands out zeros
abbrev pub lent_screen : ScreenOperation → List ℕ
lent_screen (Name c i) = replicate 16 0
lent_screen (Inventory k) = replicate 20 0

-- ---- on a call

pub data CallOperation : Type 0 where
  -- cipher, key ID, rate, strictness and vector
  Open : ℕ → ℕ → ℕ → ℕ → List ℕ → CallOperation
  -- cipher, key ID, rate and vector
  Start : ℕ → ℕ → ℕ → List ℕ → CallOperation
  -- cipher, key ID, rate and strictness
  Join : ℕ → ℕ → ℕ → ℕ → CallOperation
  -- mask and frame
  Voice : ℕ → List ℕ → CallOperation
  Lost End : CallOperation
  -- vector
  Announce : List ℕ → CallOperation
  -- the octets that take the next vector
  NextVector : List ℕ → CallOperation

-- what end hands out, in this order; zeros where it isn't done
abbrev pub handed_out : Counts → List ℕ
handed_out n = n.opened ∷ n.held ∷ n.replaced ∷ n.lost ∷ []

module _ (b : List ℕ) (c : Call) where
  unfoldable pub call_step : CallOperation → Answer × (Call × List ℕ)
  call_step (Open cipher i rate strictness w) = with_none (open_of c cipher i rate strictness w b)
  call_step (Start cipher i rate w) = with_none (start_of c cipher i rate w b)
  call_step (Join cipher i rate strictness) = with_none (join_of c cipher i rate strictness b)
  call_step (Voice mask frame) = voice_of c mask frame
  call_step Lost = with_none (lost_of c)
  call_step End = let o = end_of c in (o.0, (o.1.0, handed_out o.1.1))
  call_step (Announce w) = with_none (announce_of c w)
  call_step (NextVector out) = let o = next_vector_of c out in (o.0, (c, o.1))

-- before it; end is lent nothing, and what it hands out where it isn't done is zeros
abbrev pub lent_call : CallOperation → List ℕ
lent_call (Open c i r s w) = []
lent_call (Start c i r w) = []
lent_call (Join c i r s) = []
lent_call (Voice mask frame) = frame
lent_call Lost = []
lent_call End = handed_out no_counts
lent_call (Announce w) = []
lent_call (NextVector out) = out

-- ---- on a packet

pub data PacketOperation : Type 0 where
  -- end, kind, cipher, key ID and vector
  OpenPacket : ℕ → ℕ → ℕ → ℕ → List ℕ → PacketOperation
  -- message
  Message : List ℕ → PacketOperation
  LostMessage EndPacket : PacketOperation

module _ (b : List ℕ) (p : Packet) where
  unfoldable pub packet_step : PacketOperation → Answer × (Packet × List ℕ)
  packet_step (OpenPacket end kind c i w) = with_none (opening.open_of p end kind c i w b)
  packet_step (Message octets) = message.message_of p octets
  packet_step LostMessage = with_none (message.lost_of p)
  packet_step EndPacket = with_none (packet.end_of p)

abbrev pub lent_packet : PacketOperation → List ℕ
lent_packet (OpenPacket end kind c i w) = []
lent_packet (Message octets) = octets
lent_packet LostMessage = []
lent_packet EndPacket = []
