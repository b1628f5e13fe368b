-- Demand 1, its setting: one book and any number of calls and packets, each by its number; every operation of documents 01 and 02 on them, by the steps that
-- the interface's contracts cite; and the history of what was asked and answered.
use Rattle.std.specs.Prelude.{List, [], ◌∷◌, ℕ, eqb, replicate}
use Rattle.octets.specs.Tests.{pick}
use Rattle.answers.specs.declared.Answer.{Answer}
use Rattle.keybook.specs.Book.{book_octets}
use Rattle.keybook.specs.History as book
use Rattle.calls.specs.declared.call.Call.{Call}
use Rattle.calls.specs.Call.{no_call}
use Rattle.data.specs.declared.packet.Packet.{Packet}
use Rattle.data.specs.Packet.{no_packet}
use Rattle.nxdn.specs.Operations.{ScreenOperation, screen_step, lent_screen, CallOperation, call_step, lent_call, PacketOperation, packet_step, lent_packet}

pub record Device : Type 0 where
  pub book : List ℕ
  pub calls : ℕ → Call
  pub packets : ℕ → Packet

-- an all-zero book, no call and no packet
abbrev pub at_first : Device
at_first = record { book = replicate book_octets 0; calls = λ n. no_call; packets = λ n. no_packet }

-- on a device: begin, add, finish and erase; what a screen shows; or on the call, or packet, of a number
pub data Operation : Type 0 where
  OfBook : book.Operation → Operation
  OfScreen : ScreenOperation → Operation
  OfCall : ℕ → CallOperation → Operation
  OfPacket : ℕ → PacketOperation → Operation

module _ {A : Type 0} where
  -- x in the place of number n
  abbrev pub with_number : ℕ → A → (ℕ → A) → ℕ → A
  with_number n x f m = pick (eqb m n) x (f m)

-- a device after an operation on the call, or packet, of number n
abbrev pub with_call : Device → ℕ → Answer × (Call × List ℕ) → Answer × (Device × List ℕ)
with_call d n r = (r.0, (record { book = d.book; calls = with_number n r.1.0 d.calls; packets = d.packets }, r.1.1))

abbrev pub with_packet : Device → ℕ → Answer × (Packet × List ℕ) → Answer × (Device × List ℕ)
with_packet d n r = (r.0, (record { book = d.book; calls = d.calls; packets = with_number n r.1.0 d.packets }, r.1.1))

-- what a device answers to an operation, what it is then, and the octets that the operation may write, or what it hands out
abbrev pub Step : Type 0
Step = Device → Operation → Answer × (Device × List ℕ)

-- ours
unfoldable pub step : Step
step d (OfBook o) = let r = book.step o d.book in (r.0, (record { book = r.1; calls = d.calls; packets = d.packets }, []))
step d (OfScreen o) = let r = screen_step d.book o in (r.0, (d, r.1))
step d (OfCall n o) = with_call d n (call_step d.book (d.calls n) o)
step d (OfPacket n o) = with_packet d n (packet_step d.book (d.packets n) o)

abbrev pub lent : Operation → List ℕ
lent (OfBook o) = []
lent (OfScreen o) = lent_screen o
lent (OfCall n o) = lent_call o
lent (OfPacket n o) = lent_packet o

-- ---- histories, the latest first

-- operations with what they answered
abbrev pub History : Type 0
History = List (Operation × Answer)

module _ (st : Step) where
  -- the device after operations from the first on
  unfoldable pub device_after : List Operation → Device
  device_after [] = at_first
  device_after (o ∷ os) = (st (device_after os) o).1.0

  -- and what they answered
  unfoldable pub history : List Operation → History
  history [] = []
  history (o ∷ os) = (o, (st (device_after os) o).0) ∷ history os

-- the key operations of a history
abbrev pub onto_keys : Operation → Answer → book.History → book.History
onto_keys (OfBook o) a h = (o, a) ∷ h
onto_keys (OfScreen o) a h = h
onto_keys (OfCall n o) a h = h
onto_keys (OfPacket n o) a h = h

unfoldable pub key_operations : History → book.History
key_operations [] = []
key_operations (x ∷ h) = onto_keys x.0 x.1 (key_operations h)
