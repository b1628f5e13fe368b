-- A device whose DES is by an engine (document 02, W-212): a voice slot and a message are turned by the keystream of whatever makes a block of a key and a block,
-- and all else is ours.
use Rattle.std.specs.Prelude.{List, [], ◌∷◌, map, ℕ}
use Rattle.answers.specs.declared.Answer.{Answer}
use Rattle.answers.specs.Outcomes.{outcome}
use Rattle.ciphers.specs.DesEngines.{DesEngine, des_by, stream_by}
use Rattle.calls.specs.declared.call.Call.{Call}
use Rattle.voice.specs.Slot.{voice_by}
use Rattle.data.specs.declared.packet.Packet.{Packet}
use Rattle.data.specs.Message.{counted, message_refusals, message_turned_by}
use Rattle.nxdn.specs.Operations.{Open, Start, Join, Voice, Lost, End, Announce, NextVector, OpenPacket, Message, LostMessage, EndPacket}
use Rattle.demands.specs.Device.{Device, Operation, OfBook, OfScreen, OfCall, OfPacket, Step, with_call, with_packet, at_first, step}

module _ (by : List ℕ → List ℕ → List ℕ) where
  -- a slot of a call
  abbrev pub slot_by : Call → ℕ → List ℕ → Answer × (Call × List ℕ)
  slot_by = voice_by (λ c. stream_by by c.terms.cipher c.terms.key c.vector)

  -- a message of a packet
  abbrev pub message_by : Packet → List ℕ → Answer × (Packet × List ℕ)
  message_by p message =
      outcome (p, message) (message_refusals p message) (counted p, message_turned_by (stream_by by p.cipher p.key p.vector) p message)

  -- any operation: only a slot and a message are turned by keystream
  unfoldable pub step_by : Step
  step_by d (OfBook o) = step d (OfBook o)
  step_by d (OfScreen o) = step d (OfScreen o)
  step_by d (OfCall n (Open c i r s w)) = step d (OfCall n (Open c i r s w))
  step_by d (OfCall n (Start c i r w)) = step d (OfCall n (Start c i r w))
  step_by d (OfCall n (Join c i r s)) = step d (OfCall n (Join c i r s))
  step_by d (OfCall n (Voice mask frame)) = with_call d n (slot_by (d.calls n) mask frame)
  step_by d (OfCall n Lost) = step d (OfCall n Lost)
  step_by d (OfCall n End) = step d (OfCall n End)
  step_by d (OfCall n (Announce w)) = step d (OfCall n (Announce w))
  step_by d (OfCall n (NextVector out)) = step d (OfCall n (NextVector out))
  step_by d (OfPacket n (OpenPacket end kind c i w)) = step d (OfPacket n (OpenPacket end kind c i w))
  step_by d (OfPacket n (Message octets)) = with_packet d n (message_by (d.packets n) octets)
  step_by d (OfPacket n LostMessage) = step d (OfPacket n LostMessage)
  step_by d (OfPacket n EndPacket) = step d (OfPacket n EndPacket)

-- operations, each with the engine of the two that it is done by, the latest first; and the device after them
abbrev pub Engaged : Type 0
Engaged = List (DesEngine × Operation)

unfoldable pub device_by : Engaged → Device
device_by [] = at_first
device_by (x ∷ xs) = (step_by (des_by x.0) (device_by xs) x.1).1.0

-- the operations alone
abbrev pub operations : Engaged → List Operation
operations = map (λ (x : DesEngine × Operation). x.1)

-- the same engine for each
abbrev pub all_by : DesEngine → List Operation → Engaged
all_by e = map (λ (o : Operation). (e, o))
