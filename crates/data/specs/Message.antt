-- A message of a packet (document 01, "Data"), arrived or lost. Sending and receiving are one operation.
use Rattle.std.specs.Prelude.{◌≡◌, List, [], ◌∷◌, ◌++◌, true, ◌||◌, not, ℕ, ◌+◌, ◌*◌, ◌≤◌, ◌<◌, ltb, leb, eqb, length}
use Rattle.octets.specs.Tests.{pick}
use Rattle.octets.specs.Bits.{bit, octets_from}
use Rattle.octets.specs.Turn.{turned_in}
use Rattle.answers.specs.declared.Answer.{Answer}
use Rattle.answers.specs.declared.Answer.TheVariants.{WrongLength, Bad, NotNow}
use Rattle.answers.specs.Outcomes.{Refusals, outcome}
use Rattle.ciphers.specs.Keystream.{stream}
use Rattle.data.specs.declared.packet.Packet.{Packet}
use Rattle.data.specs.Kinds.{message_octets, head_octets, protected_octets, protected_bits}
use Rattle.data.specs.Packet.{most_messages, is_closed, is_open, good_packet}

-- ---- a lost message

-- a packet one message on
abbrev pub counted : Packet → Packet
counted p = record { kind = p.kind; cipher = p.cipher; key = p.key; count = p.count + 1; vector = p.vector }

-- 4, 9 without a packet or past the 1,000th message
unfoldable pub lost_refusals : Packet → Refusals
lost_refusals p = (not (good_packet p), Bad) ∷ (is_closed p || leb most_messages p.count, NotNow) ∷ []

-- it uses up its bits
unfoldable pub lost_of : Packet → Answer × Packet
lost_of p = outcome p (lost_refusals p) (counted p)

-- ---- a message

-- a message's length depends on its packet: 4, 9, 2
unfoldable pub message_refusals : Packet → List ℕ → Refusals
message_refusals p message = lost_refusals p ++ ((not (eqb (length message) (message_octets p.kind)), WrongLength) ∷ [])

-- the bits of message n of a packet, counted from 0: messages take them on without a gap
abbrev pub of_message : (ℕ → ℕ) → ℕ → ℕ → ℕ → ℕ
of_message ks kind n k = ks (protected_bits kind * n + k)

-- protected or opened, the protected octets of a message of a kind are turned where they stand
abbrev pub turned_by : (ℕ → ℕ) → ℕ → List ℕ → List ℕ
turned_by ks kind message = turned_in head_octets (protected_octets kind) (protected_bits kind) ks message

-- a packet's message, by its bits of a keystream
abbrev pub message_turned_by : (ℕ → ℕ) → Packet → List ℕ → List ℕ
message_turned_by ks p message = turned_by (of_message ks p.kind p.count) p.kind message

-- the keystream of a packet
abbrev pub stream_of : Packet → ℕ → ℕ
stream_of p = stream p.cipher p.key p.vector

-- by the packet's own
unfoldable pub message_turned : Packet → List ℕ → List ℕ
message_turned p message = message_turned_by (stream_of p) p message

unfoldable pub message_of : Packet → List ℕ → Answer × (Packet × List ℕ)
message_of p message = outcome (p, message) (message_refusals p message) (counted p, message_turned p message)

-- ---- a packet's keystream, made once

-- the octets of a packet's keystream that its first n messages take
abbrev pub stream_octets : ℕ → ℕ → ℕ
stream_octets kind n = protected_octets kind * n

-- lent octets that do not reach the end of the message's bits are 2, as a message of another length is
unfoldable pub short_refusals : Packet → List ℕ → Refusals
short_refusals p lent = (ltb (length lent) (stream_octets p.kind (p.count + 1)), WrongLength) ∷ []

-- a message by lent octets, whatever they hold
unfoldable pub message_by_octets : List ℕ → Packet → List ℕ → Answer × (Packet × List ℕ)
message_by_octets lent p message =
    outcome (p, message) (message_refusals p message ++ short_refusals p lent) (counted p, message_turned_by (bit lent) p message)

-- lent octets of any length, with the packet's keystream from bit 0 on, whatever its count; without a packet, or with a bad one, they stay as they are
unfoldable pub packet_stream_of : Packet → List ℕ → List ℕ
packet_stream_of p out = pick (is_open p) (octets_from (length out) (stream_of p)) out

-- octets that hold a packet's keystream, all that its first n messages can take
pub record IsStream (packet : Packet) (n : ℕ) (lent : List ℕ) : Type 0 where
  pub stands : is_open packet ≡ true
  pub long : stream_octets packet.kind n ≤ length lent
  pub bits : (k : ℕ) → k < protected_bits packet.kind * n → bit lent k ≡ stream_of packet k
