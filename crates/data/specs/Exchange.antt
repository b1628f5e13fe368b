-- An exchange of messages (document 01, "Data": sending and receiving are one operation, a lost message uses up its bits): what is said at
-- one end of a packet, what goes on the air, and what is handed out at the other.
use Rattle.std.specs.Prelude.{List, [], ◌∷◌, Bool, ◌≡◌, ℕ, ◌≤◌, length}
use Rattle.octets.specs.Tests.{pick}
use Rattle.octets.specs.Lists.{Each}
use Rattle.octets.specs.Bits.{Octets}
use Rattle.answers.specs.declared.Answer.{Answer}
use Rattle.answers.specs.declared.Answer.TheVariants.{Done}
use Rattle.data.specs.declared.packet.Packet.{Packet}
use Rattle.data.specs.Kinds.{message_octets}
use Rattle.data.specs.Packet.{most_messages}
use Rattle.data.specs.Message.{lost_of, message_of}

-- a message, and whether it arrives whole or is lost whole
pub record Message : Type 0 where
  pub octets : List ℕ
  pub arrives : Bool

-- each message as the sender puts it on the air
unfoldable pub on_air : Packet → List Message → List Message
on_air p [] = []
on_air p (m ∷ ms) =
    let sent = message_of p m.octets in
    record { octets = sent.1.1; arrives = m.arrives } ∷ on_air sent.1.0 ms

-- what the receiver answers and hands out: it is told of each message in turn, arrived or lost
unfoldable pub handed_out : Packet → List Message → List (Answer × List ℕ)
handed_out p [] = []
handed_out p (m ∷ ms) =
    let heard = message_of p m.octets in
    pick m.arrives ((heard.0, heard.1.1) ∷ handed_out heard.1.0 ms) (handed_out (lost_of p).1 ms)

-- the receiver's packet after it was told of each message in turn
unfoldable pub after : Packet → List Message → Packet
after p [] = p
after p (m ∷ ms) = after (pick m.arrives (message_of p m.octets).1.0 (lost_of p).1) ms

-- what arrived, as it was said
unfoldable pub arrived : List Message → List (Answer × List ℕ)
arrived [] = []
arrived (m ∷ ms) = pick m.arrives ((Done, m.octets) ∷ arrived ms) (arrived ms)

-- messages of a kind, no more than a packet has
pub record Fit (kind : ℕ) (ms : List Message) : Type 0 where
  pub few : length ms ≤ most_messages
  pub long : Each (λ m. length m.octets ≡ message_octets kind) ms
  pub octets : Each (λ m. Octets m.octets) ms
