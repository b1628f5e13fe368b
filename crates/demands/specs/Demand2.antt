-- Demand 2: scramble, DES and AES protection agree bit for bit with the standards, sending and receiving, for voice and data, and bits that aren't protected
-- stay as they came.
use Rattle.std.specs.Prelude.{◌≡◌, List, ◌++◌, true, false, ◌⊎◌, ℕ, ◌+◌, ◌*◌, ◌/◌, ◌%◌, ◌≤◌, ◌<◌, length}
use Rattle.octets.specs.Bits.{bit, flip, Octets}
use Rattle.octets.specs.Lists.{iterate}
use Rattle.scramble.specs.Sequence.{P}
use Rattle.des.specs.Des.{des}
use Rattle.aes.specs.Cipher.{aes}
use Rattle.generator.specs.Generator.{next_vector}
use Rattle.ciphers.specs.Keystream.{stream}
use Rattle.answers.specs.declared.Answer.{Answer}
use Rattle.answers.specs.Numbers.{number_of}
use Rattle.calls.specs.declared.call.Call.{Call}
use Rattle.calls.specs.Counts.{in_mask}
use Rattle.data.specs.declared.packet.Packet.{Packet}
use Rattle.data.specs.Kinds.{protected_bits}
use Rattle.demands.specs.Rates.{Layout, layout, FrameAt}

-- bit n of a session: the sequence P for scramble; output feedback for DES over the vector and for AES over the vector and L of it, where each block is the
-- encipherment of the one before, the first is not used, and bits are taken most significant first
pub record Keystreams : Type 0 where
  pub scramble_bit : (key vector : List ℕ) (n : ℕ) → stream 1 key vector n ≡ P key n
  pub des-bit : (key vector : List ℕ) (n : ℕ) → stream 2 key vector n ≡ bit (iterate (des key) (n / 64 + 2) vector) (n % 64)
  pub aes-bit : (key vector : List ℕ) (n : ℕ) → stream 3 key vector n ≡ bit (iterate (aes key) (n / 128 + 2) (vector ++ next_vector vector)) (n % 128)

-- what a slot, and a message, answers and leaves
abbrev pub OnSlot : Type 0
OnSlot = Call → ℕ → List ℕ → Answer × (Call × List ℕ)

abbrev pub OnMessage : Type 0
OnMessage = Packet → List ℕ → Answer × (Packet × List ℕ)

-- a slot of a call at either end: bit j of word w
module _ (voice : OnSlot) (call : Call) (mask : ℕ) (frame : List ℕ) where
  abbrev frame_after : List ℕ
  frame_after = (voice call mask frame).1.1

  -- by the numbers of the call's rate
  pub record VoiceBits (l : Layout) : Type 0 where
    -- done: a speech bit of a word in the mask is turned by keystream bit 196 p + 49 w + j, or at full rate 288 p + 72 w + j
    pub turned : number_of (voice call mask frame).0 ≡ 0 → (w j : ℕ) → w < 4 → j < l.speech → in_mask mask w ≡ true
        → bit frame_after (l.bits * w + j)
        ≡ flip (bit frame (l.bits * w + j)) (stream call.terms.cipher call.terms.key call.vector (l.slot * call.position + l.speech * w + j))
    -- the spare bits of a word, and words not in the mask, stay as they came
    pub stays : number_of (voice call mask frame).0 ≡ 0 → (w j : ℕ) → w < 4 → j < l.bits → ((l.speech ≤ j) ⊎ (in_mask mask w ≡ false))
        → bit frame_after (l.bits * w + j) ≡ bit frame (l.bits * w + j)
    -- it is 28 octets, or 36, so that its bits are all of it
    pub whole : number_of (voice call mask frame).0 ≡ 0 → FrameAt l frame_after
    -- not done, held or refused: the whole frame
    pub as_it_came : 1 ≤ number_of (voice call mask frame).0 → frame_after ≡ frame

-- a message of a packet, sent or received: bit k
module _ (send : OnMessage) (packet : Packet) (message : List ℕ) where
  abbrev message_after : List ℕ
  message_after = (send packet message).1.1

  pub record DataBits : Type 0 where
    -- done: from octet 2 on the protected bits are turned, message n from keystream bit n times their number on
    pub turned : number_of (send packet message).0 ≡ 0 → (k : ℕ) → k < protected_bits packet.kind
        → bit message_after (16 + k)
        ≡ flip (bit message (16 + k)) (stream packet.cipher packet.key packet.vector (protected_bits packet.kind * packet.count + k))
    -- octets 0 and 1, and what lies past the protected bits, stay as they came
    pub stays : number_of (send packet message).0 ≡ 0 → (k : ℕ) → ((k < 16) ⊎ (16 + protected_bits packet.kind ≤ k)) → bit message_after k ≡ bit message k
    -- it is as many octets as it was, so that its bits are all of it
    pub whole : number_of (send packet message).0 ≡ 0 → (length message_after ≡ length message) × (Octets message → Octets message_after)
    -- not done: the whole message
    pub as_it_came : 1 ≤ number_of (send packet message).0 → message_after ≡ message

pub record Demand2 (on_slot : OnSlot) (on_message : OnMessage) : Type 0 where
  pub keystreams : Keystreams
  pub voice : (call : Call) (mask : ℕ) (frame : List ℕ) → VoiceBits on_slot call mask frame (layout call.terms.rate)
  pub messages : (packet : Packet) (message : List ℕ) → DataBits on_message packet message
