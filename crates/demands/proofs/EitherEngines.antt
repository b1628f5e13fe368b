-- Whichever engine of DES turns each slot and each message, the answers, frames, messages, calls and packets are the same, over every list of operations.
use mathlib.Core.Path.{◌≡◌, refl, sym, ap, ◌∙◌}
use mathlib.Core.List.{List, [], ◌∷◌}
use Prim.Native.Nat.{ℕ, ◌*◌, ◌+◌}
use lib.ListN.{take, drop}
use Rattle.octets.specs.Lists.{replaced}
use Rattle.octets.specs.Turn.{turned_in}
use Rattle.octets.proofs.Turning.{turned-within}
use Rattle.answers.specs.Outcomes.{outcome}
use Rattle.ciphers.specs.Keystream.{stream}
use Rattle.des.specs.Des.{des}
use Rattle.joineddes.specs.Joined.{joined_des}
use Rattle.ciphers.specs.DesEngines.{DesEngine, Plain, Joined, des_by, stream_by}
use Rattle.ciphers.proofs.KeystreamLaws.{either_stream}
use Rattle.calls.specs.declared.call.Call.{Call}
use Rattle.voice.specs.Slot.{stream_of, voice_of}
use Rattle.voice.proofs.SessionOnce.{voice_same}
use Rattle.data.specs.declared.packet.Packet.{Packet}
use Rattle.data.specs.Kinds.{head_octets, protected_octets, protected_bits}
use Rattle.data.specs.Message.{counted, message_refusals, of_message, message_turned, message_of}
use Rattle.nxdn.specs.Operations.{Open, Start, Join, Voice, Lost, End, Announce, NextVector, call_step, OpenPacket, Message, LostMessage, EndPacket, packet_step}
use Rattle.demands.specs.Device.{Device, Operation, OfBook, OfScreen, OfCall, OfPacket, with_call, with_packet, step, device_after}
use Rattle.demands.specs.EitherEngine.{slot_by, message_by, step_by, Engaged, device_by, operations, all_by}

module _ (e : DesEngine) where
  either-slot : (c : Call) (mask : ℕ) (frame : List ℕ) → slot_by (des_by e) c mask frame ≡ voice_of c mask frame
  either-slot c mask frame =
      voice_same (λ d. stream_by (des_by e) d.terms.cipher d.terms.key d.vector) stream_of c
      (λ n h. either_stream e c.terms.cipher c.terms.key c.vector n) mask frame

  either-message : (p : Packet) (message : List ℕ) → message_by (des_by e) p message ≡ message_of p message
  unfolding message_of message_turned turned_in
  either-message p message =
      ap (λ (part : List ℕ). outcome (p, message) (message_refusals p message) (counted p, replaced message head_octets (protected_octets p.kind) part))
      (turned-within (protected_bits p.kind) (of_message (stream_by (des_by e) p.cipher p.key p.vector) p.kind p.count)
      (of_message (stream p.cipher p.key p.vector) p.kind p.count)
      (λ k h. either_stream e p.cipher p.key p.vector (protected_bits p.kind * p.count + k)) (take (protected_octets p.kind) (drop head_octets message)))

  -- an operation by either engine is ours
  pub either_step : (d : Device) (o : Operation) → step_by (des_by e) d o ≡ step d o
  unfolding step_by step call_step packet_step
  either_step d (OfBook o) = refl
  either_step d (OfScreen o) = refl
  either_step d (OfCall n (Open c i r s w)) = refl
  either_step d (OfCall n (Start c i r w)) = refl
  either_step d (OfCall n (Join c i r s)) = refl
  either_step d (OfCall n (Voice mask frame)) = ap (with_call d n) (either-slot (d.calls n) mask frame)
  either_step d (OfCall n Lost) = refl
  either_step d (OfCall n End) = refl
  either_step d (OfCall n (Announce w)) = refl
  either_step d (OfCall n (NextVector out)) = refl
  either_step d (OfPacket n (OpenPacket end kind c i w)) = refl
  either_step d (OfPacket n (Message octets)) = ap (with_packet d n) (either-message (d.packets n) octets)
  either_step d (OfPacket n LostMessage) = refl
  either_step d (OfPacket n EndPacket) = refl

-- and so are operations, each by one of them
either_device : (xs : Engaged) → device_by xs ≡ device_after step (operations xs)
unfolding device_by device_after
either_device [] = refl
either_device (x ∷ xs) = ap (λ (r : _). r.1.0) (either_step x.0 (device_by xs) x.1) ∙ ap (λ (d : Device). (step d x.1).1.0) (either_device xs)

-- after the same operations, whichever engine each was done by, an operation by the one engine and by the other answers the same, leaves the same device, and
-- the same frame or message
pub either_engines : (xs ys : Engaged) → operations xs ≡ operations ys → (e f : DesEngine) (o : Operation) → step_by (des_by e) (device_by xs) o ≡ step_by (des_by f) (device_by ys) o
either_engines xs ys same e f o =
    either_step e (device_by xs) o
    ∙ ap (λ (d : Device). step d o) (either_device xs ∙ ap (device_after step) same ∙ sym (either_device ys))
    ∙ sym (either_step f (device_by ys) o)

-- so it is where the plain engine did all of them, and where the joined one did
operations-all : (e : DesEngine) (os : List Operation) → operations (all_by e os) ≡ os
operations-all e [] = refl
operations-all e (o ∷ os) = ap (λ (l : List Operation). o ∷ l) (operations-all e os)

pub plain_joined : (os : List Operation) (o : Operation) → step_by des (device_by (all_by Plain os)) o ≡ step_by joined_des (device_by (all_by Joined os)) o
plain_joined os = either_engines (all_by Plain os) (all_by Joined os) (operations-all Plain os ∙ sym (operations-all Joined os)) Plain Joined
