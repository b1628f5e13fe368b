-- Demand 2 is met: the definitions that the code is proved to compute agree bit for bit with the standards' own words.
use mathlib.Core.Path.{◌≡◌, refl, sym, ap, subst}
use mathlib.Core.Logic.{◌⊎◌, inl, inr}
use mathlib.Core.List.{List}
use Prim.Native.Nat.{ℕ, ◌+◌, ◌≤◌, ◌<◌}
use native.Mathlib.Omega.{arith}
use Rattle.octets.specs.Bits.{bit, Octets}
use Rattle.answers.specs.Numbers.{number_of}
use Rattle.generator.specs.Generator.{aes_vector}
use Rattle.ciphers.specs.Keystream.{used_block, feedback, stream}
use Rattle.calls.specs.Call.{width_of}
use Rattle.voice.specs.Slot.{stream_of, voice_of}
use Rattle.voice.proofs.SlotLaws.{undone_stays}
use Rattle.voice.proofs.VoiceBits.{speech_turned, rest_stays, whole_frame}
use Rattle.data.specs.declared.packet.Packet.{Packet}
use Rattle.data.specs.Kinds.{protected_bits}
use Rattle.data.specs.Message.{message_of}
use Rattle.data.proofs.PacketLaws.{open_kind}
use Rattle.data.proofs.MessageBits as bits
use Rattle.demands.specs.Demand2.{Keystreams, VoiceBits, Demand2}
use Rattle.demands.proofs.Layouts.{layout_is}
use Rattle.demands.proofs.AirLaws.{frame_at}

keystreams : Keystreams
unfolding stream feedback used_block aes_vector
keystreams = record { scramble_bit = λ key vector n. refl; des-bit = λ key vector n. refl; aes-bit = λ key vector n. refl }

module _ (packet : Packet) (message : List ℕ) (z : number_of (message_of packet message).0 ≡ 0) where
  outside-stays : (k : ℕ) → ((k < 16) ⊎ (16 + protected_bits packet.kind ≤ k)) → bit (message_of packet message).1.1 k ≡ bit message k
  outside-stays k (inl before) = bits.head_stays packet message z k before
  outside-stays k (inr past) = bits.tail_stays packet message z k past

  octets : Octets message → Octets (message_of packet message).1.1
  octets o =
      subst Octets (sym (ap (λ (r : Packet × List ℕ). r.1) (bits.done_turned packet message z)))
      (bits.turned-octets packet message (open_kind packet (bits.done_open packet message z)) (bits.done_long packet message z) o)

pub ours_meets_2 : Demand2 voice_of message_of
ours_meets_2 =
    record {
      keystreams = keystreams;
      voice = λ call mask frame.
          subst (VoiceBits voice_of call mask frame) (sym (layout_is call.terms.rate))
          (record {
            turned = speech_turned call mask frame;
            stays = rest_stays call mask frame;
            whole = λ z. frame_at (width_of call.terms) (whole_frame call mask frame z);
            as_it_came = λ n. undone_stays stream_of call mask frame (λ z. omega arith);
          });
      messages = λ packet message.
          record {
            turned = bits.message_turned_lem packet message;
            stays = outside-stays packet message;
            whole = λ z. (bits.length_stays packet message z, octets packet message z);
            as_it_came = bits.undone_stays packet message;
          };
    }
