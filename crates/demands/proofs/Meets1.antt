-- Demand 1 is met.
use mathlib.Core.Path.{◌≡◌, ap}
use mathlib.Core.List.{List}
use Prim.Native.Nat.{ℕ, ◌≤◌}
use native.Mathlib.Omega.{arith}
use lib.ListN.{replicate}
use Rattle.answers.specs.Numbers.{number_of}
use Rattle.sizes.specs.Ciphers.{key_room}
use Rattle.keybook.specs.Operations.{no_key, ready_key_of}
use Rattle.keybook.proofs.Laws.{refused_ready_no_key}
use Rattle.calls.specs.declared.call.Call.{Call}
use Rattle.voice.specs.Slot.{stream_of}
use Rattle.voice.proofs.SlotLaws.{done_turned, voice_taken, none_open}
use Rattle.data.specs.declared.packet.Packet.{Packet}
use Rattle.data.proofs.PacketLaws.{open_some}
use Rattle.data.proofs.MessageBits as bits
use Rattle.nxdn.specs.Operations.{call_step, Voice, packet_step, Message}
use Rattle.demands.specs.Device.{Operation, OfCall, OfPacket, step, device_after, history}
use Rattle.demands.specs.Demand1.{WordsTurned, MessageTurned, Demand1}
use Rattle.data.proofs.MessageBits.{done_open}
use Rattle.demands.proofs.DeviceLaws.{answers_by_table, refusal_changes_nothing, reaches_its-own}
use Rattle.demands.proofs.RefusedLaws.{wrong_is_refused, untimely_is_refused, undone_untouched, only_slots-held, unknown_not_done}
use Rattle.demands.proofs.CallsLoaded.{calls-loaded}
use Rattle.demands.proofs.PacketsLoaded.{packets_loaded}

-- a refused ready key is zeros
pub no_key_lem : (b : List ℕ) (c i : ℕ) → 1 ≤ number_of (ready_key_of b c i).0 → (ready_key_of b c i).1 ≡ replicate key_room 0
unfolding no_key
no_key_lem b c i l = refused_ready_no_key b c i (λ e. omega (arith, ap number_of e))

words : (os : List Operation) (n mask : ℕ) (frame : List ℕ) → number_of (step (device_after step os) (OfCall n (Voice mask frame))).0 ≡ 0
    → WordsTurned (history step os) n ((device_after step os).calls n) mask frame (step (device_after step os) (OfCall n (Voice mask frame))).1.1
unfolding step call_step
words os n mask frame z =
    let c : Call = (device_after step os).calls n in
    record {
      turned = done_turned stream_of c mask frame z;
      loaded = calls-loaded os n (none_open c mask frame (voice_taken stream_of c mask frame (omega arith)));
    }

messages : (os : List Operation) (n : ℕ) (message : List ℕ) → number_of (step (device_after step os) (OfPacket n (Message message))).0 ≡ 0
    → MessageTurned (history step os) n ((device_after step os).packets n) message (step (device_after step os) (OfPacket n (Message message))).1.1
unfolding step packet_step
messages os n message z =
    let p : Packet = (device_after step os).packets n in
    record {
      turned = ap (λ (r : Packet × List ℕ). r.1) (bits.done_turned p message z);
      loaded = packets_loaded os n (open_some p (done_open p message z));
    }

pub ours_meets_1 : Demand1 step
unfolding step
ours_meets_1 =
    record {
      answers = answers_by_table;
      refused = wrong_is_refused;
      untimely = untimely_is_refused;
      changes_nothing = refusal_changes_nothing;
      untouched = undone_untouched;
      held = only_slots-held;
      unopened = unknown_not_done;
      apart = reaches_its-own;
      words = words;
      messages = messages;
    }
