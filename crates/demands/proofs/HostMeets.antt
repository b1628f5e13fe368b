-- A host's octets meet demand 3 told when heard: the log of 71 octets is that of the call, with what it keeps, that they hold. And demand 2: a slot, and a
-- message, is turned as by the call, or packet, that they hold.
use mathlib.Core.Path.{◌≡◌, refl, sym, ap, ap₂, subst, ◌∙◌}
use mathlib.Core.Bool.{Bool, true, false}
use mathlib.Core.List.{List, [], ◌∷◌}
use Prim.Native.Nat.{ℕ}
use native.Mathlib.Omega.{arith}
use lib.Dec.{eqb}
use lib.ListN.{length, replicate}
use borrow.Author.Tests.{eqb-true, eqb-false}
use Rattle.octets.specs.Lists.{Each}
use Rattle.answers.specs.declared.Answer.{Answer}
use Rattle.answers.specs.declared.Answer.TheVariants.{Done, Held, WrongLength, OutOfRange, Bad, NoEntry, NotReady, NotAllowed, ZeroVector, NotNow, BadMask, Already, Full, TooMany, Malformed, PastLimit, BadName}
use Rattle.answers.specs.Numbers.{number_of}
use Rattle.calls.specs.Call.{by_default, strict}
use Rattle.calls.specs.declared.call.Call.{Call}
use Rattle.voice.specs.Slot.{stream_of, voice_of}
use Rattle.voice.proofs.SlotLaws.{undone_stays}
use Rattle.hearing.specs.declared.Hearing.{Hearing}
use Rattle.hearing.specs.Hearing.{call_of}
use Rattle.hearing.specs.Heard.{carried}
use Rattle.held.specs.Call as call
use Rattle.held.specs.Packet as packet
use Rattle.data.specs.declared.packet.Packet.{Packet}
use Rattle.data.specs.Message.{message_of}
use Rattle.data.proofs.MessageBits as bits
use Rattle.held.proofs.CallLaws.{none_read}
use Rattle.nxdn.specs.Operations.{Open, Join, Voice, Lost, call_step, Message, packet_step}
use Rattle.nxdn.specs.Lent.{out_after}
use Rattle.nxdn.specs.Interface.{Asked, Of, Heard, asked_step, fits, on_call, on_packet}
use Rattle.nxdn.proofs.LentLaws.{out_done, out-not, short}
use Rattle.demands.specs.Notices.{Notice, hear, join, announce, lost, voice}
use Rattle.demands.specs.Log.{Event, answered, arrived, event, events}
use Rattle.demands.specs.Demand3.{Right}
use Rattle.demands.specs.ToldWhenHeard.{heard_notices, hearing_with, Meets3Heard, Meets3HeardDefault}
use Rattle.demands.specs.Host.{Host, host_step, host_after}
use Rattle.demands.specs.HostDemands.{numbered, octets_in, host_slot, host_message, HostDemand2}
use Rattle.demands.specs.Rates.{Layout, layout}
use Rattle.demands.specs.Demand2.{OnSlot, OnMessage, VoiceBits, DataBits}
use Rattle.demands.proofs.HostLaws.{CallIn, asked-left, call_in_lem, answered_as, always_kept}
use Rattle.demands.proofs.Meets2.{ours_meets_2}
use Rattle.demands.proofs.HeardMeets.{recorder_meets_heard, handset_meets_heard}

is-numbered : (a : Answer) → numbered (number_of a) ≡ a
is-numbered Done = refl
is-numbered Held = refl
is-numbered WrongLength = refl
is-numbered OutOfRange = refl
is-numbered Bad = refl
is-numbered NoEntry = refl
is-numbered NotReady = refl
is-numbered NotAllowed = refl
is-numbered ZeroVector = refl
is-numbered NotNow = refl
is-numbered BadMask = refl
is-numbered Already = refl
is-numbered Full = refl
is-numbered TooMany = refl
is-numbered Malformed = refl
is-numbered PastLimit = refl
is-numbered BadName = refl

-- ---- one function on a call's octets, where what is lent fits

module _ (b : List ℕ) (a : Asked) (x l : List ℕ) (long : length x ≡ call.call_octets) (e : fits a l ≡ true) where
  abbrev its : Answer × (Hearing × List ℕ)
  its = asked_step b a (call.hearing_in x)

  both : ◌≡◌ {A = ℕ × List ℕ} ((on_call b a x l).0, (on_call b a x l).1.1) (number_of its.0, out_after l its.0 its.1.1)
  unfolding on_call
  both = answered_as call.call_octets call.hearing_in call.octets_of (fits a l) (asked_step b a) x l long ∙ rw e

  same_answer : numbered (on_call b a x l).0 ≡ its.0
  same_answer = ap (λ (r : ℕ × List ℕ). numbered r.0) both ∙ is-numbered its.0

  same_out : (on_call b a x l).1.1 ≡ out_after l its.0 its.1.1
  same_out = ap (λ (r : ℕ × List ℕ). r.1) both

-- a slot that isn't done leaves its frame itself
frame_out : (c : Call) (mask : ℕ) (frame : List ℕ) → out_after frame (voice_of c mask frame).0 (voice_of c mask frame).1.1 ≡ (voice_of c mask frame).1.1
frame_out c mask frame = go (eqb (number_of (voice_of c mask frame).0) 0) refl
  where
    go : (t : Bool) → eqb (number_of (voice_of c mask frame).0) 0 ≡ t
        → out_after frame (voice_of c mask frame).0 (voice_of c mask frame).1.1 ≡ (voice_of c mask frame).1.1
    go true e = out_done frame (voice_of c mask frame).0 (voice_of c mask frame).1.1 (eqb-true _ _ e)
    go false e =
        let n = eqb-false _ _ e in
        out-not frame (voice_of c mask frame).0 (voice_of c mask frame).1.1 n ∙ sym (undone_stays stream_of c mask frame n)

-- ---- what it is told

module _ (m : ℕ) (b : List ℕ) (c i rate : ℕ) where
  abbrev told_octets : Notice → List ℕ → Event × List ℕ
  told_octets = event (octets_in m) b c i rate

  abbrev told_call : Notice → Hearing → Event × Hearing
  told_call = event (hearing_with m) b c i rate

  -- the same event, and octets that hold what is left
  pub record Alike (n : Notice) (x : List ℕ) : Type 0 where
    pub same : (told_octets n x).0 ≡ (told_call n (call.hearing_in x)).0
    pub left : call.hearing_in (told_octets n x).1 ≡ (told_call n (call.hearing_in x)).1
    pub long : CallIn (told_octets n x).1

  alike : (n : Notice) (x : List ℕ) → CallIn x → Alike n x
  unfolding carried call_step
  alike (hear v) x k =
      let a : Asked = Of (Open c i rate m v) in
      record { same = ap answered (same_answer b a x [] k.long refl); left = (asked-left b a x [] k refl).1; long = call_in_lem b a x [] k }
  alike join x k =
      let a : Asked = Of (Join c i rate m) in
      record { same = ap answered (same_answer b a x [] k.long refl); left = (asked-left b a x [] k refl).1; long = call_in_lem b a x [] k }
  alike (announce v) x k =
      record {
        same = ap answered (same_answer [] (Heard v) x [] k.long refl);
        left = (asked-left [] (Heard v) x [] k refl).1;
        long = call_in_lem [] (Heard v) x [] k;
      }
  alike lost x k =
      record {
        same = ap answered (same_answer [] (Of Lost) x [] k.long refl);
        left = (asked-left [] (Of Lost) x [] k refl).1;
        long = call_in_lem [] (Of Lost) x [] k;
      }
  alike (voice reached s) x k =
      let a : Asked = Of (Voice s.mask s.sent) in
      record {
        same =
            ap₂
            (λ (r : Answer) (f : List ℕ).
            arrived (record { rate = rate; reached = reached; mask = s.mask; spoken = s.spoken; came = s.sent; answer = r; frame = f }))
            (same_answer [] a x s.sent k.long refl)
            (same_out [] a x s.sent k.long refl ∙ frame_out (call_of (call.hearing_in x)) s.mask s.sent);
        left = (asked-left [] a x s.sent k refl).1;
        long = call_in_lem [] a x s.sent k;
      }

  same_log : (x : List ℕ) → CallIn x → (ns : List Notice) → events (octets_in m) b c i rate x ns ≡ events (hearing_with m) b c i rate (call.hearing_in x) ns
  same_log x k [] = refl
  same_log x k (n ∷ ns) =
      let a = alike n x k in
      ap₂ (λ (e : Event) (es : List Event). e ∷ es) a.same
      (same_log (told_octets n x).1 a.long ns ∙ ap (λ (h : Hearing). events (hearing_with m) b c i rate h ns) a.left)

zeros_in : CallIn (replicate call.call_octets 0)
unfolding host_after
zeros_in = (always_kept []).calls 0

from-zeros : (m : ℕ) (b : List ℕ) (c i rate : ℕ) (ns : List Notice)
    → events (octets_in m) b c i rate (octets_in m).idle ns ≡ events (hearing_with m) b c i rate (hearing_with m).idle ns
from-zeros m b c i rate ns =
    same_log m b c i rate (replicate call.call_octets 0) zeros_in ns ∙ ap (λ (h : Hearing). events (hearing_with m) b c i rate h ns) none_read

-- ---- demand 3, told when heard, strict and by default

pub octets_meet_heard : Meets3Heard (octets_in strict)
octets_meet_heard t k b i h e few places any =
    subst (Each Right) (sym (from-zeros strict b t.cipher i t.rate (heard_notices false t e places)))
    (recorder_meets_heard t k b i h e few places any)

pub octets_meet_heard_default : Meets3HeardDefault (octets_in by_default)
octets_meet_heard_default t k e link few b i h places any =
    subst (Each Right) (sym (from-zeros by_default b t.cipher i t.rate (heard_notices true t e places)))
    (handset_meets_heard t k e link few b i h places any)

-- ---- demand 2

-- what answers and leaves the same
module _ (f g : OnSlot) (c : Call) (mask : ℕ) (frame : List ℕ) (p : (f c mask frame).0 ≡ (g c mask frame).0)
    (q : (f c mask frame).1.1 ≡ (g c mask frame).1.1) (l : Layout) where
  slot_alike : VoiceBits g c mask frame l → VoiceBits f c mask frame l
  slot_alike v = record { turned = rw (p, q) v.turned; stays = rw (p, q) v.stays; whole = rw (p, q) v.whole; as_it_came = rw (p, q) v.as_it_came }

module _ (f g : OnMessage) (p : Packet) (message : List ℕ) (r : (f p message).0 ≡ (g p message).0) (q : (f p message).1.1 ≡ (g p message).1.1) where
  message-alike : DataBits g p message → DataBits f p message
  message-alike v = record { turned = rw (r, q) v.turned; stays = rw (r, q) v.stays; whole = rw (r, q) v.whole; as_it_came = rw (r, q) v.as_it_came }

message_out : (p : Packet) (message : List ℕ) → out_after message (message_of p message).0 (message_of p message).1.1 ≡ (message_of p message).1.1
message_out p message = go (eqb (number_of (message_of p message).0) 0) refl
  where
    go : (t : Bool) → eqb (number_of (message_of p message).0) 0 ≡ t
        → out_after message (message_of p message).0 (message_of p message).1.1 ≡ (message_of p message).1.1
    go true e = out_done message (message_of p message).0 (message_of p message).1.1 (eqb-true _ _ e)
    go false e =
        let n = eqb-false _ _ e in
        out-not message (message_of p message).0 (message_of p message).1.1 n ∙ sym (bits.undone_stays p message (omega arith))

module _ (h : Host) (n : ℕ) where
  abbrev x : List ℕ
  x = h.calls n

  abbrev c : Call
  c = call_of (call.hearing_in x)

  host-voice : (mask : ℕ) (frame : List ℕ) → VoiceBits (host_slot h n) c mask frame (layout c.terms.rate)
  unfolding host_step on_call carried call_step
  host-voice mask frame = go (eqb (length x) call.call_octets) refl
    where
      go : (t : Bool) → eqb (length x) call.call_octets ≡ t → VoiceBits (host_slot h n) c mask frame (layout c.terms.rate)
      go true e =
          slot_alike (host_slot h n) voice_of c mask frame (same_answer h.book (Of (Voice mask frame)) x frame (eqb-true _ _ e) refl)
          (same_out h.book (Of (Voice mask frame)) x frame (eqb-true _ _ e) refl ∙ frame_out c mask frame) (layout c.terms.rate)
          (ours_meets_2.voice c mask frame)
      go false e =
          let s = short call.call_octets call.hearing_in call.octets_of true (asked_step h.book (Of (Voice mask frame))) x frame (eqb-false _ _ e) in
          let g : OnSlot = λ c mask frame. (WrongLength, (c, frame)) in
          slot_alike (host_slot h n) g c mask frame (ap (λ (r : ℕ × (List ℕ × List ℕ)). numbered r.0) (sym s))
          (ap (λ (r : ℕ × (List ℕ × List ℕ)). r.1.1) (sym s)) (layout c.terms.rate)
          (record { turned = λ z. absurd (omega arith); stays = λ z. absurd (omega arith); whole = λ z. absurd (omega arith); as_it_came = λ z. refl })

  abbrev y : List ℕ
  y = h.packets n

  host-message : (message : List ℕ) → DataBits (host_message h n) (packet.packet_in y) message
  unfolding host_step on_packet packet_step
  host-message message = go (eqb (length y) packet.packet_octets) refl
    where
      p : Packet
      p = packet.packet_in y

      go : (t : Bool) → eqb (length y) packet.packet_octets ≡ t → DataBits (host_message h n) p message
      go true e =
          let s = answered_as packet.packet_octets packet.packet_in packet.octets_of true (λ q. packet_step h.book q (Message message)) y message (eqb-true _ _ e) in
          message-alike (host_message h n) message_of p message (ap (λ (r : ℕ × List ℕ). numbered r.0) s ∙ is-numbered (message_of p message).0)
          (ap (λ (r : ℕ × List ℕ). r.1) s ∙ message_out p message) (ours_meets_2.messages p message)
      go false e =
          let s = short packet.packet_octets packet.packet_in packet.octets_of true (λ q. packet_step h.book q (Message message)) y message (eqb-false _ _ e) in
          let g : OnMessage = λ p message. (WrongLength, (p, message)) in
          message-alike (host_message h n) g p message (ap (λ (r : ℕ × (List ℕ × List ℕ)). numbered r.0) (sym s))
          (ap (λ (r : ℕ × (List ℕ × List ℕ)). r.1.1) (sym s))
          (record { turned = λ z. absurd (omega arith); stays = λ z. absurd (omega arith); whole = λ z. absurd (omega arith); as_it_came = λ z. refl })

pub host_meets_2 : HostDemand2
host_meets_2 = record { voice = host-voice; messages = host-message }
