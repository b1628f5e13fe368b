-- What a function of the interface answers a host, and hands out, is what the operation that it comes to answers on the device; so what demand 1 says of
-- words and messages it says of a host's.
use mathlib.Core.Path.{◌≡◌, refl, sym, ap, ap₂, ◌∙◌}
use mathlib.Core.Bool.{true, false, true≢false}
use mathlib.Core.List.{List, []}
use Prim.Native.Nat.{ℕ}
use lib.Dec.{eqb}
use lib.ListN.{length}
use borrow.Author.Tests.{eq-eqb, eqb-true, not-false}
use Rattle.answers.specs.declared.Answer.{Answer}
use Rattle.answers.specs.declared.Answer.TheVariants.{Done}
use Rattle.answers.specs.Numbers.{number_of}
use Rattle.answers.specs.Outcomes.{Refusals, answered}
use Rattle.answers.proofs.OutcomeLaws.{NoneHolds, done_none}
use Rattle.answers.proofs.TableLaws.{answer_alone}
use Rattle.keybook.specs.History as book
use Rattle.calls.specs.declared.call.Call.{Call}
use Rattle.calls.specs.Call.{Standing, closed, bad, sending, receiving, standing, is_bad}
use Rattle.calls.specs.Vector.{next_vector_of}
use Rattle.data.specs.declared.packet.Packet.{Packet}
use Rattle.hearing.specs.Hearing.{one_kept, hears, call_of}
use Rattle.hearing.specs.Heard.{handed, carried, heard_refusals, heard_of}
use Rattle.held.specs.Call as call
use Rattle.held.specs.Packet as packet
use Rattle.nxdn.specs.Operations.{screen_step, Voice, call_step, Message, packet_step}
use Rattle.nxdn.specs.Lent.{handed_into}
use Rattle.nxdn.specs.Shown.{shown_octets, show_of}
use Rattle.nxdn.specs.Interface.{on_book, screen_room, on_screen, Of, Heard, asked_step, fits, on_call, Next, Show, on_look, on_packet}
use Rattle.nxdn.proofs.LentLaws.{out_done}
use Rattle.demands.specs.Device.{Device, OfCall, OfPacket, step, device_after}
use Rattle.demands.specs.Host.{Host, Function, Keys, Screen, OnCall, LookAt, OnPacket, host_step, Calls, host_after, operations_of, Holds, handing, if_fits, answer_by, HostDemand1}
use Rattle.demands.proofs.Meets1.{ours_meets_1}
use Rattle.demands.proofs.HostLaws.{answered_as, RightHost, always_kept}
use Rattle.demands.proofs.HostKeeps.{host_holds}

-- ---- the answer

module _ (h : Host) (d : Device) (k : RightHost h) (p : Holds h d) (l : List ℕ) where
  answers-as : (f : Function) → ((host_step h f l).0, (host_step h f l).1.1) ≡ answer_by d f l
  unfolding host_step step on_book on_screen on_call on_look on_packet handed_into carried heard_of call_step
  answers-as (Keys o) = ap (λ (b : List ℕ). (number_of (book.step o b).0, l)) p.book
  answers-as (Screen o) = ap (λ (b : List ℕ). if_fits (eqb (length l) (screen_room o)) l (handing l (screen_step b o))) p.book
  answers-as (OnCall n (Of o)) =
      answered_as call.call_octets call.hearing_in call.octets_of (fits (Of o) l) (asked_step h.book (Of o)) (h.calls n) l (k.calls n).long
      ∙ ap₂ (λ (b : List ℕ) (c : Call). if_fits (fits (Of o) l) l (handing l ((call_step b c o).0, (call_step b c o).1.1))) p.book (p.calls n)
  answers-as (OnCall n (Heard w)) =
      let s = call.hearing_in (h.calls n) in
      answered_as call.call_octets call.hearing_in call.octets_of true (asked_step h.book (Heard w)) (h.calls n) l (k.calls n).long
      ∙ ap (λ (a : Answer). handing l (a, [])) (answer_alone s (heard_refusals (standing (call_of s)) w) (Done, handed one_kept w s.call))
      ∙ ap (λ (c : Call). handing l (answered (heard_refusals (standing c) w) Done, [])) (p.calls n)
  answers-as (LookAt n Next) =
      rw (eq-eqb (length (h.calls n)) call.call_octets (k.calls n).long) (ap (λ (c : Call). handing l (next_vector_of c l)) (p.calls n))
  answers-as (LookAt n Show) =
      rw (eq-eqb (length (h.calls n)) call.call_octets (k.calls n).long)
      (ap (λ (c : Call). if_fits (eqb (length l) shown_octets) l (handing l (show_of c))) (p.calls n))
  answers-as (OnPacket n o) =
      answered_as packet.packet_octets packet.packet_in packet.octets_of true (λ q. packet_step h.book q o) (h.packets n) l (k.packets n).long
      ∙ ap₂ (λ (b : List ℕ) (q : Packet). handing l ((packet_step b q o).0, (packet_step b q o).1.1)) p.book (p.packets n)

-- after any history from zeros
pub host_answers : (fs : Calls) (f : Function) (l : List ℕ)
    → ((host_step (host_after fs) f l).0, (host_step (host_after fs) f l).1.1) ≡ answer_by (device_after step (operations_of fs)) f l
host_answers fs f l = answers-as (host_after fs) (device_after step (operations_of fs)) (always_kept fs) (host_holds fs) l f

hears_some : (s : Standing) → hears s ≡ true → is_bad s ≡ false
hears_some closed e = refl
hears_some bad e = absurd (true≢false (sym e))
hears_some (sending t p v) e = refl
hears_some (receiving t p k) e = refl

-- a vector is heard, 0, exactly where it has eight octets and the call receives with DES or AES, whatever it keeps
pub heard_exactly : (fs : Calls) (n : ℕ) (w l : List ℕ)
    → let a = (host_step (host_after fs) (OnCall n (Heard w)) l).0 in
    let its = (length w ≡ 8) × (hears (standing ((device_after step (operations_of fs)).calls n)) ≡ true) in (a ≡ 0 → its) × (its → a ≡ 0)
unfolding heard_refusals
heard_exactly fs n w l = (λ z. some (done_none rs tt tt refl (eq-eqb (number_of (answered rs Done)) 0 (sym number ∙ z))), λ i. number ∙ ap number_of (none i))
  where
    s : Standing
    s = standing ((device_after step (operations_of fs)).calls n)

    rs : Refusals
    rs = heard_refusals s w

    number : (host_step (host_after fs) (OnCall n (Heard w)) l).0 ≡ number_of (answered rs Done)
    number = ap (λ (x : ℕ × List ℕ). x.0) (host_answers fs (OnCall n (Heard w)) l)

    some : NoneHolds rs → (length w ≡ 8) × (hears s ≡ true)
    some h = (eqb-true _ _ (not-false _ h.0), not-false _ h.1.1.0)

    none : (length w ≡ 8) × (hears s ≡ true) → answered rs Done ≡ Done
    none i = rw (eq-eqb (length w) 8 i.0, hears_some s i.1, i.1)

-- ---- demand 1's words and messages

-- 0 hands out what the operation does
done_as : (l : List ℕ) (r : Answer × List ℕ) {y : ℕ × List ℕ} → y ≡ handing l r → y.0 ≡ 0 → (number_of r.0 ≡ 0) × (y.1 ≡ r.1)
done_as l r e z =
    let n : number_of r.0 ≡ 0 = sym (ap (λ (x : ℕ × List ℕ). x.0) e) ∙ z in
    (n, ap (λ (x : ℕ × List ℕ). x.1) e ∙ out_done l r.0 r.1 n)

pub demand_1_of_hosts : HostDemand1
demand_1_of_hosts =
    record {
      words =
          λ fs n mask frame z.
          let r = step (device_after step (operations_of fs)) (OfCall n (Voice mask frame)) in
          let e = done_as frame (r.0, r.1.1) (host_answers fs (OnCall n (Of (Voice mask frame))) frame) z in
          rw (e.1, (host_holds fs).calls n) (ours_meets_1.words (operations_of fs) n mask frame e.0);
      messages =
          λ fs n message z.
          let r = step (device_after step (operations_of fs)) (OfPacket n (Message message)) in
          let e = done_as message (r.0, r.1.1) (host_answers fs (OnPacket n (Message message)) message) z in
          rw (e.1, (host_holds fs).packets n) (ours_meets_1.messages (operations_of fs) n message e.0);
    }
