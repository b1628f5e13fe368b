-- Of the interface's functions: those whose contracts cite no book are the host's with its book; an end leaves zeros; and a refused report leaves what was lent.
use mathlib.Core.Path.{◌≡◌, refl, ap, ◌∙◌}
use mathlib.Core.Bool.{Bool, true, false, ◌&&◌, true≢false}
use mathlib.Core.List.{List, [], ◌∷◌}
use Prim.Native.Nat.{ℕ, ◌≤◌}
use native.Mathlib.Omega.{arith}
use lib.Dec.{eqb}
use lib.ListN.{length, replicate}
use Rattle.answers.specs.declared.Answer.{Answer}
use Rattle.answers.specs.declared.Answer.TheVariants.{Done, Bad}
use Rattle.answers.specs.Numbers.{number_of, is_one_of, operation_numbers}
use Rattle.answers.proofs.TableLaws.{settles}
use Rattle.answers.proofs.OutcomeLaws.{among_refuses, by_refusals}
use Rattle.octets.specs.Tests.{pick}
use Rattle.calls.specs.declared.call.Call.{Call}
use Rattle.calls.specs.declared.counts.Counts.{Counts}
use Rattle.calls.specs.Counts.{no_counts}
use Rattle.calls.specs.Call.{standing, is_bad, no_call, end_refusals, after_end, end_of}
use Rattle.data.specs.declared.packet.Packet.{Packet}
use Rattle.data.specs.Packet as its
use Rattle.hearing.specs.Hearing.{one_kept, hears, call_of}
use Rattle.hearing.specs.declared.Hearing.{Hearing}
use Rattle.hearing.specs.Heard.{handed, handed_on, carried, heard_refusals, heard_of}
use Rattle.hearing.proofs.HeardLaws.{handed_dropped}
use Rattle.held.specs.Call as call
use Rattle.held.specs.Packet as packet
use Rattle.held.proofs.CallLaws.{none_written}
use Rattle.held.proofs.PacketLaws.{no_packet-written}
use Rattle.report.specs.Report.{report_of}
use Rattle.nxdn.specs.Operations.{screen_step, CallOperation, Open, Start, Join, Voice, Lost, End, Announce, NextVector, call_step, Message, LostMessage, EndPacket, packet_step}
use Rattle.nxdn.specs.Lent.{lent_after, out_after, handed_into, on_lent}
use Rattle.nxdn.specs.Shown.{shown_octets, shown_call, show_of}
use Rattle.nxdn.specs.Interface.{on_book, screen_room, on_screen, Asked, Of, Heard, asked_step, fits, on_call, Look, Next, Show, look_of, look_fits, on_look, on_packet, on_report}
use Rattle.nxdn.proofs.LentLaws.{after-written}
use Rattle.demands.specs.Host.{Host, Function, Keys, Screen, OnCall, LookAt, OnPacket, host_step}
use Rattle.demands.proofs.DeviceLaws.{book_settles, screen_settles, call_settles, packet_settles}
use Rattle.demands.proofs.Standing.{closed_read}
use Rattle.demands.proofs.HostLaws.{handed-leaves}

-- ---- no book

abbrev pub takes_book : CallOperation → Bool
takes_book (Open c i r s w) = true
takes_book (Start c i r w) = true
takes_book (Join c i r s) = true
takes_book (Voice mask frame) = false
takes_book Lost = false
takes_book End = false
takes_book (Announce w) = false
takes_book (NextVector out) = false

-- as the contracts have it
pub bookless : (b : List ℕ) (o : CallOperation) (x l : List ℕ) → takes_book o ≡ false → on_call b (Of o) x l ≡ on_call [] (Of o) x l
unfolding on_call call_step
bookless b (Open c i r s w) x l e = absurd (true≢false e)
bookless b (Start c i r w) x l e = absurd (true≢false e)
bookless b (Join c i r s) x l e = absurd (true≢false e)
bookless b (Voice mask frame) x l e = refl
bookless b Lost x l e = refl
bookless b End x l e = refl
bookless b (Announce w) x l e = refl
bookless b (NextVector out) x l e = refl

pub heard_bookless : (b w x l : List ℕ) → on_call b (Heard w) x l ≡ on_call [] (Heard w) x l
unfolding on_call
heard_bookless b w x l = refl

pub packets_bookless : (b x l : List ℕ)
    → ((m : List ℕ) → on_packet b (Message m) x l ≡ on_packet [] (Message m) x l)
    × (on_packet b LostMessage x l ≡ on_packet [] LostMessage x l) × (on_packet b EndPacket x l ≡ on_packet [] EndPacket x l)
unfolding on_packet packet_step
packets_bookless b x l = ((λ m. refl), refl, refl)

-- ---- an end leaves zeros

-- done, whatever its octets had: an operation that is done leaves what is written
module _ {S : Type 0} (size : ℕ) (read : List ℕ → S) (write : S → List ℕ) (fit : Bool) (f : S → Answer × (S × List ℕ)) (x l : List ℕ) where
  done-writes : (on_lent size read write fit f x l).0 ≡ 0 → (number_of (f (read x)).0 ≡ 0) × ((on_lent size read write fit f x l).1.0 ≡ write (f (read x)).1.0)
  unfolding on_lent
  done-writes = go (eqb (length x) size && fit)
    where
      r : Answer × (S × List ℕ)
      r = f (read x)

      go : (t : Bool)
          → let y : ℕ × (List ℕ × List ℕ) = pick t (number_of r.0, (lent_after write x r.0 r.1.0, out_after l r.0 r.1.1)) (2, (x, l)) in
          y.0 ≡ 0 → (number_of r.0 ≡ 0) × (y.1.0 ≡ write r.1.0)
      go true z = (z, after-written write x r.0 r.1.0 (omega (arith, z)))
      go false z = absurd (omega arith)

ended : (c : Call) → number_of (end_of c).0 ≡ 0 → (end_of c).1.0 ≡ no_call
unfolding end_of end_refusals
ended c =
    by_refusals (λ (o : Answer × (Call × Counts)). number_of o.0 ≡ 0 → o.1.0 ≡ no_call) (c, no_counts) (end_refusals (standing c)) (Done, after_end c)
    (λ a m e. absurd (omega (arith, among_refuses a (end_refusals (standing c)) refl m))) (λ n e. refl)

pub end_leaves-zeros : (b x l : List ℕ) → (on_call b (Of End) x l).0 ≡ 0 → (on_call b (Of End) x l).1.0 ≡ replicate call.call_octets 0
unfolding on_call carried call_step handed_on
end_leaves-zeros b x l z =
    let h = call.hearing_in x in
    let d = done-writes call.call_octets call.hearing_in call.octets_of (fits (Of End) l) (asked_step b (Of End)) x l z in
    d.1
    ∙ ap call.octets_of
    (rw (d.0, ended (call_of h) d.0) (handed_dropped h.next no_call (ap hears closed_read) h.kept))
    ∙ none_written

packet-ended : (p : Packet) → number_of (its.end_of p).0 ≡ 0 → (its.end_of p).1 ≡ its.no_packet
unfolding its.end_of its.end_refusals
packet-ended p =
    by_refusals (λ (o : Answer × Packet). number_of o.0 ≡ 0 → o.1 ≡ its.no_packet) p (its.end_refusals p) (Done, its.no_packet)
    (λ a m e. absurd (omega (arith, among_refuses a (its.end_refusals p) refl m))) (λ n e. refl)

pub packet_end_leaves-zeros : (b x l : List ℕ) → (on_packet b EndPacket x l).0 ≡ 0 → (on_packet b EndPacket x l).1.0 ≡ replicate packet.packet_octets 0
unfolding on_packet packet_step
packet_end_leaves-zeros b x l z =
    let d = done-writes packet.packet_octets packet.packet_in packet.octets_of true (λ p. packet_step b p EndPacket) x l z in
    d.1 ∙ ap packet.octets_of (packet-ended (packet.packet_in x) d.0) ∙ no_packet-written

-- ---- a report

pub report_leaves : (counts l : List ℕ) → 2 ≤ (on_report counts l).0 → (on_report counts l).1 ≡ l
unfolding on_report
report_leaves counts l = handed-leaves (eqb (length l) 6) l (report_of counts)

-- ---- a number of the table, whatever the octets

abbrev Listed : ℕ → Type 0
Listed n = is_one_of n operation_numbers ≡ true

handed-listed : (fit : Bool) (l : List ℕ) (r : Answer × List ℕ) → Listed (number_of r.0) → Listed (handed_into fit l r).0
unfolding handed_into
handed-listed true l r e = e
handed-listed false l r e = refl

lent-listed : {S : Type 0} (size : ℕ) (read : List ℕ → S) (write : S → List ℕ) (fit : Bool) (f : S → Answer × (S × List ℕ)) (x l : List ℕ)
    → Listed (number_of (f (read x)).0) → Listed (on_lent size read write fit f x l).0
unfolding on_lent
lent-listed {S} size read write fit f x l e = go (eqb (length x) size && fit)
  where
    r : Answer × (S × List ℕ)
    r = f (read x)

    go : (t : Bool) → let y : ℕ × (List ℕ × List ℕ) = pick t (number_of r.0, (lent_after write x r.0 r.1.0, out_after l r.0 r.1.1)) (2, (x, l)) in Listed y.0
    go true = e
    go false = refl

asked-listed : (b : List ℕ) (a : Asked) (h : Hearing) → Listed (number_of (asked_step b a h).0)
unfolding carried heard_of heard_refusals
asked-listed b (Of o) h = (call_settles b (call_of h) o).number
asked-listed b (Heard w) h = (settles h (heard_refusals (standing (call_of h)) w) (Done, handed one_kept w h.call) refl (omega arith)).number

look_listed : (k : Look) (l : List ℕ) (c : Call) → Listed (number_of (look_of k l c).0)
unfolding call_step show_of
look_listed Next l c = (call_settles [] c (NextVector l)).number
look_listed Show l c = (settles (replicate shown_octets 0) ((is_bad (standing c), Bad) ∷ []) (Done, shown_call c) refl (omega arith)).number

pub host_numbers : (h : Host) (f : Function) (l : List ℕ) → is_one_of (host_step h f l).0 operation_numbers ≡ true
unfolding host_step on_book on_screen on_call on_look on_packet
host_numbers h (Keys o) l = (book_settles h.book o).number
host_numbers h (Screen o) l = handed-listed (eqb (length l) (screen_room o)) l (screen_step h.book o) (screen_settles h.book o).number
host_numbers h (OnCall n a) l =
    lent-listed call.call_octets call.hearing_in call.octets_of (fits a l) (asked_step h.book a) (h.calls n) l
    (asked-listed h.book a (call.hearing_in (h.calls n)))
host_numbers h (LookAt n k) l =
    let c = call_of (call.hearing_in (h.calls n)) in
    handed-listed (eqb (length (h.calls n)) call.call_octets && look_fits k l) l (look_of k l c) (look_listed k l c)
host_numbers h (OnPacket n o) l =
    lent-listed packet.packet_octets packet.packet_in packet.octets_of true (λ p. packet_step h.book p o) (h.packets n) l
    (packet_settles h.book (packet.packet_in (h.packets n)) o).number
