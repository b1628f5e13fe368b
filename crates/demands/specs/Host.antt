-- The device that a host is: the octets that it keeps, and the functions of the interface that it lends them to, each by the definition that its contract
-- cites. And the operations of demand 1's device that its functions come to.
use Rattle.std.specs.Prelude.{◌≡◌, List, [], ◌∷◌, ◌++◌, Bool, ◌&&◌, ℕ, eqb, ltb, length, replicate}
use Rattle.octets.specs.Tests.{pick}
use Rattle.answers.specs.declared.Answer.{Answer}
use Rattle.answers.specs.declared.Answer.TheVariants.{Done}
use Rattle.answers.specs.Numbers.{number_of}
use Rattle.answers.specs.Outcomes.{outcome, answered}
use Rattle.keybook.specs.Book.{book_octets}
use Rattle.keybook.specs.History as book
use Rattle.calls.specs.declared.call.Call.{Call}
use Rattle.calls.specs.Call.{standing}
use Rattle.calls.specs.Vector.{awaits}
use Rattle.hearing.specs.declared.Hearing.{Hearing}
use Rattle.hearing.specs.Hearing.{under_way, call_of, alone, keeping}
use Rattle.hearing.specs.Heard.{heard_refusals}
use Rattle.held.specs.Call.{call_octets, hearing_in}
use Rattle.held.specs.Packet.{packet_octets, packet_in}
use Rattle.nxdn.specs.Operations.{ScreenOperation, Voice, Announce, NextVector, call_step, PacketOperation, Message}
use Rattle.nxdn.specs.Lent.{out_after}
use Rattle.nxdn.specs.Shown.{shown_octets, show_of}
use Rattle.nxdn.specs.Interface.{on_book, screen_room, on_screen, Asked, Of, Heard, fits, on_call, Look, Next, Show, on_look, on_packet}
use Rattle.demands.specs.Device.{Device, Operation, OfBook, OfScreen, OfCall, OfPacket, with_number, step, device_after, history}
use Rattle.demands.specs.Demand1.{WordsTurned, MessageTurned}

-- ---- a host

pub record Host : Type 0 where
  pub book : List ℕ
  pub calls : ℕ → List ℕ
  pub packets : ℕ → List ℕ

-- all zeros
abbrev pub zeros : Host
zeros = record { book = replicate book_octets 0; calls = λ n. replicate call_octets 0; packets = λ n. replicate packet_octets 0 }

-- a function, with all that it is given: the book's four, the screen's two, those on the call, or packet, of a number, and those that only look at a call
pub data Function : Type 0 where
  Keys : book.Operation → Function
  Screen : ScreenOperation → Function
  OnCall : ℕ → Asked → Function
  LookAt : ℕ → Look → Function
  OnPacket : ℕ → PacketOperation → Function

-- with the elements that are lent for what it hands out, or turns: what it answers, the host's octets and those elements afterwards
unfoldable pub host_step : Host → Function → List ℕ → ℕ × (Host × List ℕ)
host_step h (Keys o) lent = let r = on_book o h.book in (r.0, (record { book = r.1; calls = h.calls; packets = h.packets }, lent))
host_step h (Screen o) lent = let r = on_screen h.book o lent in (r.0, (h, r.1))
host_step h (OnCall n a) lent =
    let r = on_call h.book a (h.calls n) lent in
    (r.0, (record { book = h.book; calls = with_number n r.1.0 h.calls; packets = h.packets }, r.1.1))
host_step h (LookAt n l) lent = let r = on_look l (h.calls n) lent in (r.0, (h, r.1))
host_step h (OnPacket n o) lent =
    let r = on_packet h.book o (h.packets n) lent in
    (r.0, (record { book = h.book; calls = h.calls; packets = with_number n r.1.0 h.packets }, r.1.1))

-- a function and what is lent to it; the latest first
abbrev pub Calls : Type 0
Calls = List (Function × List ℕ)

unfoldable pub host_after : Calls → Host
host_after [] = zeros
host_after (f ∷ fs) = (host_step (host_after fs) f.0 f.1).1.0

-- ---- the operations that they come to, and what is kept between them: by what was asked and answered, and no octet is looked at

-- of each call's number no vector, or one
abbrev pub Keeping : Type 0
Keeping = ℕ → List (List ℕ)

-- after an operation: a refusal changes nothing, in the middle of a session it stays kept, and else it is kept no longer
abbrev pub stays_kept : List (List ℕ) → Answer × (Call × List ℕ) → List (List ℕ)
stays_kept ws r = pick (ltb 1 (number_of r.0)) ws (pick (under_way (standing r.1.0)) ws [])

-- a vector that is heard in the middle of a session is kept, in place of any before it
abbrev pub heard_by : Call → List ℕ → List (List ℕ) → List (List ℕ)
heard_by c w ws = (outcome ws (heard_refusals (standing c) w) (pick (under_way (standing c)) (w ∷ []) [])).1

abbrev pub kept_then : Device → Keeping → Function → List ℕ → Keeping
kept_then d k (Keys o) lent = k
kept_then d k (Screen o) lent = k
kept_then d k (OnCall n (Of o)) lent = with_number n (pick (fits (Of o) lent) (stays_kept (k n) (call_step d.book (d.calls n) o)) (k n)) k
kept_then d k (OnCall n (Heard w)) lent = with_number n (heard_by (d.calls n) w (k n)) k
kept_then d k (LookAt n l) lent = k
kept_then d k (OnPacket n o) lent = k

-- a kept vector is announced as its session starts
abbrev pub starts_by : ℕ → List (List ℕ) → Answer × (Call × List ℕ) → List Operation
starts_by n [] r = []
starts_by n (w ∷ ws) r = pick (ltb (number_of r.0) 2 && awaits (standing r.1.0)) (OfCall n (Announce w) ∷ []) []

abbrev pub comes_by : Device → Keeping → Function → List ℕ → List Operation
comes_by d k (Keys o) lent = OfBook o ∷ []
comes_by d k (Screen o) lent = pick (eqb (length lent) (screen_room o)) (OfScreen o ∷ []) []
comes_by d k (OnCall n (Of o)) lent = pick (fits (Of o) lent) (starts_by n (k n) (call_step d.book (d.calls n) o) ++ (OfCall n o ∷ [])) []
comes_by d k (OnCall n (Heard w)) lent = pick (awaits (standing (d.calls n))) (OfCall n (Announce w) ∷ []) []
comes_by d k (LookAt n Next) lent = OfCall n (NextVector lent) ∷ []
comes_by d k (LookAt n Show) lent = []
comes_by d k (OnPacket n o) lent = OfPacket n o ∷ []

-- of a history, the latest first: the operations, and what is kept after them
unfoldable pub made_by : Calls → List Operation × Keeping
made_by [] = ([], λ n. [])
made_by (f ∷ fs) = let m = made_by fs in let d = device_after step m.0 in (comes_by d m.1 f.0 f.1 ++ m.0, kept_then d m.1 f.0 f.1)

abbrev pub operations_of : Calls → List Operation
operations_of fs = (made_by fs).0

-- ---- what a host's octets hold

-- the device that they are
pub record Holds (h : Host) (d : Device) : Type 0 where
  pub book : h.book ≡ d.book
  pub calls : (n : ℕ) → call_of (hearing_in (h.calls n)) ≡ d.calls n
  pub packets : (n : ℕ) → packet_in (h.packets n) ≡ d.packets n

-- a call, with what it keeps
abbrev pub hearing_of : Call → List (List ℕ) → Hearing
hearing_of c [] = alone c
hearing_of c (w ∷ ws) = keeping c w

-- the same octets
pub record SameOctets (h g : Host) : Type 0 where
  pub book : h.book ≡ g.book
  pub calls : (n : ℕ) → h.calls n ≡ g.calls n
  pub packets : (n : ℕ) → h.packets n ≡ g.packets n

-- ---- what a function answers, and the elements that were lent for what it hands out, by the device

-- 0 alone writes what is handed out
abbrev pub handing : List ℕ → Answer × List ℕ → ℕ × List ℕ
handing lent r = (number_of r.0, out_after lent r.0 r.1)

-- as an operation does
abbrev pub as_operation : Device → Operation → List ℕ → ℕ × List ℕ
as_operation d o lent = let r = step d o in handing lent (r.0, r.1.1)

-- where what is lent fits; else it is 2
abbrev pub if_fits : Bool → List ℕ → ℕ × List ℕ → ℕ × List ℕ
if_fits t lent r = pick t r (2, lent)

-- each as the operation that it comes to. What is none: a vector is heard, whether it is kept or announced; and a call is shown
abbrev pub answer_by : Device → Function → List ℕ → ℕ × List ℕ
answer_by d (Keys o) lent = (number_of (step d (OfBook o)).0, lent)
answer_by d (Screen o) lent = if_fits (eqb (length lent) (screen_room o)) lent (as_operation d (OfScreen o) lent)
answer_by d (OnCall n (Of o)) lent = if_fits (fits (Of o) lent) lent (as_operation d (OfCall n o) lent)
answer_by d (OnCall n (Heard w)) lent = handing lent (answered (heard_refusals (standing (d.calls n)) w) Done, [])
answer_by d (LookAt n Next) lent = as_operation d (OfCall n (NextVector lent)) lent
answer_by d (LookAt n Show) lent = if_fits (eqb (length lent) shown_octets) lent (handing lent (show_of (d.calls n)))
answer_by d (OnPacket n o) lent = as_operation d (OfPacket n o) lent

-- ---- demand 1 of a host: what is turned for it is turned by the call, or packet, that its octets hold, and its key was loaded

pub record HostDemand1 : Type 0 where
  pub words : (fs : Calls) (n mask : ℕ) (frame : List ℕ) → let r = host_step (host_after fs) (OnCall n (Of (Voice mask frame))) frame in
      r.0 ≡ 0 → WordsTurned (history step (operations_of fs)) n (call_of (hearing_in ((host_after fs).calls n))) mask frame r.1.1
  pub messages : (fs : Calls) (n : ℕ) (message : List ℕ) → let r = host_step (host_after fs) (OnPacket n (Message message)) message in
      r.0 ≡ 0 → MessageTurned (history step (operations_of fs)) n (packet_in ((host_after fs).packets n)) message r.1.1
