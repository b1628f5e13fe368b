-- The interface for C and Rust, by what each function is lent: the octets of a book, a call or a packet, and the elements for what it hands out or turns.
use Rattle.std.specs.Prelude.{Bool, true, ◌&&◌, List, ℕ, ◌*◌, eqb, length, Result}
use Rattle.octets.specs.Tests.{pick}
use Rattle.answers.specs.declared.Answer.{Answer}
use Rattle.answers.specs.declared.Answer.TheVariants.{Done, WrongLength}
use Rattle.answers.specs.Numbers.{number_of}
use Rattle.keybook.specs.History as book
use Rattle.calls.specs.declared.call.Call.{Call}
use Rattle.calls.specs.Vector.{next_vector_of}
use Rattle.hearing.specs.declared.Hearing.{Hearing}
use Rattle.hearing.specs.Hearing.{call_of}
use Rattle.hearing.specs.Heard.{handed, carried, heard_of}
use Rattle.batch.specs.Batch.{step_octets, batch_of}
use Rattle.report.specs.Report.{report_of}
use Rattle.held.specs.Call as call
use Rattle.held.specs.Packet as packet
use Rattle.nxdn.specs.Operations.{with_none, ScreenOperation, Name, Inventory, screen_step, CallOperation, Open, Start, Join, Voice, Lost, End, Announce, NextVector, call_step, PacketOperation, packet_step}
use Rattle.nxdn.specs.Lent.{left_by, handed_into, on_lent}
use Rattle.nxdn.specs.Shown.{shown_octets, show_of}

-- ---- the book

unfoldable pub on_book : book.Operation → List ℕ → ℕ × List ℕ
on_book o b = let r = book.step o b in (number_of r.0, r.1)

-- a name's octets, or an entry's without its key
abbrev pub screen_room : ScreenOperation → ℕ
screen_room (Name c i) = 16
screen_room (Inventory k) = 20

unfoldable pub on_screen : List ℕ → ScreenOperation → List ℕ → ℕ × List ℕ
on_screen b o lent = handed_into (eqb (length lent) (screen_room o)) lent (screen_step b o)

-- ---- a call

-- an operation of documents 01 and 02 on the call; or a vector is heard
pub data Asked : Type 0 where
  Of : CallOperation → Asked
  Heard : List ℕ → Asked

abbrev pub asked_step : List ℕ → Asked → Hearing → Answer × (Hearing × List ℕ)
asked_step b (Of o) h = carried (λ c. call_step b c o) h
asked_step b (Heard w) h = with_none (heard_of h w)

-- end is lent four numbers for its counts; a frame and the octets for a next vector are the operation's own to judge; what hands out nothing is lent [],
-- as the contracts have it
abbrev pub end_fits : CallOperation → List ℕ → Bool
end_fits (Open c i r s w) lent = true
end_fits (Start c i r w) lent = true
end_fits (Join c i r s) lent = true
end_fits (Voice mask frame) lent = true
end_fits Lost lent = true
end_fits End lent = eqb (length lent) 4
end_fits (Announce w) lent = true
end_fits (NextVector out) lent = true

abbrev pub fits : Asked → List ℕ → Bool
fits (Of o) lent = end_fits o lent
fits (Heard w) lent = true

unfoldable pub on_call : List ℕ → Asked → List ℕ → List ℕ → ℕ × (List ℕ × List ℕ)
on_call b a x lent = on_lent call.call_octets call.hearing_in call.octets_of (fits a lent) (asked_step b a) x lent

-- what a Result on the call that octets hold answers, and leaves in them, with what was kept carried over
abbrev pub call_left : List ℕ → Result Call Answer → ℕ × List ℕ
call_left x r = let h = call.hearing_in x in left_by (λ c. call.octets_of (handed h.kept h.next c)) x r

-- steps of a recording, as many as the answers that are lent for them: each has its own answer. 2, before all else, where any of them is of another length
unfoldable pub on_batch : List ℕ → List ℕ → List ℕ → ℕ × (List ℕ × (List ℕ × List ℕ))
on_batch x steps answers =
    let r = batch_of (length answers) (call.hearing_in x) steps in
    pick (eqb (length x) call.call_octets && eqb (length steps) (step_octets * length answers))
    (number_of Done, (call.octets_of r.1.0, (r.1.1, r.0)))
    (number_of WrongLength, (x, (steps, answers)))

-- what only looks: the next vector of a sender, and what a screen shows
pub data Look : Type 0 where
  Next Show : Look

abbrev pub look_of : Look → List ℕ → Call → Answer × List ℕ
look_of Next lent c = next_vector_of c lent
look_of Show lent c = show_of c

abbrev pub look_fits : Look → List ℕ → Bool
look_fits Next lent = true
look_fits Show lent = eqb (length lent) shown_octets

unfoldable pub on_look : Look → List ℕ → List ℕ → ℕ × List ℕ
on_look l x lent = handed_into (eqb (length x) call.call_octets && look_fits l lent) lent (look_of l lent (call_of (call.hearing_in x)))

-- ---- a packet

unfoldable pub on_packet : List ℕ → PacketOperation → List ℕ → List ℕ → ℕ × (List ℕ × List ℕ)
on_packet b o x lent = on_lent packet.packet_octets packet.packet_in packet.octets_of true (λ p. packet_step b p o) x lent

-- ---- a report

-- six numbers for its figures
unfoldable pub on_report : List ℕ → List ℕ → ℕ × List ℕ
on_report counts lent = handed_into (eqb (length lent) 6) lent (report_of counts)
