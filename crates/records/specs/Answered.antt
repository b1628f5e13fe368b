-- The output line of a record (document 01, "The receiver program"), and what a line comes to in all.
use Rattle.std.specs.Prelude.{List, [], ◌∷◌, ◌++◌, ℕ, ◌+◌, ◌*◌, eqb, length}
use Rattle.octets.specs.Tests.{pick}
use Rattle.answers.specs.declared.Answer.{Answer}
use Rattle.answers.specs.Numbers.{number_of}
use Rattle.calls.specs.declared.call.Call.{Call}
use Rattle.calls.specs.Call.{closed_end}
use Rattle.text.specs.Parted.{tab_octet, line_end}
use Rattle.text.specs.Decimal.{decimal}
use Rattle.text.specs.Hex.{hex_text}
use Rattle.lines.specs.Record.{record_frame, line_of}
use Rattle.records.specs.Step.{Effect, step_of}

-- what stands for nothing
abbrev pub dash : List ℕ
dash = 0x2D ∷ []

-- the position after the record, or a dash without a call
abbrev pub place : Call → List ℕ
place c = pick (eqb c.end closed_end) dash (decimal c.position)

-- the frame afterwards, or a dash where none is shown
abbrev pub shown : List ℕ → List ℕ
shown frame = pick (eqb (length frame) 0) dash (hex_text frame)

-- the answer number, the position and the frame, parted by tabs
unfoldable pub answer_line : Answer → Call → List ℕ → List ℕ
answer_line answer call frame = decimal (number_of answer) ++ (tab_octet ∷ (place call ++ (tab_octet ∷ (shown frame ++ (line_end ∷ [])))))

-- room for any number below 1,000, and for any output line: two numbers, a frame, two tabs and a line end
abbrev pub number_room : ℕ
number_room = 3

abbrev pub answer_room : ℕ
answer_room = number_room + 1 + number_room + 1 + 2 * record_frame + 1

-- the book and the call
pub record Recorder : Type 0 where
  pub book : List ℕ
  pub call : Call

abbrev pub recorder : List ℕ → Call → Recorder
recorder book call = record { book = book; call = call }

-- what a line of text comes to: its output line, the book and the call
abbrev pub answered_by : Effect → List ℕ × Recorder
answered_by s = (answer_line s.answer s.call s.frame, recorder s.book s.call)

unfoldable pub answered : List ℕ → Recorder → List ℕ × Recorder
answered line s = answered_by (step_of (line_of line) s.book s.call)
