-- The receiver program's reader (document 01, "The receiver program"): lines out of pieces of input, each answered on a book and a call; and what the code
-- carries from piece to piece.
use Rattle.std.specs.Prelude.{◌≡◌, List, [], ◌++◌, ℕ, ◌+◌, ◌-◌, length, take, replicate}
use Rattle.calls.specs.declared.call.Call.{Call}
use Rattle.calls.specs.Call.{no_call}
use Rattle.text.specs.Reader.{lines_of, Reader, Reading, all_answered, taken, closing}
use Rattle.lines.specs.Record.{line_octets}
use Rattle.records.specs.declared.reader.Carry.{Carry}
use Rattle.records.specs.Answered.{answer_room, Recorder, recorder, answered}

-- the most octets of a line that are kept: one more than a line may have, which shows that it is too long
abbrev pub kept_octets : ℕ
kept_octets = line_octets + 1

abbrev pub line_reader : Reader Recorder
line_reader = record { act = answered; most = kept_octets; room = answer_room }

-- ---- as the code carries it: zeros past the octets of the line

-- of the first octets of a line
abbrev pub reading : List ℕ → ℕ → Call → List ℕ → Reading Recorder
reading line count call book = record { line = take count line; state = recorder book call }

abbrev pub reading_of : Carry → List ℕ → Reading Recorder
reading_of c book = reading c.line c.count c.call book

abbrev pub carried : List ℕ → Call → Carry
carried line call = record { line = line ++ replicate (kept_octets - length line) 0; count = length line; call = call }

-- before any input, and without a call
abbrev pub started : Carry
started = carried [] no_call

-- how much output was written, what is carried on, the book and the lent octets after it
abbrev pub Left : Type 0
Left = ℕ × (Carry × (List ℕ × List ℕ))

abbrev pub handed : ℕ × (Reading Recorder × List ℕ) → Left
handed l = let s = l.1.0 in (l.0, (carried s.line s.state.call, (s.state.book, l.1.1)))

-- of a piece as much as is usable, from a reading on
unfoldable pub take_from : Reading Recorder → List ℕ → List ℕ → ℕ × Left
take_from s piece out = let t = taken line_reader s piece out in (t.0, handed t.1)

abbrev pub take_of : Carry → List ℕ → List ℕ → List ℕ → ℕ × Left
take_of carry piece book out = take_from (reading_of carry book) piece out

-- the end of the input
unfoldable pub close_from : Reading Recorder → List ℕ → Left
close_from s out = handed (closing line_reader s out)

abbrev pub close_of : Carry → List ℕ → List ℕ → Left
close_of carry book out = close_from (reading_of carry book) out

-- ---- a run

-- pieces taken one after the other, each with lent octets for its output: from what is carried and a book, by the input that was used, with the
-- output that was written, to what is carried and the book after it
pub data Run : Carry → List ℕ → List ℕ → List ℕ → Carry → List ℕ → Type 0 where
  none : {c : Carry} {b : List ℕ} → Run c b [] [] c b
  some : {c c' d : Carry} {b b' e : List ℕ} {n w : ℕ} {out' rest more : List ℕ} (piece out : List ℕ) → (n, (w, (c', (b', out')))) ≡ take_of c piece b out
      → Run c' b' rest more d e → Run c b (take n piece ++ rest) (take w out' ++ more) d e

-- what all lines of an input come to, from a book on and without a call
abbrev pub whole_of : List ℕ → List ℕ → List ℕ × Recorder
whole_of input book = all_answered line_reader (lines_of input) (recorder book no_call)

-- the end of a run from the start: output, book and call are those of all its lines, and no octets are carried
pub record Whole (input book output book' : List ℕ) (carry : Carry) : Type 0 where
  pub output_is : output ≡ (whole_of input book).0
  pub book_is : book' ≡ (whole_of input book).1.book
  pub carry_is : carry ≡ carried [] (whole_of input book).1.call
