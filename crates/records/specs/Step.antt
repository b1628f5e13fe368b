-- What a record does to the book and the call (document 01, "The receiver program").
use Rattle.std.specs.Prelude.{List, [], ℕ}
use Rattle.octets.specs.Tests.{pick}
use Rattle.answers.specs.declared.Answer.{Answer}
use Rattle.answers.specs.Numbers.{is_done}
use Rattle.answers.specs.declared.Answer.TheVariants as answer
use Rattle.sizes.specs.Frame.{half_rate}
use Rattle.calls.specs.declared.counts.Counts.{Counts}
use Rattle.calls.specs.declared.call.Call.{Call}
use Rattle.calls.specs.Call.{strict, end_of}
use Rattle.calls.specs.Opening.{open_of, join_of}
use Rattle.voice.specs.Slot.{lost_of, voice_of}
use Rattle.calls.specs.Vector.{announce_of}
use Rattle.lines.specs.Record.{Record, Load, Open, Join, Voice, Announce, Lost, End, Malformed}
use Rattle.keyentry.specs.Name.{no_name}
use Rattle.keybook.specs.Operations.{load_of}

-- an answer, the book and the call after it, and the frame afterwards where a voice slot was done, else none
pub record Effect : Type 0 where
  pub answer : Answer
  pub book : List ℕ
  pub call : Call
  pub frame : List ℕ

-- of an operation on the book, and of one on the call
abbrev pub book_step : Call → Answer × List ℕ → Effect
book_step call o = record { answer = o.0; book = o.1; call = call; frame = [] }

abbrev pub call_step : List ℕ → Answer × Call → Effect
call_step book o = record { answer = o.0; book = book; call = o.1; frame = [] }

-- the counts that end hands out are not printed
abbrev pub without_counts : Answer × (Call × Counts) → Answer × Call
without_counts o = (o.0, o.1.0)

-- a slot shows its frame where it is done; a held one does not
abbrev pub slot_step : List ℕ → Answer × (Call × List ℕ) → Effect
slot_step book o = record { answer = o.0; book = book; call = o.1.0; frame = pick (is_done o.0) o.1.1 [] }

-- a key of the receiver program has no name (document 02, W-201); its call is at half rate, and strict: a recorder files nothing that wasn't announced (W-206)
unfoldable pub step_of : Record → List ℕ → Call → Effect
step_of (Load c i key) book call = book_step call (load_of book c i no_name key)
step_of (Open c i vector) book call = call_step book (open_of call c i half_rate strict vector book)
step_of (Join c i) book call = call_step book (join_of call c i half_rate strict book)
step_of (Voice mask frame) book call = slot_step book (voice_of call mask frame)
step_of (Announce vector) book call = call_step book (announce_of call vector)
step_of Lost book call = call_step book (lost_of call)
step_of End book call = call_step book (without_counts (end_of call))
step_of Malformed book call = call_step book (answer.Malformed, call)

-- as the code has it
abbrev pub as_effect : Answer → List ℕ → Call → List ℕ → Effect
as_effect answer book call frame = record { answer = answer; book = book; call = call; frame = frame }
