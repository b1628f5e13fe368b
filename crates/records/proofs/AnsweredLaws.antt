-- A line of text and its output line over lent octets.
use mathlib.Core.Path.{◌≡◌, ap, ◌∙◌}
use mathlib.Core.List.{List}
use Prim.Native.Nat.{ℕ}
use native.Mathlib.Nat.{zero-add}
use native.Mathlib.Omega.{arith}
use lib.ListN.{length}
use Rattle.octets.specs.Lists.{replaced}
use Rattle.answers.specs.declared.Answer.{Answer}
use Rattle.calls.specs.declared.call.Call.{Call}
use Rattle.text.specs.Responded.{Responded}
use Rattle.lines.specs.Record.{Record, line_of}
use Rattle.records.specs.Step.{step_of, as_effect}
use Rattle.records.specs.Lent.{Laid}
use Rattle.records.specs.Answered.{answer_line, answer_room, Recorder, recorder, answered_by, answered}
use Rattle.records.specs.Reader.{line_reader}
use Rattle.records.proofs.OutputLaws.{laid_as}

-- a record read, done and printed
pub responded : (line book : List ℕ) (call : Call) {out book' frame out' : List ℕ} {r : Record} {a : Answer} {call' : Call} {n : ℕ} → r ≡ line_of line
    → as_effect a book' call' frame ≡ step_of r book call → Laid answer_room out 0 (answer_line a call' frame) out' n
    → Responded line_reader line (recorder book call) out n (recorder book' call') out'
unfolding answered replaced
responded line book call p q l =
    let e = ap answered_by (q ∙ ap (λ (x : Record). step_of x book call) p) in
    let m = laid_as {most' = answer_room} l (ap (λ (x : List ℕ × Recorder). x.0) e) (omega arith) in
    let none = zero-add (length (answered line (recorder book call)).0) in
    record { within = m.within; long = m.ends ∙ none; octets = m.octets ∙ rw none; state_is = ap (λ (x : List ℕ × Recorder). x.1) e }
