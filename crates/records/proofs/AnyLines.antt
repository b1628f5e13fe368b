-- Through any lines from an all-zero book and no call, each gets an answer of its record: 2, 4, 8 and 17 are never printed, nor 6 for an O or a J.
use mathlib.Core.Path.{◌≡◌, refl, sym, ap, ◌∙◌}
use mathlib.Core.Bool.{Bool, true, false, true≢false, false≢true}
use mathlib.Core.List.{List, [], ◌∷◌, ◌++◌}
use Prim.Native.Nat.{ℕ, ◌≤◌}
use lib.ListN.{length, take, replicate}
use Rattle.answers.specs.declared.Answer.{Answer}
use Rattle.answers.specs.Numbers.{number_of, is_one_of}
use Rattle.keybook.specs.Book.{book_octets}
use Rattle.calls.specs.declared.call.Call.{Call}
use Rattle.calls.specs.Call.{no_call}
use Rattle.lines.specs.Record.{Record, Load, Open, Join, Voice, Announce, Lost, End, Malformed, line_of}
use Rattle.records.specs.Step.{step_of}
use Rattle.records.specs.Reach.{answers_to}
use Rattle.records.specs.declared.reader.Carry.{Carry}
use Rattle.records.specs.Answered.{answer_line, answer_room, Recorder, recorder, answered}
use Rattle.text.specs.Reader.{lines_of, all_answered}
use Rattle.records.specs.Reader.{line_reader, started, close_of, Run}
use Rattle.records.proofs.RunLaws.{run_whole}
use Rattle.records.proofs.SoundLaws.{Sound, first_sound, step_sound, lines_sound}
use Rattle.records.proofs.ReachLaws.{step_can}

-- ---- the answers, through any lines

-- an O or a J
abbrev pub is_opening : Record → Bool
is_opening (Load c i key) = false
is_opening (Open c i w) = true
is_opening (Join c i) = true
is_opening (Voice mask frame) = false
is_opening (Announce w) = false
is_opening Lost = false
is_opening End = false
is_opening Malformed = false

none_has : (r : Record) → (is_one_of 2 (answers_to r) ≡ false) × (is_one_of 4 (answers_to r) ≡ false) × (is_one_of 8 (answers_to r) ≡ false)
    × (is_one_of 17 (answers_to r) ≡ false) × (is_opening r ≡ true → is_one_of 6 (answers_to r) ≡ false)
none_has (Load c i key) = (refl, refl, refl, refl, λ e. absurd (false≢true e))
none_has (Open c i w) = (refl, refl, refl, refl, λ e. refl)
none_has (Join c i) = (refl, refl, refl, refl, λ e. refl)
none_has (Voice mask frame) = (refl, refl, refl, refl, λ e. refl)
none_has (Announce w) = (refl, refl, refl, refl, λ e. refl)
none_has Lost = (refl, refl, refl, refl, λ e. refl)
none_has End = (refl, refl, refl, refl, λ e. refl)
none_has Malformed = (refl, refl, refl, refl, λ e. refl)

other : (ns : List ℕ) {n m : ℕ} → is_one_of n ns ≡ true → is_one_of m ns ≡ false → n ≡ m → ⊥
other ns t f e = true≢false (sym t ∙ ap (λ (x : ℕ). is_one_of x ns) e ∙ f)

-- before any line
abbrev pub first : Recorder
first = recorder (replicate book_octets 0) no_call

-- lines from the start, and one line more
module _ (ls : List (List ℕ)) (l : List ℕ) where
  abbrev pub then : Recorder
  then = (all_answered line_reader ls first).1

  abbrev pub number_then : ℕ
  number_then = number_of (step_of (line_of l) then.book then.call).answer

  -- it gets one of its record's answers
  pub answers-its : is_one_of number_then (answers_to (line_of l)) ≡ true
  answers-its = step_can then.book then.call (lines_sound ls first first_sound) l (line_of l) refl

  -- so never 2, 4, 8 or 17, nor 6 where it is an O or a J
  pub never-answers : (number_then ≡ 2 → ⊥) × (number_then ≡ 4 → ⊥) × (number_then ≡ 8 → ⊥) × (number_then ≡ 17 → ⊥)
      × (is_opening (line_of l) ≡ true → number_then ≡ 6 → ⊥)
  never-answers =
      let ns = answers_to (line_of l) in
      let has-none = none_has (line_of l) in
      (other ns answers-its has-none.0, other ns answers-its has-none.1, other ns answers-its has-none.2, other ns answers-its has-none.3, λ o. other ns answers-its (has-none.4 o))

-- ---- and what is printed

-- an output line for each line, in order, its number one of its record's answers
pub data Printed : List (List ℕ) → List ℕ → Type 0 where
  no_line : Printed [] []
  a-line : {ls : List (List ℕ)} {rest : List ℕ} (l : List ℕ) (a : Answer) (call : Call) (frame : List ℕ) → is_one_of (number_of a) (answers_to (line_of l)) ≡ true
      → Printed ls rest → Printed (l ∷ ls) (answer_line a call frame ++ rest)

lines_print : (ls : List (List ℕ)) (r : Recorder) → Sound r.book r.call → Printed ls (all_answered line_reader ls r).0
unfolding all_answered answered
lines_print [] r s = no_line
lines_print (l ∷ ls) r s =
    let o = step_of (line_of l) r.book r.call in
    a-line l o.answer o.call o.frame (step_can r.book r.call s l (line_of l) refl) (lines_print ls (answered l r).1 (step_sound (line_of l) s))

-- an input whole, however it is cut
pub run_prints : {input output e : List ℕ} {d : Carry} → Run started (replicate book_octets 0) input output d e → (out : List ℕ) → answer_room ≤ length out
    → {w : ℕ} {c : Carry} {b out' : List ℕ} → (w, (c, (b, out'))) ≡ close_of d e out → Printed (lines_of input) (output ++ take w out')
run_prints {input} r out h q = rw (run_whole r out h q).output_is (lines_print (lines_of input) first first_sound)
