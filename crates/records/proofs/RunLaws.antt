-- However an input is cut into pieces, and whatever room for output each is given, taking them and finishing writes what its lines come to.
use mathlib.Core.Path.{◌≡◌, refl, sym, ap, ◌∙◌}
use mathlib.Core.List.{List, [], ◌∷◌, ◌++◌}
use native.Mathlib.Omega.{arith}
use Prim.Native.Nat.{ℕ, ◌≤◌}
use lib.ListN.{length, take, drop, take-append-drop}
use Rattle.calls.specs.Call.{no_call}
use Rattle.text.specs.Reader.{Reading, fresh, and_then, fed, finished, closing}
use Rattle.text.proofs.ReaderLaws.{fed_append, whole}
use Rattle.text.proofs.TakeLaws.{taken-fed, closing-all}
use Rattle.records.specs.declared.reader.Carry.{Carry}
use Rattle.records.specs.Answered.{answer_room, Recorder, recorder}
use Rattle.records.specs.Reader.{line_reader, reading_of, carried, started, Left, whole_of, take_of, close_from, close_of, Run, none, some, Whole}
use Rattle.records.proofs.ReaderLaws.{enough, taken_is, closing-is}

abbrev Fed : Type 0
Fed = List ℕ × Reading Recorder

-- ---- a piece taken in parts: what is left comes to what it came to with what was taken

pub fed_on : (piece out : List ℕ) (c : Carry) (b : List ℕ) {c' : Carry} {b' out' : List ℕ} {n w : ℕ} → (n, (w, (c', (b', out')))) ≡ take_of c piece b out
    → (fed line_reader (reading_of c b) piece).1 ≡ (fed line_reader (reading_of c' b') (drop n piece)).1
fed_on piece out c b {n = n} q =
    let s = reading_of c b in
    ap (λ (k : List ℕ). (fed line_reader s k).1) (sym (take-append-drop n piece))
    ∙ ap (λ (f : Fed). f.1) (fed_append line_reader (take n piece) s (drop n piece))
    ∙ ap (λ (f : Fed). (fed line_reader f.1 (drop n piece)).1) (taken-fed line_reader s piece out (taken_is s piece out q))

pub fed_all : (s : Reading Recorder) (piece : List ℕ) → length piece ≡ 0 → (fed line_reader s piece).1 ≡ s
unfolding fed
fed_all s [] e = refl
fed_all s (x ∷ xs) e = absurd (omega arith)

-- ---- a run

pub run_fed : {c d : Carry} {b e input output : List ℕ} → Run c b input output d e → fed line_reader (reading_of c b) input ≡ (output, reading_of d e)
unfolding fed
run_fed none = refl
run_fed {c} {d} {b} {e} (some {n = n} {rest = rest} piece out q r) =
    let s = reading_of c b in
    fed_append line_reader (take n piece) s rest ∙ rw (taken-fed line_reader s piece out (taken_is s piece out q), run_fed r)

pub run_whole : {book input output e : List ℕ} {d : Carry} → Run started book input output d e → (out : List ℕ) → answer_room ≤ length out
    → {w : ℕ} {c : Carry} {b out' : List ℕ} → (w, (c, (b, out'))) ≡ close_of d e out → Whole input book (output ++ take w out') b c
unfolding close_from
run_whole {book} {input} {output} {e} {d} r out h {w} {c} {b} {out'} q =
    let s = reading_of d e in
    let last = closing-all line_reader s out h (closing-is s out q) in
    let all : and_then (output, s) (finished line_reader) ≡ whole_of input book = ap (λ (f : Fed). and_then f (finished line_reader)) (sym (run_fed r)) ∙ whole line_reader enough input (recorder book no_call) in
    let left = closing line_reader s out in
    let after : left.1.0 ≡ fresh (finished line_reader s).1 = (closing-all line_reader s out h refl).1 in
    record {
      output_is = rw last.0 (ap (λ (x : List ℕ × Recorder). x.0) all);
      book_is = ap (λ (x : Left). x.1.1.0) q ∙ ap (λ (t : Reading Recorder). t.state.book) after ∙ ap (λ (x : List ℕ × Recorder). x.1.book) all;
      carry_is = ap (λ (x : Left). x.1.0) q ∙ ap (λ (t : Reading Recorder). carried t.line t.state.call) after ∙ ap (λ (x : List ℕ × Recorder). carried [] x.1.call) all;
    }
