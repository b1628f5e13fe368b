-- The receiver program's reader: what is kept of a line is enough, and what the code carries and hands back is what the reader leaves.
use mathlib.Core.Path.{◌≡◌, ap, ◌∙◌}
use mathlib.Core.List.{List}
use Prim.Native.Nat.{ℕ, ◌≤◌, ◌<◌}
use native.Mathlib.Decide.{dec_lt}
use native.Mathlib.Omega.{arith}
use lib.ListN.{length, take}
use lib.Seq.{take_all, take-append_seam, length-take-le}
use borrow.Author.Tests.{lt-ltb}
use Rattle.calls.specs.declared.call.Call.{Call}
use Rattle.text.specs.Reader.{Reading, taken, closing}
use Rattle.text.proofs.ReaderLaws.{Enough}
use Rattle.text.proofs.TakeLaws.{taken-used, taken_wrote, taken_some, closing_wrote}
use Rattle.lines.specs.Record.{line_octets, line_of}
use Rattle.records.specs.declared.reader.Carry.{Carry}
use Rattle.records.specs.Answered.{answer_room, Recorder, recorder, answered}
use Rattle.records.specs.Reader.{kept_octets, line_reader, reading_of, carried, Left, handed, take_from, close_from}

-- ---- what is kept of a line is as good as the whole

line_kept : (l : List ℕ) → line_of (take kept_octets l) ≡ line_of l
unfolding line_of
line_kept l = go (dec_lt line_octets (length l))
  where
    go : Dec (line_octets < length l) → line_of (take kept_octets l) ≡ line_of l
    go (yes h) = rw (lt-ltb line_octets (length l) h, lt-ltb line_octets (length (take kept_octets l)) (rw (length-take-le kept_octets l (omega arith)) (omega arith)))
    go (no h) = ap line_of (take_all kept_octets l (omega arith))

pub enough : Enough line_reader
unfolding answered
enough = record { some = omega arith; as_all = λ l s. rw (line_kept l) }

-- ---- what is handed back, and the same read

abbrev read_back : Left → ℕ × (Reading Recorder × List ℕ)
read_back l = (l.0, (reading_of l.1.0 l.1.1.0, l.1.1.1))

read_handed : (l : ℕ × (Reading Recorder × List ℕ)) → read_back (handed l) ≡ l
read_handed l = rw (take-append_seam l.1.0.line)

module _ (s : Reading Recorder) (piece out : List ℕ) {n w : ℕ} {out' : List ℕ} where
  pub as_taken : {line book : List ℕ} {call : Call} → (n, (w, (record { line = line; state = recorder book call }, out'))) ≡ taken line_reader s piece out
      → (n, (w, (carried line call, (book, out')))) ≡ take_from s piece out
  unfolding take_from
  as_taken q = ap (λ (t : ℕ × (ℕ × (Reading Recorder × List ℕ))). (t.0, handed t.1)) q

  pub taken_is : {c : Carry} {b : List ℕ} → (n, (w, (c, (b, out')))) ≡ take_from s piece out → (n, (w, (reading_of c b, out'))) ≡ taken line_reader s piece out
  unfolding take_from
  taken_is q =
      let t = taken line_reader s piece out in
      ap (λ (x : ℕ × Left). (x.0, read_back x.1)) q ∙ ap (λ (l : ℕ × (Reading Recorder × List ℕ)). (t.0, l)) (read_handed t.1)

  -- how much was used and written
  pub take_bounds : {c : Carry} {b : List ℕ} → (n, (w, (c, (b, out')))) ≡ take_from s piece out → length out' ≡ length out
      → ((n ≤ length piece) × (w ≤ length out')) × (answer_room ≤ length out → 1 ≤ length piece → 1 ≤ n)
  take_bounds q l =
      let t = taken_is q in
      ((taken-used line_reader s piece out t, taken_wrote line_reader s piece out t l), taken_some line_reader s piece out t)

module _ (s : Reading Recorder) (out : List ℕ) {w : ℕ} {out' : List ℕ} where
  pub as_closing : {line book : List ℕ} {call : Call} → (w, (record { line = line; state = recorder book call }, out')) ≡ closing line_reader s out
      → (w, (carried line call, (book, out'))) ≡ close_from s out
  unfolding close_from
  as_closing q = ap handed q

  pub closing-is : {c : Carry} {b : List ℕ} → (w, (c, (b, out'))) ≡ close_from s out → (w, (reading_of c b, out')) ≡ closing line_reader s out
  unfolding close_from
  closing-is q = ap read_back q ∙ read_handed (closing line_reader s out)

  pub close_bounds : {c : Carry} {b : List ℕ} → (w, (c, (b, out'))) ≡ close_from s out → length out' ≡ length out → w ≤ length out'
  close_bounds q l = closing_wrote line_reader s out (closing-is q) l
