-- Lines out of pieces of input (document 01, "The receiver program"), over any state and any action on a line: what is carried from piece to piece, and
-- what a whole input comes to.
use Rattle.std.specs.Prelude.{List, [], ◌∷◌, ◌++◌, ℕ, suc, ◌-◌, ltb, eqb, length, take, drop}
use Rattle.octets.specs.Tests.{pick}
use Rattle.text.specs.Parted.{line_end, parted}

-- ---- a whole input

-- after the last line end nothing is no line
abbrev pub without_last : List (List ℕ) → List (List ℕ)
without_last [] = []
without_last (l ∷ []) = pick (eqb (length l) 0) [] (l ∷ [])
without_last (l ∷ m ∷ ls) = l ∷ without_last (m ∷ ls)

unfoldable pub lines_of : List ℕ → List (List ℕ)
lines_of input = without_last (parted line_end input)

-- ---- a reader

-- what a line does to the state and its output, the most octets of a line that are kept, and the room that its output needs
pub record Reader (S : Type 0) : Type 0 where
  pub act : List ℕ → S → List ℕ × S
  pub most : ℕ
  pub room : ℕ

-- the octets of the line that has not ended, as far as they are kept, and the state
pub record Reading (S : Type 0) : Type 0 where
  pub line : List ℕ
  pub state : S

-- before any octet of a line
abbrev pub fresh : {S : Type 0} → S → Reading S
fresh s = record { line = []; state = s }

-- output and what it leaves, and then what that comes to
abbrev pub and_then : {A B : Type 0} → List ℕ × A → (A → List ℕ × B) → List ℕ × B
and_then one rest = (one.0 ++ (rest one.1).0, (rest one.1).1)

-- output written at the start of lent octets
abbrev pub overlaid : List ℕ → List ℕ → List ℕ
overlaid out text = text ++ drop (length text) out

module _ {S : Type 0} (r : Reader S) where
  -- what lines come to, one after the other
  unfoldable pub all_answered : List (List ℕ) → S → List ℕ × S
  all_answered [] s = ([], s)
  all_answered (l ∷ ls) s = and_then (r.act l s) (all_answered ls)

  -- ---- pieces of an input

  -- with more octets of its line
  abbrev pub kept : Reading S → List ℕ → Reading S
  kept s xs = record { line = take r.most (s.line ++ xs); state = s.state }

  -- its line has ended
  abbrev pub ended : Reading S → List ℕ × S
  ended s = r.act s.line s.state

  -- what octets come to
  unfoldable pub fed : Reading S → List ℕ → List ℕ × Reading S
  fed s [] = ([], s)
  fed s (x ∷ xs) = pick (eqb x line_end) (and_then (ended s) (λ t. fed (fresh t) xs)) (fed (kept s (x ∷ [])) xs)

  -- the end of the input: a last line may lack its line end
  unfoldable pub finished : Reading S → List ℕ × S
  finished s = pick (eqb (length s.line) 0) ([], s.state) (ended s)

  -- how many octets of a piece are taken, with so much room left for output: where there is none for another line, no more
  unfoldable pub usable : ℕ → Reading S → List ℕ → ℕ
  usable left s [] = 0
  usable left s (x ∷ xs) =
      pick (ltb left r.room) 0
      (suc
      (pick (eqb x line_end)
      (usable (left - length (ended s).0) (fresh (ended s).1) xs)
      (usable left (kept s (x ∷ [])) xs)))

  -- ---- over lent octets

  -- how much output was written, what is carried on, and the lent octets after it
  abbrev pub leaves : List ℕ → List ℕ × Reading S → ℕ × (Reading S × List ℕ)
  leaves out f = (length f.0, (f.1, overlaid out f.0))

  -- of a piece as much as is usable: how much that is, and what it leaves
  unfoldable pub taken : Reading S → List ℕ → List ℕ → ℕ × (ℕ × (Reading S × List ℕ))
  taken s piece out = let n = usable (length out) s piece in (n, leaves out (fed s (take n piece)))

  -- the end, where there is room for the last line; else nothing is done
  abbrev pub lastly : ℕ → Reading S → List ℕ × Reading S
  lastly left s = pick (ltb left r.room) ([], s) ((finished s).0, fresh (finished s).1)

  unfoldable pub closing : Reading S → List ℕ → ℕ × (Reading S × List ℕ)
  closing s out = leaves out (lastly (length out) s)
