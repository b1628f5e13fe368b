-- What a record can answer in a run (document 01, "The receiver program"): from an all-zero book and no call, through any lines before it.
use Rattle.std.specs.Prelude.{List, [], ◌∷◌, ℕ}
use Rattle.lines.specs.Record.{Record, Load, Open, Join, Voice, Announce, Lost, End, Malformed}

-- the numbers that it can get
abbrev pub answers_to : Record → List ℕ
answers_to (Load c i key) = 0 ∷ 3 ∷ 6 ∷ 7 ∷ 11 ∷ 12 ∷ 13 ∷ []
answers_to (Open c i vector) = 0 ∷ 3 ∷ 5 ∷ 9 ∷ []
answers_to (Join c i) = 0 ∷ 3 ∷ 5 ∷ 9 ∷ []
answers_to (Voice mask frame) = 0 ∷ 1 ∷ 9 ∷ 10 ∷ 16 ∷ []
answers_to (Announce vector) = 0 ∷ 9 ∷ []
answers_to Lost = 0 ∷ 9 ∷ 16 ∷ []
answers_to End = 0 ∷ 9 ∷ []
answers_to Malformed = 15 ∷ []
