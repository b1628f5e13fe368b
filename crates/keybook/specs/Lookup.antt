-- Cited by private contracts only: what the search that each operation begins with comes to.
use Rattle.std.specs.Prelude.{ℕ, List, Option, Some, None, Result, Ok, Err, ltb}
use Rattle.octets.specs.Tests.{pick}
use Rattle.answers.specs.declared.Answer.{Answer}
use Rattle.answers.specs.declared.Answer.TheVariants.{NoEntry}
use Rattle.answers.specs.Numbers.{is_done}
use Rattle.answers.specs.Outcomes.{Refusals, outcome}
use Rattle.keybook.specs.Book.{entries, find_entry, bad_book, book_refusals}

-- the number of an entry, where there is one
abbrev pub place : ℕ → Option ℕ
place k = pick (ltb k entries) (Some k) None

-- where the entry is, or the refusal
abbrev pub found : Answer × ℕ → Result (Option ℕ) Answer
found r = pick (is_done r.0) (Ok (place r.1)) (Err r.0)

abbrev pub found_by : Refusals → List ℕ → ℕ → ℕ → Result (Option ℕ) Answer
found_by rs b c i = found (outcome entries rs (find_entry b c i))

unfoldable pub lookup : List ℕ → ℕ → ℕ → Result (Option ℕ) Answer
lookup b c i = found_by (book_refusals b c i) b c i

-- once length and range were asked
unfoldable pub seeking : List ℕ → ℕ → ℕ → Result (Option ℕ) Answer
seeking b c i = found_by (bad_book b) b c i

-- the entry's number, or why there is none
abbrev pub spotted : Result (Option ℕ) Answer → Result ℕ Answer
spotted (Ok (Some k)) = Ok k
spotted (Ok None) = Err NoEntry
spotted (Err a) = Err a
