-- A report of calls that have ended (document 02, W-207): the counts that end gave of each, added up, and opened over opened plus held.
use Rattle.std.specs.Prelude.{Bool, ◌||◌, not, List, [], ◌∷◌, ℕ, zero, suc, ◌+◌, ◌*◌, ◌/◌, ◌%◌, leb, ltb, eqb, length, get_or, replicate}
use Rattle.octets.specs.Tests.{all_below}
use Rattle.sizes.specs.Frame.{most_words}
use Rattle.answers.specs.declared.Answer.{Answer}
use Rattle.answers.specs.declared.Answer.TheVariants.{WrongLength, PastLimit}
use Rattle.answers.specs.Outcomes.{Refusals, outcome}
use Rattle.report.specs.declared.Sums.{Sums}

-- ---- the counts, call after call: four to a call, each at its place

abbrev pub per_call : ℕ
per_call = 4

abbrev pub opened : ℕ
opened = 0

abbrev pub held : ℕ
held = 1

abbrev pub replaced : ℕ
replaced = 2

abbrev pub lost : ℕ
lost = 3

abbrev pub calls : List ℕ → ℕ
calls counts = length counts / per_call

-- what stands at a place of a call, counted from 0
abbrev pub count_at : ℕ → List ℕ → ℕ → ℕ
count_at place counts call = get_or counts (per_call * call + place) 0

abbrev pub most_calls : ℕ
most_calls = 10000

-- no count is above the words of the most slots
unfoldable pub counts_within : List ℕ → Bool
counts_within counts = all_below (λ i. leb (get_or counts i 0) most_words) (length counts)

-- ---- their sums

-- f 0 + f 1 + .. + f (n - 1)
unfoldable pub sum_below : (ℕ → ℕ) → ℕ → ℕ
sum_below f zero = 0
sum_below f (suc n) = sum_below f n + f n

-- what stands at a place, of each call added up
unfoldable pub sum_at : ℕ → List ℕ → ℕ
sum_at place counts = sum_below (count_at place counts) (calls counts)

-- ---- the report

-- what it says, in order
abbrev pub figures : Sums → List ℕ
figures r = r.opened ∷ r.held ∷ r.replaced ∷ r.lost ∷ r.part ∷ r.whole ∷ []

abbrev pub no_figures : List ℕ
no_figures = replicate 6 0

-- the four sums in their order, and opened over opened plus held
unfoldable pub sums : List ℕ → List ℕ
sums counts =
    sum_at opened counts
    ∷ sum_at held counts
    ∷ sum_at replaced counts
    ∷ sum_at lost counts
    ∷ sum_at opened counts
    ∷ (sum_at opened counts + sum_at held counts)
    ∷ []

-- 2 where the numbers aren't four to a call; 16 with more than 10,000 calls, or a count above 4,000,000
unfoldable pub report_refusals : List ℕ → Refusals
report_refusals counts =
    (not (eqb (length counts % per_call) 0), WrongLength) ∷ (ltb most_calls (calls counts) || not (counts_within counts), PastLimit) ∷ []

-- a refusal gives zeros
unfoldable pub report_of : List ℕ → Answer × List ℕ
report_of counts = outcome no_figures (report_refusals counts) (sums counts)
