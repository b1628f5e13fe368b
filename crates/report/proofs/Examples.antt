-- Reports written out: of two calls, none, numbers that aren't four to a call, and counts and calls at the limits and past them.
use mathlib.Core.Path.{◌≡◌, refl}
use mathlib.Core.List.{List, [], ◌∷◌}
use mathlib.Core.Logic.{inl}
use Prim.Native.Nat.{ℕ, ◌*◌, ◌<◌, ◌≤◌}
use native.Mathlib.Decide.{dec_lt}
use native.Mathlib.Omega.{arith}
use lib.ListN.{length, get_or, replicate, length-replicate, get_or-replicate, get_or-eq_default}
use Rattle.octets.specs.Tests.{all_below}
use Rattle.sizes.specs.Frame.{most_words}
use Rattle.answers.specs.declared.Answer.TheVariants.{Done, WrongLength, PastLimit}
use Rattle.report.specs.Report.{per_call, most_calls, counts_within, sum_below, sum_at, sums, report_refusals, report_of}
use Rattle.report.proofs.SumLaws.{sum_alike}
use Rattle.report.proofs.ReportLaws.{Adds, number, past_limit_exactly}

-- 1 and 5 opened, 20 and 60 held, 300 and 700 replaced, 4,000 and 8,000 lost: 6 over 86
pub two-calls : report_of (1 ∷ 20 ∷ 300 ∷ 4000 ∷ 5 ∷ 60 ∷ 700 ∷ 8000 ∷ []) ≡ (Done, 6 ∷ 80 ∷ 1000 ∷ 12000 ∷ 6 ∷ 86 ∷ [])
unfolding report_of report_refusals counts_within all_below sums sum_at sum_below
two-calls = refl

-- 0 over 0
pub no_calls : report_of [] ≡ (Done, 0 ∷ 0 ∷ 0 ∷ 0 ∷ 0 ∷ 0 ∷ [])
unfolding report_of report_refusals counts_within all_below sums sum_at sum_below
no_calls = refl

-- 41 numbers, with a count above the limit: 2 comes first
pub two-first : report_of (4000001 ∷ replicate 40 0) ≡ (WrongLength, 0 ∷ 0 ∷ 0 ∷ 0 ∷ 0 ∷ 0 ∷ [])
unfolding report_of report_refusals
two-first = refl

-- a count at the limit, and one past it
pub at_the_limit : report_of (4000000 ∷ 0 ∷ 0 ∷ 4000000 ∷ []) ≡ (Done, 4000000 ∷ 0 ∷ 0 ∷ 4000000 ∷ 4000000 ∷ 4000000 ∷ [])
unfolding report_of report_refusals counts_within all_below sums sum_at sum_below
at_the_limit = refl

pub past_the_limit : report_of (4000000 ∷ 0 ∷ 0 ∷ 4000001 ∷ []) ≡ (PastLimit, 0 ∷ 0 ∷ 0 ∷ 0 ∷ 0 ∷ 0 ∷ [])
unfolding report_of report_refusals counts_within all_below
past_the_limit = refl

-- 10,001 calls, of whatever counts
pub too_many_calls : (count : ℕ) → number (replicate (per_call * 10001) count) ≡ 16
too_many_calls count =
    let l = length-replicate (per_call * 10001) count in
    (past_limit_exactly (replicate (per_call * 10001) count)).1 (omega (arith, l), inl (omega (arith, l)))

-- 10,000 calls with every count at the limit are taken, and come to 40,000,000,000 at each place: past u32, which ends at 4,294,967,295
abbrev pub most : List ℕ
most = replicate (per_call * most_calls) most_words

pub most-taken : Adds most
most-taken = record { four = omega (arith, l); few = omega (arith, l); small = small }
  where
    l : length most ≡ per_call * most_calls
    l = length-replicate (per_call * most_calls) most_words

    small : (i : ℕ) → get_or most i 0 ≤ 4000000
    small i = go (dec_lt i (per_call * most_calls))
      where
        go : Dec (i < per_call * most_calls) → get_or most i 0 ≤ 4000000
        go (yes h) = rw (get_or-replicate (per_call * most_calls) i most_words 0 h) (omega arith)
        go (no h) = rw (get_or-eq_default most 0 {n = i} (omega (arith, l))) (omega arith)

pub most-sums : (place : ℕ) → place < per_call → sum_at place most ≡ 40000000000
most-sums place p = sum_alike place p most_calls most_words
