-- A night's report (document 02, W-207): of a device that counts right, what end hands out of up to 10,000 calls is taken by a report, which says of all their
-- slots what end says of one call's.
use mathlib.Core.Path.{◌≡◌, refl, sym, ap, ap₂, ◌∙◌}
use mathlib.Core.List.{List, [], ◌∷◌, ◌++◌}
use Prim.Native.Nat.{ℕ, zero, suc, ◌+◌, ◌*◌, ◌≤◌, ◌<◌}
use native.Mathlib.Omega.{arith}
use lib.ListN.{length, get_or, length-append}
use Rattle.answers.specs.declared.Answer.TheVariants.{Done}
use Rattle.report.specs.Report.{per_call, sum_below, sum_at, sums, report_of}
use Rattle.report.proofs.SumLaws.{one-after_other}
use Rattle.report.proofs.ReportLaws.{done_sums}
use Rattle.calls.specs.Call.{no_call}
use Rattle.nxdn.specs.Operations.{Voice, Lost, End}
use Rattle.demands.specs.Device.{Device, Operation, OfCall, Step, step, device_after}
use Rattle.demands.specs.Counted.{Slot, Fate, opened, held, replaced, lost, place_of, fates, how_many, four_counts, Counted}
use Rattle.demands.specs.Night.{Ending, AllEnded, handed_over, slots_of, night_slots, said}
use Rattle.demands.proofs.Samples.{silence}
use Rattle.demands.proofs.Instance1.{ready, is-loaded}
use Rattle.demands.proofs.Counting.{four_to_a_slot, end_done, ours_counts}
use Rattle.demands.proofs.CountsThrownOut.{begun, joining, opened-two, joined-two}

-- of slots one after another
how_many_both : (f : Fate) (xs ys : List Slot) → how_many f (fates (xs ++ ys)) ≡ how_many f (fates xs) + how_many f (fates ys)
how_many_both f [] ys = omega arith
how_many_both f (x ∷ xs) ys = omega (arith, how_many_both f xs ys)

-- of one call
one_call : (f : Fate) (xs : List Slot) → sum_at (place_of f) (four_counts xs) ≡ how_many f (fates xs)
unfolding sum_at sum_below
one_call opened xs = omega arith
one_call held xs = omega arith
one_call replaced xs = omega arith
one_call lost xs = omega arith

place_below : (f : Fate) → place_of f < per_call
place_below opened = omega arith
place_below held = omega arith
place_below replaced = omega arith
place_below lost = omega arith

within : (xs : List Slot) (more : List ℕ) → length xs ≤ 1000000 → ((i : ℕ) → get_or more i 0 ≤ 4000000) → (i : ℕ)
    → get_or (four_counts xs ++ more) i 0 ≤ 4000000
within xs more l h zero = omega (arith, four_to_a_slot xs)
within xs more l h (suc zero) = omega (arith, four_to_a_slot xs)
within xs more l h (suc (suc zero)) = omega (arith, four_to_a_slot xs)
within xs more l h (suc (suc (suc zero))) = omega (arith, four_to_a_slot xs)
within xs more l h (suc (suc (suc (suc i)))) = h i

module _ (st : Step) (right : Counted st) where
  four-to-a-call : (es : List Ending) → AllEnded st es → length (handed_over st es) ≡ 4 * length es
  four-to-a-call [] a = refl
  four-to-a-call (e ∷ es) a = rw (right.handed e.0 e.1 a.0) (omega (arith, length-append (four_counts (slots_of st e)) (handed_over st es), four-to-a-call es a.1))

  all-within : (es : List Ending) → AllEnded st es → (i : ℕ) → get_or (handed_over st es) i 0 ≤ 4000000
  all-within [] a = λ i. omega arith
  all-within (e ∷ es) a =
      rw (right.handed e.0 e.1 a.0) (within (slots_of st e) (handed_over st es) (right.limit e.0 e.1) (all-within es a.1))

  sum-of-all : (f : Fate) (es : List Ending) → AllEnded st es → sum_at (place_of f) (handed_over st es) ≡ how_many f (fates (night_slots st es))
  unfolding sum_at sum_below
  sum-of-all f [] a = refl
  sum-of-all f (e ∷ es) a =
      rw (right.handed e.0 e.1 a.0)
      (one-after_other (place_of f) (place_below f) (four_counts (slots_of st e)) (handed_over st es) refl (omega (arith, four-to-a-call es a.1))
      ∙ ap₂ ◌+◌ (one_call f (slots_of st e)) (sum-of-all f es a.1)
      ∙ sym (how_many_both f (slots_of st e) (night_slots st es)))

  pub night_report : (es : List Ending) → AllEnded st es → length es ≤ 10000 → report_of (handed_over st es) ≡ (Done, said (night_slots st es))
  unfolding sums
  night_report es a few =
      done_sums (handed_over st es) (record { four = omega (arith, four-to-a-call es a); few = omega (arith, four-to-a-call es a); small = all-within es a })
      ∙ rw (sum-of-all opened es a, sum-of-all held es a, sum-of-all replaced es a, sum-of-all lost es a)

-- ---- a night of two calls, at either rate and of either strictness: one opened, told of two words and a lost slot, and ended; then one joined and told of
-- two words

module _ (r m : ℕ) (low : r ≤ 1) (lows : m ≤ 1) where
  abbrev first : List Operation
  first = OfCall 0 Lost ∷ OfCall 0 (Voice 3 (silence r)) ∷ begun r m low lows

  abbrev between : List Operation
  between = OfCall 0 End ∷ first

  has : (device_after step between).book ≡ ready
  unfolding device_after step
  has = ap (λ (d : Device). d.book) is-loaded

  free : (device_after step between).calls 1 ≡ no_call
  unfolding device_after step
  free = ap (λ (d : Device). d.calls 1) is-loaded

  abbrev two_calls : List Ending
  two_calls = (first, 0) ∷ (OfCall 1 (Voice 3 (silence r)) ∷ joining r m low lows between, 1) ∷ []

  pub short_night : report_of (handed_over step two_calls) ≡ (Done, 2 ∷ 2 ∷ 4 ∷ 4 ∷ 2 ∷ 4 ∷ [])
  short_night =
      let a = opened-two r m low lows in
      let b = joined-two r m low lows between has free in
      night_report step ours_counts two_calls (end_done _ 0 a.receives, (end_done _ 1 b.receives, tt)) (omega arith) ∙ rw (a.its, b.its)
