-- When a report gives each answer, by plain numbers and in both directions, and what it says. Its statement settles it: any two that meet it are equal.
use mathlib.Core.Path.{◌≡◌, refl, sym, ap, subst, ◌∙◌}
use Rattle.std.specs.Prelude.{Result, Ok, Err, IfOk}
use Rattle.std.specs.Result.{result_map_both}
use mathlib.Core.Bool.{Bool, true, false, ◌&&◌, ◌||◌, not, and-true, true≢false}
use mathlib.Core.List.{List}
use mathlib.Core.Logic.{◌⊎◌, inl, inr}
use Prim.Native.Nat.{ℕ, zero, suc, ◌+◌, ◌%◌, ◌≤◌, ◌<◌}
use native.Mathlib.Omega.{arith}
use lib.Dec.{leb, ltb, eqb}
use lib.ListN.{length, get_or}
use borrow.Author.Tests.{eqb-true, eqb-false, ltb-true, ltb-false, leb-false}
use Rattle.octets.specs.Tests.{pick, all_below}
use Rattle.sizes.specs.Frame.{most_words}
use Rattle.answers.specs.declared.Answer.{Answer}
use Rattle.answers.specs.declared.Answer.TheVariants.{Done, WrongLength, PastLimit}
use Rattle.answers.specs.Outcomes.{result_of}
use Rattle.answers.specs.Numbers.{number_of}
use Rattle.answers.proofs.OutcomeLaws.{Refusal, keeps}
use Rattle.report.specs.declared.Sums.{Sums}
use Rattle.report.specs.Report.{per_call, calls, most_calls, counts_within, sum_at, figures, no_figures, sums, report_refusals, report_of}
use Rattle.report.proofs.SumLaws.{count_most, at_most}

-- ---- when each answer is given

-- four numbers to a call, 10,000 calls at most, and no count above 4,000,000
pub record Adds (counts : List ℕ) : Type 0 where
  pub four : length counts % 4 ≡ 0
  pub few : length counts ≤ 40000
  pub small : (i : ℕ) → get_or counts i 0 ≤ 4000000

-- four numbers to a call, but more than 10,000 calls, or a count above 4,000,000
abbrev pub Past : List ℕ → Type 0
Past counts = (length counts % 4 ≡ 0) × ((40000 < length counts) ⊎ ((i : ℕ) × (4000000 < get_or counts i 0)))

-- a test that fails somewhere
fails_at : (f : ℕ → Bool) (n : ℕ) → all_below f n ≡ false → (i : ℕ) × (f i ≡ false)
unfolding all_below
fails_at f zero e = absurd (true≢false e)
fails_at f (suc n) e = go (f n) refl (fails_at f n) e
  where
    go : (b : Bool) → f n ≡ b → (all_below f n ≡ false → (i : ℕ) × (f i ≡ false)) → (all_below f n && b) ≡ false → (i : ℕ) × (f i ≡ false)
    go true p before e = before (rw and-true at e)
    go false p before e = (n, p)

module _ (counts : List ℕ) where
  abbrev pub number : ℕ
  number = number_of (report_of counts).0

  pub some_above : counts_within counts ≡ false → (i : ℕ) × (most_words < get_or counts i 0)
  unfolding counts_within
  some_above e = let w = fails_at (λ i. leb (get_or counts i 0) most_words) (length counts) e in (w.0, leb-false _ _ w.1)

  -- what holds in each of the three cases holds of the report
  by-case : (P : Answer × List ℕ → Type 0) → ((length counts % 4 ≡ 0 → ⊥) → P (WrongLength, no_figures)) → (Past counts → P (PastLimit, no_figures))
      → (Adds counts → P (Done, sums counts)) → P (report_of counts)
  unfolding report_of report_refusals
  by-case P two past done = go (eqb (length counts % per_call) 0) refl (ltb most_calls (calls counts)) refl (counts_within counts) refl
    where
      four : eqb (length counts % per_call) 0 ≡ true → length counts % 4 ≡ 0
      four = eqb-true (length counts % per_call) 0

      go : (a : Bool) → eqb (length counts % per_call) 0 ≡ a → (b : Bool) → ltb most_calls (calls counts) ≡ b → (c : Bool) → counts_within counts ≡ c
          → P (pick (not a) (WrongLength, no_figures) (pick (b || not c) (PastLimit, no_figures) (Done, sums counts)))
      go false e b f c g = two (eqb-false _ _ e)
      go true e true f c g = past (four e, inl (omega (arith, four e, ltb-true most_calls (calls counts) f)))
      go true e false f false g = past (four e, inr (some_above g))
      go true e false f true g =
          done (record { four = four e; few = omega (arith, four e, ltb-false most_calls (calls counts) f); small = count_most counts g })

  not_both : Past counts → Adds counts → ⊥
  not_both (f, inl l) a = omega arith
  not_both (f, inr w) a = omega (arith, a.small w.0)

  pub wrong_length : (length counts % 4 ≡ 0 → ⊥) → report_of counts ≡ (WrongLength, no_figures)
  wrong_length n = by-case (λ o. o ≡ (WrongLength, no_figures)) (λ h. refl) (λ h. absurd (n h.0)) (λ h. absurd (n h.four))

  pub past_limit : Past counts → report_of counts ≡ (PastLimit, no_figures)
  past_limit p = by-case (λ o. o ≡ (PastLimit, no_figures)) (λ h. absurd (h p.0)) (λ h. refl) (λ h. absurd (not_both p h))

  pub done_sums : Adds counts → report_of counts ≡ (Done, sums counts)
  done_sums a = by-case (λ o. o ≡ (Done, sums counts)) (λ h. absurd (h a.four)) (λ h. absurd (not_both h a)) (λ h. refl)

  -- the answer's number says which
  numbered : {o : Answer × List ℕ} → report_of counts ≡ o → number ≡ number_of o.0
  numbered = ap (λ (o : Answer × List ℕ). number_of o.0)

  pub done_exactly : (number ≡ 0 → Adds counts) × (Adds counts → number ≡ 0)
  done_exactly = (
    by-case (λ o. number_of o.0 ≡ 0 → Adds counts) (λ h e. absurd (omega arith)) (λ h e. absurd (omega arith)) (λ h e. h),
    λ a. numbered (done_sums a),
  )

  pub wrong_length_exactly : (number ≡ 2 → length counts % 4 ≡ 0 → ⊥) × ((length counts % 4 ≡ 0 → ⊥) → number ≡ 2)
  wrong_length_exactly = (
    by-case (λ o. number_of o.0 ≡ 2 → length counts % 4 ≡ 0 → ⊥) (λ h e. h) (λ h e. absurd (omega arith)) (λ h e. absurd (omega arith)),
    λ n. numbered (wrong_length n),
  )

  pub past_limit_exactly : (number ≡ 16 → Past counts) × (Past counts → number ≡ 16)
  past_limit_exactly = (
    by-case (λ o. number_of o.0 ≡ 16 → Past counts) (λ h e. absurd (omega arith)) (λ h e. h) (λ h e. absurd (omega arith)),
    λ p. numbered (past_limit p),
  )

  -- ---- what it says

  pub refused_zeros : Refusal (report_of counts).0 → (report_of counts).1 ≡ no_figures
  unfolding report_of
  refused_zeros = keeps (no_figures) (report_refusals counts) (Done, sums counts) (omega arith)

  -- no sum of a report is above 40,000,000,000: past u32, which ends at 4,294,967,295
  pub sum-at-most : Adds counts → (place : ℕ) → sum_at place counts ≤ 40000000000
  sum-at-most a = at_most counts a.small (omega (arith, a.few))

  -- what a refusal says is its answer, and what is done its sums
  pub refused-two : (length counts % 4 ≡ 0 → ⊥) → result_of (report_of counts) ≡ Err WrongLength
  refused-two n = ap result_of (wrong_length n)

  pub refused_past : Past counts → result_of (report_of counts) ≡ Err PastLimit
  refused_past p = ap result_of (past_limit p)

  pub done-result : Adds counts → result_of (report_of counts) ≡ Ok (sums counts)
  done-result a = ap result_of (done_sums a)

  -- opened over opened plus held
  abbrev Proportion : List ℕ → Type 0
  Proportion l = (get_or l 4 0 ≡ get_or l 0 0) × (get_or l 5 0 ≡ get_or l 0 0 + get_or l 1 0)

  -- of all that a report says, refused or done
  module _ {a : Answer} {s : Sums} (e : (a, figures s) ≡ report_of counts) where
    pub said_ratio : (s.part ≡ s.opened) × (s.whole ≡ s.opened + s.held)
    unfolding sums
    said_ratio =
        subst (λ (o : Answer × List ℕ). Proportion o.1) (sym e)
        (by-case (λ o. Proportion o.1) (λ h. (refl, refl)) (λ h. (refl, refl)) (λ h. (refl, refl)))

    pub said_part_of_whole : s.part ≤ s.whole
    said_part_of_whole = omega (arith, said_ratio.0, said_ratio.1)

  -- and of the Result, which says nothing but the refusal where it is refused
  module _ (r : Result Sums Answer) (e : result_map_both figures (λ a. a) r ≡ result_of (report_of counts)) where
    abbrev Ratio : Result (List ℕ) Answer → Type 0
    Ratio r = IfOk r Proportion

    -- opened over opened plus held
    pub ratio : IfOk r (λ s. (s.part ≡ s.opened) × (s.whole ≡ s.opened + s.held))
    unfolding sums
    ratio = of_result r (subst Ratio (sym e) (by-case (λ o. Ratio (result_of o)) (λ h. tt) (λ h. tt) (λ h. (refl, refl))))
      where
        of_result : (r : Result Sums Answer) → Ratio (result_map_both figures (λ a. a) r) → IfOk r (λ s. (s.part ≡ s.opened) × (s.whole ≡ s.opened + s.held))
        of_result (Ok s) h = h
        of_result (Err a) h = tt

    pub part_of_whole : IfOk r (λ s. s.part ≤ s.whole)
    part_of_whole = go r ratio
      where
        go : (r : Result Sums Answer) → IfOk r (λ s. (s.part ≡ s.opened) × (s.whole ≡ s.opened + s.held)) → IfOk r (λ s. s.part ≤ s.whole)
        go (Ok s) h = omega (arith, h.0, h.1)
        go (Err a) h = tt

-- ---- any two that meet the statement are equal

abbrev sums_of : List ℕ → Sums
sums_of l =
    record {
      opened = get_or l 0 0;
      held = get_or l 1 0;
      replaced = get_or l 2 0;
      lost = get_or l 3 0;
      part = get_or l 4 0;
      whole = get_or l 5 0;
    }

pub one_report : (r s : Result Sums Answer) (counts : List ℕ) → result_map_both figures (λ a. a) r ≡ result_of (report_of counts)
    → result_map_both figures (λ a. a) s ≡ result_of (report_of counts) → r ≡ s
one_report r s counts p q = sym (back r) ∙ ap (result_map_both sums_of (λ a. a)) (p ∙ sym q) ∙ back s
  where
    back : (r : Result Sums Answer) → result_map_both sums_of (λ a. a) (result_map_both figures (λ a. a) r) ≡ r
    back (Ok s) = refl
    back (Err a) = refl
