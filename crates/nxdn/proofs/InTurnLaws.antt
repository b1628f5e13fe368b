-- A batch is the functions of its steps, called in turn; and a refusal leaves every lent element.
use mathlib.Core.Path.{◌≡◌, refl, sym, ap, ◌∙◌}
use mathlib.Core.Bool.{Bool, true, false, ◌&&◌}
use mathlib.Core.List.{List, [], ◌∷◌, ◌++◌}
use Prim.Native.Nat.{ℕ, zero, suc, ◌*◌, ◌≤◌, ◌<◌}
use native.Mathlib.Decide.{dec_lt}
use native.Mathlib.Omega.{arith}
use lib.Dec.{eqb}
use lib.ListN.{length, get_or, take, drop}
use borrow.Author.Tests.{eq-eqb, ne_eqb}
use Rattle.octets.specs.Tests.{pick}
use Rattle.octets.specs.Lists.{replaced, Each}
use Rattle.octets.specs.Bits.{Octets}
use Rattle.answers.specs.declared.Answer.{Answer}
use Rattle.answers.specs.Numbers.{number_of}
use Rattle.answers.proofs.OutcomeLaws.{Refusal}
use Rattle.voice.specs.Slot.{lost_of, voice_of}
use Rattle.calls.specs.Vector.{announce_of}
use Rattle.hearing.specs.declared.Hearing.{Hearing}
use Rattle.hearing.specs.Hearing.{call_of}
use Rattle.hearing.specs.Heard.{carried, heard_of}
use Rattle.hearing.proofs.HeardLaws.{carried_keeps, heard_keeps}
use Rattle.batch.specs.Batch as step
use Rattle.batch.proofs.KeepLaws.{batch_keeps}
use Rattle.held.specs.Call.{call_octets, hearing_in, octets_of}
use Rattle.held.proofs.CallLaws.{Sized, length_of, read_written, written_read, sized_in}
use Rattle.nxdn.specs.Operations.{with_none, Voice, Lost, Announce, call_step}
use Rattle.nxdn.specs.Lent.{lent_after, out_after}
use Rattle.nxdn.specs.Interface.{Asked, Of, Heard, asked_step, fits, on_call, on_batch}
use Rattle.nxdn.specs.InTurn.{beside, called, in_turn}
use Rattle.nxdn.proofs.LentLaws.{out_none, after_refused, after-written, kept}
use Rattle.nxdn.proofs.CallLaws.{voice_left}
use Rattle.nxdn.proofs.RoomLaws.{call_sized}
use Rattle.nxdn.proofs.SizedLaws.{its_sized, on_sized, heard_sized}

-- an outcome as numbers
abbrev left : Answer × (Hearing × List ℕ) → ℕ × (List ℕ × List ℕ)
left r = (number_of r.0, (octets_of r.1.0, r.1.1))

abbrev lefts : List ℕ × (Hearing × List ℕ) → List ℕ × (List ℕ × List ℕ)
lefts r = (r.0, (octets_of r.1.0, r.1.1))

-- ---- a step

module _ (h : Hearing) (s : Sized h) where
  -- on a refusal the octets stay, and are those of the call, which stays too
  written-left : (a : Answer) (after : Hearing) → (Refusal a → after ≡ h) → octets_of after ≡ lent_after octets_of (octets_of h) a after
  written-left a after same = go (dec_lt 1 (number_of a))
    where
      go : Dec (1 < number_of a) → octets_of after ≡ lent_after octets_of (octets_of h) a after
      go (yes r) = ap octets_of (same r) ∙ sym (after_refused octets_of (octets_of h) a after r)
      go (no r) = sym (after-written octets_of (octets_of h) a after (omega arith))

  called_is : (a : Asked) (lent : List ℕ) → fits a lent ≡ true → (Refusal (asked_step [] a h).0 → (asked_step [] a h).1.0 ≡ h)
      → (asked_step [] a h).1.1 ≡ out_after lent (asked_step [] a h).0 (asked_step [] a h).1.1 → left (asked_step [] a h) ≡ on_call [] a (octets_of h) lent
  unfolding on_call
  called_is a lent f same out =
      kept call_octets hearing_in octets_of (fits a lent) (asked_step [] a) (octets_of h) lent (length_of h s) f (ap (asked_step [] a) (sym (read_written h s)))
      (ap (λ (l : List ℕ). (number_of (asked_step [] a h).0, l)) (written-left (asked_step [] a h).0 (asked_step [] a h).1.0 same)) out

  module _ (o : List ℕ) where
    voice-called : (mask : ℕ) (frame : List ℕ) → called (step.Voice mask frame) (octets_of h) o ≡ left (step.taken (step.Voice mask frame) h o)
    unfolding called step.taken carried call_step
    voice-called mask frame =
        ap (λ (r : ℕ × (List ℕ × List ℕ)). (r.0, (r.1.0, replaced o step.lent_at (length r.1.1) r.1.1)))
        (sym (called_is (Of (Voice mask frame)) frame refl (carried_keeps (λ c. voice_of c mask frame) h) (voice_left (call_of h) mask frame refl)))

    lost-called : called step.Lost (octets_of h) o ≡ left (step.taken step.Lost h o)
    unfolding called step.taken carried call_step
    lost-called =
        ap (beside o) (sym (called_is (Of Lost) [] refl (carried_keeps (λ c. with_none (lost_of c)) h) (out_none (lost_of (call_of h)).0)))

    announce-called : (w : List ℕ) → called (step.Announce w) (octets_of h) o ≡ left (step.taken (step.Announce w) h o)
    unfolding called step.taken carried call_step
    announce-called w =
        ap (beside o)
        (sym (called_is (Of (Announce w)) [] refl (carried_keeps (λ c. with_none (announce_of c w)) h) (out_none (announce_of (call_of h) w).0)))

    heard-called : (w : List ℕ) → called (step.Heard w) (octets_of h) o ≡ left (step.taken (step.Heard w) h o)
    unfolding called step.taken
    heard-called w = ap (beside o) (sym (called_is (Heard w) [] refl (heard_keeps h w) (out_none (heard_of h w).0)))

    none-called : called step.Unknown (octets_of h) o ≡ left (step.taken step.Unknown h o)
    unfolding called step.taken
    none-called = refl

    step-called : (t : step.Step) → called t (octets_of h) o ≡ left (step.taken t h o)
    step-called (step.Voice mask frame) = voice-called mask frame
    step-called step.Lost = lost-called
    step-called (step.Announce w) = announce-called w
    step-called (step.Heard w) = heard-called w
    step-called step.Unknown = none-called

    step-sized : (t : step.Step) → Sized (step.taken t h o).1.0
    unfolding step.taken carried call_step
    step-sized (step.Voice mask frame) = on_sized h s _ _ (call_sized (call_of h) (its_sized h s) [] (Voice mask frame))
    step-sized step.Lost = on_sized h s _ _ (call_sized (call_of h) (its_sized h s) [] Lost)
    step-sized (step.Announce w) = on_sized h s _ _ (call_sized (call_of h) (its_sized h s) [] (Announce w))
    step-sized (step.Heard w) = heard_sized h s w
    step-sized step.Unknown = s

-- ---- so many

rate_in_lem : (h : Hearing) → get_or (octets_of h) 2 0 ≡ h.call.terms.rate
unfolding octets_of
rate_in_lem h = refl

in_turn_lem : (n : ℕ) (h : Hearing) → Sized h → (steps : List ℕ) → in_turn n (octets_of h) steps ≡ lefts (step.batch_of n h steps)
unfolding in_turn step.batch_of
in_turn_lem zero h s steps = refl
in_turn_lem (suc n) h s steps =
    let o : List ℕ = take step.step_octets steps in
    let t : step.Step = step.step_in h.call.terms.rate o in
    let one : called (step.step_in (get_or (octets_of h) 2 0) o) (octets_of h) o ≡ left (step.recorded h o) =
    ap (λ (r : ℕ). called (step.step_in r o) (octets_of h) o) (rate_in_lem h) ∙ step-called h s o t in
    let rest = in_turn_lem n (step.recorded h o).1.0 (step-sized h s o t) (drop step.step_octets steps) in
    ap (λ (r : ℕ × (List ℕ × List ℕ)). let q = in_turn n r.1.0 (drop step.step_octets steps) in (r.0 ∷ q.0, (q.1.0, r.1.1 ++ q.1.1))) one
    ∙ ap (λ (q : List ℕ × (List ℕ × List ℕ)). (number_of (step.recorded h o).0 ∷ q.0, (q.1.0, (step.recorded h o).1.1 ++ q.1.1))) rest

-- ---- a batch

module _ (x steps answers : List ℕ) where
  abbrev all : List ℕ × (Hearing × List ℕ)
  all = step.batch_of (length answers) (hearing_in x) steps

  -- as the code tests and does it
  pub batch_short : (length x ≡ call_octets → ⊥) → (2, (x, (steps, answers))) ≡ on_batch x steps answers
  unfolding on_batch
  batch_short h = sym (rw (ne_eqb (length x) call_octets h))

  module _ (long : length x ≡ call_octets) where
    pub batch_misfit : (length steps ≡ step.step_octets * length answers → ⊥) → (2, (x, (steps, answers))) ≡ on_batch x steps answers
    unfolding on_batch
    batch_misfit h = sym (rw (eq-eqb (length x) call_octets long, ne_eqb (length steps) (step.step_octets * length answers) h))

    pub batch_taken : length steps ≡ step.step_octets * length answers → (0, (octets_of all.1.0, (all.1.1, all.0))) ≡ on_batch x steps answers
    unfolding on_batch
    batch_taken h = sym (rw (eq-eqb (length x) call_octets long, eq-eqb (length steps) (step.step_octets * length answers) h))

    pub batch_done : length steps ≡ step.step_octets * length answers → {h : Hearing} → h ≡ hearing_in x → {a s : List ℕ} {after : Hearing}
        → (a, (after, s)) ≡ step.batch_of (length answers) h steps → {l : List ℕ} → l ≡ octets_of after → (0, (l, (s, a))) ≡ on_batch x steps answers
    batch_done fit read {a} {s} {after} e w =
        let did : (a, (after, s)) ≡ all = e ∙ ap (λ (g : Hearing). step.batch_of (length answers) g steps) read in
        rw w (ap (λ (r : List ℕ × (Hearing × List ℕ)). (0, (octets_of r.1.0, (r.1.1, r.0)))) did ∙ batch_taken fit)

    -- what it leaves is what the functions leave that are called in turn on the same octets
    module _ (octets : Octets x) (fit : length steps ≡ step.step_octets * length answers) where
      pub batch_in_turn : on_batch x steps answers ≡ (let r = in_turn (length answers) x steps in (0, (r.1.0, (r.1.1, r.0))))
      batch_in_turn =
          sym (batch_taken fit)
          ∙ ap (λ (r : List ℕ × (List ℕ × List ℕ)). (0, (r.1.0, (r.1.1, r.0))))
          (sym (in_turn_lem (length answers) (hearing_in x) (sized_in x long octets) steps)
          ∙ ap (λ (y : List ℕ). in_turn (length answers) y steps) (written_read x long octets))

      -- where every step was refused, the octets of the call and of the steps are as they were
      pub batch_untouched : Each (λ a. 2 ≤ a) (on_batch x steps answers).1.1.1
          → ((on_batch x steps answers).1.0 ≡ x) × ((on_batch x steps answers).1.1.0 ≡ steps)
      batch_untouched e =
          let taken = batch_taken fit in
          let same = batch_keeps (length answers) (hearing_in x) steps (rw (sym taken) at e) in
          rw (sym taken)
          (ap (λ (r : Hearing × List ℕ). octets_of r.0) same ∙ written_read x long octets, ap (λ (r : Hearing × List ℕ). r.1) same)

  abbrev judged : Bool → ℕ × (List ℕ × (List ℕ × List ℕ))
  judged t = pick t (0, (octets_of all.1.0, (all.1.1, all.0))) (2, (x, (steps, answers)))

  -- a refusal leaves every lent element as it was
  pub batch_refusal_leaves : 2 ≤ (on_batch x steps answers).0 → (on_batch x steps answers).1 ≡ (x, (steps, answers))
  unfolding on_batch
  batch_refusal_leaves = go (eqb (length x) call_octets && eqb (length steps) (step.step_octets * length answers))
    where
      go : (t : Bool) → 2 ≤ (judged t).0 → (judged t).1 ≡ (x, (steps, answers))
      go true h = absurd (omega arith)
      go false h = refl
