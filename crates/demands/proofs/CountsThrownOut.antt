-- Devices that count wrongly are thrown out: those that are ours but for what end hands out of the four counts, and those without the slot limit,
-- or with an early one. The limit can be reached.
use mathlib.Core.Path.{◌≡◌, refl, sym, ap, ◌∙◌}
use mathlib.Core.Bool.{true, false}
use mathlib.Core.List.{List, [], ◌∷◌}
use Prim.Native.Nat.{ℕ, zero, suc, ◌≤◌, ◌<◌}
use native.Mathlib.Omega.{arith}
use lib.ListN.{length, get_or}
use Rattle.octets.specs.Tests.{all_below, first_below}
use Rattle.octets.specs.Lists.{all_zero}
use Rattle.octets.proofs.TestLaws.{and_false_r}
use Rattle.answers.specs.declared.Answer.{Answer}
use Rattle.answers.specs.declared.Answer.TheVariants.{Done}
use Rattle.answers.specs.Numbers.{number_of, is_done}
use Rattle.ciphers.specs.Keys.{odd_octet, des_key, key_allowed}
use Rattle.keyentry.specs.Name as name
use Rattle.keyentry.specs.Entry as entry
use Rattle.keybook.specs.Book as rules
use Rattle.openings.specs.Ladder.{key_refusals}
use Rattle.openings.specs.Samples.{seed, des_abcd}
use Rattle.calls.specs.declared.call.Call.{Call}
use Rattle.calls.specs.Counts.{no_counts}
use Rattle.calls.specs.Call.{closed_tests, is_closed, standing, terms_of, no_call, written}
use Rattle.calls.specs.Opening.{join_refusals, joined, join_of}
use Rattle.nxdn.specs.Operations.{Open, Join, Voice, Lost, End, call_step, CallOperation}
use Rattle.demands.specs.Device.{Device, Operation, OfCall, Step, step, device_after, history}
use Rattle.demands.specs.OtherDevices.{handing, uncounted, exchanged, passed_off}
use Rattle.demands.specs.Rates.{layout}
use Rattle.demands.specs.Counted.{Slot, arrived, missed, receives_in, rate_in, slots_in, four_counts, AtLimit, Counted}
use Rattle.demands.proofs.Layouts.{ways_right}
use Rattle.demands.proofs.Samples.{silence, silent_long}
use Rattle.demands.proofs.Instance1.{ready, loading, is-loaded, opens, opening_call, is_open_lem}
use Rattle.demands.proofs.Counting.{Receives, end_done, lost-on, voice_on, ours_counts}

-- ---- what end hands out

module _ (f : List ℕ → List ℕ) where
  -- it goes through what ours does
  device-alike : (os : List Operation) → device_after (handing f) os ≡ device_after step os
  unfolding device_after
  device-alike [] = refl
  device-alike (o ∷ os) = ap (λ (d : Device). (step d o).1.0) (device-alike os)

  history-alike : (os : List Operation) → history (handing f) os ≡ history step os
  unfolding history
  history-alike [] = refl
  history-alike (o ∷ os) = rw (device-alike os, history-alike os)

  -- if it counts right, it hands out what ours does, wherever a call receives
  pub hands_ours : Counted (handing f) → (os : List Operation) (n : ℕ) {xs : List Slot} → Receives n xs (history step os)
      → f (four_counts xs) ≡ four_counts xs
  hands_ours right os n {xs} r =
      let z = end_done os n r.receives in
      let ours : (step (device_after step os) (OfCall n End)).1.1 ≡ four_counts xs = ours_counts.handed os n z ∙ ap four_counts r.its in
      let its = rw (history-alike os, device-alike os, z) at (right.handed os n (rw (device-alike os) z)) in
      sym (ap f ours) ∙ its ∙ ap four_counts r.its

-- ---- slots that can be told

module _ (r m : ℕ) (low : r ≤ 1) (lows : m ≤ 1) where
  abbrev pub begun : List Operation
  begun = opening_call r m low lows

  open_done : (step (device_after step loading) (OfCall 0 (Open 2 0 r m seed))).0 ≡ Done
  unfolding step call_step
  open_done = ap (λ (d : Device). (step d (OfCall 0 (Open 2 0 r m seed))).0) is-loaded ∙ ap (λ (x : Answer × Call). x.0) (opens r m low lows)

  -- a call that was just opened to receive, at either rate and of either strictness
  opened-now : Receives 0 [] (history step begun)
  unfolding history receives_in slots_in
  opened-now = record { receives = rw open_done; its = rw open_done }

  -- two words of a slot, then a lost slot
  pub opened-two : Receives 0 (missed ∷ arrived 3 true ∷ []) (history step (OfCall 0 Lost ∷ OfCall 0 (Voice 3 (silence r)) ∷ begun))
  opened-two =
      lost-on (OfCall 0 (Voice 3 (silence r)) ∷ begun) 0
      (voice_on begun 0 opened-now (omega arith) 3 (silence r) true (omega arith) (rw (is_open_lem r m low lows) (silent_long r))
      (rw (is_open_lem r m low lows)))
      (omega arith)

  joins : join_of no_call 2 0 r m ready ≡ (Done, written no_counts (joined (terms_of 2 des_abcd r m)))
  unfolding join_of join_refusals key_refusals standing is_closed closed_tests all_zero all_below first_below entry.in_range entry.is_for
      entry.entry_right name.name_right name.text_octets name.is_printable entry.used_right entry.ready_right entry.lacks rules.entry_of rules.find_entry rules.apart rules.good_book key_allowed des_key odd_octet
  joins = rw (ways_right r m low lows)

  abbrev pub joining : List Operation → List Operation
  joining os = OfCall 1 (Join 2 0 r m) ∷ os

  -- and of call 1, joined where the key is ready and there is no such call: its vector is unknown
  module _ (os : List Operation) (has : (device_after step os).book ≡ ready) (free : (device_after step os).calls 1 ≡ no_call) where
    join_done : (step (device_after step os) (OfCall 1 (Join 2 0 r m))).0 ≡ Done
    unfolding step call_step
    join_done = rw (has, free) (ap (λ (x : Answer × Call). x.0) joins)

    is-joined : (device_after step (joining os)).calls 1 ≡ written no_counts (joined (terms_of 2 des_abcd r m))
    unfolding device_after step call_step
    is-joined = rw (has, free) (ap (λ (x : Answer × Call). x.1) joins)

    pub joined-two : Receives 1 (arrived 3 false ∷ []) (history step (OfCall 1 (Voice 3 (silence r)) ∷ joining os))
    unfolding history receives_in slots_in
    joined-two =
        voice_on (joining os) 1 (record { receives = rw join_done; its = rw join_done }) (omega arith) 3 (silence r) false (omega arith)
        (rw is-joined (silent_long r)) (rw is-joined)

-- ---- the devices that are thrown out

-- every one that hands out something else where two words were opened, two replaced and four lost; or where two were held and two replaced
module _ (f : List ℕ → List ℕ) where
  pub opened_thrown_out : (f (2 ∷ 0 ∷ 2 ∷ 4 ∷ []) ≡ 2 ∷ 0 ∷ 2 ∷ 4 ∷ [] → ⊥) → Counted (handing f) → ⊥
  opened_thrown_out wrong right = wrong (hands_ours f right _ 0 (opened-two 0 0 (omega arith) (omega arith)))

  pub held_thrown_out : (f (0 ∷ 2 ∷ 2 ∷ 0 ∷ []) ≡ 0 ∷ 2 ∷ 2 ∷ 0 ∷ [] → ⊥) → Counted (handing f) → ⊥
  held_thrown_out wrong right =
      wrong (hands_ours f right _ 1
      (joined-two 0 0 (omega arith) (omega arith) loading (ap (λ (d : Device). d.book) is-loaded) (ap (λ (d : Device). d.calls 1) is-loaded)))

-- count n of two lists that are equal
at : (n : ℕ) {xs ys : List ℕ} → xs ≡ ys → get_or xs n 0 ≡ get_or ys n 0
at n = ap (λ (xs : List ℕ). get_or xs n 0)

pub uncounted_thrown_out : Counted (handing uncounted) → ⊥
uncounted_thrown_out = opened_thrown_out uncounted (λ e. omega (arith, at 0 e))

pub exchanged_thrown_out : Counted (handing exchanged) → ⊥
exchanged_thrown_out = opened_thrown_out exchanged (λ e. omega (arith, at 1 e))

pub passed_off_thrown_out : Counted (handing passed_off) → ⊥
passed_off_thrown_out = held_thrown_out passed_off (λ e. omega (arith, at 0 e))

-- ---- the limit, at either rate and of either strictness

module _ (r m : ℕ) (low : r ≤ 1) (lows : m ≤ 1) where
  -- so many lost slots after a call was opened
  unfoldable pub missing : ℕ → List Operation
  missing zero = opening_call r m low lows
  missing (suc k) = OfCall 0 Lost ∷ missing k

  missing-told : (k : ℕ) → k ≤ 1000000 → (receives_in 0 (history step (missing k)) ≡ true) × (length (slots_in 0 (history step (missing k))) ≡ k)
  unfolding missing
  missing-told zero l = let o = opened-now r m low lows in (o.receives, ap length o.its)
  missing-told (suc k) l =
      let p = missing-told k (omega arith) in
      let o = lost-on (missing k) 0 (record { receives = p.0; its = refl }) (omega (arith, p.1)) in
      (o.receives, ap length o.its ∙ ap suc p.1)

  missing-rate : (k : ℕ) → rate_in 0 (history step (missing k)) ≡ r
  unfolding missing history rate_in
  missing-rate zero = rw (open_done r m low lows)
  missing-rate (suc k) = rw (and_false_r (is_done (step (device_after step (missing k)) (OfCall 0 Lost)).0)) (missing-rate k)

  -- it can be reached
  pub limit_reached : AtLimit 0 (history step (missing 1000000))
  limit_reached = let p = missing-told 1000000 (omega arith) in record { receives = p.0; full = p.1 }

  -- a device that went through this as ours
  module _ (st : Step) where
    abbrev Alike : ℕ → Type 0
    Alike k = history st (missing k) ≡ history step (missing k)

    abbrev answers : ℕ → CallOperation → ℕ
    answers k o = number_of (st (device_after st (missing k)) (OfCall 0 o)).0

    -- is thrown out if it doesn't answer the next slot 16, lost or arrived with a mask of at most 15
    pub unlimited_thrown_out : Alike 1000000 → (answers 1000000 Lost ≡ 16 → ⊥) → Counted st → ⊥
    unlimited_thrown_out e other right = other ((right.lost-past (missing 1000000) 0).1 (rw e limit_reached))

    pub unlimited_voice_thrown_out : Alike 1000000 → (mask : ℕ) (frame : List ℕ) → mask ≤ 15 → (answers 1000000 (Voice mask frame) ≡ 16 → ⊥) → Counted st → ⊥
    unlimited_voice_thrown_out e mask frame l other right = other ((right.voice_past (missing 1000000) 0 mask frame).1 (l, rw e limit_reached))

    -- or if it refuses a slot before, lost or arrived, by whatever number
    pub early_thrown_out : (k : ℕ) → k < 1000000 → Alike k → (answers k Lost ≡ 0 → ⊥) → Counted st → ⊥
    early_thrown_out k l e other right =
        let p = missing-told k (omega arith) in
        other (right.taken (missing k) 0 (rw e p.0) (rw e (omega (arith, p.1))))

    pub early_voice_thrown_out : (k mask : ℕ) (frame : List ℕ) → k < 1000000 → Alike k → mask ≤ 15 → length frame ≡ (layout r).frame
        → 2 ≤ answers k (Voice mask frame) → Counted st → ⊥
    early_voice_thrown_out k mask frame l e four long z right =
        let p = missing-told k (omega arith) in
        let under = right.arrives (missing k) 0 mask frame (rw e p.0) (rw e (omega (arith, p.1))) four (rw (e, missing-rate k) long) in
        omega (arith, under, z)

    -- or by 16, whatever it is given
    pub sixteen_early_thrown_out : (k mask : ℕ) (frame : List ℕ) → k < 1000000 → Alike k → answers k (Voice mask frame) ≡ 16 → Counted st → ⊥
    sixteen_early_thrown_out k mask frame l e z right =
        let p = missing-told k (omega arith) in
        let q : length (slots_in 0 (history step (missing k))) ≡ 1000000 = rw e at ((right.voice_past (missing k) 0 mask frame).0 z).1.full in
        omega (arith, q, p.1)
