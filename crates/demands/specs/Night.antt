-- A night's report (document 02, W-207), of any device: calls that were ended, each after operations of its own, what end handed out of them one after
-- another, and the slots of all of them.
use Rattle.std.specs.Prelude.{◌≡◌, List, [], ◌∷◌, ◌++◌, ℕ, ◌+◌}
use Rattle.answers.specs.declared.Answer.{Answer}
use Rattle.answers.specs.Numbers.{number_of}
use Rattle.nxdn.specs.Operations.{End}
use Rattle.demands.specs.Device.{Operation, OfCall, Step, device_after, history}
use Rattle.demands.specs.Counted.{Slot, slots_in, opened, held, fates, how_many, four_counts}

-- the operations before an end, and the number of the call that it ends
abbrev pub Ending : Type 0
Ending = List Operation × ℕ

module _ (st : Step) where
  -- its answer, and what it hands out
  abbrev pub at_end : Ending → Answer × List ℕ
  at_end e = let r = st (device_after st e.0) (OfCall e.1 End) in (r.0, r.1.1)

  abbrev pub AllEnded : List Ending → Type 0
  AllEnded [] = Unit {0}
  AllEnded (e ∷ es) = (number_of (at_end e).0 ≡ 0) × AllEnded es

  abbrev pub handed_over : List Ending → List ℕ
  handed_over [] = []
  handed_over (e ∷ es) = (at_end e).1 ++ handed_over es

  abbrev pub slots_of : Ending → List Slot
  slots_of e = slots_in e.1 (history st e.0)

  abbrev pub night_slots : List Ending → List Slot
  night_slots [] = []
  night_slots (e ∷ es) = slots_of e ++ night_slots es

-- what a report is to say of slots: the four counts, and opened over opened plus held
abbrev pub said : List Slot → List ℕ
said xs = four_counts xs ++ how_many opened (fates xs) ∷ (how_many opened (fates xs) + how_many held (fates xs)) ∷ []
