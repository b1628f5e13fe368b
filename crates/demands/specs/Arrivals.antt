-- Demand 3, which slots a log has to list: each slot that arrived, in order, with what the channel brought and no word of the receiver.
use Rattle.std.specs.Prelude.{List, [], ◌∷◌, ◌++◌, ℕ, drop}
use Rattle.octets.specs.Tests.{pick}
use Rattle.sizes.specs.Ciphers.{superframe_slots}
use Rattle.demands.specs.Talk.{Slot, Session, Talk, WayIn, opening, joining}
use Rattle.demands.specs.Log.{Event, answered, arrived}

-- mask, what was spoken and what came
abbrev pub Shown : Type 0
Shown = ℕ × (List ℕ × List ℕ)

abbrev pub shown_in : List Event → List Shown
shown_in [] = []
shown_in (answered a ∷ es) = shown_in es
shown_in (arrived r ∷ es) = (r.mask, (r.spoken, r.came)) ∷ shown_in es

-- of slots, those that arrive
abbrev pub arriving : List Slot → List Shown
arriving [] = []
arriving (x ∷ xs) = pick x.arrived ((x.mask, (x.spoken, x.sent)) ∷ arriving xs) (arriving xs)

-- the slots of sessions, all together
abbrev pub all_slots : List Session → List Slot
all_slots [] = []
all_slots (x ∷ xs) = x.slots ++ all_slots xs

-- of the first session from slot p on
abbrev pub slots_from : ℕ → List Session → List Slot
slots_from p [] = []
slots_from p (x ∷ xs) = drop p x.slots ++ all_slots xs

-- those that are to come as the receiver comes in
abbrev pub slots_after : Talk → WayIn → List Slot
slots_after t opening = all_slots t.sessions
slots_after t (joining n) = slots_from superframe_slots (drop n t.sessions)
