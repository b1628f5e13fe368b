-- The functions of a recording's steps, called in turn on the octets of one call.
use Rattle.std.specs.Prelude.{List, [], ◌∷◌, ◌++◌, ℕ, zero, suc, length, get_or, take, drop}
use Rattle.octets.specs.Lists.{replaced}
use Rattle.answers.specs.declared.Answer.TheVariants.{OutOfRange}
use Rattle.answers.specs.Numbers.{number_of}
use Rattle.batch.specs.Batch as step
use Rattle.nxdn.specs.Operations.{Voice, Lost, Announce}
use Rattle.nxdn.specs.Interface.{Of, Heard, on_call}

-- what a function answers and leaves in the call's octets, beside the step's own
abbrev pub beside : List ℕ → ℕ × (List ℕ × List ℕ) → ℕ × (List ℕ × List ℕ)
beside o r = (r.0, (r.1.0, o))

-- the function that a step is: a slot's frame is lent where it stands in the step. No function is 3
unfoldable pub called : step.Step → List ℕ → List ℕ → ℕ × (List ℕ × List ℕ)
called (step.Voice mask frame) x o =
    let r = on_call [] (Of (Voice mask frame)) x frame in
    (r.0, (r.1.0, replaced o step.lent_at (length r.1.1) r.1.1))
called step.Lost x o = beside o (on_call [] (Of Lost) x [])
called (step.Announce w) x o = beside o (on_call [] (Of (Announce w)) x [])
called (step.Heard w) x o = beside o (on_call [] (Heard w) x [])
called step.Unknown x o = (number_of OutOfRange, (x, o))

-- so many steps, each on what the last one left: their answers, the call's octets and those of the steps. Octet 2 of a call is its rate
unfoldable pub in_turn : ℕ → List ℕ → List ℕ → List ℕ × (List ℕ × List ℕ)
in_turn zero x steps = ([], (x, steps))
in_turn (suc n) x steps =
    let first = take step.step_octets steps in
    let r = called (step.step_in (get_or x 2 0) first) x first in
    let rest = in_turn n r.1.0 (drop step.step_octets steps) in
    (r.0 ∷ rest.0, (rest.1.0, r.1.1 ++ rest.1.1))
