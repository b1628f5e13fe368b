-- Cited by private contracts only: what the Result of a step says of its outcome.
use Rattle.std.specs.Prelude.{List, ℕ, eqb, leb, Result, Ok, Err}
use Rattle.octets.specs.Tests.{pick}
use Rattle.answers.specs.declared.Answer.{Answer}
use Rattle.answers.specs.Numbers.{number_of}
use Rattle.hearing.specs.declared.Hearing.{Hearing}
use Rattle.batch.specs.declared.Recorded.{Recorded}

-- whether a slot was held and what is left of the call, or the refusal alone; and the step's octets
abbrev pub recorded_of : Answer × (Hearing × List ℕ) → Result Recorded Answer × List ℕ
recorded_of o = (pick (leb (number_of o.0) 1) (Ok (record { held = eqb (number_of o.0) 1; hearing = o.1.0 })) (Err o.0), o.1.1)

-- a refusal leaves it as it was
abbrev pub hearing_after : Hearing → Result Recorded Answer → Hearing
hearing_after h (Ok r) = r.hearing
hearing_after h (Err a) = h
