-- What the Result of a voice slot says of its outcome: whether it was held, and the call after it; or the refusal alone.
use Rattle.std.specs.Prelude.{Bool, List, ℕ, eqb, leb, Result, Ok, Err}
use Rattle.octets.specs.Tests.{pick}
use Rattle.answers.specs.declared.Answer.{Answer}
use Rattle.answers.specs.Numbers.{number_of}
use Rattle.calls.specs.declared.call.Call.{Call}
use Rattle.voice.specs.declared.slot.Slot.{Slot}

-- done is 0, and held is 1: all else refuses
abbrev pub held_of : Answer → Result Bool Answer
held_of a = pick (leb (number_of a) 1) (Ok (eqb (number_of a) 1)) (Err a)

-- beside it, what is left in the lent frame
abbrev pub slot_of : Answer × (Call × List ℕ) → Result Slot Answer × List ℕ
slot_of o = (pick (leb (number_of o.0) 1) (Ok (record { held = eqb (number_of o.0) 1; call = o.1.0 })) (Err o.0), o.1.1)
