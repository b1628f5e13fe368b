-- A recording: the slots, losses and vectors of a call as steps of one size, taken one after the other.
use Rattle.std.specs.Prelude.{List, [], ◌∷◌, ◌++◌, ℕ, zero, suc, eqb, length, get_or, take, drop}
use Rattle.octets.specs.Tests.{pick}
use Rattle.octets.specs.Lists.{replaced}
use Rattle.answers.specs.declared.Answer.{Answer}
use Rattle.answers.specs.declared.Answer.TheVariants.{OutOfRange}
use Rattle.answers.specs.Numbers.{number_of}
use Rattle.sizes.specs.Ciphers.{vector_octets}
use Rattle.sizes.specs.Frame.{frame_octets, width}
use Rattle.calls.specs.declared.call.Call.{Call}
use Rattle.voice.specs.Slot.{lost_of, voice_of}
use Rattle.calls.specs.Vector.{announce_of}
use Rattle.hearing.specs.declared.Hearing.{Hearing}
use Rattle.hearing.specs.Heard.{carried, heard_of}

-- ---- a step

pub data Step : Type 0 where
  -- mask and frame
  Voice : ℕ → List ℕ → Step
  Lost : Step
  -- vector: announced as its session starts, or heard at any time
  Announce Heard : List ℕ → Step
  -- octets that say none of these
  Unknown : Step

-- in octets, enough for a frame at full rate: 0 says what it is, 1 is the mask, and from 2 on is the frame, as long as the call's rate says, or the vector;
-- what stands behind it is not looked at
abbrev pub step_octets : ℕ
step_octets = 38

abbrev pub lent_at : ℕ
lent_at = 2

abbrev pub frame_in : ℕ → List ℕ → List ℕ
frame_in rate o = take (frame_octets (width rate)) (drop lent_at o)

abbrev pub slot_in : ℕ → List ℕ → Step
slot_in rate o = Voice (get_or o 1 0) (frame_in rate o)

abbrev pub vector_in : List ℕ → List ℕ
vector_in o = take vector_octets (drop lent_at o)

unfoldable pub step_in : ℕ → List ℕ → Step
step_in rate o =
    let kind = get_or o 0 0 in
    pick (eqb kind 1) (slot_in rate o)
    (pick (eqb kind 2) Lost (pick (eqb kind 3) (Announce (vector_in o)) (pick (eqb kind 4) (Heard (vector_in o)) Unknown)))

-- ---- what it does

-- to the step's own octets: a slot leaves its frame where it stands, all else leaves them as they are
abbrev pub framed : List ℕ → Answer × (Call × List ℕ) → Answer × (Call × List ℕ)
framed o r = (r.0, (r.1.0, replaced o lent_at (length r.1.1) r.1.1))

abbrev pub beside : {S : Type 0} → List ℕ → Answer × S → Answer × (S × List ℕ)
beside o r = (r.0, (r.1, o))

-- to the call, and to the vector that it keeps: what voice, lost, announce and heard do. What is none of these is 3, and changes nothing
unfoldable pub taken : Step → Hearing → List ℕ → Answer × (Hearing × List ℕ)
taken (Voice mask frame) h o = carried (λ c. framed o (voice_of c mask frame)) h
taken Lost h o = carried (λ c. beside o (lost_of c)) h
taken (Announce w) h o = carried (λ c. beside o (announce_of c w)) h
taken (Heard w) h o = beside o (heard_of h w)
taken Unknown h o = (OutOfRange, (h, o))

abbrev pub recorded : Hearing → List ℕ → Answer × (Hearing × List ℕ)
recorded h o = taken (step_in h.call.terms.rate o) h o

-- ---- so many, one after the other: the number of each answer, what is left of the call, and the octets of the steps

unfoldable pub batch_of : ℕ → Hearing → List ℕ → List ℕ × (Hearing × List ℕ)
batch_of zero h steps = ([], (h, steps))
batch_of (suc n) h steps =
    let r = recorded h (take step_octets steps) in
    let rest = batch_of n r.1.0 (drop step_octets steps) in
    (number_of r.0 ∷ rest.0, (rest.1.0, r.1.1 ++ rest.1.1))
