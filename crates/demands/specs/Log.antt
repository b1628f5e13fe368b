-- Demand 3, what a receiver makes of a call: what it answers to each thing that it is told, in order.
use Rattle.std.specs.Prelude.{List, [], ◌∷◌, Bool, ℕ}
use Rattle.answers.specs.declared.Answer.{Answer}
use Rattle.demands.specs.Talk.{Slot, Talk, WayIn}
use Rattle.demands.specs.Notices.{Notice, hear, join, announce, lost, voice, notices_of}

-- a receiver: what it answers and leaves, whatever it keeps between two operations
pub record Receiver : Type 1 where
  pub State : Type 0
  -- no call
  pub idle : State
  -- it hears the opening: cipher, key ID, rate, vector, book
  pub hear : ℕ → ℕ → ℕ → List ℕ → List ℕ → State → Answer × State
  -- cipher, key ID, rate, book
  pub join : ℕ → ℕ → ℕ → List ℕ → State → Answer × State
  -- mask and frame; the frame afterwards comes last
  pub voice : ℕ → List ℕ → State → Answer × (State × List ℕ)
  pub lost : State → Answer × State
  pub announce : List ℕ → State → Answer × State

-- a slot that arrived: the call's rate, whether its session counts as reached, its mask, what was spoken and what came, and what the receiver answered and
-- left in the frame
pub record Report : Type 0 where
  pub rate : ℕ
  pub reached : Bool
  pub mask : ℕ
  pub spoken : List ℕ
  pub came : List ℕ
  pub answer : Answer
  pub frame : List ℕ

pub data Event : Type 0 where
  -- the opening heard or the joining, a slot told lost, a vector told as its session starts: what was answered
  answered : Answer → Event
  arrived : Report → Event

module _ (R : Receiver) where
  abbrev pub noted : Answer × R.State → Event × R.State
  noted out = (answered out.0, out.1)

  -- a slot comes as it was sent
  abbrev pub reported : ℕ → Bool → Slot → Answer × (R.State × List ℕ) → Event × R.State
  reported rate reached x out =
      (arrived (record { rate = rate; reached = reached; mask = x.mask; spoken = x.spoken; came = x.sent; answer = out.0; frame = out.1.1 }), out.1.0)

  -- for a call of cipher c at a rate, a receiver with a book and a key ID
  module _ (b : List ℕ) (c i rate : ℕ) where
    abbrev pub event : Notice → R.State → Event × R.State
    event (hear v) s = noted (R.hear c i rate v b s)
    event join s = noted (R.join c i rate b s)
    event (announce v) s = noted (R.announce v s)
    event lost s = noted (R.lost s)
    event (voice reached x) s = reported rate reached x (R.voice x.mask x.sent s)

    abbrev pub events : R.State → List Notice → List Event
    events s [] = []
    events s (n ∷ ns) = (event n s).0 ∷ events (event n s).1 ns

  -- the log of a call, for a receiver that starts without one: book, key ID, the call, how the receiver comes in
  abbrev pub talk_log : List ℕ → ℕ → Talk → WayIn → List Event
  talk_log b i t e = events b t.cipher i t.rate R.idle (notices_of t e)
