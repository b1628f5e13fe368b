-- The operations that a host's functions come to, read off its octets: a way to prove what is said of those that its calls come to.
use mathlib.Core.List.{List, [], ◌∷◌, ◌++◌}
use mathlib.Core.Bool.{Bool, ◌&&◌}
use Prim.Native.Nat.{ℕ}
use lib.Dec.{eqb, ltb}
use lib.ListN.{length}
use Rattle.octets.specs.Tests.{pick}
use Rattle.answers.specs.declared.Answer.{Answer}
use Rattle.answers.specs.Numbers.{number_of}
use Rattle.calls.specs.declared.call.Call.{Call}
use Rattle.calls.specs.Call.{standing}
use Rattle.calls.specs.Vector.{awaits}
use Rattle.hearing.specs.declared.Hearing.{Hearing}
use Rattle.hearing.specs.Hearing.{one_kept, call_of}
use Rattle.held.specs.Call.{hearing_in}
use Rattle.nxdn.specs.Operations.{CallOperation, Announce, NextVector, call_step}
use Rattle.nxdn.specs.Interface.{screen_room, Of, Heard, fits, Next, Show}
use Rattle.demands.specs.Device.{Operation, OfBook, OfScreen, OfCall, OfPacket}
use Rattle.demands.specs.Host.{Host, Function, Keys, Screen, OnCall, LookAt, OnPacket, Calls, host_after}

-- a kept vector is announced as its session starts, right after the slot that leads there
abbrev pub starts_next : Hearing → Answer × (Call × List ℕ) → Bool
starts_next h r = eqb h.kept one_kept && (ltb (number_of r.0) 2 && awaits (standing r.1.0))

abbrev pub kept : List ℕ → ℕ → CallOperation → Hearing → List Operation
kept b n o h = pick (starts_next h (call_step b (call_of h) o)) (OfCall n (Announce h.next) ∷ []) []

-- and where the call awaits a vector it is announced as it is heard
abbrev pub heard_now : ℕ → List ℕ → Hearing → List Operation
heard_now n w h = pick (awaits (standing (call_of h))) (OfCall n (Announce w) ∷ []) []

-- of a function, the latest first. Where what is lent doesn't fit there is none; showing a call is none; and a vector that is kept is none yet
abbrev pub comes_to : Host → Function → List ℕ → List Operation
comes_to h (Keys o) lent = OfBook o ∷ []
comes_to h (Screen o) lent = pick (eqb (length lent) (screen_room o)) (OfScreen o ∷ []) []
comes_to h (OnCall n (Of o)) lent = pick (fits (Of o) lent) (kept h.book n o (hearing_in (h.calls n)) ++ (OfCall n o ∷ [])) []
comes_to h (OnCall n (Heard w)) lent = heard_now n w (hearing_in (h.calls n))
comes_to h (LookAt n Next) lent = OfCall n (NextVector lent) ∷ []
comes_to h (LookAt n Show) lent = []
comes_to h (OnPacket n o) lent = OfPacket n o ∷ []

unfoldable pub read_operations : Calls → List Operation
read_operations [] = []
read_operations (f ∷ fs) = comes_to (host_after fs) f.0 f.1 ++ read_operations fs
