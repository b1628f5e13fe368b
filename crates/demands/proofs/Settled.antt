-- Demand 3, in either way, settles every answer: 0 to whatever a receiver is told, but 1 to a slot that does not count as reached.
use mathlib.Core.Path.{◌≡◌, refl, sym, ap, ap₂, ◌∙◌}
use mathlib.Core.List.{List, [], ◌∷◌, map}
use mathlib.Core.Bool.{Bool, true, false}
use Prim.Native.Nat.{ℕ}
use Rattle.octets.specs.Tests.{pick}
use Rattle.octets.specs.Lists.{Each}
use Rattle.answers.specs.Numbers.{number_of}
use Rattle.sizes.specs.Ciphers.{scrambles}
use Rattle.demands.specs.Talk.{Talk, WayIn}
use Rattle.demands.specs.Notices.{Notice, hear, join, announce, lost, voice, notices_of}
use Rattle.demands.specs.Log.{Receiver, Report, Event, answered, arrived, event, events, talk_log}
use Rattle.demands.specs.Demand3.{RightSlot, Right}
use Rattle.demands.specs.Demand3Default.{since_known, default_notices, default_log}

abbrev number : Event → ℕ
number (answered a) = number_of a
number (arrived r) = number_of r.answer

abbrev pub answers : List Event → List ℕ
answers = map number

abbrev pub due : Notice → ℕ
due (voice reached x) = pick reached 0 1
due (hear v) = 0
due join = 0
due (announce v) = 0
due lost = 0

right-slot : (r : Report) → RightSlot r → number_of r.answer ≡ pick r.reached 0 1
right-slot r h = go r.reached refl
  where
    go : (b : Bool) → r.reached ≡ b → number_of r.answer ≡ pick b 0 1
    go true e = h.handed e
    go false e = (h.held e).0

module _ (R : Receiver) (b : List ℕ) (c i r : ℕ) where
  right-event : (n : Notice) (s : R.State) → Right (event R b c i r n s).0 → number (event R b c i r n s).0 ≡ due n
  right-event (hear v) s h = h
  right-event join s h = h
  right-event (announce v) s h = h
  right-event lost s h = h
  right-event (voice reached x) s h = right-slot _ h

  pub right-events : (s : R.State) (ns : List Notice) → Each Right (events R b c i r s ns) → answers (events R b c i r s ns) ≡ map due ns
  right-events s [] h = refl
  right-events s (n ∷ ns) h = ap₂ ◌∷◌ (right-event n s h.0) (right-events (event R b c i r n s).1 ns h.1)

-- of a log that is right
module _ (R : Receiver) (b : List ℕ) (i : ℕ) (t : Talk) (e : WayIn) where
  pub strict-settled : Each Right (talk_log R b i t e) → answers (talk_log R b i t e) ≡ map due (notices_of t e)
  strict-settled = right-events R b t.cipher i t.rate R.idle (notices_of t e)

  pub default_settled : Each Right (default_log R b i t e) → answers (default_log R b i t e) ≡ map due (default_notices t e)
  default_settled = right-events R b t.cipher i t.rate R.idle (default_notices t e)

-- ---- the two ways

module _ (R : Receiver) (b : List ℕ) (c i r : ℕ) where
  -- what is answered doesn't depend on what counts as reached
  answers-since : (known : Bool) (s : R.State) (ns : List Notice) → answers (events R b c i r s (since_known known ns)) ≡ answers (events R b c i r s ns)
  answers-since known s [] = refl
  answers-since known s (hear v ∷ ns) = ap (λ (rest : List ℕ). number (event R b c i r (hear v) s).0 ∷ rest) (answers-since true (event R b c i r (hear v) s).1 ns)
  answers-since known s (join ∷ ns) = ap (λ (rest : List ℕ). number (event R b c i r join s).0 ∷ rest) (answers-since known (event R b c i r join s).1 ns)
  answers-since known s (announce v ∷ ns) =
      ap (λ (rest : List ℕ). number (event R b c i r (announce v) s).0 ∷ rest) (answers-since true (event R b c i r (announce v) s).1 ns)
  answers-since known s (lost ∷ ns) = ap (λ (rest : List ℕ). number (event R b c i r lost s).0 ∷ rest) (answers-since known (event R b c i r lost s).1 ns)
  answers-since known s (voice reached x ∷ ns) =
      ap (λ (rest : List ℕ). number (event R b c i r (voice reached x) s).0 ∷ rest) (answers-since known (event R b c i r (voice reached x) s).1 ns)

-- so a log is right in both ways only where the same slots count as reached
pub both_settled : (R : Receiver) (b : List ℕ) (i : ℕ) (t : Talk) (e : WayIn) → Each Right (talk_log R b i t e) → Each Right (default_log R b i t e)
    → map due (notices_of t e) ≡ map due (default_notices t e)
both_settled R b i t e s d =
    sym (strict-settled R b i t e s) ∙ sym (answers-since R b t.cipher i t.rate (scrambles t.cipher) R.idle (notices_of t e)) ∙ default_settled R b i t e d
