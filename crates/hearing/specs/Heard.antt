-- A vector that is heard in the middle of a session is kept, and announced by itself as its session starts.
use Rattle.std.specs.Prelude.{List, [], ◌∷◌, not, ℕ, eqb, ltb, length}
use Rattle.octets.specs.Tests.{pick}
use Rattle.answers.specs.declared.Answer.{Answer}
use Rattle.answers.specs.declared.Answer.TheVariants.{WrongLength, Bad, NotNow}
use Rattle.answers.specs.Numbers.{number_of}
use Rattle.answers.specs.Outcomes.{Refusals, outcome}
use Rattle.sizes.specs.Ciphers.{vector_octets}
use Rattle.calls.specs.declared.call.Call.{Call}
use Rattle.calls.specs.Call.{Standing, standing, is_bad}
use Rattle.calls.specs.Vector.{announce_of}
use Rattle.hearing.specs.declared.Hearing.{Hearing}
use Rattle.hearing.specs.Hearing.{one_kept, hears, under_way, call_of, alone, keeping}

-- what was kept, when the call has come to c: in the middle of a session it stays kept; else it is announced, which tells it to a call that awaits one
unfoldable pub handed : ℕ → List ℕ → Call → Hearing
handed kept w c = pick (eqb kept one_kept) (pick (under_way (standing c)) (keeping c w) (alone (announce_of c w).1)) (alone c)

-- 0 and 1 hand on what was kept; a refusal changes nothing
unfoldable pub handed_on : Hearing → Answer → Call → Hearing
handed_on h a c = pick (ltb 1 (number_of a)) h (handed h.kept h.next c)

-- an operation on the call, and then that
module _ {X : Type 0} where
  unfoldable pub carried : (Call → Answer × (Call × X)) → Hearing → Answer × (Hearing × X)
  carried f h = let r = f (call_of h) in (r.0, (handed_on h r.0 r.1.0, r.1.1))

-- 2, 4, 9 without a receiver of DES or AES
unfoldable pub heard_refusals : Standing → List ℕ → Refusals
heard_refusals s w = (not (eqb (length w) vector_octets), WrongLength) ∷ (is_bad s, Bad) ∷ (not (hears s), NotNow) ∷ []

-- the last that was heard counts; where the call awaits a vector now it is announced at once
unfoldable pub heard_of : Hearing → List ℕ → Answer × Hearing
heard_of h w = outcome h (heard_refusals (standing (call_of h)) w) (handed one_kept w h.call)
