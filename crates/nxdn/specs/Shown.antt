-- What a screen shows of a call: its end, cipher, rate and position, and whether a slot is turned now.
use Rattle.std.specs.Prelude.{Bool, ◌&&◌, not, List, [], ◌∷◌, ℕ, replicate}
use Rattle.octets.specs.Tests.{pick}
use Rattle.answers.specs.declared.Answer.{Answer}
use Rattle.answers.specs.declared.Answer.TheVariants.{Bad}
use Rattle.answers.specs.Outcomes.{outcome}
use Rattle.calls.specs.declared.call.Call.{Call}
use Rattle.calls.specs.Call.{standing, is_bad, knows}
use Rattle.voice.specs.Slot.{is_full}

abbrev pub shown_octets : ℕ
shown_octets = 5

-- the session's vector is known, and the call's slots are not at their end
unfoldable pub turns_now : Call → Bool
turns_now c = knows (standing c) && not (is_full (standing c) c.counts)

-- no call is all zeros
abbrev pub shown_call : Call → List ℕ
shown_call c = c.end ∷ c.terms.cipher ∷ c.terms.rate ∷ c.position ∷ pick (turns_now c) 1 0 ∷ []

-- 4; a refusal shows zeros
unfoldable pub show_of : Call → Answer × List ℕ
show_of c = outcome (replicate shown_octets 0) ((is_bad (standing c), Bad) ∷ []) (shown_call c)
