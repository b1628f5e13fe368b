-- A session's keystream, made once in lent octets of any length.
use Rattle.std.specs.Prelude.{◌≡◌, Bool, true, ◌&&◌, List, ℕ, leb, length, Result, Ok, Err}
use Rattle.std.specs.Result.{result_unwrap_or}
use Rattle.sizes.specs.Frame.{session_octets}
use Rattle.answers.specs.declared.Answer.{Answer}
use Rattle.calls.specs.declared.call.Call.{Call}
use Rattle.calls.specs.Call.{standing, width_of, knows}
use Rattle.voice.specs.declared.slot.Slot.{Slot}
use Rattle.voice.specs.Slot.{IsSession}

-- lent octets, and whether they are known to hold the keystream of the session that a call is in
pub record Cached (made : Bool) (call : Call) (session : List ℕ) : Type 0 where
  pub holds : made ≡ true → IsSession call session

-- they can hold it where the call knows its session's vector, and they are enough for its rate
unfoldable pub can_hold : Call → List ℕ → Bool
can_hold c session = knows (standing c) && leb (session_octets (width_of c.terms)) (length session)

-- the call after an operation: a refusal leaves it as it was
abbrev pub call_after : Call → Result Call Answer → Call
call_after c done = result_unwrap_or done c

-- and after a slot
abbrev pub slot_after : Call → Result Slot Answer → Call
slot_after c (Ok s) = s.call
slot_after c (Err a) = c
