-- How a call begins (document 01, "Voice"): open, join and start.
use Rattle.std.specs.Prelude.{List, ℕ, eqb}
use Rattle.octets.specs.Tests.{pick}
use Rattle.answers.specs.declared.Answer.{Answer}
use Rattle.answers.specs.Outcomes.{Refusals, outcome}
use Rattle.calls.specs.declared.call.Terms.{Terms}
use Rattle.calls.specs.declared.call.Call.{Call}
use Rattle.sizes.specs.Ciphers.{superframe_slots, scrambles}
use Rattle.calls.specs.Counts.{no_counts}
use Rattle.openings.specs.Ladder.{session_vector, key_for, key_refusals, vector_refusals}
use Rattle.calls.specs.Call.{sending_end, receiving_end, by_default, terms_right, told, untold, Standing, sending, receiving, standing, terms_of, written, is_bad, stands}

-- 2, 3 of cipher, key ID, rate and strictness, 4 of the call, 9 while a call stands, 4 of the book, 5, 6
unfoldable pub join_refusals : Standing → ℕ → ℕ → ℕ → ℕ → List ℕ → Refusals
join_refusals s c i r m b = key_refusals (terms_right receiving_end r m) (is_bad s) (stands s) c i b

-- the same of a call at one of its ends, with the vector's 2 first, and its 8 last for a sender
unfoldable pub begun_refusals : ℕ → Standing → ℕ → ℕ → ℕ → ℕ → List ℕ → List ℕ → Refusals
begun_refusals end s c i r m w b = vector_refusals (eqb end sending_end) (terms_right end r m) (is_bad s) (stands s) c i w b

-- a call at one of its ends, at position 0 of its first session, vector told
abbrev pub begun : ℕ → Terms → List ℕ → Standing
begun end t v = pick (eqb end sending_end) (sending t 0 v) (receiving t 0 (told v))

abbrev pub begun_of : ℕ → Call → ℕ → ℕ → ℕ → ℕ → List ℕ → List ℕ → Answer × Call
begun_of end call c i r m w b =
    outcome call (begun_refusals end (standing call) c i r m w b) (written no_counts (begun end (terms_of c (key_for b c i) r m) (session_vector c w)))

unfoldable pub open_of : Call → ℕ → ℕ → ℕ → ℕ → List ℕ → List ℕ → Answer × Call
open_of = begun_of receiving_end

-- a sender is told every vector: it has no strictness
unfoldable pub start_of : Call → ℕ → ℕ → ℕ → List ℕ → List ℕ → Answer × Call
start_of call c i r = begun_of sending_end call c i r by_default

-- a receiver at the end of a first superframe: scramble is at position 0 and running; DES and AES are at position 4, vector unknown
abbrev pub joined : Terms → Standing
joined t = receiving t (pick (scrambles t.cipher) 0 superframe_slots) (untold t.cipher)

unfoldable pub join_of : Call → ℕ → ℕ → ℕ → ℕ → List ℕ → Answer × Call
join_of call c i r m b = outcome call (join_refusals (standing call) c i r m b) (written no_counts (joined (terms_of c (key_for b c i) r m)))
