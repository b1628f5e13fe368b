-- Vectors of a call (document 01, "Voice"): one announced to a receiver, and the next one of a sender.
use Rattle.std.specs.Prelude.{List, [], ◌∷◌, Bool, false, ◌&&◌, not, ℕ, eqb, length}
use Rattle.answers.specs.declared.Answer.{Answer}
use Rattle.answers.specs.declared.Answer.TheVariants.{WrongLength, Bad, NotNow}
use Rattle.answers.specs.Outcomes.{Refusals, outcome}
use Rattle.generator.specs.Generator.{next_vector}
use Rattle.calls.specs.declared.call.Call.{Call}
use Rattle.sizes.specs.Ciphers.{vector_octets, no_vector, scrambles}
use Rattle.calls.specs.Call.{is_told, told, Standing, closed, bad, sending, receiving, standing, written, is_bad}

-- ---- announce

-- DES or AES at position 0 with no vector told: unknown, or carried, which gives way
abbrev pub awaits : Standing → Bool
awaits closed = false
awaits bad = false
awaits (sending t p v) = false
awaits (receiving t p k) = not (scrambles t.cipher) && (eqb p 0 && not (is_told k))

-- a receiver that has been told its vector
abbrev pub with_vector : List ℕ → Standing → Standing
with_vector w closed = closed
with_vector w bad = bad
with_vector w (sending t p v) = sending t p v
with_vector w (receiving t p k) = receiving t p (told w)

-- 2, 4, 9
unfoldable pub announce_refusals : Standing → List ℕ → Refusals
announce_refusals s w = (not (eqb (length w) vector_octets), WrongLength) ∷ (is_bad s, Bad) ∷ (not (awaits s), NotNow) ∷ []

unfoldable pub announce_of : Call → List ℕ → Answer × Call
announce_of c w = outcome c (announce_refusals (standing c) w) (written c.counts (with_vector w (standing c)))

-- ---- next vector

-- a sender that has a next vector: DES or AES
abbrev pub generates : Standing → Bool
generates closed = false
generates bad = false
generates (sending t p v) = not (scrambles t.cipher)
generates (receiving t p k) = false

-- L(S) of the current session
abbrev pub following : Standing → List ℕ
following closed = no_vector
following bad = no_vector
following (sending t p v) = next_vector v
following (receiving t p k) = no_vector

-- 2, 4, 9 (no call, scramble, receiving)
unfoldable pub next_refusals : Standing → List ℕ → Refusals
next_refusals s out = (not (eqb (length out) vector_octets), WrongLength) ∷ (is_bad s, Bad) ∷ (not (generates s), NotNow) ∷ []

-- the call stays as it is; of the lent octets
unfoldable pub next_vector_of : Call → List ℕ → Answer × List ℕ
next_vector_of c out = outcome out (next_refusals (standing c) out) (following (standing c))
