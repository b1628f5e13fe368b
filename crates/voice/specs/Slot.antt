-- A voice slot of a call (document 01, "Voice"), arrived or lost.
use Rattle.std.specs.Prelude.{◌≡◌, List, [], ◌∷◌, ◌++◌, Bool, true, ◌&&◌, not, ℕ, ◌+◌, ◌-◌, ◌^◌, ◌≤◌, ◌<◌, ltb, leb, eqb, length}
use Rattle.octets.specs.Tests.{pick}
use Rattle.octets.specs.Bits.{bit, octets_from}
use Rattle.answers.specs.declared.Answer.{Answer}
use Rattle.answers.specs.declared.Answer.TheVariants.{Done, Held, WrongLength, Bad, NotNow, BadMask, PastLimit}
use Rattle.answers.specs.Outcomes.{Refusals, settled, outcome}
use Rattle.sizes.specs.Ciphers.{session_slots, no_vector, scrambles}
use Rattle.ciphers.specs.Keystream.{stream}
use Rattle.generator.specs.Generator.{next_vector}
use Rattle.calls.specs.declared.counts.Counts.{Counts}
use Rattle.calls.specs.declared.call.Terms.{Terms}
use Rattle.calls.specs.declared.call.Call.{Call}
use Rattle.voice.specs.declared.slot.Moved.{Moved}
use Rattle.sizes.specs.Frame.{words, frame_octets, session_bits, session_octets, most_words}
use Rattle.voice.specs.Frame.{of_slot, protect}
use Rattle.calls.specs.Counts.{plus, total, lost_words, arrived_words}
use Rattle.calls.specs.Call.{receiving_end, by_default, Known, carried, is_known, known_vector, untold, Standing, closed, bad, sending, receiving, standing, call_at, width_of, width_in, written, is_bad, stands, receives, knows}

-- ---- a slot on

-- the vector of a sender's next session: scramble has none
unfoldable pub going_on : ℕ → List ℕ → List ℕ
going_on c v = pick (scrambles c) no_vector (next_vector v)

-- with DES or AES a receiver goes on with the generator's next vector by default, if it knew the last
abbrev pub rides : Terms → Bool → Bool
rides t knew = not (scrambles t.cipher) && (eqb t.strictness by_default && knew)

-- what it knows as its next session starts, told nothing of it
abbrev pub ridden : Terms → Known → Known
ridden t k = pick (rides t (is_known k)) (carried (next_vector (known_vector k))) (untold t.cipher)

-- a call one slot on: after its session's last slot it is in the next one, with the next vector, of which a receiver was told nothing
unfoldable pub slot_on : Standing → Standing
slot_on closed = closed
slot_on bad = bad
slot_on (sending t p v) = pick (ltb (p + 1) (session_slots t.cipher)) (sending t (p + 1) v) (sending t 0 (going_on t.cipher v))
slot_on (receiving t p k) = pick (ltb (p + 1) (session_slots t.cipher)) (receiving t (p + 1) k) (receiving t 0 (ridden t k))

-- a receiver's call, by its terms and what slots move of it
abbrev pub moved_to : Terms → Moved → Call
moved_to t m = call_at receiving_end t m.position m.known m.vector m.counts

-- a receiver was told of as many slots as it may be; a sender has no limit
abbrev pub is_full : Standing → Counts → Bool
is_full s n = receives s && leb most_words (total n)

-- ---- a lost slot

-- it moves position on and is four words lost; 4, 9 without a receiving call, 16 past the limit
unfoldable pub lost_refusals : Call → Refusals
lost_refusals c = (is_bad (standing c), Bad) ∷ (not (receives (standing c)), NotNow) ∷ (is_full (standing c) c.counts, PastLimit) ∷ []

unfoldable pub lost_of : Call → Answer × Call
lost_of c = outcome c (lost_refusals c) (written (plus c.counts lost_words) (slot_on (standing c)))

-- ---- a voice slot

-- a mask of all words
abbrev pub top_mask : ℕ
top_mask = 2 ^ words - 1

-- 10, 4, 9 without a call, 16 past a receiver's limit; and 2, which comes last, since a frame's length follows the call's rate (document 02, W-205)
unfoldable pub voice_refusals : Call → ℕ → List ℕ → Refusals
voice_refusals c mask frame =
    (ltb top_mask mask, BadMask) ∷ (is_bad (standing c), Bad) ∷ (not (stands (standing c)), NotNow) ∷ (is_full (standing c) c.counts, PastLimit)
    ∷ (not (eqb (length frame) (frame_octets (width_in (standing c)))), WrongLength) ∷ []

-- the keystream of the session that a call is in
abbrev pub stream_of : Call → ℕ → ℕ
stream_of c = stream c.terms.cipher c.terms.key c.vector

module _ (st : Call → ℕ → ℕ) (mask : ℕ) (frame : List ℕ) where
  -- protected or opened, the frame is turned by the bits of the slot that a call is at, of its session's, which st gives
  abbrev pub in_slot : Call → List ℕ
  in_slot c = let width = width_of c.terms in protect width (of_slot width (st c) c.position) mask frame

  -- at either end the frame is turned; where a receiver doesn't know the vector it is held as it came; position moves on, and a receiver counts the words
  abbrev pub voice_after : Counts → Standing → Answer × (Call × List ℕ)
  voice_after n s =
      (pick (knows s) Done Held, (written (plus n (arrived_words mask (knows s))) (slot_on s), pick (knows s) (in_slot (written n s)) frame))

-- a slot, its session's bits given by st
unfoldable pub voice_by : (Call → ℕ → ℕ) → Call → ℕ → List ℕ → Answer × (Call × List ℕ)
voice_by st c mask frame = settled (c, frame) (voice_refusals c mask frame) (voice_after st mask frame c.counts (standing c))

-- by its session's keystream
abbrev pub voice_of : Call → ℕ → List ℕ → Answer × (Call × List ℕ)
voice_of = voice_by stream_of

-- fewer lent octets than a session's are 2, as a frame of another length is
unfoldable pub short_refusals : Standing → List ℕ → Refusals
short_refusals s session = (ltb (length session) (session_octets (width_in s)), WrongLength) ∷ []

-- by lent octets, whatever they hold
unfoldable pub voice_by_octets : List ℕ → Call → ℕ → List ℕ → Answer × (Call × List ℕ)
voice_by_octets session c mask frame =
    settled (c, frame) (voice_refusals c mask frame ++ short_refusals (standing c) session) (voice_after (λ d. bit session) mask frame c.counts (standing c))

-- ---- a session's keystream, made once

-- lent octets of any length, with the session's keystream from bit 0 on; without a session whose vector is known they stay as they are
unfoldable pub session_stream_of : Call → List ℕ → List ℕ
session_stream_of c out = pick (knows (standing c)) (octets_from (length out) (stream_of c)) out

-- octets that hold the keystream of the session that a call is in, all that its slots can take
pub record IsSession (call : Call) (session : List ℕ) : Type 0 where
  pub known : knows (standing call) ≡ true
  pub long : session_octets (width_of call.terms) ≤ length session
  pub bits : (n : ℕ) → n < session_bits (width_of call.terms) → bit session n ≡ stream_of call n
