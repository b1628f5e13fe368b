-- A call (document 01, "Answer numbers"): the rules of the struct, and what it stands for.
use Rattle.std.specs.Prelude.{List, [], ◌∷◌, Bool, true, false, ◌&&◌, ◌||◌, not, ℕ, ltb, leb, eqb, replicate}
use Rattle.octets.specs.Tests.{pick, every}
use Rattle.octets.specs.Lists.{all_zero}
use Rattle.sizes.specs.Ciphers.{session_slots, key_room, no_vector, scrambles}
use Rattle.answers.specs.declared.Answer.{Answer}
use Rattle.answers.specs.declared.Answer.TheVariants.{Bad, NotNow}
use Rattle.answers.specs.Outcomes.{Refusals, outcome}
use Rattle.calls.specs.declared.counts.Counts.{Counts}
use Rattle.calls.specs.declared.call.Terms.{Terms}
use Rattle.calls.specs.declared.call.Call.{Call}
use Rattle.ciphers.specs.Keys.{key_right}
use Rattle.sizes.specs.Frame.{is_rate, width}
use Rattle.calls.specs.Counts.{no_counts, total, count_tests}

-- ---- the numbers of the struct

abbrev pub closed_end : ℕ
closed_end = 0

abbrev pub sending_end : ℕ
sending_end = 1

abbrev pub receiving_end : ℕ
receiving_end = 2

abbrev pub unknown_vector : ℕ
unknown_vector = 0

abbrev pub told_vector : ℕ
told_vector = 1

abbrev pub carried_vector : ℕ
carried_vector = 2

-- strictness: what a receiver does in a session whose announcement didn't come (document 02, W-206). By default it goes on with the generator's next
-- vector where it knew the last; a strict one holds
abbrev pub by_default : ℕ
by_default = 0

abbrev pub strict : ℕ
strict = 1

-- ---- the rules

-- a rate, and a strictness: only a receiver is strict
unfoldable pub terms_right : ℕ → ℕ → ℕ → Bool
terms_right end rate strictness = is_rate rate && (eqb strictness by_default || (eqb strictness strict && eqb end receiving_end))

-- a scramble vector is always told and zeros; a sender's DES or AES vector is told and not zero; an unknown one is kept as zeros; and none is carried by a
-- strict receiver
unfoldable pub vector_right : ℕ → ℕ → ℕ → ℕ → Bool → Bool
vector_right end cipher strictness known zeros =
    pick (scrambles cipher) (eqb known told_vector && zeros)
    (pick (eqb end sending_end) (eqb known told_vector && not zeros)
    (pick (eqb known unknown_vector) zeros (pick (eqb known carried_vector) (eqb strictness by_default) (eqb known told_vector))))

-- a sender counts nothing; a receiver that knows no vector by default has never known one
unfoldable pub counts_right : ℕ → ℕ → ℕ → ℕ → ℕ → Counts → Bool
counts_right end cipher strictness known position n =
    pick (eqb end sending_end) (eqb (total n) 0)
    (every (count_tests (scrambles cipher) (eqb strictness by_default && eqb known unknown_vector) position n))

-- closed, all else zero
unfoldable pub closed_tests : Call → List Bool
closed_tests c =
    eqb c.end closed_end ∷ eqb c.terms.cipher 0 ∷ eqb c.terms.rate 0 ∷ eqb c.terms.strictness 0 ∷ eqb c.position 0
    ∷ eqb c.known unknown_vector ∷ all_zero c.terms.key ∷ all_zero c.vector ∷ eqb (total c.counts) 0 ∷ []

-- its end, cipher, allowed key, rate and strictness, position inside the session, vector with what is known of it, and counts
unfoldable pub open_tests : Call → List Bool
open_tests c =
    leb sending_end c.end ∷ leb c.end receiving_end ∷ key_right c.terms.cipher c.terms.key
    ∷ terms_right c.end c.terms.rate c.terms.strictness ∷ ltb c.position (session_slots c.terms.cipher)
    ∷ vector_right c.end c.terms.cipher c.terms.strictness c.known (all_zero c.vector)
    ∷ counts_right c.end c.terms.cipher c.terms.strictness c.known c.position c.counts ∷ []

unfoldable pub is_closed : Call → Bool
is_closed c = every (closed_tests c)

unfoldable pub is_open : Call → Bool
is_open c = every (open_tests c)

-- a call that breaks this, or holds anything besides that disagrees with it, is bad
unfoldable pub good_call : Call → Bool
good_call c = is_closed c || is_open c

-- ---- what a call stands for

-- what a receiver knows of its session's vector: nothing; what it was told, by the opening or as the session started; or, told nothing, the generator's next
pub data Known : Type 0 where
  unknown : Known
  told carried : List ℕ → Known

abbrev pub is_known : Known → Bool
is_known unknown = false
is_known (told v) = true
is_known (carried v) = true

abbrev pub is_told : Known → Bool
is_told unknown = false
is_told (told v) = true
is_told (carried v) = false

-- its number and vector in the struct, and back
abbrev pub known_number : Known → ℕ
known_number unknown = unknown_vector
known_number (told v) = told_vector
known_number (carried v) = carried_vector

abbrev pub known_vector : Known → List ℕ
known_vector unknown = no_vector
known_vector (told v) = v
known_vector (carried v) = v

abbrev pub known_by : ℕ → List ℕ → Known
known_by known v = pick (eqb known unknown_vector) unknown (pick (eqb known told_vector) (told v) (carried v))

-- where no vector was told, scramble's is zeros all the same
abbrev pub untold : ℕ → Known
untold cipher = pick (scrambles cipher) (told no_vector) unknown

-- what the opening fixed, position, and the session's vector or what is known of it
pub data Standing : Type 0 where
  closed bad : Standing
  sending : Terms → ℕ → List ℕ → Standing
  receiving : Terms → ℕ → Known → Standing

unfoldable pub standing : Call → Standing
standing c =
    pick (is_closed c) closed
    (pick (is_open c)
    (pick (eqb c.end sending_end)
    (sending c.terms c.position c.vector)
    (receiving c.terms c.position (known_by c.known c.vector)))
    bad)

abbrev pub terms_of : ℕ → List ℕ → ℕ → ℕ → Terms
terms_of cipher key rate strictness = record { cipher = cipher; key = key; rate = rate; strictness = strictness }

-- the speech bits of a word, by the rate
abbrev pub width_of : Terms → ℕ
width_of t = width t.rate

abbrev pub call_at : ℕ → Terms → ℕ → ℕ → List ℕ → Counts → Call
call_at end t p known v n = record { end = end; terms = t; position = p; known = known; vector = v; counts = n }

-- no call: all zero
abbrev pub no_call : Call
no_call = call_at closed_end (terms_of 0 (replicate key_room 0) 0 0) 0 unknown_vector no_vector no_counts

-- the one struct for what a call stands for, with a receiver's counts (there is none for bad: no operation leaves a bad call but as it was)
abbrev pub written : Counts → Standing → Call
written n closed = no_call
written n bad = no_call
written n (sending t p v) = call_at sending_end t p told_vector v no_counts
written n (receiving t p k) = call_at receiving_end t p (known_number k) (known_vector k) n

abbrev pub is_bad : Standing → Bool
is_bad closed = false
is_bad bad = true
is_bad (sending t p v) = false
is_bad (receiving t p k) = false

-- the speech bits of a word of a call that stands; of others none are asked for
abbrev pub width_in : Standing → ℕ
width_in closed = 0
width_in bad = 0
width_in (sending t p v) = width_of t
width_in (receiving t p k) = width_of t

-- a call stands
abbrev pub stands : Standing → Bool
stands closed = false
stands bad = false
stands (sending t p v) = true
stands (receiving t p k) = true

abbrev pub receives : Standing → Bool
receives closed = false
receives bad = false
receives (sending t p v) = false
receives (receiving t p k) = true

-- a call stands and its session's vector is known
abbrev pub knows : Standing → Bool
knows closed = false
knows bad = false
knows (sending t p v) = true
knows (receiving t p k) = is_known k

-- ---- its end

-- end closes it and hands out its counts, which are zeros on a refusal and for a sender; 4, 9 without a call
unfoldable pub end_refusals : Standing → Refusals
end_refusals s = (is_bad s, Bad) ∷ (not (stands s), NotNow) ∷ []

-- nothing of it stays in the call
abbrev pub after_end : Call → Call × Counts
after_end c = (no_call, c.counts)

unfoldable pub end_of : Call → Answer × (Call × Counts)
end_of c = outcome (c, no_counts) (end_refusals (standing c)) (after_end c)
