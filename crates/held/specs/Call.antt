-- A call in 71 lent octets, with the vector that it keeps for its next session: 0 end, 1 cipher, 2 rate, 3 strictness, 4 position, 5 what is known of the
-- vector, 6 whether a next one is kept, 7 to 14 the vector, 15 to 22 the next one, 23 to 54 the key, and from 55 on, four octets each, the words opened,
-- held, replaced and lost. All zeros is no call.
use Rattle.std.specs.Prelude.{List, ◌∷◌, ◌++◌, ℕ, ◌+◌, ◌*◌, get_or, take, drop}
use Rattle.sizes.specs.Ciphers.{key_room, vector_octets}
use Rattle.calls.specs.declared.counts.Counts.{Counts}
use Rattle.calls.specs.declared.call.Terms.{Terms}
use Rattle.calls.specs.declared.call.Call.{Call}
use Rattle.calls.specs.Counts.{counts_of}
use Rattle.calls.specs.Call.{terms_of, call_at}
use Rattle.hearing.specs.declared.Hearing.{Hearing}
use Rattle.held.specs.Number.{four_of, four_at}

abbrev pub vector_at : ℕ
vector_at = 7

abbrev pub next_at : ℕ
next_at = vector_at + vector_octets

abbrev pub key_at : ℕ
key_at = next_at + vector_octets

abbrev pub counts_at : ℕ
counts_at = key_at + key_room

abbrev pub call_octets : ℕ
call_octets = counts_at + 4 * 4

-- ---- the octets of a call

abbrev pub counts_laid : Counts → List ℕ
counts_laid n = four_of n.opened ++ (four_of n.held ++ (four_of n.replaced ++ four_of n.lost))

abbrev pub laid : Call → ℕ → List ℕ → List ℕ
laid c kept next =
    c.end ∷ c.terms.cipher ∷ c.terms.rate ∷ c.terms.strictness ∷ c.position ∷ c.known ∷ kept
    ∷ (c.vector ++ (next ++ (c.terms.key ++ counts_laid c.counts)))

unfoldable pub octets_of : Hearing → List ℕ
octets_of h = laid h.call h.kept h.next

-- ---- the call that octets hold: each field by its place, whatever stands there. What no good call writes is a bad call by the rules of a call

abbrev pub terms_in : List ℕ → Terms
terms_in o = terms_of (get_or o 1 0) (take key_room (drop key_at o)) (get_or o 2 0) (get_or o 3 0)

abbrev pub counts_in : List ℕ → Counts
counts_in o = counts_of (four_at o counts_at) (four_at o (counts_at + 4)) (four_at o (counts_at + 8)) (four_at o (counts_at + 12))

abbrev pub call_in : List ℕ → Call
call_in o = call_at (get_or o 0 0) (terms_in o) (get_or o 4 0) (get_or o 5 0) (take vector_octets (drop vector_at o)) (counts_in o)

unfoldable pub hearing_in : List ℕ → Hearing
hearing_in o = record { call = call_in o; kept = get_or o 6 0; next = take vector_octets (drop next_at o) }
