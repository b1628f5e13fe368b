-- A call that keeps a vector which it heard for its next session: the rules of the struct, and the call that it is.
use Rattle.std.specs.Prelude.{List, Bool, false, ◌&&◌, not, ℕ, eqb, replicate}
use Rattle.octets.specs.Tests.{pick}
use Rattle.octets.specs.Lists.{all_zero}
use Rattle.sizes.specs.Ciphers.{key_room, no_vector, scrambles}
use Rattle.calls.specs.declared.call.Call.{Call}
use Rattle.calls.specs.Counts.{no_counts}
use Rattle.calls.specs.Call.{unknown_vector, good_call, Standing, closed, bad, sending, receiving, standing, terms_of, call_at, no_call}
use Rattle.calls.specs.Vector.{awaits}
use Rattle.hearing.specs.declared.Hearing.{Hearing}

-- ---- the numbers of the struct

abbrev pub none_kept : ℕ
none_kept = 0

abbrev pub one_kept : ℕ
one_kept = 1

-- ---- the rules

-- a receiver of DES or AES hears of vectors
abbrev pub hears : Standing → Bool
hears closed = false
hears bad = false
hears (sending t p v) = false
hears (receiving t p k) = not (scrambles t.cipher)

-- and while it doesn't await its own session's, what it hears is the next one's
abbrev pub under_way : Standing → Bool
under_way s = hears s && not (awaits s)

-- none is kept as zeros; one is kept only there
unfoldable pub kept_right : ℕ → List ℕ → Standing → Bool
kept_right kept next s = pick (eqb kept none_kept) (all_zero next) (eqb kept one_kept && under_way s)

unfoldable pub good_hearing : Hearing → Bool
good_hearing h = good_call h.call && kept_right h.kept h.next (standing h.call)

-- ---- the call that it is

-- a struct that stands for no call: there is no such end
abbrev pub bad_call : Call
bad_call = call_at 255 (terms_of 0 (replicate key_room 0) 0 0) 0 unknown_vector no_vector no_counts

-- a bad one, where what is kept breaks the rules
unfoldable pub call_of : Hearing → Call
call_of h = pick (kept_right h.kept h.next (standing h.call)) h.call bad_call

abbrev pub alone : Call → Hearing
alone c = record { call = c; kept = none_kept; next = no_vector }

abbrev pub keeping : Call → List ℕ → Hearing
keeping c w = record { call = c; kept = one_kept; next = w }

-- no call, and nothing kept: all zero
abbrev pub no_hearing : Hearing
no_hearing = alone no_call
