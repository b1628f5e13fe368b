-- Bad and good calls of every kind, and what becomes of a slot's words.
use mathlib.Core.Path.{◌≡◌, refl}
use mathlib.Core.Bool.{Bool, true, false, ◌&&◌, not}
use mathlib.Core.List.{List, [], ◌∷◌, ◌++◌}
use Prim.Native.Nat.{ℕ, ◌*◌}
use lib.Dec.{eqb}
use lib.ListN.{replicate}
use Rattle.octets.specs.Tests.{pick, all_below}
use Rattle.octets.specs.Lists.{replaced, all_zero}
use Rattle.ciphers.specs.Keys.{odd_octet, scramble_key, des_key, key_allowed, key_right}
use Rattle.sizes.specs.Ciphers.{no_vector}
use Rattle.openings.specs.Samples.{scramble0001, des_abcd, seed}
use Rattle.calls.specs.declared.call.Terms.{Terms}
use Rattle.calls.specs.declared.call.Call.{Call}
use Rattle.calls.specs.Counts.{counts_of, no_counts, lost_words, arrived_words}
use Rattle.sizes.specs.Frame.{half_rate, full_rate, is_rate}
use Rattle.calls.specs.Call.{by_default, strict, terms_right, vector_right, counts_right, closed_tests, open_tests, is_closed, is_open, good_call, sending, terms_of, call_at, no_call, written}

-- a call that lost as many slots as its position says, which is right for a receiver; a sender and no call count nothing
abbrev at : ℕ → Terms → ℕ → ℕ → List ℕ → Call
at end t p known v = call_at end t p known v (pick (eqb end 2) (counts_of 0 0 0 (4 * p)) no_counts)

-- a DES call, and one that is closed, at half rate and not strict
abbrev des : ℕ → List ℕ → ℕ → ℕ → List ℕ → Call
des end key = at end (terms_of 2 key half_rate by_default)

abbrev shut : ℕ → List ℕ → ℕ → ℕ → List ℕ → Call
shut cipher key = at 0 (terms_of cipher key half_rate by_default)

abbrev scrambling : ℕ → ℕ → List ℕ → Call
scrambling = at 2 (terms_of 1 scramble0001 half_rate by_default)

-- a strict DES receiver
abbrev strictly : ℕ → ℕ → List ℕ → Call
strictly = at 2 (terms_of 2 des_abcd half_rate strict)

-- DES receivers at position 1 by what they have counted: told, by default and unknown, and strict and unknown; and scramble
abbrev counting : ℕ → ℕ → ℕ → ℕ → Call
counting opened held replaced lost = call_at 2 (terms_of 2 des_abcd half_rate by_default) 1 1 seed (counts_of opened held replaced lost)

abbrev unknowing : ℕ → ℕ → ℕ → ℕ → ℕ → Call
unknowing strictness opened held replaced lost = call_at 2 (terms_of 2 des_abcd half_rate strictness) 1 0 no_vector (counts_of opened held replaced lost)

abbrev scrambled : ℕ → ℕ → ℕ → ℕ → Call
scrambled opened held replaced lost = call_at 2 (terms_of 1 scramble0001 half_rate by_default) 1 1 no_vector (counts_of opened held replaced lost)

abbrev pub bad_calls : List Call
bad_calls =
    -- no such end, no such cipher
    des 3 des_abcd 0 1 seed
    ∷ at 2 (terms_of 4 des_abcd half_rate by_default) 0 1 seed
    -- no such rate
    ∷ at 2 (terms_of 2 des_abcd 2 by_default) 0 1 seed
    ∷ at 1 (terms_of 2 des_abcd 2 by_default) 0 1 seed
    ∷ at 2 (terms_of 1 scramble0001 2 by_default) 0 1 no_vector
    -- no such strictness; a strict sender
    ∷ at 2 (terms_of 2 des_abcd half_rate 2) 0 1 seed
    ∷ at 2 (terms_of 1 scramble0001 half_rate 2) 0 1 no_vector
    ∷ at 2 (terms_of 3 (replicate 32 0) half_rate 2) 0 1 seed
    ∷ at 1 (terms_of 2 des_abcd half_rate 1) 0 1 seed
    ∷ at 1 (terms_of 3 (replicate 32 0) half_rate 1) 0 1 seed
    -- closed, with a cipher, a rate, a strictness, a position, a key, a vector, or a vector told
    ∷ des 0 des_abcd 0 1 seed
    ∷ shut 1 (replicate 32 0) 0 0 no_vector
    ∷ at 0 (terms_of 0 (replicate 32 0) full_rate by_default) 0 0 no_vector
    ∷ at 0 (terms_of 0 (replicate 32 0) half_rate 1) 0 0 no_vector
    ∷ shut 0 (replicate 32 0) 1 0 no_vector
    ∷ shut 0 (replicate 31 0 ++ (1 ∷ [])) 0 0 no_vector
    ∷ shut 0 (replicate 32 0) 0 0 seed
    ∷ shut 0 (replicate 32 0) 0 1 no_vector
    -- a key of even parity, a key octet past the length
    ∷ des 2 (0xAA ∷ 0xCD ∷ 0xEF ∷ 0x01 ∷ 0x23 ∷ 0x45 ∷ 0x67 ∷ 0x89 ∷ replicate 24 0) 0 1 seed
    ∷ des 2 (0xAB ∷ 0xCD ∷ 0xEF ∷ 0x01 ∷ 0x23 ∷ 0x45 ∷ 0x67 ∷ 0x89 ∷ 1 ∷ replicate 23 0) 0 1 seed
    -- a position past the session
    ∷ des 2 des_abcd 8 1 seed
    ∷ scrambling 4 1 no_vector
    -- an unknown vector that isn't zeros, one neither unknown nor told nor carried, and one carried by a strict receiver; a sender's unknown, carried, and zeros
    ∷ des 2 des_abcd 0 0 seed
    ∷ des 2 des_abcd 0 3 seed
    ∷ strictly 0 0 seed
    ∷ strictly 0 2 seed
    ∷ strictly 3 2 no_vector
    ∷ des 1 des_abcd 0 0 no_vector
    ∷ des 1 des_abcd 0 2 seed
    ∷ des 1 des_abcd 0 1 no_vector
    -- a scramble vector unknown, one carried, and one that isn't zeros
    ∷ scrambling 0 0 no_vector
    ∷ scrambling 0 2 no_vector
    ∷ scrambling 0 1 seed
    -- closed, or a sender, with a count
    ∷ call_at 0 (terms_of 0 (replicate 32 0) half_rate by_default) 0 0 no_vector (counts_of 0 0 0 4)
    ∷ call_at 1 (terms_of 2 des_abcd half_rate by_default) 1 1 seed (counts_of 4 0 0 0)
    -- slots that aren't whole, or a lost one that isn't; none, two and three, at position 1; past the limit, at the same position
    ∷ counting 6 0 0 0
    ∷ counting 0 0 2 2
    ∷ counting 0 0 0 0
    ∷ counting 8 0 0 0
    ∷ counting 12 0 0 0
    ∷ counting 4000004 0 0 0
    ∷ counting 4294967295 4294967295 4294967295 4294967295
    -- scramble that held; words opened by one that by default knows no vector
    ∷ scrambled 0 4 0 0
    ∷ unknowing by_default 4 0 0 0
    ∷ []

-- a receiver's told or carried vector may be zeros, and a sender's scramble vector is; both rates, and strict or not. Some of these no operation leaves: what
-- would need the history is not asked
abbrev pub good_calls : List Call
good_calls =
    no_call ∷ des 2 des_abcd 7 1 seed ∷ des 2 des_abcd 0 1 no_vector ∷ des 2 des_abcd 0 0 no_vector ∷ des 2 des_abcd 0 2 seed ∷ des 2 des_abcd 5 2 no_vector
    ∷ strictly 0 0 no_vector ∷ strictly 7 1 seed ∷ des 1 des_abcd 0 1 seed ∷ scrambling 3 1 no_vector ∷ at 2 (terms_of 1 scramble0001 half_rate strict) 3 1 no_vector
    ∷ written no_counts (sending (terms_of 1 scramble0001 half_rate by_default) 0 no_vector) ∷ at 2 (terms_of 2 des_abcd full_rate by_default) 7 1 seed
    ∷ at 1 (terms_of 1 scramble0001 full_rate by_default) 3 1 no_vector ∷ counting 1 0 3 0 ∷ counting 1999976 2000000 0 12 ∷ scrambled 4 0 0 0
    ∷ unknowing by_default 0 2 2 0 ∷ unknowing strict 4 0 0 0 ∷ call_at 2 (terms_of 2 des_abcd half_rate by_default) 0 1 seed (counts_of 0 0 0 4000000) ∷ []

abbrev each : (Call → Bool) → List Call → Bool
each f [] = true
each f (c ∷ cs) = f c && each f cs

pub each_kind : (each (λ c. not (good_call c)) bad_calls ≡ true) × (each good_call good_calls ≡ true)
unfolding good_call is_closed closed_tests is_open open_tests key_right is_rate terms_right vector_right counts_right key_allowed scramble_key des_key odd_octet all_zero all_below
each_kind = (refl, refl)

-- a slot's words: one word in the mask, opened and held, all and none of them; and lost
pub slot-words : (arrived_words 1 true ≡ counts_of 1 0 3 0) × (arrived_words 8 false ≡ counts_of 0 1 3 0) × (arrived_words 15 false ≡ counts_of 0 4 0 0)
    × (arrived_words 0 false ≡ counts_of 0 0 4 0) × (lost_words ≡ counts_of 0 0 0 4)
slot-words = (refl, refl, refl, refl, refl)
