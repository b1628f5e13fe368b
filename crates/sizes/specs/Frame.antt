-- The rates of speech, and the sizes of a voice frame and of a session of them. Every size follows from one number, the width: the speech bits of a word
-- (001, 5.4.2 and 5.4.4.1).
use Rattle.std.specs.Prelude.{Bool, ◌||◌, ℕ, ◌+◌, ◌*◌, ◌/◌, eqb}
use Rattle.octets.specs.Tests.{pick}
use Rattle.sizes.specs.Ciphers.{session_slots}

-- ---- rates

abbrev pub half_rate : ℕ
half_rate = 0

abbrev pub full_rate : ℕ
full_rate = 1

unfoldable pub is_rate : ℕ → Bool
is_rate rate = eqb rate half_rate || eqb rate full_rate

-- a number that is no rate has half rate's
abbrev pub width : ℕ → ℕ
width rate = pick (eqb rate full_rate) 72 49

-- the widest
abbrev pub most_width : ℕ
most_width = width full_rate

-- ---- sizes

abbrev pub words : ℕ
words = 4

-- as many octets as its speech needs: at half rate some bits are spare
abbrev pub word_octets : ℕ → ℕ
word_octets width = (width + 7) / 8

abbrev pub word_bits : ℕ → ℕ
word_bits width = 8 * word_octets width

abbrev pub frame_octets : ℕ → ℕ
frame_octets width = word_octets width * words

-- the keystream bits of a slot, used or not, and the octets that hold them
abbrev pub slot_bits : ℕ → ℕ
slot_bits width = width * words

abbrev pub slot_octets : ℕ → ℕ
slot_octets width = (slot_bits width + 7) / 8

-- the most that a session has: those of DES and AES are the longest; and the octets that hold them
abbrev pub session_bits : ℕ → ℕ
session_bits width = slot_bits width * session_slots 2

abbrev pub session_octets : ℕ → ℕ
session_octets width = session_bits width / 8

-- ---- the slot limit of a receiving call (document 02, W-207), and the words of so many slots

abbrev pub most_slots : ℕ
most_slots = 1000000

abbrev pub most_words : ℕ
most_words = words * most_slots
