-- Document 01's number for each answer, in the order of its table and with its words for when it is given. 14, a sender whose next vector would be all
-- zero, is retired (W-208).
use Rattle.std.specs.Prelude.{ℕ, Bool, false, ◌||◌, List, [], ◌∷◌, eqb}
use Rattle.answers.specs.declared.Answer.{Answer}
use Rattle.answers.specs.declared.Answer.TheVariants.{Done, Held, WrongLength, OutOfRange, Bad, NoEntry, NotReady, NotAllowed, ZeroVector, NotNow, BadMask, Already, Full, TooMany, Malformed, PastLimit, BadName}

abbrev pub number_of : Answer → ℕ
-- done
number_of Done = 0
-- held: a voice slot in a receiving call whose session vector is unknown; frame unchanged, position moves on
number_of Held = 1
-- a lent buffer has the wrong length; add is given more than 32 octets; a report's numbers aren't four to a call (W-207)
number_of WrongLength = 2
-- cipher type not 1 to 3, key ID above 63, message kind not 1 to 4, a packet's end (W-204), a call's rate (W-205) or strictness (W-206) not 0 or 1
number_of OutOfRange = 3
-- bad book or bad call
number_of Bad = 4
-- the book has no entry for this cipher and key ID
number_of NoEntry = 5
-- the entry isn't ready, or a finish finds too few key octets
number_of NotReady = 6
-- a finish finds a full-length key that is not allowed
number_of NotAllowed = 7
-- vector all zero, DES or AES: for senders only (W-204)
number_of ZeroVector = 8
-- not the time for this operation
number_of NotNow = 9
-- voice mask above 15
number_of BadMask = 10
-- the entry exists already (begin), or is ready already (add, finish)
number_of Already = 11
-- begin: all 16 entries are in use
number_of Full = 12
-- add: the octets would run past the key's length
number_of TooMany = 13
-- a text record is malformed (program only)
number_of Malformed = 15
-- a slot past the 1,000,000th of a receiving call; a report of more than 10,000 calls, or with a count above 4,000,000 (W-207)
number_of PastLimit = 16
-- begin is given a name that isn't printable ASCII, padded at its end with zeros (W-201)
number_of BadName = 17

abbrev pub is_done : Answer → Bool
is_done a = eqb (number_of a) 0

-- ---- the table's numbers

-- a number is one of a list
abbrev pub is_one_of : ℕ → List ℕ → Bool
is_one_of n [] = false
is_one_of n (m ∷ ms) = eqb n m || is_one_of n ms

-- those that an operation can give: 15 is the program's
abbrev pub operation_numbers : List ℕ
operation_numbers = 0 ∷ 1 ∷ 2 ∷ 3 ∷ 4 ∷ 5 ∷ 6 ∷ 7 ∷ 8 ∷ 9 ∷ 10 ∷ 11 ∷ 12 ∷ 13 ∷ 16 ∷ 17 ∷ []
