-- One entry of the key book (document 01, "The key book"; document 02, W-201): its octets, its rules, and what is written into it.
use Rattle.std.specs.Prelude.{ℕ, ◌+◌, ◌-◌, Bool, ◌&&◌, ◌||◌, not, List, [], ◌∷◌, ◌++◌, length, get_or, set, take, drop, replicate, ltb, leb, eqb}
use Rattle.octets.specs.Lists.{replaced, all_zero}
use Rattle.octets.specs.Tests.{pick}
use Rattle.sizes.specs.Ciphers.{key_octets, key_room}
use Rattle.ciphers.specs.Keys.{key_allowed}
use Rattle.answers.specs.declared.Answer.TheVariants.{NotReady, NotAllowed, Already, TooMany}
use Rattle.answers.specs.Outcomes.{Refusals}
use Rattle.keyentry.specs.Name.{name_octets, name_right}

-- ---- its octets

abbrev pub entry_octets : ℕ
entry_octets = 52

-- octet 0: cipher type (0 marks a free entry)
abbrev pub cipher_in : List ℕ → ℕ
cipher_in e = get_or e 0 0

-- 1: key ID
abbrev pub id_in : List ℕ → ℕ
id_in e = get_or e 1 0

-- 2: key octets loaded
abbrev pub count_place : ℕ
count_place = 2

abbrev pub count_in : List ℕ → ℕ
count_in e = get_or e count_place 0

-- 3: ready (0 or 1)
abbrev pub ready_place : ℕ
ready_place = 3

abbrev pub ready_in : List ℕ → ℕ
ready_in e = get_or e ready_place 0

abbrev pub is_ready : List ℕ → Bool
is_ready e = eqb (ready_in e) 1

-- 4 to 35: the key
abbrev pub key_place : ℕ
key_place = 4

abbrev pub key_in : List ℕ → List ℕ
key_in e = take key_room (drop key_place e)

-- the octets past the count
abbrev pub key_rest : List ℕ → List ℕ
key_rest e = drop (count_in e) (key_in e)

-- 36 to 51: the name
abbrev pub name_place : ℕ
name_place = 36

abbrev pub name_in : List ℕ → List ℕ
name_in e = take name_octets (drop name_place e)

-- ---- its rules

abbrev pub most_id : ℕ
most_id = 63

-- the cipher is 1 to 3, the ID at most 63
unfoldable pub in_range : ℕ → ℕ → Bool
in_range c i = leb 1 c && (leb c 3 && leb i most_id)

-- how many octets the key still lacks
unfoldable pub lacks : List ℕ → ℕ
lacks e = key_octets (cipher_in e) - count_in e

-- ready is 0, or it is 1 and the key is full and allowed
unfoldable pub ready_right : List ℕ → Bool
ready_right e = eqb (ready_in e) 0 || (leb (ready_in e) 1 && (eqb (lacks e) 0 && key_allowed (cipher_in e) (key_in e)))

-- in a used one ..
unfoldable pub used_right : List ℕ → Bool
used_right e =
    -- the cipher is 1 to 3, the ID at most 63,
    in_range (cipher_in e) (id_in e)
    -- the count is at most the key's length,
    && (leb (count_in e) (key_octets (cipher_in e))
    -- key octets past the count are zero,
    && (all_zero (key_rest e)
    -- a ready entry has its full, allowed key,
    && (ready_right e
    -- and the name is right
    && name_right (name_in e))))

-- a free entry is all zero
unfoldable pub entry_right : List ℕ → Bool
entry_right e = pick (eqb (cipher_in e) 0) (all_zero e) (used_right e)

-- the entry has this cipher and key ID
unfoldable pub is_for : ℕ → ℕ → List ℕ → Bool
is_for c i e = eqb (cipher_in e) c && eqb (id_in e) i

-- ---- what the operations do to it

-- a free entry
unfoldable pub blank : List ℕ
blank = replicate entry_octets 0

-- an entry for which no key octet is loaded, with its name
unfoldable pub new_entry : ℕ → ℕ → List ℕ → List ℕ
new_entry c i n = c ∷ i ∷ 0 ∷ 0 ∷ (replicate key_room 0 ++ n)

-- add puts key octets after those that are there, and counts them; refused by 11, 13
unfoldable pub extend_refusals : List ℕ → List ℕ → Refusals
extend_refusals e xs = (is_ready e, Already) ∷ (ltb (lacks e) (length xs), TooMany) ∷ []

unfoldable pub extended : List ℕ → List ℕ → List ℕ
extended e xs = set (replaced e (key_place + count_in e) (length xs) xs) count_place (count_in e + length xs)

-- finish marks ready; refused by 11, 6, 7
unfoldable pub complete_refusals : List ℕ → Refusals
complete_refusals e =
    (is_ready e, Already) ∷ (ltb 0 (lacks e), NotReady) ∷ (not (key_allowed (cipher_in e) (key_in e)), NotAllowed) ∷ []

unfoldable pub completed : List ℕ → List ℕ
completed e = set e ready_place 1
