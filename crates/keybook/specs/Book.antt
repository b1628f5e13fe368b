-- A book of entries (document 01, "The key book"): the rules of all of them together, and finding one.
use Rattle.std.specs.Prelude.{ℕ, ◌*◌, Bool, ◌&&◌, ◌||◌, not, List, [], ◌∷◌, length, take, drop, eqb}
use Rattle.octets.specs.Lists.{replaced}
use Rattle.octets.specs.Tests.{all_below, first_below}
use Rattle.answers.specs.declared.Answer.TheVariants.{WrongLength, OutOfRange, Bad}
use Rattle.answers.specs.Outcomes.{Refusals}
use Rattle.keyentry.specs.Entry.{entry_octets, cipher_in, id_in, in_range, entry_right, is_for}

-- a lent buffer of 16 entries
abbrev pub entries : ℕ
entries = 16

abbrev pub book_octets : ℕ
book_octets = entries * entry_octets

unfoldable pub entry_of : List ℕ → ℕ → List ℕ
entry_of b k = take entry_octets (drop (k * entry_octets) b)

-- b with entry k replaced
unfoldable pub with_entry : List ℕ → ℕ → List ℕ → List ℕ
with_entry b k e = replaced b (k * entry_octets) entry_octets e

-- ---- finding an entry: its number, or that of entries where there is none

unfoldable pub find_entry : List ℕ → ℕ → ℕ → ℕ
find_entry b c i = first_below (λ k. is_for c i (entry_of b k)) entries

-- the free entry nearest the start
unfoldable pub free_entry : List ℕ → ℕ
free_entry b = first_below (λ k. eqb (cipher_in (entry_of b k)) 0) entries

-- ---- the rules

-- no two used entries share cipher and key ID: entry k is free, or the first for its cipher and key ID
unfoldable pub apart : List ℕ → ℕ → Bool
apart b k = eqb (cipher_in (entry_of b k)) 0 || eqb (find_entry b (cipher_in (entry_of b k)) (id_in (entry_of b k))) k

-- a book that breaks this is bad
unfoldable pub good_book : List ℕ → Bool
good_book b = eqb (length b) book_octets && all_below (λ k. entry_right (entry_of b k) && apart b k) entries

-- ---- what every operation asks first

-- 4
abbrev pub bad_book : List ℕ → Refusals
bad_book b = (not (good_book b), Bad) ∷ []

-- 2, 3, 4
unfoldable pub book_refusals : List ℕ → ℕ → ℕ → Refusals
book_refusals b c i = (not (eqb (length b) book_octets), WrongLength) ∷ (not (in_range c i), OutOfRange) ∷ bad_book b
