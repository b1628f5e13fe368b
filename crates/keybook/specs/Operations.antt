-- What each operation on a key book (document 01, "The key book"; document 02, W-201) answers and leaves, for every book, cipher type, key ID, name
-- and key octets. Its refusals are one list, in the order in which they count.
use Rattle.std.specs.Prelude.{ℕ, Bool, not, List, [], ◌∷◌, ◌++◌, length, replicate, ltb, eqb}
use Rattle.octets.specs.Tests.{pick}
use Rattle.answers.specs.declared.Answer.{Answer}
use Rattle.answers.specs.declared.Answer.TheVariants.{WrongLength, OutOfRange, NoEntry, NotReady, Already, Full, BadName}
use Rattle.answers.specs.Numbers.{is_done}
use Rattle.answers.specs.Outcomes.{Refusals, outcome}
use Rattle.sizes.specs.Ciphers.{key_room}
use Rattle.keyentry.specs.Name.{name_octets, name_right}
use Rattle.keyentry.specs.Entry.{in_range, key_in, is_ready, blank, new_entry, extend_refusals, extended, complete_refusals, completed}
use Rattle.keybook.specs.Book.{entries, book_octets, entry_of, with_entry, find_entry, free_entry, bad_book, book_refusals}

-- the book has an entry for this cipher and key ID
abbrev pub has_entry : List ℕ → ℕ → ℕ → Bool
has_entry b c i = ltb (find_entry b c i) entries

-- that entry; where there is none, no octets
abbrev pub entry_for : List ℕ → ℕ → ℕ → List ℕ
entry_for b c i = entry_of b (find_entry b c i)

-- the book with that entry replaced
abbrev pub with_for : List ℕ → ℕ → ℕ → List ℕ → List ℕ
with_for b c i e = with_entry b (find_entry b c i) e

-- what begin asks of the book's places: no entry for these yet, and a free one
abbrev pub place_refusals : List ℕ → ℕ → ℕ → Refusals
place_refusals b c i = (has_entry b c i, Already) ∷ (not (ltb (free_entry b) entries), Full) ∷ []

-- begin takes the free entry nearest the start, and names it n; refused by 2 of the name, 2, 3 of the book, 17, 4 of the book, 11, 12
unfoldable pub begin_refusals : List ℕ → ℕ → ℕ → List ℕ → Refusals
begin_refusals b c i n =
    (not (eqb (length n) name_octets), WrongLength) ∷ (not (eqb (length b) book_octets), WrongLength) ∷ (not (in_range c i), OutOfRange)
    ∷ (not (name_right n), BadName) ∷ (bad_book b ++ place_refusals b c i)

unfoldable pub begin_after : List ℕ → ℕ → ℕ → List ℕ → List ℕ
begin_after b c i n = with_entry b (free_entry b) (new_entry c i n)

unfoldable pub begin_of : List ℕ → ℕ → ℕ → List ℕ → Answer × List ℕ
begin_of b c i n = outcome b (begin_refusals b c i n) (begin_after b c i n)

-- add appends 0 to 32 octets; refused by 2 of the octets, 2, 3, 4 of the book, 5, 11, 13
unfoldable pub add_refusals : List ℕ → ℕ → ℕ → List ℕ → Refusals
add_refusals b c i xs =
    (ltb key_room (length xs), WrongLength) ∷ (book_refusals b c i ++ ((not (has_entry b c i), NoEntry) ∷ extend_refusals (entry_for b c i) xs))

unfoldable pub add_of : List ℕ → ℕ → ℕ → List ℕ → Answer × List ℕ
add_of b c i xs = outcome b (add_refusals b c i xs) (with_for b c i (extended (entry_for b c i) xs))

-- finish marks ready; refused by 2, 3, 4 of the book, 5, 11, 6, 7
unfoldable pub finish_refusals : List ℕ → ℕ → ℕ → Refusals
finish_refusals b c i = book_refusals b c i ++ ((not (has_entry b c i), NoEntry) ∷ complete_refusals (entry_for b c i))

unfoldable pub finish_of : List ℕ → ℕ → ℕ → Answer × List ℕ
finish_of b c i = outcome b (finish_refusals b c i) (with_for b c i (completed (entry_for b c i)))

-- erase zeroes an entry, ready or not; refused by 2, 3, 4 of the book, 5
unfoldable pub entry_refusals : List ℕ → ℕ → ℕ → Refusals
entry_refusals b c i = book_refusals b c i ++ ((not (has_entry b c i), NoEntry) ∷ [])

unfoldable pub erase_of : List ℕ → ℕ → ℕ → Answer × List ℕ
erase_of b c i = outcome b (entry_refusals b c i) (with_for b c i blank)

-- the key of a ready entry, with zeros past its length; refused by 2, 3, 4 of the book, 5, 6, and then all zeros
unfoldable pub no_key : List ℕ
no_key = replicate key_room 0

unfoldable pub not_ready : List ℕ → Refusals
not_ready e = (not (is_ready e), NotReady) ∷ []

unfoldable pub ready_refusals : List ℕ → ℕ → ℕ → Refusals
ready_refusals b c i = book_refusals b c i ++ ((not (has_entry b c i), NoEntry) ∷ not_ready (entry_for b c i))

unfoldable pub ready_key_of : List ℕ → ℕ → ℕ → Answer × List ℕ
ready_key_of b c i = outcome no_key (ready_refusals b c i) (key_in (entry_for b c i))

-- ---- a key at once (document 01, "The receiver program", K)

-- and then the next, where this was done
abbrev pub if_done : Answer × List ℕ → (List ℕ → Answer × List ℕ) → Answer × List ℕ
if_done o next = pick (is_done o.0) (next o.1) o

-- what was done, or its refusal with the entry erased
abbrev pub or_erased : ℕ → ℕ → Answer × List ℕ → Answer × List ℕ
or_erased c i o = pick (is_done o.0) o (o.0, (erase_of o.1 c i).1)

-- it begins, adds and finishes; if add or finish refuses, it erases and gives that refusal. A refused begin erases nothing.
unfoldable pub load_of : List ℕ → ℕ → ℕ → List ℕ → List ℕ → Answer × List ℕ
load_of b c i n key = if_done (begin_of b c i n) (λ x. or_erased c i (if_done (add_of x c i key) (λ y. finish_of y c i)))
