-- What a technician's screen shows of a book (document 02, W-201): names, and the inventory, which has no key octets.
use Rattle.std.specs.Prelude.{ℕ, false, not, List, ◌∷◌, length, ltb, eqb}
use Rattle.answers.specs.declared.Answer.{Answer}
use Rattle.answers.specs.declared.Answer.TheVariants.{WrongLength, OutOfRange}
use Rattle.answers.specs.Outcomes.{Refusals, outcome}
use Rattle.keyentry.specs.Name.{no_name}
use Rattle.keyentry.specs.Entry.{cipher_in, id_in, count_in, is_ready, name_in}
use Rattle.keybook.specs.declared.screen.Shown.{Shown}
use Rattle.keybook.specs.Book.{entries, book_octets, entry_of, bad_book}
use Rattle.keybook.specs.Operations.{entry_for, entry_refusals}

-- the name of an entry, ready or not; refused by 2, 3, 4 of the book, 5, and then zeros
unfoldable pub name_of : List ℕ → ℕ → ℕ → Answer × List ℕ
name_of b c i = outcome no_name (entry_refusals b c i) (name_in (entry_for b c i))

-- an entry without its key octets; a free one's cipher type is 0
unfoldable pub shown : List ℕ → Shown
shown e = record { cipher = cipher_in e; id = id_in e; loaded = count_in e; ready = is_ready e; name = name_in e }

-- zeros, as of a free entry
abbrev pub nothing_shown : Shown
nothing_shown = record { cipher = 0; id = 0; loaded = 0; ready = false; name = no_name }

-- entry k of 16; refused by 2, 3 for k above 15, 4 of the book, and then zeros
unfoldable pub inventory_refusals : List ℕ → ℕ → Refusals
inventory_refusals b k = (not (eqb (length b) book_octets), WrongLength) ∷ (not (ltb k entries), OutOfRange) ∷ bad_book b

unfoldable pub inventory_of : List ℕ → ℕ → Answer × Shown
inventory_of b k = outcome nothing_shown (inventory_refusals b k) (shown (entry_of b k))
