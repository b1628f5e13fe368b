-- What an opening asks, in the order of document 01, "Answer numbers", of the opening's own numbers (ranged: they are in range), of what is
-- to be opened (bad, or busy: it stands already) and of the book. The ready key comes out of the book in one way. The packet's opening asks the same.
use Rattle.std.specs.Prelude.{List, [], ◌∷◌, ◌++◌, Bool, ◌&&◌, not, ℕ, eqb, length}
use Rattle.octets.specs.Tests.{pick}
use Rattle.octets.specs.Lists.{all_zero}
use Rattle.answers.specs.declared.Answer.{Answer}
use Rattle.answers.specs.declared.Answer.TheVariants.{WrongLength, OutOfRange, Bad, NoEntry, NotReady, ZeroVector, NotNow}
use Rattle.answers.specs.Outcomes.{Refusals, outcome}
use Rattle.keyentry.specs.Entry.{in_range, is_ready, key_in}
use Rattle.keybook.specs.Book.{book_octets, good_book}
use Rattle.keybook.specs.Operations.{has_entry, entry_for, no_key}
use Rattle.sizes.specs.Ciphers.{vector_octets, no_vector, scrambles}

-- the key of the ready entry
abbrev pub key_for : List ℕ → ℕ → ℕ → List ℕ
key_for b c i = key_in (entry_for b c i)

-- 2 book length, 3, 4 of what is opened, 9, 4 of the book, 5, 6
unfoldable pub key_refusals : Bool → Bool → Bool → ℕ → ℕ → List ℕ → Refusals
key_refusals ranged is_bad busy c i b =
    (not (eqb (length b) book_octets), WrongLength) ∷ (not (ranged && in_range c i), OutOfRange)
    ∷ (is_bad, Bad) ∷ (busy, NotNow) ∷ (not (good_book b), Bad)
    ∷ (not (has_entry b c i), NoEntry) ∷ (not (is_ready (entry_for b c i)), NotReady) ∷ []

-- the ready key, or the refusal and no key
unfoldable pub opening_key_of : Bool → Bool → Bool → ℕ → ℕ → List ℕ → Answer × List ℕ
opening_key_of ranged is_bad busy c i b = outcome no_key (key_refusals ranged is_bad busy c i b) (key_for b c i)

-- ---- the vector

-- for a session: scramble ignores it
abbrev pub session_vector : ℕ → List ℕ → List ℕ
session_vector c w = pick (scrambles c) no_vector w

-- zeros, with DES or AES
unfoldable pub zero_for : ℕ → List ℕ → Bool
zero_for c w = not (scrambles c) && all_zero w

-- 8 is for senders only (document 02, W-204): what is on the air may be zeros
unfoldable pub zero_refusals : Bool → ℕ → List ℕ → Refusals
zero_refusals sends c w = pick sends ((zero_for c w, ZeroVector) ∷ []) []

-- with a vector: its length is asked with the book's, for scramble too, and a sender's 8 at the end
unfoldable pub vector_refusals : Bool → Bool → Bool → Bool → ℕ → ℕ → List ℕ → List ℕ → Refusals
vector_refusals sends ranged is_bad busy c i w b =
    (not (eqb (length w) vector_octets), WrongLength) ∷ (key_refusals ranged is_bad busy c i b ++ zero_refusals sends c w)

unfoldable pub vector_key_of : Bool → Bool → Bool → Bool → ℕ → ℕ → List ℕ → List ℕ → Answer × List ℕ
vector_key_of sends ranged is_bad busy c i w b = outcome no_key (vector_refusals sends ranged is_bad busy c i w b) (key_for b c i)
