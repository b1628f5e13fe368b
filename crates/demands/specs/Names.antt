-- Names on keys (document 02, W-201), asked of any device: a key is taken with its name, and has it until it is erased; and the inventory shows the book without
-- its key octets, every key that the history tells of and no other, each in its place.
use Rattle.std.specs.Prelude.{◌≡◌, Bool, true, false, List, ◌∷◌, ◌++◌, ℕ, ◌*◌, ◌≤◌, length, get_or, take, drop}
use Rattle.sizes.specs.Ciphers.{key_octets}
use Rattle.ciphers.specs.Keys.{key_allowed}
use Rattle.answers.specs.declared.Answer.{Answer}
use Rattle.answers.specs.declared.Answer.TheVariants.{Done}
use Rattle.answers.specs.Numbers.{number_of}
use Rattle.keyentry.specs.Name.{IsName}
use Rattle.keybook.specs.Book.{good_book}
use Rattle.keybook.specs.History as book
use Rattle.keybook.specs.History.{Progress, nothing, finished, telling, name_told, shown_told}
use Rattle.nxdn.specs.Operations.{Name, Inventory, listed}
use Rattle.demands.specs.Device.{Device, Operation, OfBook, OfScreen, OfCall, OfPacket, Step, History, device_after, history, key_operations}

-- ---- by what was asked and answered alone

-- what a history tells of a cipher type and key ID, and how the inventory shows that
abbrev pub told_of : History → ℕ → ℕ → Progress
told_of h c i = telling (key_operations h) c i

abbrev pub listed_of : History → ℕ → ℕ → List ℕ
listed_of h c i = listed (shown_told c i (told_of h c i))

-- the operation is an erase of a cipher type and key ID, done or refused
abbrev pub erases_key : ℕ → ℕ → Operation → Bool
erases_key c i (OfBook o) = book.erases c i o
erases_key c i (OfScreen o) = false
erases_key c i (OfCall n o) = false
erases_key c i (OfPacket n o) = false

-- what a screen operation answers and hands out
abbrev pub screened : Answer × (Device × List ℕ) → Answer × List ℕ
screened r = (r.0, r.1.1)

module _ (st : Step) (os : List Operation) where
  -- what the inventory hands out of entry k, and the cipher type (0 of a free entry) and key ID in it
  abbrev pub shown_at : ℕ → List ℕ
  shown_at k = (st (device_after st os) (OfScreen (Inventory k))).1.1

  abbrev pub cipher_at : ℕ → ℕ
  cipher_at k = get_or (shown_at k) 0 0

  abbrev pub id_at : ℕ → ℕ
  id_at k = get_or (shown_at k) 1 0

  -- an entry that shows a key
  pub record Shows (c i : ℕ) : Type 0 where
    pub place : ℕ
    pub below : place ≤ 15
    pub shows : shown_at place ≡ listed_of (history st os) c i

-- ---- by the book

-- entry k of 16 without its key: its octets 0 to 3, and 36 to 51
abbrev pub without_key : List ℕ → ℕ → List ℕ
without_key b k = let e = take 52 (drop (k * 52) b) in take 4 e ++ take 16 (drop 36 e)

-- ---- what is asked; a list of operations is any, from an all-zero book with no call and no packet

pub record NamesKept (st : Step) : Type 0 where
  -- the name is the one that the begin gave, ready or not; where there is no key it is 5, and zeros
  pub name : (os : List Operation) (c i : ℕ) → (1 ≤ c) × (c ≤ 3) → i ≤ 63
      → screened (st (device_after st os) (OfScreen (Name c i))) ≡ name_told (told_of (history st os) c i)
  -- a key in range is begun with any name, also another key's, where an entry is free,
  pub taken : (os : List Operation) (c i : ℕ) (n : List ℕ) → (1 ≤ c) × (c ≤ 3) → i ≤ 63 → IsName n → told_of (history st os) c i ≡ nothing
      → (k : ℕ) → k ≤ 15 → cipher_at st os k ≡ 0 → (st (device_after st os) (OfBook (book.Begin c i n))).0 ≡ Done
  -- but not again before it is erased; nor is one added to or finished that isn't being loaded, or erased that isn't there
  pub in_turn : (os : List Operation) (o : book.Operation) → book.in_turn o (book.told_for o (key_operations (history st os))) ≡ false
      → 2 ≤ number_of (st (device_after st os) (OfBook o)).0
  -- what is there is erased
  pub erased : (os : List Operation) (c i : ℕ) → (1 ≤ c) × (c ≤ 3) → i ≤ 63 → (told_of (history st os) c i ≡ nothing → ⊥)
      → (st (device_after st os) (OfBook (book.Erase c i))).0 ≡ Done
  -- what was finished is whole and allowed
  pub whole : (os : List Operation) (c i : ℕ) (n xs : List ℕ) → told_of (history st os) c i ≡ finished n xs
      → (length xs ≡ key_octets c) × (key_allowed c xs ≡ true)
  -- on every device whose book is good, entry k is shown as the book has it, but for its key
  pub in_place : (d : Device) (k : ℕ) → k ≤ 15 → good_book d.book ≡ true → (st d (OfScreen (Inventory k))).1.1 ≡ without_key d.book k
  -- an entry stays its key's until that is erased
  pub stays : (os : List Operation) (o : Operation) (k : ℕ) → k ≤ 15 → (cipher_at st os k ≡ 0 → ⊥) → erases_key (cipher_at st os k) (id_at st os k) o ≡ false
      → (cipher_at st (o ∷ os) k ≡ cipher_at st os k) × (id_at st (o ∷ os) k ≡ id_at st os k)
  -- each of 16 entries shows what is told of the cipher type and key ID that it shows: octets loaded, ready, name; or that it is free
  pub shown : (os : List Operation) (k : ℕ) → k ≤ 15
      → screened (st (device_after st os) (OfScreen (Inventory k))) ≡ (Done, listed_of (history st os) (cipher_at st os k) (id_at st os k))
  -- and what is told of is shown
  pub complete : (os : List Operation) (c i : ℕ) → (told_of (history st os) c i ≡ nothing → ⊥) → Shows st os c i
