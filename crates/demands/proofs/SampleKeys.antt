-- A key for each cipher, and a book that has them ready.
use mathlib.Core.Path.{◌≡◌, refl}
use mathlib.Core.Bool.{true}
use mathlib.Core.List.{List, [], ◌∷◌, ◌++◌}
use Prim.Native.Nat.{ℕ, ◌*◌, ◌≤◌}
use lib.ListN.{length, replicate}
use Rattle.octets.specs.Tests.{all_below, first_below}
use Rattle.octets.specs.Lists.{all_zero}
use Rattle.octets.specs.Bits.{Octets}
use Rattle.sizes.specs.Ciphers.{by_cipher, key_octets}
use Rattle.ciphers.specs.Keys.{odd_octet, scramble_key, des_key, key_allowed}
use Rattle.sizes.proofs.Cases.{by_range}
use Rattle.keyentry.specs.Name as name
use Rattle.keyentry.specs.Entry as entry
use Rattle.keybook.specs.Book as book
use Rattle.openings.specs.Samples.{scramble0001, des_abcd}
use Rattle.demands.specs.Marked.{key0001, ready_entry}
use Rattle.demands.specs.Talk.{HasKey}
use Rattle.octets.proofs.Zeros.{octets_by}

-- DES key ABCDEF0123456789
abbrev pub key_abcd : List ℕ
key_abcd = 0xAB ∷ 0xCD ∷ 0xEF ∷ 0x01 ∷ 0x23 ∷ 0x45 ∷ 0x67 ∷ 0x89 ∷ []

-- the AES key of FIPS 197's example C.3: 00, 01, .., 1F
abbrev pub key1_f : List ℕ
key1_f =
    0x00 ∷ 0x01 ∷ 0x02 ∷ 0x03 ∷ 0x04 ∷ 0x05 ∷ 0x06 ∷ 0x07 ∷ 0x08 ∷ 0x09 ∷ 0x0A ∷ 0x0B ∷ 0x0C ∷ 0x0D ∷ 0x0E ∷ 0x0F
    ∷ 0x10 ∷ 0x11 ∷ 0x12 ∷ 0x13 ∷ 0x14 ∷ 0x15 ∷ 0x16 ∷ 0x17 ∷ 0x18 ∷ 0x19 ∷ 0x1A ∷ 0x1B ∷ 0x1C ∷ 0x1D ∷ 0x1E ∷ 0x1F ∷ []

abbrev pub key_of : ℕ → List ℕ
key_of c = by_cipher c key0001 key_abcd key1_f []

-- all three as key ID 0
abbrev pub book_of_three : List ℕ
book_of_three =
    ready_entry 1 2 scramble0001 ++ (ready_entry 2 8 des_abcd ++ (ready_entry 3 32 key1_f ++ replicate (13 * entry.entry_octets) 0))

three-good : book.good_book book_of_three ≡ true
unfolding book.good_book book.apart book.find_entry book.entry_of all_below first_below all_zero entry.is_for entry.in_range entry.entry_right
    entry.used_right entry.ready_right entry.lacks name.no_name name.name_right name.text_octets name.is_printable key_allowed scramble_key des_key odd_octet
three-good = refl

module _ (c : ℕ) (r : (1 ≤ c) × (c ≤ 3)) where
  pub has_key : HasKey book_of_three c 0 (key_of c)
  unfolding book.find_entry book.entry_of first_below entry.is_for name.no_name
  has_key =
      by_range (λ c. HasKey book_of_three c 0 (key_of c))
      (record { good = three-good; there = refl; ready = refl; same = refl })
      (record { good = three-good; there = refl; ready = refl; same = refl })
      (record { good = three-good; there = refl; ready = refl; same = refl }) c r

  pub key_long : length (key_of c) ≡ key_octets c
  key_long = by_range (λ c. length (key_of c) ≡ key_octets c) refl refl refl c r

pub key1_f-octets : Octets key1_f
unfolding all_below
key1_f-octets = octets_by key1_f refl
