-- A key as `PreparedKey` has it for the blocks that come: its schedule, and behind that the columns. Other crates name `key_of` alone; the form, and the tables
-- that it takes, are cited by this crate's own contracts only.
use Rattle.std.specs.Prelude.{◌≡◌, List, [], ◌∷◌, ℕ, ◌<◌, ◌+◌, ◌*◌, ◌/◌, ◌%◌, ◌^◌, length, get_or, drop}
use Rattle.octets.specs.Lists.{tab}
use Rattle.aes.specs.Field.{sbox_of}
use Rattle.aes.specs.Cipher.{mixed, key_expansion}

-- t is the S-box as a table: entry x is its value at x
pub record IsSbox (t : List ℕ) : Type 0 where
  pub size : length t ≡ 256
  pub rule : (x : ℕ) → x < 256 → get_or t x 0 ≡ sbox_of x

-- ---- four octets as a word, the first of them lowest

-- the octets f 0 to f 3
unfoldable pub as_word : (ℕ → ℕ) → ℕ
as_word f = f 0 + 256 * f 1 + 65536 * f 2 + 16777216 * f 3

-- word i of a list of octets
unfoldable pub word_in : List ℕ → ℕ → ℕ
word_in x i = as_word (λ r. get_or x (4 * i + r) 0)

-- octet r of a word
unfoldable pub octet_of : ℕ → ℕ → ℕ
octet_of w r = w / 2 ^ (8 * r) % 256

-- the four octets of a word, and those of n words
unfoldable pub octets_of : ℕ → List ℕ
octets_of w = tab (octet_of w) 4

unfoldable pub octets_in : ℕ → List ℕ → List ℕ
octets_in n w = tab (λ i. octet_of (get_or w (i / 4) 0) (i % 4)) (4 * n)

-- ---- SubBytes and MixColumns (FIPS 197, 5.1.1 and 5.1.3) as one table

-- row r of what MixColumns makes of a column that is v, 0, 0, 0
unfoldable pub mixed_alone : ℕ → ℕ → ℕ
mixed_alone v r = mixed (v ∷ 0 ∷ 0 ∷ 0 ∷ []) r 0

-- t is these columns as a table: word x is the column of the S-box's value at x
pub record IsColumns (t : List ℕ) : Type 0 where
  pub size : length t ≡ 256
  pub rule : (x : ℕ) → x < 256 → get_or t x 0 ≡ as_word (mixed_alone (sbox_of x))

-- ---- the prepared key, in words

-- the key that was prepared: it is the first eight words of its schedule (5.2)
unfoldable pub key_of : List ℕ → List ℕ
key_of p = octets_in 8 p

-- the key's schedule, and the columns
pub record Prepared (p : List ℕ) : Type 0 where
  pub schedule : octets_in 60 p ≡ key_expansion (key_of p)
  pub columns : IsColumns (drop 60 p)
