-- A key's name (document 02, W-201): printable ASCII, 20 to 7E hex, padded at its end with zeros to 16.
use Rattle.std.specs.Prelude.{ℕ, ◌-◌, ◌≤◌, ◌<◌, ◌≡◌, Bool, ◌&&◌, not, List, ◌++◌, length, get_or, drop, replicate, leb}
use Rattle.octets.specs.Lists.{all_zero}
use Rattle.octets.specs.Tests.{first_below}

abbrev pub name_octets : ℕ
name_octets = 16

-- no name
unfoldable pub no_name : List ℕ
no_name = replicate name_octets 0

-- the sentence: some text, printable, and zeros after it
pub record IsName (n : List ℕ) : Type 0 where
  pub text : List ℕ
  pub printable : (k : ℕ) → k < length text → (0x20 ≤ get_or text k 0) × (get_or text k 0 ≤ 0x7E)
  pub fits : length text ≤ 16
  pub padded : n ≡ text ++ replicate (16 - length text) 0

-- ---- and its test

unfoldable pub is_printable : ℕ → Bool
is_printable x = leb 0x20 x && leb x 0x7E

-- the octets of the text: all up to the first that isn't printable
unfoldable pub text_octets : List ℕ → ℕ
text_octets n = first_below (λ k. not (is_printable (get_or n k 0))) name_octets

-- those after it are zero
unfoldable pub name_right : List ℕ → Bool
name_right n = all_zero (drop (text_octets n) n)
