-- A line by its letter.
use mathlib.Core.Path.{◌≡◌, sym, ◌∙◌}
use mathlib.Core.List.{List, [], ◌∷◌}
use Prim.Native.Nat.{ℕ, ◌≤◌, ◌<◌}
use lib.ListN.{length, get_or}
use borrow.Author.Tests.{lt-ltb, le-ltb, eq-eqb, ne_eqb}
use Rattle.text.specs.Parted.{tab_octet, parted}
use Rattle.text.specs.Fields.{field_at}
use Rattle.text.proofs.PartedLaws.{parted_some}
use Rattle.lines.specs.Record.{Malformed, line_octets, by_letter, line_of}

pub line_long : (line : List ℕ) → line_octets < length line → Malformed ≡ line_of line
unfolding line_of
line_long line l = rw (lt-ltb line_octets (length line) l)

-- a line has a first field
pub line_some : (line : List ℕ) (fields : List (List ℕ)) → fields ≡ parted tab_octet line → fields ≡ [] → ⊥
line_some line fields e h = parted_some tab_octet line (sym e ∙ h)

module _ (line : List ℕ) (short : length line ≤ line_octets) (first : List ℕ) (rest : List (List ℕ)) (is : parted tab_octet line ≡ first ∷ rest) where
  pub line_no_letter : (length first ≡ 1 → ⊥) → Malformed ≡ line_of line
  unfolding line_of field_at
  line_no_letter n = rw (le-ltb line_octets (length line) short, is, ne_eqb (length first) 1 n)

  module _ (one : length first ≡ 1) where
    abbrev letter : ℕ
    letter = get_or first 0 0

    line_is : line_of line ≡ by_letter letter rest
    unfolding line_of field_at
    line_is = rw (le-ltb line_octets (length line) short, is, eq-eqb (length first) 1 one)

    pub by_letter_lem : (x : ℕ) → letter ≡ x → by_letter x rest ≡ line_of line
    by_letter_lem x e = sym (line_is ∙ rw e)

    pub by_none : (letter ≡ 0x4B → ⊥) → (letter ≡ 0x4F → ⊥) → (letter ≡ 0x4A → ⊥) → (letter ≡ 0x56 → ⊥) → (letter ≡ 0x49 → ⊥) → (letter ≡ 0x4C → ⊥) → (letter ≡ 0x45 → ⊥) → Malformed ≡ line_of line
    by_none a b c d e f g = sym (line_is ∙ rw (ne_eqb letter 0x4B a, ne_eqb letter 0x4F b, ne_eqb letter 0x4A c, ne_eqb letter 0x56 d, ne_eqb letter 0x49 e, ne_eqb letter 0x4C f, ne_eqb letter 0x45 g))
