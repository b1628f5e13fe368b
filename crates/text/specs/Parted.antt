-- Text parted by one octet: lines by line ends, and the fields of a line by tabs (document 01, "The receiver program").
use Rattle.std.specs.Prelude.{List, [], ◌∷◌, ℕ, ◌+◌, ◌-◌, eqb, length, get_or}
use Rattle.octets.specs.Tests.{pick, first_below}

abbrev pub tab_octet : ℕ
tab_octet = 0x09

abbrev pub line_end : ℕ
line_end = 0x0A

-- the first part with x before it
abbrev pub onto : ℕ → List (List ℕ) → List (List ℕ)
onto x [] = (x ∷ []) ∷ []
onto x (p ∷ ps) = (x ∷ p) ∷ ps

-- the parts between the separators: one more than there are separators, and any may be empty
unfoldable pub parted : ℕ → List ℕ → List (List ℕ)
parted sep [] = [] ∷ []
parted sep (x ∷ xs) = pick (eqb x sep) ([] ∷ parted sep xs) (onto x (parted sep xs))

-- where the part that begins at a place ends: at the next separator, or at the end of the text
unfoldable pub part_end : ℕ → List ℕ → ℕ → ℕ
part_end sep xs at = at + first_below (λ k. eqb (get_or xs (at + k) 0) sep) (length xs - at)
