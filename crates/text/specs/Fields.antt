-- The fields of a line, parted by tabs (document 01, "The receiver program").
use Rattle.std.specs.Prelude.{Bool, List, [], ℕ, eqb, length, get_or}

-- field n, empty where there is none
unfoldable pub field_at : List (List ℕ) → ℕ → List ℕ
field_at fields n = get_or fields n []

-- there are n fields
abbrev pub are_fields : ℕ → List (List ℕ) → Bool
are_fields n fields = eqb (length fields) n
