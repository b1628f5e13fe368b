-- A cipher and a key ID read from a line. Only the contracts of this crate's own functions cite it.
use Rattle.std.specs.Prelude.{◌≡◌, true, false, List, ℕ, drop, Option, Some, None}
use Rattle.text.specs.Decimal.{decimal_value}
use Rattle.text.specs.Fields.{field_at}
use Rattle.lines.specs.Record.{is_pair}
use Rattle.lines.specs.declared.pair.Pair.{Pair}

-- the pair that the first two fields are, and the fields after them
unfoldable pub IsPair : List (List ℕ) → Option Pair → List (List ℕ) → Type 0
IsPair fields (Some pair) others =
    (is_pair fields ≡ true)
    × (pair.cipher ≡ decimal_value (field_at fields 0))
    × (pair.id ≡ decimal_value (field_at fields 1))
    × (others ≡ drop 2 fields)
IsPair fields None others = is_pair fields ≡ false
