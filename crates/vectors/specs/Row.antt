-- A row of known answers: fields parted by tabs.
use Rattle.std.specs.Prelude.{List, ℕ}
use Rattle.text.specs.Parted.{tab_octet, parted}
use Rattle.text.specs.Fields.{field_at}

-- field n of a row, the first being 0; empty where the row has no such field
unfoldable pub field_of : List ℕ → ℕ → List ℕ
field_of row n = field_at (parted tab_octet row) n
