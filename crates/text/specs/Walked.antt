-- A text as code walks it: a part of it, and the fields of a line from a place on. Only contracts of functions that read parts and fields cite it.
use Rattle.std.specs.Prelude.{Bool, ◌&&◌, not, List, [], ℕ, eqb, length, get_or, Option, Some, None}
use Rattle.std.specs.Borrow.{Bor}
use Rattle.octets.specs.Tests.{all_below}
use Rattle.text.specs.Parted.{tab_octet, parted}
use Rattle.text.specs.Hex.{is_hex}
use Rattle.text.specs.Fields.{field_at, are_fields}
use Rattle.text.specs.declared.field.Fields.{Fields}

-- no octet is the separator: the text is one part
unfoldable pub is_part : ℕ → List ℕ → Bool
is_part sep xs = all_below (λ k. not (eqb (get_or xs k 0) sep)) (length xs)

-- the fields that are left to be read: those of the rest of a line, or none
abbrev pub fields_in : Option (Bor (List ℕ)) → List (List ℕ)
fields_in None = []
fields_in (Some rest) = parted tab_octet rest.now

unfoldable pub left : Fields → List (List ℕ)
left fields = fields_in fields.rest

-- one field is left, the hex of n octets
unfoldable pub last_hex : ℕ → List (List ℕ) → Bool
last_hex n fields = are_fields 1 fields && is_hex n (field_at fields 0)
