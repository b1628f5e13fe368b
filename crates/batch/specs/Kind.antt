-- What a step is, and the octet that says so.
use Rattle.std.specs.Prelude.{◌≡◌, ℕ}
use Rattle.batch.specs.declared.Kind.{Kind}
use Rattle.batch.specs.declared.Kind.TheVariants.{Voice, Lost, Announce, Heard}

abbrev pub kind_number : Kind → ℕ
kind_number Voice = 1
kind_number Lost = 2
kind_number Announce = 3
kind_number Heard = 4

-- an octet that says none of these
abbrev pub IsNoKind : ℕ → Type 0
IsNoKind octet = (kind : Kind) → octet ≡ kind_number kind → ⊥
