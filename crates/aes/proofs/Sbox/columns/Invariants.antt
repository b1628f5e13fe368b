-- `aes::Sbox::columns` meets its contract.
use mathlib.Core.Path.{◌≡◌}
use lib.ListN.{length}
use Rattle.octets.specs.Lists.{tab}
use Rattle.octets.proofs.Front.{Front}
use Rattle.aes.proofs.ColumnLaws.{column_of}
use Rattle.aes.proofs.Sbox.columns.Given as goal

abbrev pub invariant-loop-x : goal.invariant-loop-x
invariant-loop-x l = (length l.columns ≡ 256) × Front (tab column_of 256) l.initial.columns l.columns l.x
