-- `text::hex::read_digits` meets its contract.
use mathlib.Core.Path.{◌≡◌}
use lib.ListN.{length, get_or}
use Rattle.octets.specs.Tests.{all_below}
use Rattle.octets.specs.Lists.{tab}
use Rattle.octets.proofs.Front.{Front}
use Rattle.text.specs.Hex.{hex_value}
use Rattle.text.proofs.HexLaws.{digit_at}
use Rattle.text.proofs.hex.read_digits.Given as goal

abbrev pub invariant-loop-i : goal.invariant-loop-i
invariant-loop-i l = (l.all ≡ all_below (digit_at l.field) l.i) × Front (tab (λ k. hex_value (get_or l.field k 0)) (length l.field)) l.initial.values l.values l.i
