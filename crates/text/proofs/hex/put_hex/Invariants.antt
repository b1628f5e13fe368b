-- `text::hex::put_hex` meets its contract.
use mathlib.Core.Path.{◌≡◌}
use Prim.Native.Nat.{◌*◌}
use lib.ListN.{length}
use Rattle.octets.proofs.Front.{Front}
use Rattle.text.specs.Hex.{hex_text}
use Rattle.text.proofs.hex.put_hex.Given as goal

abbrev pub invariant-loop-i : goal.invariant-loop-i
invariant-loop-i l = (length l.out ≡ 2 * length l.octets) × Front (hex_text l.octets) l.initial.out l.out (2 * l.i)
