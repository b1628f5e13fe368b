-- `aes::octet` meets its contract.
use mathlib.Core.Path.{ap, ◌∙◌}
use mathlib.Core.List.{List}
use Prim.Native.Nat.{ℕ}
use lib.ListN.{get_or}
use Rattle.aes.proofs.WordLaws.{le_octet}
use Rattle.aes.proofs.octet.Goals as goal

pub returns : goal.returns
returns c = ap (λ (x : List ℕ). get_or x c.args.r 0) c.to_le_bytes.ensures ∙ le_octet c.args.w c.args.r c.requires
