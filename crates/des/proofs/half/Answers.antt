-- `des::half` meets its contract.
use mathlib.Core.Path.{ap, ◌∙◌}
use Prim.Native.Nat.{ℕ}
use native.Mathlib.Nat.{add-sub_cancel_left}
use lib.ListN.{take, drop}
use Rattle.des.proofs.half.Goals as goal

pub returns : goal.returns
returns c = c.copy_from_slice.ensures.after ∙ ap (λ (k : ℕ). take k (drop c.args.from c.args.bits.now)) (add-sub_cancel_left c.args.from 32)
