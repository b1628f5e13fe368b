-- `des::PreparedKey::c_in_round` meets its contract.
use mathlib.Core.Path.{ap, ◌∙◌}
use Prim.Native.Nat.{ℕ, suc, ◌+◌}
use native.Mathlib.Omega.{arith}
use Rattle.des.proofs.KeyLaws.{shifts_within}
use Rattle.des.proofs.PreparedLaws.{shifts_at}
use Rattle.des.proofs.PreparedKey.c_in_round.Goals as goal

pub returns : goal.returns
returns c =
    let e = c.from.ensures ∙ shifts_at _ c.args.self.now.prepared c.args.n c.requires in
    (ap (λ (k : ℕ). 776 + k) e, omega (arith, e, shifts_within (suc c.args.n) c.requires))
