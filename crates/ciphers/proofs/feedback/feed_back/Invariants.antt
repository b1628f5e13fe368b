-- `ciphers::feedback::feed_back` meets its contract: the first i octets are the session's, and the next stands in the block after the one that is carried.
use mathlib.Core.Path.{◌≡◌}
use mathlib.Core.List.{List}
use Prim.Native.Nat.{ℕ, ◌-◌, ◌≤◌, ◌<◌}
use lib.ListN.{length}
use Rattle.octets.specs.Lists.{iterate}
use Rattle.ciphers.proofs.Chained.{Fed}
use Rattle.ciphers.proofs.feedback.feed_back.Given as goal

abbrev pub invariant-loop-i : goal.invariant-loop-i
invariant-loop-i g l =
    (length l.out ≡ length l.initial.out) × (l.i ≤ length l.initial.out) × (l.at < g.row.N)
    × ((cipher : List ℕ → List ℕ) → g.E.Engine.Enciphers l.engine cipher → Fed (g.E.Engine.StandsFor l.engine l.vector) (λ n. iterate cipher n l.vector) g.row.N l.from l.initial.out l.out l.carried l.at l.i)

abbrev pub decreases-loop-i : goal.decreases-loop-i
decreases-loop-i g l = length l.initial.out - l.i
