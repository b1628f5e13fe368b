-- `ciphers::feedback::skip` meets its contract: after so many turns what is carried is so many blocks on.
use mathlib.Core.List.{List}
use Prim.Native.Nat.{ℕ, ◌≤◌}
use Rattle.ciphers.proofs.feedback.skip.Given as goal

abbrev pub invariant-loop : goal.invariant-loop
invariant-loop g l = (l.counter ≤ l.n) × ((vector : List ℕ) → g.E.Engine.StandsFor l.engine vector 0 l.initial.carried → g.E.Engine.StandsFor l.engine vector l.counter l.carried)
