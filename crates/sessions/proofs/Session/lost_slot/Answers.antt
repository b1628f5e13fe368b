-- `sessions::Session::lost_slot` meets its contract.
use mathlib.Core.Path.{sym, ◌∙◌}
use mathlib.Core.Bool.{false≢true}
use Rattle.sessions.proofs.SessionLaws.{lost_cached}
use Rattle.sessions.proofs.Session.lost_slot.Goals as goal
use Rattle.sessions.proofs.Session.lost_slot.Goals.{then-self, else-self}

pub returns-clause-stays_cached : goal.returns-clause-stays_cached
returns-clause-stays_cached c =
    λ session h.
    lost_cached _ session h c.lost.ensures c.in_ok-after.was
    (elim c.if-self.branch [
      | then-self w ↦ λ t. (w.if-self.true, w.goes_on-self.ensures (sym w.self-is ∙ t))
      | else-self w ↦ λ t. absurd (false≢true (sym w.if-self.false ∙ sym w.self-is ∙ t))
    ])
