-- `sessions::Session::hold` meets its contract.
use mathlib.Core.Path.{refl, ◌∙◌}
use Rattle.sessions.proofs.SessionLaws.{made_can}
use Rattle.sessions.proofs.Session.hold.Goals as goal
use Rattle.sessions.proofs.Session.hold.Goals.{then-not-self, else-not-self}

pub returns-clause-held : goal.returns-clause-held
returns-clause-held c =
    elim c.if-not-self.branch [
      | then-not-self w ↦ (rw w.self-is w.make-self.ensures.0, refl)
      | else-not-self w ↦ let made = w.if-not-self.false in (rw w.self-is (made ∙ made_can _ _ c.requires made), refl)
    ]
