-- Cited by private contracts only: what lent octets hold.
use Rattle.std.specs.Prelude.{◌≡◌, List, ℕ, ◌+◌, ◌≤◌, length}
use Rattle.octets.specs.Lists.{replaced}

-- text of at most so many octets, written over lent ones from a place on, and the place after it
pub record Laid (most : ℕ) (before : List ℕ) (at : ℕ) (text after : List ℕ) (next : ℕ) : Type 0 where
  pub within : length text ≤ most
  pub ends : next ≡ at + length text
  pub octets : after ≡ replaced before at (length text) text
