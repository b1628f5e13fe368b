-- Cited by private contracts only: a line done, and its output written over lent octets that have room for it.
use Rattle.std.specs.Prelude.{◌≡◌, List, ℕ, ◌≤◌, length}
use Rattle.text.specs.Reader.{Reader, overlaid}

module _ {S : Type 0} (r : Reader S) where
  pub record Responded (line : List ℕ) (before : S) (out : List ℕ) (n : ℕ) (after : S) (out' : List ℕ) : Type 0 where
    pub within : length (r.act line before).0 ≤ r.room
    pub long : n ≡ length (r.act line before).0
    pub octets : out' ≡ overlaid out (r.act line before).0
    pub state_is : after ≡ (r.act line before).1
