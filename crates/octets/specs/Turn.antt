-- Turning: the first bits of a part, turned over by the bits of a keystream. So are turned a message and each word of a voice frame.
use Rattle.std.specs.Prelude.{List, ℕ, ltb, length, take, drop}
use Rattle.octets.specs.Tests.{pick}
use Rattle.octets.specs.Lists.{replaced}
use Rattle.octets.specs.Bits.{bit, flip, octets_from}

-- what bit k is turned over by: past the width nothing
unfoldable pub within : ℕ → (ℕ → ℕ) → ℕ → ℕ
within width ks k = pick (ltb k width) (ks k) 0

-- the part with its first bits, as many as the width, turned over by those of ks
unfoldable pub turned : ℕ → (ℕ → ℕ) → List ℕ → List ℕ
turned width ks part = octets_from (length part) (λ k. flip (bit part k) (within width ks k))

-- the list with the n octets from a on turned, and all others as they were
unfoldable pub turned_in : ℕ → ℕ → ℕ → (ℕ → ℕ) → List ℕ → List ℕ
turned_in a n width ks xs = replaced xs a n (turned width ks (take n (drop a xs)))
