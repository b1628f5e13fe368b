-- An announcement is taken once a session (document 02, W-206), the opening's vector counting as that once.
use mathlib.Core.Path.{◌≡◌, ap}
use mathlib.Core.Bool.{true}
use mathlib.Core.Logic.{inl, inr}
use mathlib.Core.List.{List}
use Prim.Native.Nat.{ℕ}
use native.Mathlib.Omega.{arith}
use lib.ListN.{length}
use Rattle.sizes.specs.Ciphers.{vector_octets}
use Rattle.answers.specs.declared.Answer.{Answer}
use Rattle.answers.specs.declared.Answer.TheVariants.{NotNow}
use Rattle.answers.specs.Numbers.{number_of}
use Rattle.calls.specs.declared.call.Call.{Call}
use Rattle.calls.specs.Call.{told_vector, good_call}
use Rattle.calls.specs.Opening.{open_of}
use Rattle.calls.specs.Vector.{announce_of}
use Rattle.calls.proofs.GoodLaws.{announce_good}
use Rattle.calls.proofs.OpeningGood.{open_leaves}
use Rattle.calls.proofs.Exactly.{NotTold, announced-leaves, announced_exactly, announced_else}

-- where a vector was told, an announcement is 9
pub told_already_lem : (c : Call) → good_call c ≡ true → c.known ≡ told_vector → (w : List ℕ) → length w ≡ vector_octets → announce_of c w ≡ (NotNow, c)
told_already_lem c good k w l = announced_else c w good l (λ t. told t.untold)
  where
    told : NotTold c → ⊥
    told (inl e) = omega arith
    told (inr e) = omega arith

-- so is a second one in a session
pub once : (c : Call) (w : List ℕ) → number_of (announce_of c w).0 ≡ 0 → (v : List ℕ) → length v ≡ vector_octets → announce_of (announce_of c w).1 v ≡ (NotNow, (announce_of c w).1)
once c w z =
    let t = (announced_exactly c w).0 z in
    told_already_lem (announce_of c w).1 (announce_good c t.good w) (ap (λ (o : Answer × Call). o.1.known) (announced-leaves c w t))

-- and one in the session that was opened with its vector
pub opening_counts : (c : Call) (n i r m : ℕ) (w b : List ℕ) → number_of (open_of c n i r m w b).0 ≡ 0 → (v : List ℕ) → length v ≡ vector_octets
    → announce_of (open_of c n i r m w b).1 v ≡ (NotNow, (open_of c n i r m w b).1)
opening_counts c n i r m w b z =
    let o = open_leaves c n i r b m w z in
    told_already_lem (open_of c n i r m w b).1 o.0 (ap (λ (d : Call). d.known) o.1)
