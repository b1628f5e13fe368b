-- Receivers that refuse what they are told: demand 3, in either way, throws out each that never answers 0 to an opening or to an announcement by some one
-- vector, to joining or to a lost slot.
use mathlib.Core.Path.{◌≡◌, refl, sym}
use mathlib.Core.Bool.{Bool, true, false}
use mathlib.Core.Logic.{◌⊎◌, inl, inr}
use mathlib.Core.List.{List, [], ◌∷◌}
use Prim.Native.Nat.{ℕ, ◌≤◌}
use native.Mathlib.Omega.{arith}
use lib.ListN.{length}
use Rattle.sizes.specs.Ciphers.{scrambles}
use Rattle.ciphers.specs.Keystream.{stream}
use Rattle.answers.specs.Numbers.{number_of}
use Rattle.openings.specs.Samples.{seed}
use Rattle.demands.specs.Talk.{Talk, opening, joining, Kept}
use Rattle.demands.specs.Log.{Receiver}
use Rattle.demands.specs.Demand3Default.{GeneratedOrAnnounced}
use Rattle.demands.specs.Others.{MeetsIn, MeetsDefaultIn}
use Rattle.demands.proofs.ToldSlots.{within_limit}
use Rattle.demands.proofs.Standing.{eight_slots}
use Rattle.demands.proofs.Samples.{quiet, quiet-kept}
use Rattle.demands.proofs.SampleKeys.{key_of, book_of_three, has_key, key_long}

abbrev none_arrive : List Bool
none_arrive = false ∷ false ∷ false ∷ false ∷ false ∷ false ∷ false ∷ false ∷ []

-- with DES or AES, at either rate
module _ (c : ℕ) (r : (1 ≤ c) × (c ≤ 3)) (n : scrambles c ≡ false) (rt : ℕ) (lt : rt ≤ 1) where
  -- a session of which every slot is lost, and the announced start of the next, both of one vector
  abbrev fading : List ℕ → Talk
  fading v =
      record {
        cipher = c;
        rate = rt;
        key = key_of c;
        sessions =
            record { vector = v; announced = true; slots = quiet rt (stream c (key_of c) v) 0 none_arrive }
            ∷ record { vector = v; announced = true; slots = [] } ∷ [];
      }

  fading-kept : (v : List ℕ) → length v ≡ 8 → Kept (fading v)
  fading-kept v l =
      record {
        rate = lt;
        key = key_long c r;
        each = (record { vector = l; slots = quiet-kept rt (stream c (key_of c) v) 0 none_arrive }, (record { vector = l; slots = tt }, tt));
        full = (sym (eight_slots c r n), omega arith);
      }

  module _ (R : Receiver) where
    -- either demand, in the default way with the weaker premise
    abbrev Meets : Type 0
    Meets = MeetsIn c rt R ⊎ MeetsDefaultIn GeneratedOrAnnounced c rt R

    abbrev joined : R.State
    joined = (R.join c 0 rt book_of_three R.idle).1

    abbrev half_on : R.State
    half_on = (R.lost (R.lost (R.lost (R.lost joined).1).1).1).1

    heard : (v : List ℕ) → length v ≡ 8 → Meets → number_of (R.hear c 0 rt v book_of_three R.idle).0 ≡ 0
    heard v l (inl m) = (m (fading v) refl refl (fading-kept v l) book_of_three 0 (has_key c r) opening (within_limit (fading v) (omega arith) opening)).0
    heard v l (inr m) = (m (fading v) refl refl (fading-kept v l) opening (λ z. (inl refl, tt)) (within_limit (fading v) (omega arith) opening) book_of_three 0 (has_key c r)).0

    -- joining, the first lost slot, and the announcement
    late : (v : List ℕ) → length v ≡ 8 → Meets
        → (number_of (R.join c 0 rt book_of_three R.idle).0 ≡ 0) × (number_of (R.lost joined).0 ≡ 0) × (number_of (R.announce v half_on).0 ≡ 0)
    late v l (inl m) = let h = rw n at (m (fading v) refl refl (fading-kept v l) book_of_three 0 (has_key c r) (joining 0) (within_limit (fading v) (omega arith) (joining 0))) in (h.0, h.1.0, h.1.1.1.1.1.0)
    late v l (inr m) =
        let h = rw n at (m (fading v) refl refl (fading-kept v l) (joining 0) (λ z. (inl refl, tt)) (within_limit (fading v) (omega arith) (joining 0)) book_of_three 0 (has_key c r)) in
        (h.0, h.1.0, h.1.1.1.1.1.0)

    pub never-joined_fails : Meets → ((i : ℕ) (b : List ℕ) (s : R.State) → 1 ≤ number_of (R.join c i rt b s).0) → ⊥
    never-joined_fails m f = omega (arith, (late seed refl m).0, f 0 book_of_three R.idle)

    pub never-lost_fails : Meets → ((s : R.State) → 1 ≤ number_of (R.lost s).0) → ⊥
    never-lost_fails m f = omega (arith, (late seed refl m).1, f joined)

    -- any one vector, zeros too
    pub never-heard_fails : Meets → (v : List ℕ) → length v ≡ 8 → ((i : ℕ) (b : List ℕ) (s : R.State) → 1 ≤ number_of (R.hear c i rt v b s).0) → ⊥
    never-heard_fails m v l f = omega (arith, heard v l m, f 0 book_of_three R.idle)

    pub never-announced_fails : Meets → (v : List ℕ) → length v ≡ 8 → ((s : R.State) → 1 ≤ number_of (R.announce v s).0) → ⊥
    never-announced_fails m v l f = omega (arith, (late v l m).2, f half_on)
