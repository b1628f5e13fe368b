-- A step that is written out, octet by octet as nxdn.h says it, is read as what was written: so the numbers of its kinds, and the places of mask, frame and
-- vector, stand here a second time.
use mathlib.Core.Path.{◌≡◌, refl, ap}
use mathlib.Core.List.{List, ◌∷◌, ◌++◌}
use mathlib.Core.Logic.{◌⊎◌, inl, inr}
use Prim.Native.Nat.{ℕ, ◌≤◌}
use native.Mathlib.Omega.{arith}
use lib.ListN.{length}
use lib.Seq.{take_at}
use borrow.Author.Tests.{ne_eqb}
use Rattle.batch.specs.Batch.{Voice, Lost, Announce, Heard, Unknown, step_in}

module _ (mask : ℕ) (rest : List ℕ) where
  pub half-slot_read : (frame : List ℕ) → length frame ≡ 28 → step_in 0 (1 ∷ mask ∷ (frame ++ rest)) ≡ Voice mask frame
  unfolding step_in
  half-slot_read frame l = ap (Voice mask) (take_at frame rest 28 l)

  pub full-slot_read : (frame : List ℕ) → length frame ≡ 36 → step_in 1 (1 ∷ mask ∷ (frame ++ rest)) ≡ Voice mask frame
  unfolding step_in
  full-slot_read frame l = ap (Voice mask) (take_at frame rest 36 l)

  module _ (rate : ℕ) where
    pub loss_read : step_in rate (2 ∷ mask ∷ rest) ≡ Lost
    unfolding step_in
    loss_read = refl

    module _ (w : List ℕ) (l : length w ≡ 8) where
      pub announced_read : step_in rate (3 ∷ mask ∷ (w ++ rest)) ≡ Announce w
      unfolding step_in
      announced_read = ap Announce (take_at w rest 8 l)

      pub heard_read : step_in rate (4 ∷ mask ∷ (w ++ rest)) ≡ Heard w
      unfolding step_in
      heard_read = ap Heard (take_at w rest 8 l)

    pub none_read : (kind : ℕ) → (kind ≡ 0) ⊎ (5 ≤ kind) → step_in rate (kind ∷ mask ∷ rest) ≡ Unknown
    unfolding step_in
    none_read kind (inl z) = rw z
    none_read kind (inr l) =
        rw (ne_eqb kind 1 (λ e. absurd (omega arith)), ne_eqb kind 2 (λ e. absurd (omega arith)), ne_eqb kind 3 (λ e. absurd (omega arith)), ne_eqb kind 4 (λ e. absurd (omega arith)))
