-- The first place of a list that has a test, as `position` counts it.
use Prim.Native.Nat.{ℕ, suc, ◌+◌}
use native.Mathlib.Omega.{arith}
use mathlib.Core.Path.{◌≡◌, refl, sym, ap, ◌∙◌}
use mathlib.Core.Bool.{Bool, true, false, cond}
use mathlib.Core.List.{List}
use lib.Dec.{ltb}
use lib.ListN.{length, get_or}
use borrow.Author.Tests.{ltb-false}
use Rattle.std.specs.Prelude.{Option, Some, None}
use Rattle.std.specs.Option.{unwrap_or}
use Rattle.std.specs.List.{position_or_len}
use Rattle.std.proofs.lemmas.List.Recursion.{is_position_or_len}
use Rattle.octets.specs.Tests.{pick, first_below}
use Rattle.octets.proofs.TestLaws.{first_le}

module _ {X : Type 0} (test : X → Bool) (d : X) where
  abbrev pub first_in : List X → ℕ
  first_in xs = first_below (λ k. test (get_or xs k d)) (length xs)

  pub place_is : (xs : List X) → first_in xs ≡ position_or_len test xs
  unfolding first_below
  place_is xs = is_position_or_len first_in test refl (λ x l. go (test x) (first_in l)) xs
    where
      go : (t : Bool) (n : ℕ) → pick t 0 (suc n) ≡ cond t 0 (1 + n)
      go true n = refl
      go false n = omega arith

  -- where there is none it is the length
  pub placed : (xs : List X) (r : Option ℕ) → r ≡ cond (ltb (position_or_len test xs) (length xs)) (Some (position_or_len test xs)) None
      → unwrap_or r (length xs) ≡ first_in xs
  placed xs r q = ap (λ (o : Option ℕ). unwrap_or o (length xs)) q ∙ go (ltb (position_or_len test xs) (length xs)) refl
    where
      go : (t : Bool) → ltb (position_or_len test xs) (length xs) ≡ t → unwrap_or (cond t (Some (position_or_len test xs)) None) (length xs) ≡ first_in xs
      go true l = sym (place_is xs)
      go false l = let m = ltb-false _ _ l in let n = place_is xs in let k = first_le (λ j. test (get_or xs j d)) (length xs) in omega arith
