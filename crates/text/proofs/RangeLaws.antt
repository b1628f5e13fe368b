-- The test of a range holds inside it and fails outside.
use mathlib.Core.Path.{◌≡◌}
use mathlib.Core.Bool.{true, false, ◌&&◌}
use Prim.Native.Nat.{ℕ, ◌≤◌, ◌<◌}
use lib.Dec.{leb}
use borrow.Author.Tests.{le-leb, lt-leb, leb-true}
use Rattle.octets.proofs.TestLaws.{and_left, and_right, and_false_r}

module _ (a b x : ℕ) where
  pub inside : a ≤ x → x ≤ b → (leb a x && leb x b) ≡ true
  inside h l = rw (le-leb a x h, le-leb x b l)

  pub below : x < a → (leb a x && leb x b) ≡ false
  below h = rw (lt-leb a x h)

  pub above : b < x → (leb a x && leb x b) ≡ false
  above h = rw (lt-leb x b h, and_false_r)

  pub least : (leb a x && leb x b) ≡ true → a ≤ x
  least e = leb-true a x (and_left (leb a x) (leb x b) e)

  pub most : (leb a x && leb x b) ≡ true → x ≤ b
  most e = leb-true x b (and_right (leb a x) (leb x b) e)
