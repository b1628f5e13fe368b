-- The ways through what a screen shows, and its laws.
use Prim.Native.Nat.{ℕ, ◌≤◌, ◌<◌}
use mathlib.Core.Path.{◌≡◌, sym, ◌∙◌}
use mathlib.Core.Bool.{true, false}
use mathlib.Core.List.{List, []}
use lib.ListN.{length}
use borrow.Author.Tests.{lt-ltb, le-ltb, eq-eqb, ne_eqb}
use Rattle.std.specs.Prelude.{Result}
use Rattle.answers.specs.declared.Answer.{Answer}
use Rattle.answers.specs.Outcomes.{result_of}
use Rattle.answers.specs.declared.Answer.TheVariants.{Done, WrongLength, OutOfRange, Bad}
use Rattle.answers.proofs.OutcomeLaws.{refusal_keeps}
use Rattle.keyentry.specs.Name.{no_name}
use Rattle.keyentry.specs.Entry.{name_in}
use Rattle.keybook.specs.declared.screen.Shown.{Shown}
use Rattle.keybook.specs.Book.{entries, book_octets, entry_of, good_book}
use Rattle.keybook.specs.Operations.{entry_for, entry_refusals}
use Rattle.keybook.specs.Screen.{name_of, shown, nothing_shown, inventory_refusals, inventory_of}
use Rattle.keybook.proofs.OperationLaws.{Ways, ways}

-- ---- the name of an entry

module _ (b : List ℕ) (c i : ℕ) where
  pub name_ways : Ways b c i no_name (λ k. (Done, name_in (entry_of b k))) (name_of b c i)
  unfolding name_of entry_refusals
  name_ways = ways b c i no_name (λ k. []) (λ k. (Done, name_in (entry_of b k)))

  -- a refusal hands out no name
  pub refused_no_name : ((name_of b c i).0 ≡ Done → ⊥) → (name_of b c i).1 ≡ no_name
  unfolding name_of
  refused_no_name = refusal_keeps no_name (entry_refusals b c i) (Done, name_in (entry_for b c i))

  -- any two outcomes that meet its statement are equal
  pub one_name : (r s : Result (List ℕ) Answer) → r ≡ result_of (name_of b c i) → s ≡ result_of (name_of b c i) → r ≡ s
  one_name r s p q = p ∙ sym q

-- ---- the inventory

module _ (b : List ℕ) (k : ℕ) where
  pub list_length : (length b ≡ book_octets → ⊥) → (WrongLength, nothing_shown) ≡ inventory_of b k
  unfolding inventory_of inventory_refusals
  list_length h = rw (ne_eqb _ _ h)

  module _ (h : length b ≡ book_octets) where
    pub list_range : entries ≤ k → (OutOfRange, nothing_shown) ≡ inventory_of b k
    unfolding inventory_of inventory_refusals
    list_range l = rw (eq-eqb _ _ h, le-ltb _ _ l)

    module _ (l : k < entries) where
      pub list_bad : good_book b ≡ false → (Bad, nothing_shown) ≡ inventory_of b k
      unfolding inventory_of inventory_refusals
      list_bad g = rw (eq-eqb _ _ h, lt-ltb _ _ l, g)

      pub list_done : good_book b ≡ true → (Done, shown (entry_of b k)) ≡ inventory_of b k
      unfolding inventory_of inventory_refusals
      list_done g = rw (eq-eqb _ _ h, lt-ltb _ _ l, g)

  -- a refusal shows nothing
  pub refused_shows_nothing : ((inventory_of b k).0 ≡ Done → ⊥) → (inventory_of b k).1 ≡ nothing_shown
  unfolding inventory_of
  refused_shows_nothing = refusal_keeps nothing_shown (inventory_refusals b k) (Done, shown (entry_of b k))

  pub one_inventory : (r s : Result Shown Answer) → r ≡ result_of (inventory_of b k) → s ≡ result_of (inventory_of b k) → r ≡ s
  one_inventory r s p q = p ∙ sym q
