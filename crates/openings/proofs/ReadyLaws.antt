-- A ready key of a good book is right: it is whole, allowed, and nothing stands past its length.
use mathlib.Core.Path.{◌≡◌, ◌∙◌}
use mathlib.Core.Bool.{Bool, true, ◌&&◌}
use mathlib.Core.List.{List}
use Prim.Native.Nat.{ℕ, ◌≤◌, ◌<◌}
use native.Mathlib.Omega.{arith}
use borrow.Author.Tests.{eqb-true, eq-eqb, ltb-true, not-false}
use Rattle.octets.proofs.TestLaws.{and_left, and_right}
use Rattle.ciphers.specs.Keys.{key_right}
use Rattle.ciphers.proofs.KeyLaws.{key_ranged}
use Rattle.answers.specs.declared.Answer.TheVariants.{Done}
use Rattle.answers.proofs.OutcomeLaws.{NoneHolds, none_settles}
use Rattle.keyentry.specs.Entry.{cipher_in, id_in, ready_place, ready_in, is_ready, in_range, entry_right}
use Rattle.keyentry.proofs.RightLaws.{Used, used_of, free_zero, for_parts}
use Rattle.keybook.specs.Book.{entries, find_entry, good_book, book_refusals}
use Rattle.keybook.specs.Operations.{has_entry, entry_for, no_key, not_ready, ready_refusals, ready_key_of}
use Rattle.keybook.proofs.GoodLaws.{good_sized, good_entry, found_for}
use Rattle.keybook.proofs.Laws.{ready-key-is-right}
use Rattle.openings.specs.Ladder.{key_for, key_refusals, opening_key_of, vector_refusals}
use Rattle.openings.proofs.LadderLaws.{key-ready, vector-none}

module _ (b : List ℕ) (c i : ℕ) (good : good_book b ≡ true) (there : has_entry b c i ≡ true) (ready : is_ready (entry_for b c i) ≡ true) where
  abbrev e : List ℕ
  e = entry_for b c i

  below : find_entry b c i < entries
  below = ltb-true _ _ there

  right : entry_right e ≡ true
  right = good_entry b good (find_entry b c i) below

  is-its : (cipher_in e ≡ c) × (id_in e ≡ i)
  is-its = for_parts e c i (found_for b c i below)

  used : Used e
  used = used_of e (λ z. let free : ready_in e ≡ 0 = free_zero e z right ready_place in omega (arith, eqb-true (ready_in e) 1 ready)) right

  -- its cipher and key ID are in range
  pub key_in_range : in_range c i ≡ true
  key_in_range = rw (is-its.0, is-its.1) at used.range

  -- and it is whole and allowed
  pub key_right_lem : key_right c (key_for b c i) ≡ true
  unfolding ready_key_of ready_refusals book_refusals not_ready
  key_right_lem = (ready-key-is-right b c i (key_for b c i) (rw (eq-eqb _ _ (good_sized b good), key_in_range, good, there, ready))).1

-- where nothing refuses the key
module _ (ranged bad busy : Bool) (c i : ℕ) (b : List ℕ) (n : NoneHolds (key_refusals ranged bad busy c i b)) where
  -- its own numbers are in range, and so are cipher and key ID
  pub none_ranged : (ranged ≡ true) × (in_range c i ≡ true)
  unfolding key_refusals
  none_ranged = let q = not-false (ranged && in_range c i) n.1.0 in (and_left ranged (in_range c i) q, and_right ranged (in_range c i) q)

  pub none-key : key_right c (key_for b c i) ≡ true
  unfolding key_refusals
  none-key = key_right_lem b c i (not-false _ n.1.1.1.1.0) (not-false _ n.1.1.1.1.1.0) (not-false _ n.1.1.1.1.1.1.0)

  pub none_in_range : (1 ≤ c) × (c ≤ 3)
  none_in_range = key_ranged c (key_for b c i) none-key

  -- and the book hands the key out
  pub none-ready : ready_key_of b c i ≡ (Done, key_for b c i)
  unfolding key_refusals opening_key_of
  none-ready =
      key-ready ranged bad busy c i b (eqb-true _ _ (not-false _ n.0)) none_ranged.0 none_ranged.1 n.1.1.0 n.1.1.1.0
      ∙ none_settles (key_refusals ranged bad busy c i b) no_key (Done, key_for b c i) n

pub none-ready-vector : (sends ranged bad busy : Bool) (c i : ℕ) (b w : List ℕ) → NoneHolds (vector_refusals sends ranged bad busy c i w b)
    → ready_key_of b c i ≡ (Done, key_for b c i)
none-ready-vector sends ranged bad busy c i b w n = none-ready ranged bad busy c i b (vector-none ranged bad busy c i b w sends n)
