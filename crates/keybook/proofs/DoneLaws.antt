-- What each operation makes of the book where nothing refuses it: one entry is replaced, and the book is good.
use Prim.Native.Nat.{ℕ, ◌≤◌, ◌<◌}
use native.Mathlib.Omega.{arith}
use mathlib.Core.Path.{◌≡◌, refl, sym, ap, ◌∙◌}
use mathlib.Core.Bool.{true, false, not}
use mathlib.Core.List.{List, [], ◌∷◌, ◌++◌}
use lib.ListN.{length}
use borrow.Author.Tests.{ltb-true, ltb-false, eqb-true, not-false}
use Rattle.answers.specs.declared.Answer.{Answer}
use Rattle.answers.specs.declared.Answer.TheVariants.{Done, NoEntry}
use Rattle.answers.specs.Numbers.{is_done}
use Rattle.answers.specs.Outcomes.{Refusals}
use Rattle.answers.proofs.OutcomeLaws.{NoneHolds, never_done, none_left, none_right, done_none, none_settles}
use Rattle.ciphers.specs.Keys.{key_allowed}
use Rattle.keyentry.specs.Name.{name_octets}
use Rattle.keyentry.specs.Entry.{entry_octets, cipher_in, id_in, in_range, key_in, is_ready, lacks, blank, new_entry, extend_refusals, extended, complete_refusals, completed}
use Rattle.keyentry.proofs.RightLaws.{Used, used_of, of_used, for_parts, not_for}
use Rattle.keyentry.proofs.WriteLaws.{in_range_used, blank-length, blank-cipher, blank-right, new_length, new_cipher, new_id, new_right, extend_length, extend_cipher, extend_id, extend_used, complete_length, complete_cipher, complete_id, complete_used}
use Rattle.keybook.specs.Book.{entries, entry_of, with_entry, good_book, find_entry, free_entry, book_refusals}
use Rattle.keybook.specs.Operations.{has_entry, entry_for, with_for, begin_refusals, begin_after, add_refusals, finish_refusals, entry_refusals, no_key, not_ready, ready_refusals, ready_key_of}
use Rattle.keybook.proofs.BookLaws.{entry_length}
use Rattle.keybook.proofs.GoodLaws.{none_for, found_for, good_sized, good_entry, good-apart, good_with}
use Rattle.keybook.proofs.OperationLaws.{in_range_by, good_by}

-- entry k of the book is now e
pub record Changed (b after : List ℕ) (k : ℕ) (e : List ℕ) : Type 0 where
  pub is : after ≡ with_entry b k e
  pub was_good : good_book b ≡ true
  pub below : k < entries
  pub long : length e ≡ entry_octets
  pub good : good_book (with_entry b k e) ≡ true

-- ---- the entry for a cipher and key ID, where the book has one

pub record There (b : List ℕ) (c i : ℕ) : Type 0 where
  pub was_good : good_book b ≡ true
  pub below : find_entry b c i < entries
  pub long : length (entry_for b c i) ≡ entry_octets
  pub cipher : cipher_in (entry_for b c i) ≡ c
  pub id : id_in (entry_for b c i) ≡ i
  pub used : cipher_in (entry_for b c i) ≡ 0 → ⊥
  pub right : Used (entry_for b c i)

pub there : (b : List ℕ) (c i : ℕ) (rest : Refusals) → NoneHolds (book_refusals b c i ++ ((not (has_entry b c i), NoEntry) ∷ rest)) → There b c i
there b c i rest n =
    let m = none_left (book_refusals b c i) _ n in
    let g = good_by b c i m in
    let l : find_entry b c i < entries = ltb-true _ _ (not-false _ (none_right (book_refusals b c i) _ n).0) in
    let f = for_parts (entry_for b c i) c i (found_for b c i l) in
    let u : cipher_in (entry_for b c i) ≡ 0 → ⊥ = λ z. in_range_used c i (in_range_by b c i m) (sym f.0 ∙ z) in
    record {
      was_good = g;
      below = l;
      long = entry_length b (find_entry b c i) (good_sized b g) l;
      cipher = f.0;
      id = f.1;
      used = u;
      right = used_of (entry_for b c i) u (good_entry b g (find_entry b c i) l);
    }

-- it may be replaced by one that has its cipher and key ID and keeps the rules
same_parts : (b : List ℕ) (c i : ℕ) (e : List ℕ) → There b c i → length e ≡ entry_octets → Used e
    → cipher_in e ≡ cipher_in (entry_for b c i) → id_in e ≡ id_in (entry_for b c i) → Changed b (with_for b c i e) (find_entry b c i) e
same_parts b c i e t w u p q =
    record {
      is = refl;
      was_good = t.was_good;
      below = t.below;
      long = w;
      good =
          good_with b (find_entry b c i) e (good_sized b t.was_good) t.below w t.was_good
          (of_used e (λ z. t.used (sym p ∙ z)) u)
          (λ j m n v. not_for (entry_of b j) _ _ (λ x y.
          n (good-apart b t.was_good j (find_entry b c i) m t.below t.used (x ∙ p) (y ∙ q))));
    }

-- ---- the operations

module _ (b : List ℕ) (c i : ℕ) where
  -- no refusal answers done
  pub begin_never_done : (name : List ℕ) → never_done (begin_refusals b c i name) ≡ true
  unfolding begin_refusals
  begin_never_done name = refl

  pub add_never_done : (xs : List ℕ) → never_done (add_refusals b c i xs) ≡ true
  unfolding add_refusals book_refusals extend_refusals
  add_never_done xs = refl

  pub finish_never_done : never_done (finish_refusals b c i) ≡ true
  unfolding finish_refusals book_refusals complete_refusals
  finish_never_done = refl

  pub entry_never_done : never_done (entry_refusals b c i) ≡ true
  unfolding entry_refusals book_refusals
  entry_never_done = refl

  pub ready-never_done : never_done (ready_refusals b c i) ≡ true
  unfolding ready_refusals book_refusals not_ready
  ready-never_done = refl

  module _ (name : List ℕ) (n : NoneHolds (begin_refusals b c i name)) where
    pub begin_named : length name ≡ name_octets
    unfolding begin_refusals
    begin_named = eqb-true _ _ (not-false _ n.0)

    pub begin_in_range : in_range c i ≡ true
    unfolding begin_refusals
    begin_in_range = not-false _ n.1.1.0

    pub begin_changed : Changed b (begin_after b c i name) (free_entry b) (new_entry c i name)
    unfolding begin_refusals begin_after
    begin_changed =
        let e = new_entry c i name in
        let good = not-false _ n.1.1.1.1.0 in
        let place = n.1.1.1.1.1 in
        let l : free_entry b < entries = ltb-true _ _ (not-false _ place.1.0) in
        let none = none_for b c i (ltb-false _ _ place.0) in
        let long = new_length c i name begin_named in
        record {
          is = refl;
          was_good = good;
          below = l;
          long = long;
          good =
              good_with b (free_entry b) e (good_sized b good) l long good (new_right c i name begin_named begin_in_range (not-false _ n.1.1.1.0))
              (λ j lj d u. rw (new_cipher c i name, new_id c i name) (none j lj));
        }

    pub begin_used : c ≡ 0 → ⊥
    begin_used = in_range_used c i begin_in_range

  module _ (xs : List ℕ) (n : NoneHolds (add_refusals b c i xs)) where
    pub add_there : There b c i
    unfolding add_refusals
    add_there = there b c i (extend_refusals (entry_for b c i) xs) n.1

    none-load : NoneHolds (extend_refusals (entry_for b c i) xs)
    unfolding add_refusals
    none-load = (none_right (book_refusals b c i) ((not (has_entry b c i), NoEntry) ∷ extend_refusals (entry_for b c i) xs) n.1).1

    pub add_not-ready : is_ready (entry_for b c i) ≡ false
    unfolding extend_refusals
    add_not-ready = none-load.0

    pub add_fits : length xs ≤ lacks (entry_for b c i)
    unfolding extend_refusals
    add_fits = ltb-false _ _ none-load.1.0

    pub add_changed : Changed b (with_for b c i (extended (entry_for b c i) xs)) (find_entry b c i) (extended (entry_for b c i) xs)
    add_changed =
        let t = add_there in
        let e = entry_for b c i in
        same_parts b c i (extended e xs) t (extend_length e xs t.long t.right add_fits)
        (extend_used e xs t.long t.right add_fits add_not-ready)
        (extend_cipher e xs t.long t.right add_fits) (extend_id e xs t.long t.right add_fits)

  module _ (n : NoneHolds (finish_refusals b c i)) where
    pub finish_there : There b c i
    unfolding finish_refusals
    finish_there = there b c i (complete_refusals (entry_for b c i)) n

    none-complete : NoneHolds (complete_refusals (entry_for b c i))
    unfolding finish_refusals
    none-complete = (none_right (book_refusals b c i) ((not (has_entry b c i), NoEntry) ∷ complete_refusals (entry_for b c i)) n).1

    pub finish_not-ready : is_ready (entry_for b c i) ≡ false
    unfolding complete_refusals
    finish_not-ready = none-complete.0

    pub finish_whole : lacks (entry_for b c i) ≡ 0
    unfolding complete_refusals
    finish_whole = let l : lacks (entry_for b c i) ≤ 0 = ltb-false _ _ none-complete.1.0 in omega arith

    pub finish_allowed : key_allowed (cipher_in (entry_for b c i)) (key_in (entry_for b c i)) ≡ true
    unfolding complete_refusals
    finish_allowed = not-false _ none-complete.1.1.0

    pub finish_changed : Changed b (with_for b c i (completed (entry_for b c i))) (find_entry b c i) (completed (entry_for b c i))
    finish_changed =
        let t = finish_there in
        let e = entry_for b c i in
        same_parts b c i (completed e) t (complete_length e t.long) (complete_used e t.long t.right finish_whole finish_allowed)
        (complete_cipher e t.long) (complete_id e t.long)

  module _ (n : NoneHolds (entry_refusals b c i)) where
    pub entry_there : There b c i
    unfolding entry_refusals
    entry_there = there b c i [] n

    pub erase_changed : Changed b (with_for b c i blank) (find_entry b c i) blank
    erase_changed =
        let t = entry_there in
        record {
          is = refl;
          was_good = t.was_good;
          below = t.below;
          long = blank-length;
          good = good_with b (find_entry b c i) blank (good_sized b t.was_good) t.below blank-length t.was_good blank-right
              (λ j m d u. absurd (u blank-cipher));
        }

-- ---- a key that is handed out

pub record Handed (b : List ℕ) (c i : ℕ) (k : List ℕ) : Type 0 where
  pub from : There b c i
  pub ready : is_ready (entry_for b c i) ≡ true
  pub is : k ≡ key_in (entry_for b c i)

pub handed : (b : List ℕ) (c i : ℕ) (k : List ℕ) → ready_key_of b c i ≡ (Done, k) → Handed b c i k
unfolding ready_key_of ready_refusals not_ready
handed b c i k q =
    let rest = not_ready (entry_for b c i) in
    let n = done_none (ready_refusals b c i) no_key (key_in (entry_for b c i)) (ready-never_done b c i) (ap (λ (o : Answer × List ℕ). is_done o.0) q) in
    record {
      from = there b c i rest n;
      ready = not-false _ (none_right (book_refusals b c i) ((not (has_entry b c i), NoEntry) ∷ rest) n).1.0;
      is = ap (λ (o : Answer × List ℕ). o.1) (sym q ∙ none_settles (ready_refusals b c i) no_key (Done, key_in (entry_for b c i)) n);
    }
