-- A key whose loading is given up leaves the book as it was before its begin.
use Prim.Native.Nat.{ℕ, ◌+◌, ◌*◌, ◌<◌}
use native.Mathlib.Omega.{arith}
use mathlib.Core.Path.{◌≡◌, sym, ap, ◌∙◌}
use mathlib.Core.Bool.{true}
use mathlib.Core.List.{List, ◌++◌, append_assoc}
use lib.ListN.{length, take, drop, length-append}
use lib.Seq.{take_at, drop_at, length-take-le, ext_get_or}
use borrow.Author.Tests.{lt-ltb, eq-eqb}
use Rattle.octets.specs.Lists.{replaced}
use Rattle.answers.specs.declared.Answer.{Answer}
use Rattle.answers.specs.declared.Answer.TheVariants.{Done}
use Rattle.answers.specs.Numbers.{is_done}
use Rattle.answers.proofs.OutcomeLaws.{NoneHolds, done_none, none_settles}
use Rattle.keyentry.specs.Entry.{entry_octets, cipher_in, is_ready, name_in, in_range, is_for, blank, new_entry, extended, completed}
use Rattle.keyentry.proofs.RightLaws.{free_zero, parts_for}
use Rattle.keyentry.proofs.WriteLaws.{in_range_used, blank-length, blank-cipher, blank-right, new_cipher, new_id, new_name, extend_cipher, extend_id, extend_name, complete_name, complete_cipher, complete_id, complete_ready}
use Rattle.keybook.specs.Book.{entries, book_octets, entry_of, with_entry, good_book, find_entry, free_entry, book_refusals}
use Rattle.keybook.specs.Operations.{entry_for, with_for, begin_refusals, begin_after, begin_of, add_refusals, add_of, finish_refusals, finish_of, entry_refusals, erase_of}
use Rattle.keybook.proofs.BookLaws.{entry_length}
use Rattle.keybook.proofs.GoodLaws.{good_sized, good_entry, find_is, entry_same, entry_other}
use Rattle.keybook.proofs.OperationLaws.{with_same}
use Rattle.keybook.proofs.DoneLaws.{Changed, begin_never_done, add_never_done, finish_never_done, begin_named, begin_in_range, begin_changed, add_there, add_fits, add_changed, finish_there, finish_changed}
use Rattle.keybook.proofs.Laws.{begin_takes_first_free}

-- an entry replaced twice is replaced once
with_again : (b : List ℕ) (k : ℕ) (e f : List ℕ) → length b ≡ book_octets → k < entries → length e ≡ entry_octets → with_entry (with_entry b k e) k f ≡ with_entry b k f
unfolding with_entry replaced
with_again b k e f h l w =
    let a = k * entry_octets in
    let front : length (take a b) ≡ a = length-take-le a b (omega arith) in
    let both : length (take a b ++ e) ≡ a + entry_octets = length-append (take a b) e ∙ omega arith in
    let rest = drop (a + entry_octets) b in
    let past : drop (a + entry_octets) (take a b ++ (e ++ rest)) ≡ rest =
    ap (drop (a + entry_octets)) (sym (append_assoc (take a b) e rest)) ∙ drop_at (take a b ++ e) rest (a + entry_octets) both in
    rw (take_at (take a b) (e ++ rest) a front, past)

-- a free entry of a good book is blank
pub free_blank : (b : List ℕ) (k : ℕ) → good_book b ≡ true → k < entries → cipher_in (entry_of b k) ≡ 0 → entry_of b k ≡ blank
free_blank b k g l z =
    ext_get_or 0 (entry_of b k) blank (entry_length b k (good_sized b g) l ∙ sym blank-length)
    (λ j m. free_zero (entry_of b k) z (good_entry b g k l) j ∙ sym (free_zero blank blank-cipher blank-right j))

-- the book is b but for entry k, which was free and is now e, for cipher c and key ID i
pub record Begun (b : List ℕ) (c i k : ℕ) (e after : List ℕ) : Type 0 where
  pub changed : Changed b after k e
  pub free : cipher_in (entry_of b k) ≡ 0
  pub its : is_for c i e ≡ true
  pub in_range_lem : in_range c i ≡ true

-- it is found, and erasing it gives b back
module _ {b : List ℕ} {c i k : ℕ} {e after : List ℕ} (m : Begun b c i k e after) where
  sized : length b ≡ book_octets
  sized = good_sized b m.changed.was_good

  pub begun-good : good_book after ≡ true
  begun-good = ap good_book m.changed.is ∙ m.changed.good

  pub begun_entry : entry_of after k ≡ e
  begun_entry = ap (λ (x : List ℕ). entry_of x k) m.changed.is ∙ entry_same b k e sized m.changed.below m.changed.long

  pub begun_other : (j : ℕ) → j < entries → (j ≡ k → ⊥) → entry_of after j ≡ entry_of b j
  begun_other j l n = ap (λ (x : List ℕ). entry_of x j) m.changed.is ∙ entry_other b k e sized m.changed.below m.changed.long j l n

  pub begun-found : find_entry after c i ≡ k
  begun-found = find_is after begun-good c i k m.changed.below (in_range_used c i m.in_range_lem) (ap (is_for c i) begun_entry ∙ m.its)

  pub begun_for : entry_for after c i ≡ e
  begun_for = ap (entry_of after) begun-found ∙ begun_entry

  pub add_keeps_name : (xs : List ℕ) → is_done (add_of after c i xs).0 ≡ true → name_in (extended (entry_for after c i) xs) ≡ name_in e
  unfolding add_of
  add_keeps_name xs d =
      let x = entry_for after c i in
      let n = done_none (add_refusals after c i xs) after (with_for after c i (extended x xs)) (add_never_done after c i xs) d in
      let t = add_there after c i xs n in
      extend_name x xs t.long t.right (add_fits after c i xs n) ∙ ap name_in begun_for

  pub finish_keeps_name : name_in (completed (entry_for after c i)) ≡ name_in e
  finish_keeps_name = complete_name (entry_for after c i) (ap length begun_for ∙ m.changed.long) ∙ ap name_in begun_for

  undone : with_entry after k blank ≡ b
  undone =
      ap (λ (x : List ℕ). with_entry x k blank) m.changed.is ∙ with_again b k e blank sized m.changed.below m.changed.long
      ∙ ap (with_entry b k) (sym (free_blank b k m.changed.was_good m.changed.below m.free)) ∙ with_same b k

  pub begun-erased : erase_of after c i ≡ (Done, b)
  unfolding erase_of entry_refusals book_refusals
  begun-erased = rw (eq-eqb _ _ (good_sized after begun-good), m.in_range_lem, begun-good, begun-found, lt-ltb _ _ m.changed.below, undone)

  -- with another entry for the same in its place
  begun-again : (f now : List ℕ) → Changed after now (find_entry after c i) f → is_for c i f ≡ true → Begun b c i k f now
  begun-again f now ch its =
      let once : with_entry after k f ≡ with_entry b k f =
      ap (λ (x : List ℕ). with_entry x k f) m.changed.is ∙ with_again b k e f sized m.changed.below m.changed.long in
      let is : with_entry after (find_entry after c i) f ≡ with_entry b k f = ap (λ (j : ℕ). with_entry after j f) begun-found ∙ once in
      record {
        changed = record {
          is = ch.is ∙ is;
          was_good = m.changed.was_good;
          below = m.changed.below;
          long = ch.long;
          good = ap good_book (sym is) ∙ ch.good;
        };
        free = m.free;
        its = its;
        in_range_lem = m.in_range_lem;
      }

  pub begun_add : (xs : List ℕ) → is_done (add_of after c i xs).0 ≡ true → Begun b c i k (extended (entry_for after c i) xs) (add_of after c i xs).1
  unfolding add_of
  begun_add xs d =
      let x = entry_for after c i in
      let n = done_none (add_refusals after c i xs) after (with_for after c i (extended x xs)) (add_never_done after c i xs) d in
      let t = add_there after c i xs n in
      let l = add_fits after c i xs n in
      rw (none_settles (add_refusals after c i xs) after (Done, with_for after c i (extended x xs)) n)
      (begun-again (extended x xs) (with_for after c i (extended x xs)) (add_changed after c i xs n)
      (parts_for (extended x xs) c i (extend_cipher x xs t.long t.right l ∙ t.cipher) (extend_id x xs t.long t.right l ∙ t.id)))

  module _ (d : is_done (finish_of after c i).0 ≡ true) where
    none-finishes : NoneHolds (finish_refusals after c i)
    unfolding finish_of
    none-finishes = done_none (finish_refusals after c i) after (with_for after c i (completed (entry_for after c i))) (finish_never_done after c i) d

    pub begun_finish : Begun b c i k (completed (entry_for after c i)) (finish_of after c i).1
    unfolding finish_of
    begun_finish =
        let x = entry_for after c i in
        let t = finish_there after c i none-finishes in
        rw (none_settles (finish_refusals after c i) after (Done, with_for after c i (completed x)) none-finishes)
        (begun-again (completed x) (with_for after c i (completed x)) (finish_changed after c i none-finishes)
        (parts_for (completed x) c i (complete_cipher x t.long ∙ t.cipher) (complete_id x t.long ∙ t.id)))

    pub finish_ready : is_ready (completed (entry_for after c i)) ≡ true
    finish_ready = complete_ready (entry_for after c i) (finish_there after c i none-finishes).long

pub begun_name : (b : List ℕ) (c i : ℕ) (name : List ℕ) → is_done (begin_of b c i name).0 ≡ true → name_in (new_entry c i name) ≡ name
unfolding begin_of
begun_name b c i name d =
    new_name c i name (begin_named b c i name (done_none (begin_refusals b c i name) b (begin_after b c i name) (begin_never_done b c i name) d))

pub begun_begin : (b : List ℕ) (c i : ℕ) (name : List ℕ) → is_done (begin_of b c i name).0 ≡ true
    → Begun b c i (free_entry b) (new_entry c i name) (begin_of b c i name).1
unfolding begin_of
begun_begin b c i name d =
    let rs = begin_refusals b c i name in
    let n = done_none rs b (begin_after b c i name) (begin_never_done b c i name) d in
    let ch = begin_changed b c i name n in
    let settled = none_settles rs b (Done, begin_after b c i name) n in
    let at : (begin_of b c i name).0 ≡ Done = ap (λ (o : Answer × List ℕ). o.0) settled in
    rw settled
    (record {
      changed = ch;
      free = (begin_takes_first_free b c i name at).0.free;
      its = parts_for (new_entry c i name) c i (new_cipher c i name) (new_id c i name);
      in_range_lem = begin_in_range b c i name n;
    })
