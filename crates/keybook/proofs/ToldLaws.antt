-- Over every list of key operations on an all-zero book: a name is the one that its begin gave, and the inventory shows what the history tells, of every
-- key that it tells of and of no other; and no key octet is seen in it.
use Prim.Native.Nat.{ℕ, ◌≤◌, ◌<◌}
use native.Mathlib.Decide.{ℕ_discrete, dec_lt}
use native.Mathlib.Omega.{arith}
use mathlib.Core.Path.{◌≡◌, refl, sym, ap, ◌∙◌}
use mathlib.Core.Bool.{Bool, true, false, not}
use mathlib.Core.List.{List}
use lib.ListN.{length, get_or}
use lib.Dec.{ltb}
use borrow.Author.Tests.{lt-ltb, le-ltb, eq-eqb}
use Rattle.octets.specs.Tests.{pick}
use Rattle.sizes.proofs.SizeLaws.{key-at-most}
use Rattle.answers.specs.declared.Answer.TheVariants.{Done, NoEntry}
use Rattle.keyentry.specs.Name.{no_name}
use Rattle.keyentry.specs.Entry.{entry_octets, cipher_in, id_in, count_in, name_in, is_ready, in_range, blank}
use Rattle.keyentry.proofs.RightLaws.{Used, used_of, for_parts, parts_for}
use Rattle.keyentry.proofs.WriteLaws.{key_loaded, loaded_count, in_range_used}
use Rattle.keybook.specs.declared.screen.Shown.{Shown}
use Rattle.keybook.specs.Book.{entries, entry_of, good_book, find_entry, book_refusals}
use Rattle.keybook.specs.Operations.{entry_for, entry_refusals}
use Rattle.keybook.specs.Screen.{name_of, shown, nothing_shown, inventory_of}
use Rattle.keybook.specs.History.{Operation, nothing, telling, book_after, history, name_told, shown_told, Told}
use Rattle.keybook.proofs.BookLaws.{entry_length}
use Rattle.keybook.proofs.GoodLaws.{good_sized, good_entry, find_is, found_for, none_for}
use Rattle.keybook.proofs.ScreenLaws.{list_done}
use Rattle.keybook.proofs.FindLaws.{find_none, none_there, used-found}
use Rattle.keybook.proofs.HoldLaws.{always_good, held, held_nothing, held-loading, held-finished, none-held, holds_what_was_told}
use Rattle.keybook.proofs.UndoLaws.{free_blank}

-- ---- what a free entry shows is zeros, and what a used one shows is what it holds

pub shown_free : shown blank ≡ nothing_shown
unfolding shown blank no_name
shown_free = refl

module _ (e : List ℕ) (n : cipher_in e ≡ 0 → ⊥) where
  name-held : (Done, name_in e) ≡ name_told (held e)
  name-held = go (is_ready e) refl
    where
      go : (t : Bool) → is_ready e ≡ t → (Done, name_in e) ≡ name_told (held e)
      go true r = rw (held-finished e n r)
      go false r = rw (held-loading e n r)

  shown-held : length e ≡ entry_octets → Used e → shown e ≡ shown_told (cipher_in e) (id_in e) (held e)
  unfolding shown
  shown-held w u = go (is_ready e) refl
    where
      count : length (key_loaded e) ≡ count_in e
      count = loaded_count e w (omega (arith, u.count, key-at-most (cipher_in e)))

      go : (t : Bool) → is_ready e ≡ t
          → ◌≡◌ {A = Shown} (record { cipher = cipher_in e; id = id_in e; loaded = count_in e; ready = is_ready e; name = name_in e })
          (shown_told (cipher_in e) (id_in e) (held e))
      go true r = rw (held-finished e n r, count, r)
      go false r = rw (held-loading e n r, count, r)

module _ (os : List Operation) where
  abbrev b : List ℕ
  b = book_after os

  good : good_book b ≡ true
  good = always_good os

  -- ---- the name

  pub name_is_told : (c i : ℕ) → in_range c i ≡ true → name_of b c i ≡ name_told (telling (history os) c i)
  unfolding name_of entry_refusals book_refusals
  name_is_told c i r = rw (eq-eqb _ _ (good_sized b good), r, good) (go (dec_lt (find_entry b c i) entries))
    where
      go : Dec (find_entry b c i < entries)
          → pick (not (ltb (find_entry b c i) entries)) (NoEntry, no_name) (Done, name_in (entry_for b c i)) ≡ name_told (telling (history os) c i)
      go (yes l) =
          let p = (for_parts (entry_for b c i) c i (found_for b c i l)).0 in
          rw (lt-ltb _ _ l) (name-held (entry_for b c i) (λ z. in_range_used c i r (sym p ∙ z)) ∙ ap name_told (holds_what_was_told os c i))
      go (no m) =
          let l : entries ≤ find_entry b c i = omega arith in
          let none = none_there b c i (good_sized b good) (find_none b c i (none_for b c i l)) in
          rw (le-ltb _ _ l) (sym (ap name_told (sym (holds_what_was_told os c i) ∙ held_nothing (entry_for b c i) (ap cipher_in none))))

  -- of a key that is handed out it is the one that its begin gave
  pub ready_name : (c i : ℕ) (k : List ℕ) → in_range c i ≡ true → (t : Told (history os) c i k) → name_of b c i ≡ (Done, t.name)
  ready_name c i k r t = name_is_told c i r ∙ ap name_told t.is-finished

  -- ---- the inventory

  -- entry k shows what is told of the cipher type and key ID that stand in it, and those of a free one are 0
  pub inventory_is_told : (k : ℕ) → k < entries
      → inventory_of b k ≡ (Done, shown_told (cipher_in (entry_of b k)) (id_in (entry_of b k)) (telling (history os) (cipher_in (entry_of b k)) (id_in (entry_of b k))))
  inventory_is_told k l = sym (list_done b k (good_sized b good) l good) ∙ ap (λ (s : Shown). (Done, s)) (go (ℕ_discrete (cipher_in e) 0))
    where
      e : List ℕ
      e = entry_of b k

      go : Dec (cipher_in e ≡ 0) → shown e ≡ shown_told (cipher_in e) (id_in e) (telling (history os) (cipher_in e) (id_in e))
      go (yes z) =
          let none = sym (holds_what_was_told os (cipher_in e) (id_in e)) ∙ ap (λ (c : ℕ). held (entry_for b c (id_in e))) z ∙ none-held b (id_in e) (good_sized b good) in
          ap shown (free_blank b k good l z) ∙ shown_free ∙ sym (ap (shown_told (cipher_in e) (id_in e)) none)
      go (no n) =
          let here = ap (entry_of b) (find_is b good (cipher_in e) (id_in e) k l n (parts_for e _ _ refl refl)) in
          shown-held e n (entry_length b k (good_sized b good) l) (used_of e n (good_entry b good k l))
          ∙ ap (shown_told (cipher_in e) (id_in e)) (ap held (sym here) ∙ holds_what_was_told os (cipher_in e) (id_in e))

  -- and what is told of stands in one of the 16
  pub told_is-listed : (c i : ℕ) → (telling (history os) c i ≡ nothing → ⊥)
      → (find_entry b c i < entries) × (inventory_of b (find_entry b c i) ≡ (Done, shown_told c i (telling (history os) c i)))
  told_is-listed c i t =
      let e = entry_for b c i in
      let n : cipher_in e ≡ 0 → ⊥ = λ z. t (sym (holds_what_was_told os c i) ∙ held_nothing e z) in
      let l = used-found b c i (good_sized b good) n in
      let p = for_parts e c i (found_for b c i l) in
      (l, rw (p.0, p.1) at (inventory_is_told (find_entry b c i) l))

-- two good books that differ in nothing of entry k but its key octets show the same
pub inventory_without_keys : (b d : List ℕ) (k : ℕ) → k < entries → good_book b ≡ true → good_book d ≡ true
    → ((j : ℕ) → j < 4 → get_or (entry_of b k) j 0 ≡ get_or (entry_of d k) j 0) → name_in (entry_of b k) ≡ name_in (entry_of d k) → inventory_of b k ≡ inventory_of d k
unfolding shown
inventory_without_keys b d k l g h f n =
    sym (list_done b k (good_sized b g) l g)
    ∙ rw (f 0 (omega arith), f 1 (omega arith), f 2 (omega arith), f 3 (omega arith), n) (list_done d k (good_sized d h) l h)
