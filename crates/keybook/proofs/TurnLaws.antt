-- Over every list of key operations on an all-zero book: one out of its turn is refused, and a begin in its turn, in range and with a name, is done where an
-- entry is free. And, of every book, a used entry stays its key's until that is erased.
use Prim.Native.Nat.{ℕ, ◌≤◌, ◌<◌}
use native.Mathlib.Decide.{ℕ_discrete, dec_lt}
use native.Mathlib.Omega.{arith}
use mathlib.Core.Path.{◌≡◌, refl, sym, ap, ◌∙◌}
use mathlib.Core.Bool.{Bool, true, false, true≢false}
use mathlib.Core.List.{List}
use borrow.Author.Tests.{eq-eqb, ltb-false, le-ltb}
use Rattle.answers.specs.declared.Answer.{Answer}
use Rattle.answers.specs.declared.Answer.TheVariants.{Done}
use Rattle.answers.specs.Numbers.{number_of}
use Rattle.answers.proofs.OutcomeLaws.{some_refuses, by_refusals}
use Rattle.keyentry.specs.Name.{IsName}
use Rattle.keyentry.specs.Entry.{cipher_in, id_in, is_ready, name_in, in_range, blank, extended, extend_refusals, completed, complete_refusals}
use Rattle.keyentry.proofs.RightLaws.{for_parts}
use Rattle.keyentry.proofs.WriteLaws.{key_loaded, in_range_used, extend_cipher, extend_id, complete_cipher, complete_id}
use Rattle.keybook.specs.Book.{entries, entry_of, with_entry, find_entry, free_entry, book_refusals}
use Rattle.keybook.specs.Operations.{has_entry, entry_for, with_for, begin_refusals, begin_after, begin_of, add_refusals, add_of, finish_refusals, finish_of, entry_refusals, erase_of}
use Rattle.keybook.specs.History.{Operation, Begin, Add, Finish, Erase, Progress, nothing, loading, finished, telling, told_for, in_turn, erases, step, book_after, history}
use Rattle.keybook.proofs.GoodLaws.{good_sized, found_for, none_for, entry_same, entry_other}
use Rattle.keybook.proofs.FindLaws.{find_none, none_there}
use Rattle.keybook.proofs.DoneLaws.{Changed, begin_changed, add_there, add_not-ready, add_fits, add_changed, finish_there, finish_not-ready, finish_changed, entry_there, erase_changed}
use Rattle.keybook.proofs.Laws.{first_free, some_free, begin_done_at-first_free}
use Rattle.keybook.proofs.HoldLaws.{always_good, held_nothing, held-loading, held-finished, holds_what_was_told}

-- ---- in turn and out of it

module _ (os : List Operation) (c i : ℕ) where
  abbrev b : List ℕ
  b = book_after os

  none_told : entries ≤ find_entry b c i → telling (history os) c i ≡ nothing
  none_told l =
      let none = none_there b c i (good_sized b (always_good os)) (find_none b c i (none_for b c i l)) in
      sym (holds_what_was_told os c i) ∙ held_nothing (entry_for b c i) (ap cipher_in none)

  loading-told : (cipher_in (entry_for b c i) ≡ 0 → ⊥) → is_ready (entry_for b c i) ≡ false
      → telling (history os) c i ≡ loading (name_in (entry_for b c i)) (key_loaded (entry_for b c i))
  loading-told u r = sym (holds_what_was_told os c i) ∙ held-loading (entry_for b c i) u r

  used-told : (cipher_in (entry_for b c i) ≡ 0 → ⊥) → telling (history os) c i ≡ nothing → ⊥
  used-told u e = go (is_ready (entry_for b c i)) refl
    where
      go : (t : Bool) → is_ready (entry_for b c i) ≡ t → ⊥
      go true r = let h = held-finished (entry_for b c i) u r in let n = holds_what_was_told os c i ∙ e in let z : ◌≡◌ {A = ℕ} 0 1 = cc (h, n) in omega arith
      go false r = let h = loading-told u r in let z : ◌≡◌ {A = ℕ} 0 1 = cc (h, e) in omega arith

  -- a begin in its turn, in range and with a name, is done where an entry is free
  pub begun_in_turn : (n : List ℕ) → IsName n → in_range c i ≡ true → telling (history os) c i ≡ nothing → (k : ℕ) → k < entries → cipher_in (entry_of b k) ≡ 0
      → (begin_of b c i n).0 ≡ Done
  begun_in_turn n named r e k l z =
      ap (λ (o : Answer × List ℕ). o.0)
      (begin_done_at-first_free b c i n named (always_good os) r (absent (dec_lt (find_entry b c i) entries)) (free_entry b) (first_free b (some_free b k l z)))
    where
      absent : Dec (find_entry b c i < entries) → has_entry b c i ≡ false
      absent (yes m) =
          let p = (for_parts (entry_for b c i) c i (found_for b c i m)).0 in
          absurd (used-told (λ q. in_range_used c i r (sym p ∙ q)) e)
      absent (no m) = le-ltb (find_entry b c i) entries (omega arith)

erase_of_none : (c i : ℕ) (t : Progress) → in_turn (Erase c i) t ≡ false → t ≡ nothing
erase_of_none c i nothing f = refl
erase_of_none c i (loading m xs) f = absurd (true≢false f)
erase_of_none c i (finished m xs) f = absurd (true≢false f)

pub out_of_turn : (os : List Operation) (o : Operation) → in_turn o (told_for o (history os)) ≡ false → 2 ≤ number_of (step o (book_after os)).0
unfolding step begin_of add_of finish_of erase_of begin_refusals add_refusals finish_refusals entry_refusals book_refusals extend_refusals complete_refusals
out_of_turn os (Begin c i n) f =
    let b = book_after os in
    (some_refuses b (begin_refusals b c i n) (Done, begin_after b c i n) refl
    (λ none. true≢false (sym (ap (in_turn (Begin c i n)) (none_told os c i (ltb-false _ _ none.1.1.1.1.1.0))) ∙ f))).0
out_of_turn os (Add c i xs) f =
    let b = book_after os in
    (some_refuses b (add_refusals b c i xs) (Done, with_for b c i (extended (entry_for b c i) xs)) refl
    (λ none. true≢false (sym (ap (in_turn (Add c i xs)) (loading-told os c i (add_there b c i xs none).used (add_not-ready b c i xs none))) ∙ f))).0
out_of_turn os (Finish c i) f =
    let b = book_after os in
    (some_refuses b (finish_refusals b c i) (Done, with_for b c i (completed (entry_for b c i))) refl
    (λ none. true≢false (sym (ap (in_turn (Finish c i)) (loading-told os c i (finish_there b c i none).used (finish_not-ready b c i none))) ∙ f))).0
out_of_turn os (Erase c i) f =
    let b = book_after os in
    (some_refuses b (entry_refusals b c i) (Done, with_for b c i blank) refl (λ none. used-told os c i (entry_there b c i none).used (erase_of_none c i _ f))).0

-- ---- a used entry stays its key's

module _ (b : List ℕ) (k : ℕ) (l : k < entries) (u : cipher_in (entry_of b k) ≡ 0 → ⊥) where
  abbrev Its : List ℕ → Type 0
  Its e = (cipher_in e ≡ cipher_in (entry_of b k)) × (id_in e ≡ id_in (entry_of b k))

  changed-stays : {after e : List ℕ} {j : ℕ} → Changed b after j e → (k ≡ j → Its e) → Its (entry_of after k)
  changed-stays {after} {e} {j} ch same = go (ℕ_discrete k j)
    where
      go : Dec (k ≡ j) → Its (entry_of after k)
      go (yes q) =
          let is = ap (λ (x : List ℕ). entry_of x k) ch.is ∙ ap (entry_of (with_entry b j e)) q ∙ entry_same b j e (good_sized b ch.was_good) ch.below ch.long in
          (ap cipher_in is ∙ (same q).0, ap id_in is ∙ (same q).1)
      go (no q) =
          let is = ap (λ (x : List ℕ). entry_of x k) ch.is ∙ entry_other b j e (good_sized b ch.was_good) ch.below ch.long k l q in
          (ap cipher_in is, ap id_in is)

  pub stays_put : (o : Operation) → erases (cipher_in (entry_of b k)) (id_in (entry_of b k)) o ≡ false → Its (entry_of (step o b).1 k)
  unfolding step begin_of add_of finish_of erase_of
  stays_put (Begin c i n) f =
      by_refusals (λ o. Its (entry_of o.1 k)) b (begin_refusals b c i n) (Done, begin_after b c i n) (λ a m. (refl, refl))
      (λ none.
      let ch = begin_changed b c i n none in
      changed-stays ch (λ q. absurd (u (ap (λ (j : ℕ). cipher_in (entry_of b j)) q ∙ (first_free b ch.below).free))))
  stays_put (Add c i xs) f =
      let e = entry_for b c i in
      by_refusals (λ o. Its (entry_of o.1 k)) b (add_refusals b c i xs) (Done, with_for b c i (extended e xs)) (λ a m. (refl, refl))
      (λ none.
      let t = add_there b c i xs none in
      let fits = add_fits b c i xs none in
      changed-stays (add_changed b c i xs none) (λ q. (
        extend_cipher e xs t.long t.right fits ∙ ap (λ (j : ℕ). cipher_in (entry_of b j)) (sym q),
        extend_id e xs t.long t.right fits ∙ ap (λ (j : ℕ). id_in (entry_of b j)) (sym q),
      )))
  stays_put (Finish c i) f =
      let e = entry_for b c i in
      by_refusals (λ o. Its (entry_of o.1 k)) b (finish_refusals b c i) (Done, with_for b c i (completed e)) (λ a m. (refl, refl))
      (λ none.
      let t = finish_there b c i none in
      changed-stays (finish_changed b c i none) (λ q. (
        complete_cipher e t.long ∙ ap (λ (j : ℕ). cipher_in (entry_of b j)) (sym q),
        complete_id e t.long ∙ ap (λ (j : ℕ). id_in (entry_of b j)) (sym q),
      )))
  stays_put (Erase c i) f =
      by_refusals (λ o. Its (entry_of o.1 k)) b (entry_refusals b c i) (Done, with_for b c i blank) (λ a m. (refl, refl))
      (λ none.
      let t = entry_there b c i none in
      changed-stays (erase_changed b c i none) (λ q.
      let p : c ≡ cipher_in (entry_of b k) = sym (ap (λ (j : ℕ). cipher_in (entry_of b j)) q ∙ t.cipher) in
      let r : i ≡ id_in (entry_of b k) = sym (ap (λ (j : ℕ). id_in (entry_of b j)) q ∙ t.id) in
      absurd (true≢false (rw (eq-eqb _ _ p, eq-eqb _ _ r) at f))))
