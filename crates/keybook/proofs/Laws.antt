-- The laws of the key book, operation by operation.
use Prim.Native.Nat.{ℕ, ◌<◌}
use native.Mathlib.Decide.{dec_lt}
use native.Mathlib.Omega.{arith}
use mathlib.Core.Path.{◌≡◌, sym, ap, ap₂, ◌∙◌}
use mathlib.Core.Bool.{Bool, true, false, not, true≢false}
use mathlib.Core.List.{List, [], ◌∷◌}
use lib.ListN.{length}
use lib.Dec.{eqb}
use borrow.Author.Tests.{lt-ltb, le-ltb, eq-eqb, ne_eqb, eqb-false, eqb-true}
use Rattle.octets.specs.Tests.{first_below}
use Rattle.octets.proofs.TestLaws.{first-is, first_holds, first-all, first-before}
use Rattle.answers.specs.declared.Answer.{Answer}
use Rattle.answers.specs.declared.Answer.TheVariants.{Done, NoEntry}
use Rattle.answers.specs.Numbers.{is_done}
use Rattle.answers.specs.Outcomes.{Refusals, outcome, result_of}
use Rattle.answers.proofs.OutcomeLaws.{NoneHolds, none_left, done_none, none_settles, by_refusals, refusal_keeps, one-outcome}
use Rattle.sizes.specs.Ciphers.{key_octets, key_room}
use Rattle.ciphers.specs.Keys.{key_allowed, key_right}
use Rattle.keyentry.specs.Name.{IsName}
use Rattle.keyentry.specs.Entry.{cipher_in, count_in, key_in, in_range, blank, new_entry, extended, completed}
use Rattle.keyentry.proofs.RightLaws.{not_for}
use Rattle.keyentry.proofs.NameLaws.{name_is_long, name_is-right}
use Rattle.keyentry.proofs.WriteLaws.{in_range_used, key-length, ready-whole, blank-length, blank-cipher}
use Rattle.keybook.specs.Book.{entries, entry_of, with_entry, good_book, find_entry, free_entry, book_refusals}
use Rattle.keybook.specs.Operations.{has_entry, entry_for, with_for, begin_refusals, begin_after, begin_of, add_refusals, add_of, finish_refusals, finish_of, entry_refusals, erase_of, load_of, no_key, ready_refusals, ready_key_of}
use Rattle.std.specs.Prelude.{Result}
use Rattle.keybook.proofs.GoodLaws.{good_sized, found_for, entry_same}
use Rattle.keybook.proofs.FindLaws.{gone}
use Rattle.keybook.proofs.OperationLaws.{in_range_by}
use Rattle.keybook.proofs.DoneLaws.{Changed, handed, begin_never_done, entry_never_done, entry_there, begin_changed, add_changed, finish_changed, erase_changed}

-- ---- a refusal leaves the book as it was, and hands out no key

-- any answer but done
abbrev pub Refuses : Answer × List ℕ → Type 0
Refuses o = o.0 ≡ Done → ⊥

module _ (b : List ℕ) (c i : ℕ) where
  pub refused_begin_keeps : (name : List ℕ) → Refuses (begin_of b c i name) → (begin_of b c i name).1 ≡ b
  unfolding begin_of
  refused_begin_keeps name = refusal_keeps b (begin_refusals b c i name) (Done, begin_after b c i name)

  pub refused_add_keeps : (xs : List ℕ) → Refuses (add_of b c i xs) → (add_of b c i xs).1 ≡ b
  unfolding add_of
  refused_add_keeps xs = refusal_keeps b (add_refusals b c i xs) (Done, with_for b c i (extended (entry_for b c i) xs))

  pub refused_finish_keeps : Refuses (finish_of b c i) → (finish_of b c i).1 ≡ b
  unfolding finish_of
  refused_finish_keeps = refusal_keeps b (finish_refusals b c i) (Done, with_for b c i (completed (entry_for b c i)))

  pub refused_erase_keeps : Refuses (erase_of b c i) → (erase_of b c i).1 ≡ b
  unfolding erase_of
  refused_erase_keeps = refusal_keeps b (entry_refusals b c i) (Done, with_for b c i blank)

  pub refused_ready_no_key : Refuses (ready_key_of b c i) → (ready_key_of b c i).1 ≡ no_key
  unfolding ready_key_of
  refused_ready_no_key = refusal_keeps no_key (ready_refusals b c i) (Done, key_in (entry_for b c i))

-- ---- a good book stays good

-- where each refusal leaves a good book, and what is done changes one entry of it
stays_good : (b : List ℕ) (rs : Refusals) (after : List ℕ) {k : ℕ} {e : List ℕ} → good_book b ≡ true → (NoneHolds rs → Changed b after k e)
    → good_book (outcome b rs after).1 ≡ true
stays_good b rs after g ch =
    by_refusals (λ o. good_book o.1 ≡ true) b rs (Done, after) (λ a m. g) (λ n. let d = ch n in ap good_book d.is ∙ d.good)

module _ (b : List ℕ) (g : good_book b ≡ true) (c i : ℕ) where
  pub begin_stays_good : (name : List ℕ) → good_book (begin_of b c i name).1 ≡ true
  unfolding begin_of
  begin_stays_good name = stays_good b (begin_refusals b c i name) (begin_after b c i name) g (begin_changed b c i name)

  pub add_stays_good : (xs : List ℕ) → good_book (add_of b c i xs).1 ≡ true
  unfolding add_of
  add_stays_good xs = stays_good b (add_refusals b c i xs) (with_for b c i (extended (entry_for b c i) xs)) g (add_changed b c i xs)

  pub finish_stays_good : good_book (finish_of b c i).1 ≡ true
  unfolding finish_of
  finish_stays_good = stays_good b (finish_refusals b c i) (with_for b c i (completed (entry_for b c i))) g (finish_changed b c i)

  pub erase_stays_good : good_book (erase_of b c i).1 ≡ true
  unfolding erase_of
  erase_stays_good = stays_good b (entry_refusals b c i) (with_for b c i blank) g (erase_changed b c i)

-- ---- begin takes the free entry nearest the start

-- entry k is free, and none before it is
pub record FirstFree (b : List ℕ) (k : ℕ) : Type 0 where
  pub below : k < entries
  pub free : cipher_in (entry_of b k) ≡ 0
  pub first : (j : ℕ) → j < k → cipher_in (entry_of b j) ≡ 0 → ⊥

abbrev free_at : List ℕ → ℕ → Bool
free_at b k = eqb (cipher_in (entry_of b k)) 0

pub first_free : (b : List ℕ) → free_entry b < entries → FirstFree b (free_entry b)
unfolding free_entry
first_free b l =
    record {
      below = l;
      free = eqb-true _ _ (first_holds (free_at b) entries l);
      first = λ j m. eqb-false _ _ (first-before (free_at b) entries j m);
    }

first_free_is : (b : List ℕ) (k : ℕ) → FirstFree b k → free_entry b ≡ k
unfolding free_entry
first_free_is b k f = first-is (free_at b) entries k f.below (λ j l. ne_eqb _ _ (f.first j l)) (eq-eqb _ _ f.free)

pub some_free : (b : List ℕ) (k : ℕ) → k < entries → cipher_in (entry_of b k) ≡ 0 → free_entry b < entries
unfolding free_entry
some_free b k l z = go (dec_lt (free_entry b) entries)
  where
    go : Dec (free_entry b < entries) → first_below (free_at b) entries < entries
    go (yes m) = m
    go (no n) = absurd (true≢false (sym (eq-eqb _ _ z) ∙ first-all (free_at b) entries (omega arith) k l))

module _ (b : List ℕ) (c i : ℕ) (name : List ℕ) where
  -- where begin is done
  pub begin_takes_first_free : (begin_of b c i name).0 ≡ Done → FirstFree b (free_entry b) × ((begin_of b c i name).1 ≡ with_entry b (free_entry b) (new_entry c i name))
  unfolding begin_of
  begin_takes_first_free d =
      let n = done_none (begin_refusals b c i name) b (begin_after b c i name) (begin_never_done b c i name) (ap is_done d) in
      let ch = begin_changed b c i name n in
      (first_free b ch.below, ap (λ (o : Answer × List ℕ). o.1) (none_settles (begin_refusals b c i name) b (Done, begin_after b c i name) n) ∙ ch.is)

  -- and it is, where the name is right, and the book is good and has a free entry and none for the cipher and key ID: whatever names its entries have
  pub begin_done_at-first_free : IsName name → good_book b ≡ true → in_range c i ≡ true → has_entry b c i ≡ false → (k : ℕ) → FirstFree b k
      → begin_of b c i name ≡ (Done, with_entry b k (new_entry c i name))
  unfolding begin_of begin_refusals begin_after
  begin_done_at-first_free m g n h k f =
      let z = first_free_is b k f in
      rw (eq-eqb _ _ (name_is_long name m), eq-eqb _ _ (good_sized b g), n, name_is-right name m, g, h, z, lt-ltb _ _ f.below)

-- ---- erase gives the entry back, and begin uses it again

module _ (b : List ℕ) (c i : ℕ) (d : (erase_of b c i).0 ≡ Done) where
  abbrev erased : List ℕ
  erased = (erase_of b c i).1

  none-erases : NoneHolds (entry_refusals b c i)
  unfolding erase_of
  none-erases = done_none (entry_refusals b c i) b (with_for b c i blank) (entry_never_done b c i) (ap is_done d)

  changed : Changed b (with_for b c i blank) (find_entry b c i) blank
  changed = erase_changed b c i none-erases

  erased-is : erased ≡ with_for b c i blank
  unfolding erase_of
  erased-is = ap (λ (o : Answer × List ℕ). o.1) (none_settles (entry_refusals b c i) b (Done, with_for b c i blank) none-erases)

  erased-good : good_book erased ≡ true
  erased-good = ap good_book erased-is ∙ changed.good

  -- its entry is all zero
  pub erase_frees_entry : entry_of erased (find_entry b c i) ≡ blank
  erase_frees_entry =
      ap (λ (x : List ℕ). entry_of x (find_entry b c i)) erased-is
      ∙ entry_same b (find_entry b c i) blank (good_sized b changed.was_good) changed.below blank-length

  -- a begin for another cipher and key ID takes it where it is the first free one
  pub begin_uses_erased : FirstFree erased (find_entry b c i) → (c' i' : ℕ) (name : List ℕ) → IsName name → in_range c' i' ≡ true → has_entry erased c' i' ≡ false
      → begin_of erased c' i' name ≡ (Done, with_entry erased (find_entry b c i) (new_entry c' i' name))
  begin_uses_erased f c' i' name m n h = begin_done_at-first_free erased c' i' name m erased-good n h (find_entry b c i) f

  erase-in-range : in_range c i ≡ true
  unfolding entry_refusals
  erase-in-range = in_range_by b c i (none_left (book_refusals b c i) ((not (has_entry b c i), NoEntry) ∷ []) none-erases)

  -- and a begin for the same is done
  pub begin_after_erase : (name : List ℕ) → IsName name → (begin_of erased c i name).0 ≡ Done
  begin_after_erase name m =
      let t = entry_there b c i none-erases in
      let n = erase-in-range in
      let u = in_range_used c i n in
      let z : find_entry erased c i ≡ entries =
      ap (λ (x : List ℕ). find_entry x c i) erased-is
      ∙ gone b (find_entry b c i) blank changed c i u (not_for blank c i (λ p q. u (sym p ∙ blank-cipher))) (found_for b c i t.below) in
      let h : has_entry erased c i ≡ false = le-ltb (find_entry erased c i) entries (omega arith) in
      let f = some_free erased (find_entry b c i) t.below (ap cipher_in erase_frees_entry ∙ blank-cipher) in
      ap (λ (o : Answer × List ℕ). o.0) (begin_done_at-first_free erased c i name m erased-good n h (free_entry erased) (first_free erased f))

-- ---- a key that is handed out is whole and allowed, with nothing past its length, of whatever book

pub ready-key-is-right : (b : List ℕ) (c i : ℕ) (k : List ℕ) → ready_key_of b c i ≡ (Done, k) → (length k ≡ key_room) × (key_right c k ≡ true)
unfolding key_right
ready-key-is-right b c i k q =
    let d = handed b c i k q in
    let t = d.from in
    let e = entry_for b c i in
    let w = ready-whole e t.right d.ready in
    let n : key_octets c ≡ count_in e = ap key_octets (sym t.cipher) ∙ sym w.full in
    let allowed : key_allowed c k ≡ true = ap₂ key_allowed (sym t.cipher) d.is ∙ w.allowed in
    (ap length d.is ∙ key-length e t.long, rw (allowed, n, d.is) t.right.rest)

-- ---- any two outcomes that meet an operation's statement are equal

module _ (b : List ℕ) (c i : ℕ) (a a' : Answer) (x y : List ℕ) where
  pub one_begin : (name : List ℕ) → (a, x) ≡ begin_of b c i name → (a', y) ≡ begin_of b c i name → (a ≡ a') × (x ≡ y)
  one_begin name = one-outcome a a' x y

  pub one_add : (xs : List ℕ) → (a, x) ≡ add_of b c i xs → (a', y) ≡ add_of b c i xs → (a ≡ a') × (x ≡ y)
  one_add xs = one-outcome a a' x y

  pub one_finish : (a, x) ≡ finish_of b c i → (a', y) ≡ finish_of b c i → (a ≡ a') × (x ≡ y)
  one_finish = one-outcome a a' x y

  pub one_erase : (a, x) ≡ erase_of b c i → (a', y) ≡ erase_of b c i → (a ≡ a') × (x ≡ y)
  one_erase = one-outcome a a' x y

  pub one_load : (name key : List ℕ) → (a, x) ≡ load_of b c i name key → (a', y) ≡ load_of b c i name key → (a ≡ a') × (x ≡ y)
  one_load name key = one-outcome a a' x y

pub one-ready-key : (b : List ℕ) (c i : ℕ) (r s : Result (List ℕ) Answer) → r ≡ result_of (ready_key_of b c i) → s ≡ result_of (ready_key_of b c i) → r ≡ s
one-ready-key b c i r s p q = p ∙ sym q
