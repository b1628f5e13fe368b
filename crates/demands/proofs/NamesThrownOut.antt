-- What names on keys throw out: a device that takes a bad name, or shows an entry that isn't there; one that takes no key, or gives none up; one that does a key
-- operation out of its turn, or finishes a key that isn't whole and allowed; one that hands out another name or shows an entry otherwise than it is; one whose begin
-- or erase is answered and not done; and one whose entries move.
use mathlib.Core.Path.{◌≡◌, refl, sym, ap, ap₂, ◌∙◌}
use mathlib.Core.Bool.{true, false, ◌&&◌}
use mathlib.Core.List.{List, [], ◌∷◌, ◌++◌}
use Prim.Native.Nat.{ℕ, ◌≤◌}
use native.Mathlib.Omega.{arith}
use lib.ListN.{length, get_or, replicate}
use borrow.Author.Tests.{eq-eqb, lt-ltb}
use Rattle.octets.specs.Lists.{replaced, all_zero}
use Rattle.octets.specs.Tests.{pick, all_below, first_below}
use Rattle.sizes.specs.Ciphers.{key_octets}
use Rattle.ciphers.specs.Keys.{key_allowed}
use Rattle.answers.specs.declared.Answer.{Answer}
use Rattle.answers.specs.declared.Answer.TheVariants.{Done}
use Rattle.answers.specs.Numbers.{number_of, is_done}
use Rattle.keyentry.specs.Name.{no_name, IsName, is_printable, text_octets, name_right}
use Rattle.keyentry.specs.Entry.{is_for, in_range, lacks, ready_right, used_right, entry_right, new_entry}
use Rattle.keyentry.proofs.NameLaws.{ward_four}
use Rattle.keybook.specs.Book.{entry_of, with_entry, apart, good_book, find_entry, free_entry, book_refusals}
use Rattle.keybook.specs.Operations.{begin_refusals, begin_after, begin_of, erase_of, entry_refusals}
use Rattle.keybook.specs.Screen.{nothing_shown}
use Rattle.keybook.specs.History as book
use Rattle.keybook.proofs.Laws.{begin_done_at-first_free}
use Rattle.keybook.proofs.GoodLaws.{good_sized}
use Rattle.keybook.proofs.HoldLaws.{always_good}
use Rattle.nxdn.specs.Operations.{Name, Inventory, listed}
use Rattle.demands.specs.Device.{Device, at_first, Operation, OfBook, OfScreen, Step, step, History, device_after, history, key_operations}
use Rattle.demands.specs.Demand1.{Demand1}
use Rattle.demands.specs.Refusals.{is_begin, is_erase}
use Rattle.demands.specs.Names.{told_of, shown_at, cipher_at, without_key, NamesKept}
use Rattle.demands.specs.OtherDevices.{misshowing, one_on, moving, forgetting}
use Rattle.demands.proofs.LoadedLaws.{keys_in, book_is}
use Rattle.demands.proofs.NamesAreKept.{good-after, there, ours_keeps_names}

-- ---- by whatever device

-- a bad name taken, for whatever cipher type and key ID, in whatever book
pub bad_name_thrown_out : (st : Step) (d : Device) (c i : ℕ) (n : List ℕ) → (IsName n → ⊥) → number_of (st d (OfBook (book.Begin c i n))).0 ≡ 0 → Demand1 st → ⊥
bad_name_thrown_out st d c i n bad done meets = let r = meets.refused d (OfBook (book.Begin c i n)) (λ k. bad k.1) in omega arith

-- an entry past the sixteenth shown
pub no_other_entry : (st : Step) (d : Device) (k : ℕ) → 16 ≤ k → number_of (st d (OfScreen (Inventory k))).0 ≡ 0 → Demand1 st → ⊥
no_other_entry st d k l done meets = let r = meets.refused d (OfScreen (Inventory k)) (λ right. omega (arith, right.1)) in omega arith

-- a key operation done out of its turn: a begin of a key that is there, an add or a finish of one that isn't being loaded, an erase of none
pub out_of_turn_thrown_out : (st : Step) (os : List Operation) (o : book.Operation) → book.in_turn o (book.told_for o (key_operations (history st os))) ≡ false
    → number_of (st (device_after st os) (OfBook o)).0 ≡ 0 → NamesKept st → ⊥
out_of_turn_thrown_out st os o f done kept = let r = kept.in_turn os o f in omega arith

-- no key taken: the first begin refused, whatever its name
pub taking-none_thrown_out : (st : Step) (c i : ℕ) (n : List ℕ) → (1 ≤ c) × (c ≤ 3) → i ≤ 63 → IsName n
    → (number_of (st at_first (OfBook (book.Begin c i n))).0 ≡ 0 → ⊥) → NamesKept st → ⊥
unfolding device_after history key_operations book.telling book.book_after
taking-none_thrown_out st c i n r l named refused kept =
    let free : cipher_at st [] 0 ≡ 0 = ap (λ (xs : List ℕ). get_or xs 0 0) (kept.in_place at_first 0 (omega arith) (always_good [])) in
    refused (ap number_of (kept.taken [] c i n r l named refl 0 (omega arith) free))

-- a key kept that is to be erased
pub keeping_thrown_out : (st : Step) (os : List Operation) (c i : ℕ) → (1 ≤ c) × (c ≤ 3) → i ≤ 63 → (told_of (history st os) c i ≡ book.nothing → ⊥)
    → (number_of (st (device_after st os) (OfBook (book.Erase c i))).0 ≡ 0 → ⊥) → NamesKept st → ⊥
keeping_thrown_out st os c i r l told refused kept = refused (ap number_of (kept.erased os c i r l told))

-- a key finished that is not whole, or not allowed
pub half-finished_thrown_out : (st : Step) (os : List Operation) (c i : ℕ) (n xs : List ℕ) → told_of (history st os) c i ≡ book.finished n xs
    → (length xs ≡ key_octets c → key_allowed c xs ≡ true → ⊥) → NamesKept st → ⊥
half-finished_thrown_out st os c i n xs told short kept = let w = kept.whole os c i n xs told in short w.0 w.1

-- ---- ours, but for what it hands out: another name of any key at any time, or anything else of an entry

module _ (f : Device → Operation → List ℕ → List ℕ) where
  same_after : (os : List Operation) → device_after (misshowing f) os ≡ device_after step os
  unfolding device_after
  same_after [] = refl
  same_after (o ∷ os) = ap (λ (d : Device). (step d o).1.0) (same_after os)

  same-history : (os : List Operation) → history (misshowing f) os ≡ history step os
  unfolding history
  same-history [] = refl
  same-history (o ∷ os) = ap₂ (λ (d : Device) (h : History). (o, (step d o).0) ∷ h) (same_after os) (same-history os)

  module _ (os : List Operation) (kept : NamesKept (misshowing f)) where
    pub misnaming_thrown_out : (c i : ℕ) → (1 ≤ c) × (c ≤ 3) → i ≤ 63 → (n : List ℕ) → book.name_told (told_of (history step os) c i) ≡ (Done, n)
        → (f (device_after step os) (OfScreen (Name c i)) n ≡ n → ⊥) → ⊥
    misnaming_thrown_out c i r l n told other =
        let o = step (device_after step os) (OfScreen (Name c i)) in
        let ours = ours_keeps_names.name os c i r l ∙ told in
        let done : o.0 ≡ Done = ap (λ (x : Answer × List ℕ). x.0) ours in
        let name : o.1.1 ≡ n = ap (λ (x : Answer × List ℕ). x.1) ours in
        let theirs = ap (λ (x : Answer × List ℕ). x.1) (rw (same_after os, same-history os) at (kept.name os c i r l) ∙ told) in
        let t : pick (is_done o.0 && true) (f (device_after step os) (OfScreen (Name c i)) o.1.1) o.1.1 ≡ n = theirs in
        other (rw (done, name) at t)

    pub mislisting_thrown_out : (k : ℕ) → k ≤ 15 → (f (device_after step os) (OfScreen (Inventory k)) (shown_at step os k) ≡ shown_at step os k → ⊥) → ⊥
    mislisting_thrown_out k l other =
        let d = device_after step os in
        let o = step d (OfScreen (Inventory k)) in
        let done : o.0 ≡ Done = ap (λ (x : Answer × List ℕ). x.0) (ours_keeps_names.shown os k l) in
        let t : pick (is_done o.0 && true) (f (device_after step os) (OfScreen (Inventory k)) o.1.1) o.1.1 ≡ o.1.1 =
        kept.in_place d k l (good-after os) ∙ sym (ours_keeps_names.in_place d k l (good-after os)) in
        other (rw done at t)

-- ---- ours, but a begin, or an erase, is answered and not done

-- what is shown where nothing is told of
none-listed : listed nothing_shown ≡ replicate 20 0
unfolding no_name
none-listed = refl

-- a DES key that is begun with a name
module _ (n : List ℕ) (named : IsName n) where
  abbrev begun : List Operation
  begun = OfBook (book.Begin 2 0 n) ∷ []

  begin_done : (step at_first (OfBook (book.Begin 2 0 n))).0 ≡ Done
  unfolding step book.step find_entry entry_of first_below is_for in_range book.book_after
  begin_done =
      ap (λ (o : Answer × List ℕ). o.0)
      (begin_done_at-first_free (replicate 832 0) 2 0 n named (always_good []) refl refl 0 (record { below = omega arith; free = refl; first = λ j l. absurd (omega arith) }))

  is_told_lem : told_of (history step begun) 2 0 ≡ book.loading n []
  unfolding history device_after key_operations book.telling
  is_told_lem = rw begin_done

  told_something : told_of (history step begun) 2 0 ≡ book.nothing → ⊥
  told_something e = let z : ◌≡◌ {A = ℕ} 0 1 = cc (e, is_told_lem) in omega arith

  -- it is shown by no entry
  pub unwritten_thrown_out : NamesKept (forgetting is_begin) → ⊥
  unfolding device_after history key_operations book.telling
  unwritten_thrown_out kept =
      let s = kept.complete begun 2 0 told_something in
      let free = ap (λ (x : Answer × List ℕ). x.1) (ours_keeps_names.shown [] s.place s.below) ∙ none-listed in
      let used = s.shows ∙ ap (λ (t : book.Progress). listed (book.shown_told 2 0 t)) is_told_lem in
      let z : ◌≡◌ {A = ℕ} 2 0 = ap (λ (xs : List ℕ). get_or xs 0 0) (sym used ∙ free) in
      omega arith

  erase-done : (step (device_after step begun) (OfBook (book.Erase 2 0))).0 ≡ Done
  unfolding step book.step erase_of entry_refusals book_refusals in_range
  erase-done =
      let b = book.book_after (keys_in begun) in
      rw (book_is begun, eq-eqb _ _ (good_sized b (always_good (keys_in begun))), always_good (keys_in begun), lt-ltb _ _ (there begun 2 0 told_something).0)

  -- it is shown after it was erased
  pub clinging_thrown_out : NamesKept (forgetting is_erase) → ⊥
  unfolding device_after history key_operations book.telling
  clinging_thrown_out kept =
      let s = ours_keeps_names.complete begun 2 0 told_something in
      let used : shown_at step begun s.place ≡ 2 ∷ 0 ∷ 0 ∷ 0 ∷ n = s.shows ∙ ap (λ (t : book.Progress). listed (book.shown_told 2 0 t)) is_told_lem in
      let t = ap (λ (x : Answer × List ℕ). x.1) (kept.shown (OfBook (book.Erase 2 0) ∷ begun) s.place s.below) in
      let free = (rw (used, erase-done) at t) ∙ none-listed in
      let z : ◌≡◌ {A = ℕ} 2 0 = ap (λ (xs : List ℕ). get_or xs 0 0) free in
      omega arith

-- ---- ours, but a begin moves every entry one place on: another key comes to be shown where the first was

-- an entry for cipher type c that is begun as WARD FOUR
abbrev begun_as : ℕ → List ℕ
begun_as c = c ∷ 0 ∷ 0 ∷ 0 ∷ (replicate 32 0 ++ ward_four)

abbrev one : List ℕ
one = replicate 52 0 ++ (begun_as 2 ++ replicate 728 0)

abbrev two : List ℕ
two = replicate 52 0 ++ (begun_as 3 ++ (begun_as 2 ++ replicate 676 0))

abbrev begin_as : ℕ → book.Operation
begin_as c = book.Begin c 0 ward_four

books : (book.step (begin_as 2) (replicate 832 0) ≡ (Done, begun_as 2 ++ replicate 780 0)) × (book.step (begin_as 3) one ≡ (Done, begun_as 3 ++ (begun_as 2 ++ replicate 728 0)))
    × (good_book one ≡ true) × (good_book two ≡ true)
unfolding book.step begin_of begin_refusals begin_after entry_of with_entry apart good_book find_entry free_entry in_range is_for entry_right used_right ready_right lacks name_right
    text_octets is_printable new_entry all_zero all_below first_below replaced
books = (refl, refl, refl, refl)

moves : (d : Device) (c : ℕ) {b after : List ℕ} → d.book ≡ b → book.step (begin_as c) b ≡ (Done, after) → (moving d (OfBook (begin_as c))).1.0.book ≡ one_on after
unfolding step
moves d c e q = rw (e, q)

pub moving_thrown_out : NamesKept moving → ⊥
unfolding device_after
moving_thrown_out kept =
    let os = OfBook (begin_as 2) ∷ [] in
    let first : (device_after moving os).book ≡ one = moves at_first 2 refl books.0 in
    let second : (device_after moving (OfBook (begin_as 3) ∷ os)).book ≡ two = moves (device_after moving os) 3 first books.1 in
    let was : cipher_at moving os 1 ≡ 2 =
    ap (λ (xs : List ℕ). get_or xs 0 0) (ours_keeps_names.in_place (device_after moving os) 1 (omega arith) (rw first books.2) ∙ ap (λ (x : List ℕ). without_key x 1) first) in
    let is : cipher_at moving (OfBook (begin_as 3) ∷ os) 1 ≡ 3 =
    ap (λ (xs : List ℕ). get_or xs 0 0)
    (ours_keeps_names.in_place (device_after moving (OfBook (begin_as 3) ∷ os)) 1 (omega arith) (rw second books.3) ∙ ap (λ (x : List ℕ). without_key x 1) second) in
    let z : ◌≡◌ {A = ℕ} 3 2 = sym is ∙ (kept.stays os (OfBook (begin_as 3)) 1 (omega arith) (λ e. omega (arith, sym was ∙ e)) refl).0 ∙ was in
    omega arith
