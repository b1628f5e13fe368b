-- Which entry is for a cipher and key ID once one entry was replaced.
use Prim.Native.Nat.{ℕ, ◌*◌, ◌≤◌, ◌<◌}
use native.Mathlib.Decide.{ℕ_discrete, dec_lt}
use native.Mathlib.Omega.{arith}
use mathlib.Core.Path.{◌≡◌, refl, sym, ap, ◌∙◌}
use mathlib.Core.Bool.{Bool, true, false, true≢false}
use mathlib.Core.List.{List, []}
use lib.ListN.{length, take, drop_of_length-le}
use lib.Seq.{take-nil}
use Rattle.octets.proofs.TestLaws.{first-none}
use Rattle.keyentry.specs.Entry.{entry_octets, cipher_in, is_for}
use Rattle.keybook.specs.Book.{entries, book_octets, entry_of, with_entry, find_entry}
use Rattle.keybook.specs.Operations.{entry_for}
use Rattle.keybook.proofs.GoodLaws.{good_sized, find_is, none_for, found_for, entry_same, entry_other}
use Rattle.keybook.proofs.DoneLaws.{Changed}

-- past the last entry there is none
no_entry : (b : List ℕ) → length b ≡ book_octets → entry_of b entries ≡ []
unfolding entry_of
no_entry b h =
    let l : length b ≤ entries * entry_octets = omega arith in
    ap (take entry_octets) (drop_of_length-le b l) ∙ take-nil entry_octets

pub find_none : (b : List ℕ) (c i : ℕ) → ((j : ℕ) → j < entries → is_for c i (entry_of b j) ≡ false) → find_entry b c i ≡ entries
unfolding find_entry
find_none b c i h = first-none (λ k. is_for c i (entry_of b k)) entries h

pub none_there : (b : List ℕ) (c i : ℕ) → length b ≡ book_octets → find_entry b c i ≡ entries → entry_for b c i ≡ []
none_there b c i h e = ap (entry_of b) e ∙ no_entry b h

-- so what has a cipher was found
pub used-found : (b : List ℕ) (c i : ℕ) → length b ≡ book_octets → (cipher_in (entry_for b c i) ≡ 0 → ⊥) → find_entry b c i < entries
used-found b c i h u = go (dec_lt (find_entry b c i) entries)
  where
    go : Dec (find_entry b c i < entries) → find_entry b c i < entries
    go (yes l) = l
    go (no m) = absurd (u (ap cipher_in (none_there b c i h (find_none b c i (none_for b c i (omega arith))))))

module _ (b : List ℕ) (k : ℕ) (e : List ℕ) {after : List ℕ} (ch : Changed b after k e) (c i : ℕ) (n : c ≡ 0 → ⊥) where
  abbrev now_is : List ℕ
  now_is = with_entry b k e

  same : entry_of now_is k ≡ e
  same = entry_same b k e (good_sized b ch.was_good) ch.below ch.long

  other : (j : ℕ) → j < entries → (j ≡ k → ⊥) → entry_of now_is j ≡ entry_of b j
  other = entry_other b k e (good_sized b ch.was_good) ch.below ch.long

  sized : length now_is ≡ book_octets
  sized = good_sized now_is ch.good

  -- the new entry is for it
  pub its : is_for c i e ≡ true → entry_for now_is c i ≡ e
  its f = ap (entry_of now_is) (find_is now_is ch.good c i k ch.below n (ap (is_for c i) same ∙ f)) ∙ same

  module _ (f : is_for c i e ≡ false) where
    -- an entry for it is another, as it was
    moved : (j : ℕ) → j < entries → is_for c i (entry_of b j) ≡ false → is_for c i (entry_of now_is j) ≡ false
    moved j l g = go (ℕ_discrete j k)
      where
        go : Dec (j ≡ k) → is_for c i (entry_of now_is j) ≡ false
        go (yes z) = ap (λ (x : ℕ). is_for c i (entry_of now_is x)) z ∙ ap (is_for c i) same ∙ f
        go (no m) = ap (is_for c i) (other j l m) ∙ g

    -- neither the old entry nor the new one is for it
    pub not-its : is_for c i (entry_of b k) ≡ false → entry_for now_is c i ≡ entry_for b c i
    not-its o = go (dec_lt (find_entry b c i) entries)
      where
        go : Dec (find_entry b c i < entries) → entry_for now_is c i ≡ entry_for b c i
        go (yes l) =
            let j = find_entry b c i in
            let g = found_for b c i l in
            let oj = other j l (λ z. true≢false (sym g ∙ ap (λ (x : ℕ). is_for c i (entry_of b x)) z ∙ o)) in
            ap (entry_of now_is) (find_is now_is ch.good c i j l n (ap (is_for c i) oj ∙ g)) ∙ oj
        go (no m) =
            let none = none_for b c i (omega arith) in
            none_there now_is c i sized (find_none now_is c i (λ j l. moved j l (none j l)))
            ∙ sym (none_there b c i (good_sized b ch.was_good) (find_none b c i none))

    -- the old entry was for it, and the new one is not
    pub gone : is_for c i (entry_of b k) ≡ true → find_entry now_is c i ≡ entries
    gone o = find_none now_is c i (λ j l. go j l (ℕ_discrete j k))
      where
        only : (j : ℕ) → j < entries → (j ≡ k → ⊥) → (t : Bool) → is_for c i (entry_of b j) ≡ t → t ≡ false
        only j l m true q = absurd (m (sym (find_is b ch.was_good c i j l n q) ∙ find_is b ch.was_good c i k ch.below n o))
        only j l m false q = refl

        go : (j : ℕ) → j < entries → Dec (j ≡ k) → is_for c i (entry_of now_is j) ≡ false
        go j l (yes z) = ap (λ (x : ℕ). is_for c i (entry_of now_is x)) z ∙ ap (is_for c i) same ∙ f
        go j l (no m) = ap (is_for c i) (other j l m) ∙ only j l m (is_for c i (entry_of b j)) refl
