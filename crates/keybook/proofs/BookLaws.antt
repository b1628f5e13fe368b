-- The cases of a book's rules and of finding an entry, each as a way through the code meets it.
use Prim.Native.Nat.{ℕ, zero, suc, ◌+◌, ◌*◌, ◌-◌, ◌≤◌, ◌<◌}
use native.Mathlib.Nat.{add-sub_cancel_left}
use native.Mathlib.Omega.{arith}
use mathlib.Core.Path.{◌≡◌, refl, sym, ap, ap₂, ◌∙◌}
use mathlib.Core.Bool.{Bool, true, false, ◌&&◌, cond}
use mathlib.Core.List.{List, []}
use lib.ListN.{length, get_or, take, drop, length-drop}
use lib.Seq.{length-take-le, drop-drop}
use Rattle.std.specs.Option.{option_eq}
use lib.Dec.{eqb, ltb}
use borrow.Author.Tests.{ltb-false, eq-eqb, ne_eqb}
use borrow.Rule.Slice.PartMut.{put_mid}
use Rattle.octets.specs.Lists.{replaced}
use Rattle.octets.proofs.Parts.{put-replaced}
use Rattle.octets.specs.Tests.{pick, all_below, first_below}
use Rattle.std.specs.Simd.{first_chunks}
use Rattle.std.specs.List.{position_or_len}
use Rattle.keyentry.proofs.PlaceLaws.{place_is}
use Rattle.octets.proofs.TestLaws.{all_fails, and_false_r, all_reached}
use Rattle.answers.specs.declared.Answer.TheVariants.{WrongLength, OutOfRange, Bad}
use Rattle.keyentry.specs.Entry.{entry_octets, cipher_in, id_in, in_range, entry_right}
use Rattle.keybook.specs.Book.{entries, book_octets, entry_of, with_entry, apart, good_book, find_entry, book_refusals}
use Rattle.keybook.specs.Lookup.{place, lookup, seeking}
use Rattle.std.specs.Prelude.{Option, Some, None, Ok, Err}

-- ---- the entries

-- what the borrow checker says of an entry that is lent
abbrev pub lent : List ℕ → ℕ → List ℕ
lent b k = take (k * entry_octets + entry_octets - k * entry_octets) (drop (k * entry_octets) b)

pub entry_lent : (b : List ℕ) (k : ℕ) → lent b k ≡ entry_of b k
unfolding entry_of
entry_lent b k = rw add-sub_cancel_left

pub entry_length : (b : List ℕ) (k : ℕ) → length b ≡ book_octets → k < entries → length (entry_of b k) ≡ entry_octets
unfolding entry_of
entry_length b k h l = length-take-le entry_octets (drop (k * entry_octets) b) (simp length-drop (omega arith))

-- and of a book whose entry k was lent and came back as e
abbrev pub put : List ℕ → ℕ → List ℕ → List ℕ
put b k e = put_mid (k * entry_octets) (k * entry_octets + entry_octets - k * entry_octets) b e

pub put_entry : {e f : List ℕ} (b : List ℕ) (k : ℕ) → e ≡ f → put b k e ≡ with_entry b k f
unfolding with_entry
put_entry {e} {f} b k q =
    put-replaced b e (k * entry_octets) entry_octets ∙ ap (λ (l : List ℕ). replaced b (k * entry_octets) entry_octets l) q

-- a callee's result r on a list that is the entry
pub of_entry : (f : List ℕ → Bool) {r t : Bool} {e l : List ℕ} → e ≡ l → r ≡ f e → r ≡ t → f l ≡ t
of_entry f {r} {t} {e} {l} q p h = ap f (sym q) ∙ sym p ∙ h

-- ---- the rules

module _ (b : List ℕ) (k : ℕ) where
  pub apart_free : {e : List ℕ} → e ≡ entry_of b k → cipher_in e ≡ 0 → true ≡ apart b k
  unfolding apart
  apart_free q h = rw (← q, eq-eqb _ _ h)

  pub place_eq : k < entries → (f : ℕ) → option_eq eqb (place f) (Some k) ≡ eqb f k
  place_eq l f = go (ltb f entries) refl
    where
      go : (t : Bool) → ltb f entries ≡ t → option_eq eqb (pick t (Some f) None) (Some k) ≡ eqb f k
      go true m = refl
      go false m = let n = ltb-false _ _ m in sym (ne_eqb f k (λ z. absurd (omega arith)))

  pub apart-used : {e : List ℕ} {j : ℕ} → e ≡ entry_of b k → (cipher_in e ≡ 0 → ⊥) → j ≡ find_entry b (cipher_in e) (id_in e) → eqb j k ≡ apart b k
  unfolding apart
  apart-used q n p = rw (← q, ne_eqb _ _ n, ← p)

module _ (b : List ℕ) where
  abbrev pub right_at : ℕ → Bool
  right_at k = entry_right (entry_of b k) && apart b k

  pub right-not : (k : ℕ) → entry_right (entry_of b k) ≡ false → right_at k ≡ false
  right-not k h = rw h

  pub right_shared : (k : ℕ) → apart b k ≡ false → right_at k ≡ false
  right_shared k h = rw (h, and_false_r)

  pub right_both : (k : ℕ) → entry_right (entry_of b k) ≡ true → apart b k ≡ true → right_at k ≡ true
  right_both k h f = rw (h, f)

  pub good_length : (length b ≡ book_octets → ⊥) → false ≡ good_book b
  unfolding good_book
  good_length h = rw (ne_eqb _ _ h)

  module _ (h : length b ≡ book_octets) where
    pub good_fails : (k : ℕ) → k < entries → right_at k ≡ false → false ≡ good_book b
    unfolding good_book
    good_fails k l e = rw (eq-eqb _ _ h) (sym (all_fails right_at entries k l e))

    pub good-all : {k : ℕ} → k ≤ entries → entries ≤ k → all_below right_at k ≡ true → true ≡ good_book b
    unfolding good_book
    good-all l m e = rw (eq-eqb _ _ h) (all_reached right_at l m e)

-- ---- what every operation asks first

module _ (b : List ℕ) (c i : ℕ) where
  pub look_length : (length b ≡ book_octets → ⊥) → Err WrongLength ≡ lookup b c i
  unfolding lookup book_refusals
  look_length h = rw (ne_eqb _ _ h)

  module _ (h : length b ≡ book_octets) where
    pub look_range : in_range c i ≡ false → Err OutOfRange ≡ lookup b c i
    unfolding lookup book_refusals
    look_range n = rw (eq-eqb _ _ h, n)

    pub look_seek : in_range c i ≡ true → seeking b c i ≡ lookup b c i
    unfolding lookup book_refusals seeking
    look_seek n = rw (eq-eqb _ _ h, n)

  pub seek_bad : good_book b ≡ false → Err Bad ≡ seeking b c i
  unfolding seeking
  seek_bad g = rw g

  pub seek_good : good_book b ≡ true → Ok (place (find_entry b c i)) ≡ seeking b c i
  unfolding seeking
  seek_good g = rw g

-- ---- finding an entry, as `position` does among the entries

-- entry j of a list of them
entry-at : (k : ℕ) (b : List ℕ) (j : ℕ) → j < k → get_or (first_chunks entry_octets k b) j [] ≡ take entry_octets (drop (j * entry_octets) b)
entry-at zero b j l = absurd (omega arith)
entry-at (suc k) b zero l = refl
entry-at (suc k) b (suc j) l =
    let next : entry_octets + j * entry_octets ≡ suc j * entry_octets = omega arith in
    entry-at k (drop entry_octets b) j (omega arith) ∙ ap (take entry_octets) (drop-drop (j * entry_octets) entry_octets b)
    ∙ ap (λ (i : ℕ). take entry_octets (drop i b)) next

same_first : (f g : ℕ → Bool) (n : ℕ) → ((k : ℕ) → k < n → f k ≡ g k) → first_below f n ≡ first_below g n
unfolding first_below
same_first f g zero h = refl
same_first f g (suc n) h = rw (h 0 (omega arith), same_first (λ k. f (suc k)) (λ k. g (suc k)) n (λ k l. h (suc k) (omega arith)))

pub entry_place : (test : List ℕ → Bool) (b : List ℕ) {l : List (List ℕ)} {r : Option ℕ} → l ≡ first_chunks entry_octets entries b → length l ≡ entries
    → r ≡ cond (ltb (position_or_len test l) (length l)) (Some (position_or_len test l)) None → r ≡ place (first_below (λ k. test (entry_of b k)) entries)
unfolding entry_of
entry_place test b {l} {r} e w q = q ∙ ap₂ (λ (p n : ℕ). cond (ltb p n) (Some p) None) at w ∙ go (ltb here entries)
  where
    here : ℕ
    here = first_below (λ k. test (take entry_octets (drop (k * entry_octets) b))) entries

    at : position_or_len test l ≡ here
    at =
        sym (place_is test [] l) ∙ ap₂ (λ (m : List (List ℕ)) (n : ℕ). first_below (λ k. test (get_or m k [])) n) e w
        ∙ same_first _ _ entries (λ k m. ap test (entry-at entries b k m))

    go : (t : Bool) → cond t (Some here) None ≡ pick t (Some here) None
    go true = refl
    go false = refl
