-- A good book: its rules as facts, and what keeps it good when one entry is replaced.
use Prim.Native.Nat.{ℕ, ◌+◌, ◌*◌, ◌≤◌, ◌<◌}
use native.Mathlib.Decide.{ℕ_discrete, dec_lt}
use native.Mathlib.Omega.{arith}
use mathlib.Core.Path.{◌≡◌, refl, sym, ap, ◌∙◌}
use mathlib.Core.Bool.{true, false, ◌||◌, true≢false}
use mathlib.Core.List.{List}
use lib.ListN.{length, get_or, drop}
use lib.Seq.{get_or-take, get_or-drop, ext_get_or}
use lib.Dec.{eqb}
use borrow.Author.Tests.{eq-eqb, ne_eqb, eqb-true}
use Rattle.octets.proofs.Parts.{replaced-length, replaced-before, replaced_in, replaced-after}
use Rattle.octets.specs.Tests.{first_below}
use Rattle.octets.proofs.TestLaws.{all-at, all_intro, and_left, and_right, first-is, first-all, first_holds}
use Rattle.keyentry.specs.Entry.{entry_octets, cipher_in, id_in, entry_right, is_for}
use Rattle.keybook.specs.Book.{entries, book_octets, entry_of, with_entry, apart, good_book, find_entry}
use Rattle.keyentry.proofs.RightLaws.{for_parts, parts_for, not_for}
use Rattle.keybook.proofs.BookLaws.{entry_length, right_at}

-- ---- the entries of a book

-- no two used entries share cipher and key ID
abbrev pub Apart : List ℕ → Type 0
Apart b = (j k : ℕ) → j < entries → k < entries → (cipher_in (entry_of b k) ≡ 0 → ⊥)
    → cipher_in (entry_of b j) ≡ cipher_in (entry_of b k) → id_in (entry_of b j) ≡ id_in (entry_of b k) → j ≡ k

module _ (b : List ℕ) (g : good_book b ≡ true) where
  pub good_sized : length b ≡ book_octets
  unfolding good_book
  good_sized = eqb-true _ _ (and_left _ _ g)

  right-at : (k : ℕ) → k < entries → right_at b k ≡ true
  unfolding good_book
  right-at k l = all-at (right_at b) entries k l (and_right (eqb (length b) book_octets) _ g)

  pub good_entry : (k : ℕ) → k < entries → entry_right (entry_of b k) ≡ true
  good_entry k l = and_left _ _ (right-at k l)

  own-place : (k : ℕ) → k < entries → (cipher_in (entry_of b k) ≡ 0 → ⊥) → find_entry b (cipher_in (entry_of b k)) (id_in (entry_of b k)) ≡ k
  unfolding apart
  own-place k l n = eqb-true _ _ (rw (ne_eqb _ _ n) at (and_right (entry_right (entry_of b k)) (apart b k) (right-at k l)))

  -- the entry for a cipher and key ID is found where it stands
  pub find_is : (c i k : ℕ) → k < entries → (c ≡ 0 → ⊥) → is_for c i (entry_of b k) ≡ true → find_entry b c i ≡ k
  find_is c i k l n f =
      let p = for_parts (entry_of b k) c i f in
      rw (p.0, p.1) at (own-place k l (λ z. n (sym p.0 ∙ z)))

  pub good-apart : Apart b
  good-apart j k lj lk n p q =
      sym (find_is (cipher_in (entry_of b k)) (id_in (entry_of b k)) j lj n (parts_for (entry_of b j) _ _ p q)) ∙ own-place k lk n

pub good_intro : (b : List ℕ) → length b ≡ book_octets → ((k : ℕ) → k < entries → entry_right (entry_of b k) ≡ true) → Apart b → good_book b ≡ true
unfolding good_book apart find_entry
good_intro b h r a = rw (eq-eqb _ _ h) (all_intro (right_at b) entries (λ k l. rw (r k l) (go k l (ℕ_discrete (cipher_in (entry_of b k)) 0))))
  where
    go : (k : ℕ) → k < entries → Dec (cipher_in (entry_of b k) ≡ 0)
        → (eqb (cipher_in (entry_of b k)) 0 || eqb (first_below (λ j. is_for (cipher_in (entry_of b k)) (id_in (entry_of b k)) (entry_of b j)) entries) k) ≡ true
    go k l (yes z) = rw (eq-eqb _ _ z)
    go k l (no n) =
        rw (ne_eqb _ _ n)
        (eq-eqb _ _ (first-is (λ j. is_for (cipher_in (entry_of b k)) (id_in (entry_of b k)) (entry_of b j)) entries k l
        (λ j m. not_for (entry_of b j) _ _ (λ p q. let z = a j k (omega arith) l n p q in omega arith))
        (parts_for (entry_of b k) _ _ refl refl)))

module _ (b : List ℕ) (c i : ℕ) where
  -- no entry is for a name that was not found, and the entry that was found is for it
  pub none_for : entries ≤ find_entry b c i → (j : ℕ) → j < entries → is_for c i (entry_of b j) ≡ false
  unfolding find_entry
  none_for h = first-all (λ k. is_for c i (entry_of b k)) entries h

  pub found_for : find_entry b c i < entries → is_for c i (entry_of b (find_entry b c i)) ≡ true
  unfolding find_entry
  found_for h = first_holds (λ k. is_for c i (entry_of b k)) entries h

-- ---- a book with one entry replaced

pub entry_octet : (b : List ℕ) (j i : ℕ) → i < entry_octets → get_or (entry_of b j) i 0 ≡ get_or b (j * entry_octets + i) 0
unfolding entry_of
entry_octet b j i l = get_or-take entry_octets (drop (j * entry_octets) b) i 0 l ∙ get_or-drop (j * entry_octets) b i 0

module _ (b : List ℕ) (k : ℕ) (e : List ℕ) (h : length b ≡ book_octets) (l : k < entries) (w : length e ≡ entry_octets) where
  pub with_length : length (with_entry b k e) ≡ book_octets
  unfolding with_entry
  with_length = replaced-length b e (k * entry_octets) entry_octets w (omega arith) ∙ h

  -- two entries are the same where their octets are
  same-entry : (j : ℕ) (f : List ℕ) → j < entries → length f ≡ entry_octets
      → ((i : ℕ) → i < entry_octets → get_or (with_entry b k e) (j * entry_octets + i) 0 ≡ get_or f i 0) → entry_of (with_entry b k e) j ≡ f
  same-entry j f m v x =
      let s = entry_length (with_entry b k e) j with_length m in
      ext_get_or 0 (entry_of (with_entry b k e) j) f (s ∙ sym v) (λ i q. let q' : i < entry_octets = rw s at q in entry_octet (with_entry b k e) j i q' ∙ x i q')

  pub entry_same : entry_of (with_entry b k e) k ≡ e
  unfolding with_entry
  entry_same = same-entry k e l w (replaced_in b e (k * entry_octets) entry_octets w (omega arith))

  pub entry_other : (j : ℕ) → j < entries → (j ≡ k → ⊥) → entry_of (with_entry b k e) j ≡ entry_of b j
  unfolding with_entry
  entry_other j m n = same-entry j (entry_of b j) m (entry_length b j h m) (λ i q. go i q (dec_lt j k) ∙ sym (entry_octet b j i q))
    where
      go : (i : ℕ) → i < entry_octets → Dec (j < k)
          → get_or (with_entry b k e) (j * entry_octets + i) 0 ≡ get_or b (j * entry_octets + i) 0
      go i q (yes a) = replaced-before b e (k * entry_octets) entry_octets w (omega arith) (j * entry_octets + i) (omega arith)
      go i q (no a) = replaced-after b e (k * entry_octets) entry_octets w (omega arith) (j * entry_octets + i) (omega arith)

  entry_at : (j : ℕ) → j ≡ k → entry_of (with_entry b k e) j ≡ e
  entry_at j z = ap (entry_of (with_entry b k e)) z ∙ entry_same

  -- a good book stays good where the new entry keeps the rules and shares its cipher and key ID with no other
  pub good_with : good_book b ≡ true → entry_right e ≡ true
      → ((j : ℕ) → j < entries → (j ≡ k → ⊥) → (cipher_in e ≡ 0 → ⊥) → is_for (cipher_in e) (id_in e) (entry_of b j) ≡ false)
      → good_book (with_entry b k e) ≡ true
  good_with g r a =
      good_intro (with_entry b k e) with_length (λ j m. right j m (ℕ_discrete j k)) (λ i j li lj. apart_from i j li lj (ℕ_discrete i k) (ℕ_discrete j k))
    where
      right : (j : ℕ) → j < entries → Dec (j ≡ k) → entry_right (entry_of (with_entry b k e) j) ≡ true
      right j m (yes z) = rw (entry_at j z) r
      right j m (no n) = rw (entry_other j m n) (good_entry b g j m)

      shares : (i : ℕ) → i < entries → (i ≡ k → ⊥) → (cipher_in e ≡ 0 → ⊥) → cipher_in (entry_of b i) ≡ cipher_in e → id_in (entry_of b i) ≡ id_in e → ⊥
      shares i li n u p q = true≢false (sym (parts_for (entry_of b i) _ _ p q) ∙ a i li n u)

      apart_from : (i j : ℕ) → i < entries → j < entries → Dec (i ≡ k) → Dec (j ≡ k) → (cipher_in (entry_of (with_entry b k e) j) ≡ 0 → ⊥)
          → cipher_in (entry_of (with_entry b k e) i) ≡ cipher_in (entry_of (with_entry b k e) j)
          → id_in (entry_of (with_entry b k e) i) ≡ id_in (entry_of (with_entry b k e) j) → i ≡ j
      apart_from i j li lj (yes zi) (yes zj) u p q = zi ∙ sym zj
      apart_from i j li lj (yes zi) (no nj) u p q =
          let oi = entry_at i zi in
          let oj = entry_other j lj nj in
          let p' : cipher_in e ≡ cipher_in (entry_of b j) = rw (oi, oj) at p in
          absurd (shares j lj nj (λ z. (rw oj at u) (sym p' ∙ z)) (sym p') (sym (rw (oi, oj) at q)))
      apart_from i j li lj (no ni) (yes zj) u p q =
          let oi = entry_other i li ni in
          let oj = entry_at j zj in
          absurd (shares i li ni (rw oj at u) (rw (oi, oj) at p) (rw (oi, oj) at q))
      apart_from i j li lj (no ni) (no nj) u p q =
          let oi = entry_other i li ni in
          let oj = entry_other j lj nj in
          good-apart b g i j li lj (rw oj at u) (rw (oi, oj) at p) (rw (oi, oj) at q)
