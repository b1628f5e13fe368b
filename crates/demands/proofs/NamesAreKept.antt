-- Our device keeps names; and of any device that does, and meets demand 1, each key is shown once.
use mathlib.Core.Path.{◌≡◌, refl, sym, ap, ◌∙◌}
use mathlib.Core.Bool.{Bool, true, false, true≢false}
use mathlib.Core.List.{List, [], ◌∷◌}
use Prim.Native.Nat.{ℕ, ◌≤◌, ◌<◌}
use native.Mathlib.Omega.{arith}
use lib.ListN.{length, get_or, take}
use borrow.Author.Tests.{le-leb, eq-eqb, lt-ltb}
use Rattle.answers.specs.declared.Answer.{Answer}
use Rattle.answers.specs.declared.Answer.TheVariants.{Done}
use Rattle.answers.specs.Numbers.{number_of}
use Rattle.sizes.specs.Ciphers.{key_octets}
use Rattle.ciphers.specs.Keys.{key_allowed}
use Rattle.keyentry.specs.Name.{IsName}
use Rattle.keyentry.specs.Entry.{cipher_in, id_in, in_range}
use Rattle.keyentry.proofs.RightLaws.{ready-octet}
use Rattle.keybook.specs.declared.screen.Shown.{Shown}
use Rattle.keybook.specs.Book.{entry_of, good_book, find_entry, book_refusals}
use Rattle.keybook.specs.Operations.{erase_of, entry_refusals}
use Rattle.keybook.specs.Screen as screen
use Rattle.keybook.specs.History as book
use Rattle.keybook.proofs.BookLaws.{entry_length}
use Rattle.keybook.proofs.GoodLaws.{good_sized, good_entry, good-apart}
use Rattle.keybook.proofs.HoldLaws.{always_good}
use Rattle.keybook.proofs.HistoryLaws.{ready_only_if_told, ready_if_finished}
use Rattle.keybook.proofs.ScreenLaws.{list_done}
use Rattle.keybook.proofs.ToldLaws.{name_is_told, inventory_is_told, told_is-listed}
use Rattle.keybook.proofs.TurnLaws.{begun_in_turn, out_of_turn, stays_put}
use Rattle.nxdn.specs.Operations.{Inventory, listed, screen_step}
use Rattle.demands.specs.Device.{Device, Operation, OfBook, OfScreen, OfCall, OfPacket, Step, step, device_after, history, key_operations}
use Rattle.demands.specs.Demand1.{Demand1}
use Rattle.demands.specs.Names.{told_of, listed_of, erases_key, screened, cipher_at, id_at, Shows, without_key, NamesKept}
use Rattle.demands.proofs.LoadedLaws.{keys_in, book_is, keys_are}

ranged : (c i : ℕ) → (1 ≤ c) × (c ≤ 3) → i ≤ 63 → in_range c i ≡ true
unfolding in_range
ranged c i r l = rw (le-leb _ _ r.0, le-leb _ _ r.1, le-leb _ _ l)

-- ---- by the book

first_four : (e : List ℕ) → length e ≡ 52 → take 4 e ≡ get_or e 0 0 ∷ get_or e 1 0 ∷ get_or e 2 0 ∷ get_or e 3 0 ∷ []
first_four [] w = absurd (omega (arith, w))
first_four (a ∷ []) w = absurd (omega (arith, w))
first_four (a ∷ b ∷ []) w = absurd (omega (arith, w))
first_four (a ∷ b ∷ c ∷ []) w = absurd (omega (arith, w))
first_four (a ∷ b ∷ c ∷ d ∷ xs) w = refl

module _ (b : List ℕ) (k : ℕ) (l : k ≤ 15) (g : good_book b ≡ true) where
  -- what is shown of an entry is the entry without its key
  shown-octets : listed (screen.shown (entry_of b k)) ≡ without_key b k
  unfolding screen.shown entry_of
  shown-octets =
      rw (first_four (entry_of b k) (entry_length b k (good_sized b g) (omega arith)), ready-octet (entry_of b k) (good_entry b g k (omega arith)))

  -- its cipher type and key ID are the entry's
  pub parts : (get_or (without_key b k) 0 0 ≡ cipher_in (entry_of b k)) × (get_or (without_key b k) 1 0 ≡ id_in (entry_of b k))
  unfolding screen.shown
  parts = (ap (λ (xs : List ℕ). get_or xs 0 0) (sym shown-octets), ap (λ (xs : List ℕ). get_or xs 1 0) (sym shown-octets))

ours_in_place : (d : Device) (k : ℕ) → k ≤ 15 → good_book d.book ≡ true → (step d (OfScreen (Inventory k))).1.1 ≡ without_key d.book k
unfolding step screen_step
ours_in_place d k l g =
    ap (λ (o : Answer × Shown). listed o.1) (sym (list_done d.book k (good_sized d.book g) (omega arith) g)) ∙ shown-octets d.book k l g

-- ---- by the history

module _ (os : List Operation) where
  abbrev b : List ℕ
  b = book.book_after (keys_in os)

  pub good-after : good_book (device_after step os).book ≡ true
  good-after = ap good_book (book_is os) ∙ always_good (keys_in os)

  told-as : (c i : ℕ) → told_of (history step os) c i ≡ book.telling (book.history (keys_in os)) c i
  told-as c i = ap (λ (h : book.History). book.telling h c i) (keys_are os)

  -- a key that is told of has its entry
  pub there : (c i : ℕ) → (told_of (history step os) c i ≡ book.nothing → ⊥)
      → (find_entry b c i < 16) × (screen.inventory_of b (find_entry b c i) ≡ (Done, book.shown_told c i (told_of (history step os) c i)))
  there c i t = rw (told-as c i) (told_is-listed (keys_in os) c i (λ e. t (told-as c i ∙ e)))

  -- a key operation is the book's
  as-key : (o : book.Operation) → (step (device_after step os) (OfBook o)).0 ≡ (book.step o b).0
  unfolding step
  as-key o = ap (λ (x : List ℕ). (book.step o x).0) (book_is os)

  ours-in-turn : (o : book.Operation) → book.in_turn o (book.told_for o (key_operations (history step os))) ≡ false
      → 2 ≤ number_of (step (device_after step os) (OfBook o)).0
  ours-in-turn o f = rw (as-key o) (out_of_turn (keys_in os) o (rw (keys_are os) at f))

  ours-whole : (c i : ℕ) (n xs : List ℕ) → told_of (history step os) c i ≡ book.finished n xs → (length xs ≡ key_octets c) × (key_allowed c xs ≡ true)
  ours-whole c i n xs f =
      let t = sym (told-as c i) ∙ f in
      let u = ready_only_if_told (keys_in os) c i _ (ready_if_finished (keys_in os) c i n xs t) in
      let same : xs ≡ u.octets = cc (t, u.is-finished) in
      (ap length same ∙ u.is_whole, ap (key_allowed c) same ∙ u.is_allowed)

  -- the inventory of the device's book
  of-book : (k : ℕ) (o : Answer × Shown) → screen.inventory_of b k ≡ o → screened (step (device_after step os) (OfScreen (Inventory k))) ≡ (o.0, listed o.1)
  unfolding step screen_step
  of-book k o q = ap (λ (r : Answer × Shown). (r.0, listed r.1)) (ap (λ (x : List ℕ). screen.inventory_of x k) (book_is os) ∙ q)

  -- its cipher type and key ID are those of the book's entry
  ours-parts : (k : ℕ) → k ≤ 15 → (cipher_at step os k ≡ cipher_in (entry_of b k)) × (id_at step os k ≡ id_in (entry_of b k))
  ours-parts k l =
      let p = parts b k l (always_good (keys_in os)) in
      let e = ours_in_place (device_after step os) k l good-after ∙ ap (λ (x : List ℕ). without_key x k) (book_is os) in
      (ap (λ (xs : List ℕ). get_or xs 0 0) e ∙ p.0, ap (λ (xs : List ℕ). get_or xs 1 0) e ∙ p.1)

  ours-taken : (c i : ℕ) (n : List ℕ) → (1 ≤ c) × (c ≤ 3) → i ≤ 63 → IsName n → told_of (history step os) c i ≡ book.nothing → (k : ℕ) → k ≤ 15
      → cipher_at step os k ≡ 0 → (step (device_after step os) (OfBook (book.Begin c i n))).0 ≡ Done
  unfolding book.step
  ours-taken c i n r l named e k low z =
      as-key (book.Begin c i n)
      ∙ begun_in_turn (keys_in os) c i n named (ranged c i r l) (sym (told-as c i) ∙ e) k (omega arith) (sym (ours-parts k low).0 ∙ z)

  ours-erased : (c i : ℕ) → (1 ≤ c) × (c ≤ 3) → i ≤ 63 → (told_of (history step os) c i ≡ book.nothing → ⊥)
      → (step (device_after step os) (OfBook (book.Erase c i))).0 ≡ Done
  unfolding book.step erase_of entry_refusals book_refusals
  ours-erased c i r l t =
      as-key (book.Erase c i)
      ∙ rw (eq-eqb _ _ (good_sized b (always_good (keys_in os))), always_good (keys_in os), ranged c i r l, lt-ltb _ _ (there c i t).0)

  ours-shown : (k : ℕ) → k ≤ 15
      → screened (step (device_after step os) (OfScreen (Inventory k))) ≡ (Done, listed_of (history step os) (cipher_at step os k) (id_at step os k))
  ours-shown k l =
      let p = ours-parts k l in
      rw (p.0, p.1, told-as (cipher_in (entry_of b k)) (id_in (entry_of b k))) (of-book k _ (inventory_is_told (keys_in os) k (omega arith)))

  ours-complete : (c i : ℕ) → (told_of (history step os) c i ≡ book.nothing → ⊥) → Shows step os c i
  ours-complete c i t =
      let f = there c i t in
      let below : find_entry b c i < 16 = f.0 in
      record { place = find_entry b c i; below = omega arith; shows = ap (λ (r : Answer × List ℕ). r.1) (of-book _ _ f.1) }

ours_stays : (os : List Operation) (o : Operation) (k : ℕ) → k ≤ 15 → (cipher_at step os k ≡ 0 → ⊥) → erases_key (cipher_at step os k) (id_at step os k) o ≡ false
    → (cipher_at step (o ∷ os) k ≡ cipher_at step os k) × (id_at step (o ∷ os) k ≡ id_at step os k)
unfolding keys_in book.book_after device_after step
ours_stays os (OfBook o) k l u f =
    let p = ours-parts os k l in
    let q = ours-parts (OfBook o ∷ os) k l in
    let s = stays_put (book.book_after (keys_in os)) k (omega arith) (λ z. u (p.0 ∙ z)) o (rw (p.0, p.1) at f) in
    (q.0 ∙ s.0 ∙ sym p.0, q.1 ∙ s.1 ∙ sym p.1)
ours_stays os (OfScreen o) k l u f = (refl, refl)
ours_stays os (OfCall n o) k l u f = (refl, refl)
ours_stays os (OfPacket n o) k l u f = (refl, refl)

pub ours_keeps_names : NamesKept step
unfolding step screen_step
ours_keeps_names =
    record {
      name = λ os c i r l.
          ap (λ (x : List ℕ). screen.name_of x c i) (book_is os) ∙ name_is_told (keys_in os) c i (ranged c i r l) ∙ ap book.name_told (sym (told-as os c i));
      taken = ours-taken;
      in_turn = ours-in-turn;
      erased = ours-erased;
      whole = ours-whole;
      in_place = ours_in_place;
      stays = ours_stays;
      shown = ours-shown;
      complete = ours-complete;
    }

-- ---- of any device that meets both: no two entries show one cipher type and key ID

module _ (st : Step) (meets : Demand1 st) (kept : NamesKept st) (os : List Operation) where
  good-kept : good_book (device_after st os).book ≡ true
  good-kept = go (good_book (device_after st os).book) refl
    where
      done : (st (device_after st os) (OfScreen (Inventory 0))).0 ≡ Done
      done = ap (λ (r : Answer × List ℕ). r.0) (kept.shown os 0 (omega arith))

      go : (t : Bool) → good_book (device_after st os).book ≡ t → t ≡ true
      go true e = refl
      go false e =
          let r = meets.refused (device_after st os) (OfScreen (Inventory 0)) (λ right. true≢false (sym right.2 ∙ e)) in
          absurd (omega (arith, ap number_of done))

  parts_at : (k : ℕ) → k ≤ 15
      → (cipher_at st os k ≡ cipher_in (entry_of (device_after st os).book k)) × (id_at st os k ≡ id_in (entry_of (device_after st os).book k))
  parts_at k l =
      let e = kept.in_place (device_after st os) k l good-kept in
      let p = parts (device_after st os).book k l good-kept in
      (ap (λ (xs : List ℕ). get_or xs 0 0) e ∙ p.0, ap (λ (xs : List ℕ). get_or xs 1 0) e ∙ p.1)

  pub shown_once : (j k : ℕ) → j ≤ 15 → k ≤ 15 → (cipher_at st os k ≡ 0 → ⊥) → cipher_at st os j ≡ cipher_at st os k → id_at st os j ≡ id_at st os k → j ≡ k
  shown_once j k lj lk n p q =
      let pj = parts_at j lj in
      let pk = parts_at k lk in
      good-apart (device_after st os).book good-kept j k (omega arith) (omega arith) (λ z. n (pk.0 ∙ z)) (sym pj.0 ∙ p ∙ pk.0) (sym pj.1 ∙ q ∙ pk.1)
