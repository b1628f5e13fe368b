-- After every list of key operations on an all-zero book, it is good, and holds for each cipher type and key ID what
-- their history tells.
use Prim.Native.Nat.{ℕ, ◌+◌, ◌*◌, ◌-◌, ◌≤◌, ◌<◌}
use native.Mathlib.Decide.{ℕ_discrete}
use native.Mathlib.Omega.{arith}
use mathlib.Core.Path.{◌≡◌, refl, sym, ap, ap₂, ◌∙◌}
use mathlib.Core.Bool.{Bool, true, false, ◌&&◌}
use mathlib.Core.List.{List, [], ◌∷◌, ◌++◌}
use lib.ListN.{length, replicate, length-drop, take-append-drop}
use lib.Dec.{eqb}
use borrow.Author.Tests.{eq-eqb, ne_eqb, eqb-true}
use Rattle.octets.specs.Lists.{all_zero}
use Rattle.octets.proofs.ListLaws.{padded-at, zeros_are}
use Rattle.sizes.proofs.SizeLaws.{key-at-most}
use Rattle.octets.specs.Tests.{pick, all_below}
use Rattle.octets.proofs.TestLaws.{and_left, and_right, first_holds}
use Rattle.answers.specs.declared.Answer.{Answer}
use Rattle.answers.specs.declared.Answer.TheVariants.{Done}
use Rattle.answers.specs.Numbers.{is_done}
use Rattle.answers.specs.Outcomes.{Refusals, outcome}
use Rattle.answers.proofs.OutcomeLaws.{NoneHolds, never_done, among_not_done, by_refusals}
use Rattle.keyentry.specs.Entry.{entry_octets, cipher_in, id_in, count_in, is_ready, key_in, key_rest, name_in, entry_right, is_for, blank, new_entry, extended, completed}
use Rattle.sizes.specs.Ciphers.{key_room}
use Rattle.keyentry.proofs.RightLaws.{Used, for_parts, parts_for, not_for}
use Rattle.keyentry.proofs.WriteLaws.{key_loaded, key-length, loaded_count, blank-cipher, new_cipher, new_id, new_octets, new_not-ready, new_name, extend_cipher, extend_id, extend_name, extend_octets, extend_not-ready, complete_cipher, complete_id, complete_name, complete_octets, complete_ready}
use Rattle.keybook.specs.Book.{entries, book_octets, entry_of, with_entry, apart, good_book, find_entry, free_entry}
use Rattle.keybook.specs.Operations.{entry_for, with_for, begin_refusals, begin_after, begin_of, add_refusals, add_of, finish_refusals, finish_of, entry_refusals, erase_of}
use Rattle.keybook.specs.History.{Operation, Begin, Add, Finish, Erase, Progress, nothing, loading, finished, tells, concerns, telling, step, book_after, history, padded}
use Rattle.keybook.proofs.GoodLaws.{good_sized, found_for, entry_octet}
use Rattle.keybook.proofs.DoneLaws.{Changed, There, begin_never_done, add_never_done, finish_never_done, entry_never_done, begin_named, begin_changed, begin_used, add_there, add_not-ready, add_fits, add_changed, finish_there, finish_not-ready, finish_changed, entry_there, erase_changed}
use Rattle.keybook.proofs.FindLaws.{none_there, used-found, its, not-its, gone}
use Rattle.keybook.proofs.Laws.{begin_stays_good, add_stays_good, finish_stays_good, erase_stays_good}

-- ---- the book is good throughout

zeros-good : good_book (replicate book_octets 0) ≡ true
unfolding good_book entry_of apart entry_right all_zero all_below
zeros-good = refl

step-good : (o : Operation) (b : List ℕ) → good_book b ≡ true → good_book (step o b).1 ≡ true
unfolding step
step-good (Begin c i n) b g = begin_stays_good b g c i n
step-good (Add c i xs) b g = add_stays_good b g c i xs
step-good (Finish c i) b g = finish_stays_good b g c i
step-good (Erase c i) b g = erase_stays_good b g c i

pub always_good : (os : List Operation) → good_book (book_after os) ≡ true
unfolding book_after
always_good [] = zeros-good
always_good (o ∷ os) = step-good o (book_after os) (always_good os)

-- ---- what the book holds for a cipher type and key ID is what the history tells

-- what an entry holds; a free one holds nothing, nor does one that is not there
unfoldable pub held : List ℕ → Progress
held e = pick (eqb (cipher_in e) 0) nothing (pick (is_ready e) (finished (name_in e) (key_loaded e)) (loading (name_in e) (key_loaded e)))

module _ (e : List ℕ) where
  pub held_nothing : cipher_in e ≡ 0 → held e ≡ nothing
  unfolding held
  held_nothing z = rw (eq-eqb _ _ z)

  module _ (n : cipher_in e ≡ 0 → ⊥) where
    pub held-loading : is_ready e ≡ false → held e ≡ loading (name_in e) (key_loaded e)
    unfolding held
    held-loading r = rw (ne_eqb _ _ n, r)

    pub held-finished : is_ready e ≡ true → held e ≡ finished (name_in e) (key_loaded e)
    unfolding held
    held-finished r = rw (ne_eqb _ _ n, r)

-- what holds a finished key is used, ready, and has its name and its octets loaded
pub record HoldsKey (e n xs : List ℕ) : Type 0 where
  pub used : cipher_in e ≡ 0 → ⊥
  pub ready : is_ready e ≡ true
  pub name : name_in e ≡ n
  pub octets : key_loaded e ≡ xs

pub finished_holds : (e n xs : List ℕ) → held e ≡ finished n xs → HoldsKey e n xs
finished_holds e n xs h =
    record {
      used = used;
      ready = ready (is_ready e) refl;
      name = (cc (held-finished e used (ready (is_ready e) refl)));
      octets = (cc (held-finished e used (ready (is_ready e) refl)));
    }
  where
    used : cipher_in e ≡ 0 → ⊥
    used z = let n : ◌≡◌ {A = ℕ} 0 1 = cc (held_nothing e z) in omega arith

    ready : (t : Bool) → is_ready e ≡ t → t ≡ true
    ready true r = refl
    ready false r = cc (held-loading e used r)

-- the test of an entry for a cipher type and key ID is that of the operation that names its own
parts_test : (e : List ℕ) (c i : ℕ) {d j : ℕ} → cipher_in e ≡ d → id_in e ≡ j → is_for c i e ≡ (eqb d c && eqb j i)
unfolding is_for
parts_test e c i p q = rw (p, q)

-- no key is held for cipher type 0
pub none-held : (b : List ℕ) (i : ℕ) → length b ≡ book_octets → held (entry_for b 0 i) ≡ nothing
none-held b i w = go (ℕ_discrete (cipher_in (entry_for b 0 i)) 0)
  where
    go : Dec (cipher_in (entry_for b 0 i) ≡ 0) → held (entry_for b 0 i) ≡ nothing
    go (yes z) = held_nothing (entry_for b 0 i) z
    go (no u) = absurd (u (for_parts (entry_for b 0 i) 0 i (found_for b 0 i (used-found b 0 i w u))).0)

module _ (b : List ℕ) (c i : ℕ) where
  -- after an operation with its answer
  abbrev Then : Operation → Answer × List ℕ → Type 0
  Then o r = held (entry_for r.1 c i) ≡ pick (is_done r.0 && concerns c i o) (tells o (held (entry_for b c i))) (held (entry_for b c i))

  by-outcome : (o : Operation) (rs : Refusals) (after : List ℕ) → never_done rs ≡ true → (NoneHolds rs → Then o (Done, after)) → Then o (outcome b rs after)
  by-outcome o rs after d h = by_refusals (Then o) b rs (Done, after) (λ a m. rw (among_not_done a rs d m)) h

  -- an operation that names d and j replaced entry k by e: what it says of its own name, and that no other had entry k or has e
  renewed : (o : Operation) (d j k : ℕ) (e : List ℕ) {after : List ℕ} → concerns c i o ≡ (eqb d c && eqb j i) → Changed b after k e
      → held (entry_for (with_entry b k e) d j) ≡ tells o (held (entry_for b d j))
      → ((c ≡ 0 → ⊥) → (eqb d c && eqb j i) ≡ false → (is_for c i e ≡ false) × (is_for c i (entry_of b k) ≡ false)) → Then o (Done, after)
  renewed o d j k e m ch own other = rw (m, ch.is) (go (eqb d c && eqb j i) refl)
    where
      go : (u : Bool) → (eqb d c && eqb j i) ≡ u → held (entry_for (with_entry b k e) c i) ≡ pick u (tells o (held (entry_for b c i))) (held (entry_for b c i))
      go true q = rw (eqb-true d c (and_left (eqb d c) (eqb j i) q), eqb-true j i (and_right (eqb d c) (eqb j i) q)) at own
      go false q = by-cipher (ℕ_discrete c 0)
        where
          by-cipher : Dec (c ≡ 0) → held (entry_for (with_entry b k e) c i) ≡ held (entry_for b c i)
          by-cipher (yes z) = rw z (none-held (with_entry b k e) i (good_sized _ ch.good) ∙ sym (none-held b i (good_sized b ch.was_good)))
          by-cipher (no n) = ap held (not-its b k e ch c i n (other n q).0 (other n q).1)

  -- it replaced the entry of its own name by one that has it too
  went_on : (o : Operation) (d j : ℕ) (e : List ℕ) → concerns c i o ≡ (eqb d c && eqb j i) → There b d j → Changed b (with_for b d j e) (find_entry b d j) e
      → cipher_in e ≡ cipher_in (entry_for b d j) → id_in e ≡ id_in (entry_for b d j) → held e ≡ tells o (held (entry_for b d j)) → Then o (Done, with_for b d j e)
  went_on o d j e m s ch p q t =
      renewed o d j (find_entry b d j) e m ch
      (ap held (its b (find_entry b d j) e ch d j (λ z. s.used (s.cipher ∙ z)) (parts_for e d j (p ∙ s.cipher) (q ∙ s.id))) ∙ t)
      (λ n h. (parts_test e c i (p ∙ s.cipher) (q ∙ s.id) ∙ h, parts_test (entry_for b d j) c i s.cipher s.id ∙ h))

  free-not-for : (c ≡ 0 → ⊥) → free_entry b < entries → is_for c i (entry_of b (free_entry b)) ≡ false
  unfolding free_entry
  free-not-for n m =
      let z = eqb-true _ _ (first_holds (λ k. eqb (cipher_in (entry_of b k)) 0) entries m) in
      not_for (entry_of b (free_entry b)) c i (λ p q. n (sym p ∙ z))

  step-tells : (o : Operation) → Then o (step o b)
  unfolding step begin_of add_of finish_of erase_of
  step-tells (Begin d j name) =
      by-outcome (Begin d j name) (begin_refusals b d j name) (begin_after b d j name) (begin_never_done b d j name) (λ m.
      let ch = begin_changed b d j name m in
      let n = begin_used b d j name m in
      let e = new_entry d j name in
      let p = new_cipher d j name in
      let q = new_id d j name in
      renewed (Begin d j name) d j (free_entry b) e refl ch
      (ap held (its b (free_entry b) e ch d j n (parts_for e d j p q))
      ∙ held-loading e (λ z. n (sym p ∙ z)) (new_not-ready d j name)
      ∙ ap₂ loading (new_name d j name (begin_named b d j name m)) (new_octets d j name))
      (λ u h. (parts_test e c i p q ∙ h, free-not-for u ch.below)))
  step-tells (Add d j ys) =
      by-outcome (Add d j ys) (add_refusals b d j ys) (with_for b d j (extended (entry_for b d j) ys)) (add_never_done b d j ys) (λ m.
      let s = add_there b d j ys m in
      let e = entry_for b d j in
      let l = add_fits b d j ys m in
      let r = add_not-ready b d j ys m in
      let p = extend_cipher e ys s.long s.right l in
      went_on (Add d j ys) d j (extended e ys) refl s (add_changed b d j ys m) p (extend_id e ys s.long s.right l)
      (held-loading (extended e ys) (λ z. s.used (sym p ∙ z)) (extend_not-ready e ys s.long s.right l r)
      ∙ ap₂ loading (extend_name e ys s.long s.right l) (extend_octets e ys s.long s.right l) ∙ ap (tells (Add d j ys)) (sym (held-loading e s.used r))))
  step-tells (Finish d j) =
      by-outcome (Finish d j) (finish_refusals b d j) (with_for b d j (completed (entry_for b d j))) (finish_never_done b d j) (λ m.
      let s = finish_there b d j m in
      let e = entry_for b d j in
      let p = complete_cipher e s.long in
      went_on (Finish d j) d j (completed e) refl s (finish_changed b d j m) p (complete_id e s.long)
      (held-finished (completed e) (λ z. s.used (sym p ∙ z)) (complete_ready e s.long)
      ∙ ap₂ finished (complete_name e s.long) (complete_octets e s.long) ∙ ap (tells (Finish d j)) (sym (held-loading e s.used (finish_not-ready b d j m)))))
  step-tells (Erase d j) =
      by-outcome (Erase d j) (entry_refusals b d j) (with_for b d j blank) (entry_never_done b d j) (λ m.
      let s = entry_there b d j m in
      let ch = erase_changed b d j m in
      let k = find_entry b d j in
      let after = with_for b d j blank in
      let z : d ≡ 0 → ⊥ = λ z. s.used (s.cipher ∙ z) in
      let g = gone b k blank ch d j z (not_for blank d j (λ p q. z (sym p ∙ blank-cipher))) (found_for b d j s.below) in
      renewed (Erase d j) d j k blank refl ch (held_nothing (entry_for after d j) (ap cipher_in (none_there after d j (good_sized after ch.good) g)))
      (λ n h. (not_for blank c i (λ p q. n (sym p ∙ blank-cipher)), parts_test (entry_for b d j) c i s.cipher s.id ∙ h)))

-- after every list of operations
pub holds_what_was_told : (os : List Operation) (c i : ℕ) → held (entry_for (book_after os) c i) ≡ telling (history os) c i
unfolding book_after history telling
holds_what_was_told [] c i =
    let b : List ℕ = replicate book_octets 0 in
    let k = find_entry b c i in
    held_nothing (entry_for b c i) (entry_octet b k 0 (omega arith) ∙ padded-at [] book_octets (k * entry_octets + 0))
holds_what_was_told (o ∷ os) c i =
    let b = book_after os in
    step-tells b c i o ∙ ap (λ (t : Progress). pick (is_done (step o b).0 && concerns c i o) (tells o t) t) (holds_what_was_told os c i)

-- ---- the key of a ready entry

-- the loaded octets, followed by zeros
pub key-padded : (e : List ℕ) → length e ≡ entry_octets → Used e → key_in e ≡ padded (key_loaded e)
key-padded e w u =
    let m : count_in e ≤ key_room = omega (arith, u.count, key-at-most (cipher_in e)) in
    let r : length (key_rest e) ≡ key_room - length (key_loaded e) = rw (loaded_count e w m) (length-drop (count_in e) (key_in e) ∙ ap (λ (x : ℕ). x - count_in e) (key-length e w)) in
    sym (take-append-drop (count_in e) (key_in e))
    ∙ ap (λ (l : List ℕ). key_loaded e ++ l) (zeros_are (key_rest e) (key_room - length (key_loaded e)) r u.rest)
