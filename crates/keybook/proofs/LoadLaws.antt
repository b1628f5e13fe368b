-- The ways through the loading of a key, and that a refused one leaves the book as it was.
use mathlib.Core.Path.{◌≡◌, refl, sym, ap, subst, ◌∙◌}
use mathlib.Core.Bool.{Bool, true, false, true≢false}
use mathlib.Core.List.{List}
use Prim.Native.Nat.{ℕ}
use borrow.Author.Tests.{eqb-true}
use Rattle.answers.specs.declared.Answer.{Answer}
use Rattle.answers.specs.declared.Answer.TheVariants.{Done}
use Rattle.answers.specs.Numbers.{number_of, is_done}
use Rattle.std.specs.Prelude.{Result, Ok, Err, is_err}
use Rattle.answers.specs.Outcomes.{done_of}
use Rattle.answers.proofs.NumberLaws.{one_number}
use Rattle.answers.proofs.ResultLaws.{is_done_with, is_refused_with, refused_with, done_with}
use Rattle.keyentry.specs.Entry.{is_ready, name_in}
use Rattle.keybook.specs.Operations.{entry_for, begin_of, add_of, finish_of, erase_of, if_done, or_erased, load_of}
use Rattle.keybook.proofs.Laws.{Refuses, refused_begin_keeps, refused_add_keeps, refused_finish_keeps}
use Rattle.keybook.specs.Book.{good_book}
use Rattle.keybook.proofs.UndoLaws.{Begun, begun-good, begun_begin, begun_add, begun_finish, begun-erased, begun_for, begun_name, add_keeps_name, finish_keeps_name, finish_ready}

module _ (b : List ℕ) (c i : ℕ) (name key : List ℕ) {begun : List ℕ} {a : Answer} (begins : (a, begun) ≡ begin_of b c i name) where
  pub begin_refuses : is_done a ≡ false → (a, begun) ≡ load_of b c i name key
  unfolding load_of
  begin_refuses n = rw (← begins, n)

  module _ (y : is_done a ≡ true) {added : List ℕ} {d : Answer} (adds : (d, added) ≡ add_of begun c i key) where
    pub add_refuses : {e : Answer} {erased : List ℕ} → is_done d ≡ false → (e, erased) ≡ erase_of added c i → (d, erased) ≡ load_of b c i name key
    unfolding load_of
    add_refuses n r = rw (← begins, y, ← adds, n, n, ← r)

    module _ (z : is_done d ≡ true) {finished : List ℕ} {f : Answer} (finishes : (f, finished) ≡ finish_of added c i) where
      pub finish_refuses : {e : Answer} {erased : List ℕ} → is_done f ≡ false → (e, erased) ≡ erase_of finished c i → (f, erased) ≡ load_of b c i name key
      unfolding load_of
      finish_refuses n r = rw (← begins, y, ← adds, z, ← finishes, n, ← r)

      pub finish_done : is_done f ≡ true → (f, finished) ≡ load_of b c i name key
      unfolding load_of
      finish_done n = rw (← begins, y, ← adds, z, ← finishes, n)

-- ---- as the code does it

-- one operation after another
pub not_next : (o : Answer × List ℕ) (next : List ℕ → Answer × List ℕ) {a : Answer} {x : List ℕ} → o ≡ (a, x) → is_done a ≡ false → (a, x) ≡ if_done o next
not_next o next e n = rw (e, n)

pub and_next : (o : Answer × List ℕ) (next : List ℕ → Answer × List ℕ) {x : List ℕ} → o ≡ (Done, x) → next x ≡ if_done o next
and_next o next e = rw e

module _ (b : List ℕ) (c i : ℕ) (name key : List ℕ) where
  pub load_refused : {a : Answer} {x : List ℕ} → begin_of b c i name ≡ (a, x) → is_done a ≡ false → (a, x) ≡ load_of b c i name key
  unfolding load_of
  load_refused e n = not_next (begin_of b c i name) (λ x. or_erased c i (if_done (add_of x c i key) (λ y. finish_of y c i))) e n

  module _ {x : List ℕ} (begins : begin_of b c i name ≡ (Done, x)) where
    abbrev filling : Answer × List ℕ
    filling = if_done (add_of x c i key) (λ y. finish_of y c i)

    loads : or_erased c i filling ≡ load_of b c i name key
    unfolding load_of
    loads = and_next (begin_of b c i name) (λ x. or_erased c i (if_done (add_of x c i key) (λ y. finish_of y c i))) begins

    pub load_gives_up : (r : Result (Unit {0}) Answer) {y z : List ℕ} → (r, y) ≡ done_of (if_done (add_of x c i key) (λ y. finish_of y c i)) → is_err r ≡ true
        → z ≡ (erase_of y c i).1 → (r, z) ≡ done_of (load_of b c i name key)
    load_gives_up (Ok u) q t e = absurd (true≢false (sym t))
    load_gives_up (Err a) {y} {z} q t e =
        let w = is_refused_with filling q refl in
        refused_with w.1 (ap (λ (l : List ℕ). (a, l)) e ∙ erased w.0 w.1 ∙ loads)
      where
        erased : filling ≡ (a, y) → is_done a ≡ false → (a, (erase_of y c i).1) ≡ or_erased c i filling
        erased f n = rw (f, n)

    pub load_ends : (r : Result (Unit {0}) Answer) {y : List ℕ} → (r, y) ≡ done_of (if_done (add_of x c i key) (λ y. finish_of y c i)) → is_err r ≡ false
        → (r, y) ≡ done_of (load_of b c i name key)
    load_ends (Ok u) {y} q t = done_with (kept (is_done_with filling q refl) ∙ loads)
      where
        kept : filling ≡ (Done, y) → (Done, y) ≡ or_erased c i filling
        kept f = rw f
    load_ends (Err a) q t = absurd (true≢false t)

-- ---- what it comes to

refuses : (o : Answer × List ℕ) → is_done o.0 ≡ false → Refuses o
refuses o n e = true≢false (sym (ap is_done e) ∙ n)

module _ (b : List ℕ) (c i : ℕ) (name key : List ℕ) where
  -- what holds of the book as it was with each refusal, and of done with a book whose new entry is ready, holds of the outcome
  pub load_ways : (P : Answer × List ℕ → Type 0)
      → (is_done (begin_of b c i name).0 ≡ false → P ((begin_of b c i name).0, b))
      → ((k : ℕ) (e begun : List ℕ) → Begun b c i k e begun → is_done (add_of begun c i key).0 ≡ false → P ((add_of begun c i key).0, b))
      → ((k : ℕ) (e added : List ℕ) → Begun b c i k e added → is_done (finish_of added c i).0 ≡ false → P ((finish_of added c i).0, b))
      → ((k : ℕ) (e after : List ℕ) → Begun b c i k e after → is_ready e ≡ true → name_in e ≡ name → P (Done, after))
      → P (load_of b c i name key)
  load_ways P at-begin at-add at-finish done = by-begin (is_done (begin_of b c i name).0) refl
    where
      begun : List ℕ
      begun = (begin_of b c i name).1

      added : List ℕ
      added = (add_of begun c i key).1

      finished : List ℕ
      finished = (finish_of added c i).1

      given-up : (o : Answer × List ℕ) {k : ℕ} {e now : List ℕ} → Begun b c i k e now → o.1 ≡ now → b ≡ (erase_of o.1 c i).1
      given-up o m q = sym (ap (λ (x : List ℕ). (erase_of x c i).1) q ∙ ap (λ (r : Answer × List ℕ). r.1) (begun-erased m))

      by-finish : (y : is_done (begin_of b c i name).0 ≡ true) (z : is_done (add_of begun c i key).0 ≡ true) (t : Bool) → is_done (finish_of added c i).0 ≡ t → P (load_of b c i name key)
      by-finish y z true w =
          let begins = begun_begin b c i name y in
          let m = begun_add begins key z in
          let named = finish_keeps_name m ∙ add_keeps_name begins key z ∙ begun_name b c i name y in
          let a : Done ≡ (finish_of added c i).0 = one_number Done (finish_of added c i).0 (sym (eqb-true (number_of (finish_of added c i).0) 0 w)) in
          subst P (ap (λ (x : Answer). (x, finished)) a ∙ finish_done b c i name key refl y refl z refl w) (done _ _ finished (begun_finish m w) (finish_ready m w) named)
      by-finish y z false w =
          let m = begun_add (begun_begin b c i name y) key z in
          let k = given-up (finish_of added c i) m (refused_finish_keeps added c i (refuses (finish_of added c i) w)) in
          subst P (ap (λ (x : List ℕ). ((finish_of added c i).0, x)) k ∙ finish_refuses b c i name key refl y refl z refl w refl) (at-finish _ _ added m w)

      by-add : (y : is_done (begin_of b c i name).0 ≡ true) (t : Bool) → is_done (add_of begun c i key).0 ≡ t → P (load_of b c i name key)
      by-add y true z = by-finish y z (is_done (finish_of added c i).0) refl
      by-add y false z =
          let m = begun_begin b c i name y in
          let k = given-up (add_of begun c i key) m (refused_add_keeps begun c i key (refuses (add_of begun c i key) z)) in
          subst P (ap (λ (x : List ℕ). ((add_of begun c i key).0, x)) k ∙ add_refuses b c i name key refl y refl z refl) (at-add _ _ begun m z)

      by-begin : (t : Bool) → is_done (begin_of b c i name).0 ≡ t → P (load_of b c i name key)
      by-begin true y = by-add y (is_done (add_of begun c i key).0) refl
      by-begin false y =
          let k = sym (refused_begin_keeps b c i name (refuses (begin_of b c i name) y)) in
          subst P (ap (λ (x : List ℕ). ((begin_of b c i name).0, x)) k ∙ begin_refuses b c i name key refl y) (at-begin y)

  -- a refused one leaves the book as it was
  pub load_keeps : Refuses (load_of b c i name key) → (load_of b c i name key).1 ≡ b
  load_keeps =
      load_ways (λ o. Refuses o → o.1 ≡ b) (λ y n. refl) (λ k e begun m z n. refl) (λ k e added m w n. refl) (λ k e after m r s n. absurd (n refl))

  -- a good book stays good
  pub load_stays_good : good_book b ≡ true → good_book (load_of b c i name key).1 ≡ true
  load_stays_good g = load_ways (λ o. good_book o.1 ≡ true) (λ y. g) (λ k e begun m z. g) (λ k e added m w. g) (λ k e after m r s. begun-good m)

  -- where it is done, the entry has the name that was given
  pub load_named : (load_of b c i name key).0 ≡ Done → name_in (entry_for (load_of b c i name key).1 c i) ≡ name
  load_named =
      load_ways (λ o. o.0 ≡ Done → name_in (entry_for o.1 c i) ≡ name) (λ y q. absurd (refuses (begin_of b c i name) y q))
      (λ k e begun m z q. absurd (refuses (add_of begun c i key) z q)) (λ k e added m w q. absurd (refuses (finish_of added c i) w q))
      (λ k e after m r s q. ap name_in (begun_for m) ∙ s)
