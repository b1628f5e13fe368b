-- The cases of the operations, each as a way through the code meets it.
use Prim.Native.Nat.{ℕ, ◌≤◌, ◌<◌}
use native.Mathlib.Omega.{arith}
use mathlib.Core.Path.{◌≡◌, refl, sym, ap, subst, ◌∙◌}
use mathlib.Core.Bool.{Bool, true, false, not, true≢false}
use mathlib.Core.List.{List, [], ◌∷◌, ◌++◌}
use lib.ListN.{length, take-append-drop}
use lib.Seq.{drop-drop}
use lib.Dec.{ltb}
use borrow.Author.Tests.{lt-ltb, le-ltb, ltb-true, ltb-false, eq-eqb, ne_eqb, eqb-true, not-false}
use Rattle.octets.specs.Lists.{replaced}
use Rattle.octets.specs.Tests.{pick}
use Rattle.answers.specs.declared.Answer.{Answer}
use Rattle.answers.specs.declared.Answer.TheVariants.{Done, WrongLength, OutOfRange, NoEntry, NotReady, Already, Full, BadName}
use Rattle.answers.specs.Numbers.{is_done}
use Rattle.answers.specs.Outcomes.{Refusals, settled, outcome, done_of}
use Rattle.answers.proofs.OutcomeLaws.{NoneHolds, never_done, done_none, none_settles, none_first, first_refuses, around, refusal_keeps}
use Rattle.keyentry.specs.Name.{name_octets, name_right}
use Rattle.keyentry.specs.Entry.{count_in, ready_in, key_in, in_range, blank, new_entry, extend_refusals, extended, complete_refusals, completed}
use Rattle.sizes.specs.Ciphers.{key_room}
use Rattle.keybook.specs.Book.{entries, book_octets, entry_of, with_entry, good_book, find_entry, free_entry, bad_book, book_refusals}
use Rattle.keybook.specs.Lookup.{place, found, found_by, spotted, lookup, seeking}
use Rattle.keybook.specs.Operations.{has_entry, place_refusals, begin_refusals, begin_after, begin_of, add_refusals, add_of, finish_refusals, finish_of, entry_refusals, erase_of, no_key, not_ready, ready_refusals, ready_key_of}
use Rattle.std.specs.Prelude.{Option, Some, None, is_some, Result, Ok, Err}
use Rattle.std.specs.Option.{ok_or}
use Rattle.keyentry.proofs.RightLaws.{count_fits}
use Rattle.keybook.proofs.GoodLaws.{good_entry}
use Rattle.answers.proofs.ResultLaws.{is_done_with, is_refused_with}

-- ---- what was found

clash : {A : Type 0} → ◌≡◌ {A = ℕ} 0 1 → A
clash z = absurd (omega arith)

module _ (o : Answer × ℕ) where
  found-refused : (a : Answer) → found o ≡ Err a → (o.0 ≡ a) × (is_done o.0 ≡ false)
  found-refused a = go (is_done o.0) (ltb o.1 entries) refl
    where
      go : (t u : Bool) → is_done o.0 ≡ t → pick t (Ok (pick u (Some o.1) None)) (Err o.0) ≡ Err a → (o.0 ≡ a) × (is_done o.0 ≡ false)
      go true true d q = clash (cc)
      go true false d q = clash (cc)
      go false u d q = ((cc), d)

  found_at : (k : ℕ) → found o ≡ Ok (Some k) → (is_done o.0 ≡ true) × (k ≡ o.1) × (k < entries)
  found_at k = go (is_done o.0) (ltb o.1 entries) refl refl
    where
      go : (t u : Bool) → is_done o.0 ≡ t → ltb o.1 entries ≡ u → pick t (Ok (pick u (Some o.1) None)) (Err o.0) ≡ Ok (Some k)
          → (is_done o.0 ≡ true) × (k ≡ o.1) × (k < entries)
      go true true d l q = let e : k ≡ o.1 = cc in (d, e, rw e (ltb-true _ _ l))
      go true false d l q = clash (cc)
      go false u d l q = clash (cc)

  found-missing : found o ≡ Ok None → (is_done o.0 ≡ true) × (entries ≤ o.1)
  found-missing = go (is_done o.0) (ltb o.1 entries) refl refl
    where
      go : (t u : Bool) → is_done o.0 ≡ t → ltb o.1 entries ≡ u → pick t (Ok (pick u (Some o.1) None)) (Err o.0) ≡ Ok None
          → (is_done o.0 ≡ true) × (entries ≤ o.1)
      go true true d l q = clash (cc)
      go true false d l q = (d, ltb-false _ _ l)
      go false u d l q = clash (cc)

-- what an entry that was found says of the book
pub record Located (b : List ℕ) (c i k : ℕ) : Type 0 where
  pub sized : length b ≡ book_octets
  pub in_range_lem : in_range c i ≡ true
  pub good : good_book b ≡ true
  pub here : k ≡ find_entry b c i
  pub below : k < entries

-- where these refuse the search, and none answers done
module _ (rs : Refusals) (d : never_done rs ≡ true) (b : List ℕ) (c i : ℕ) where
  abbrev asked : Answer × ℕ
  asked = outcome entries rs (find_entry b c i)

  passed : is_done asked.0 ≡ true → NoneHolds rs
  passed = done_none rs entries (find_entry b c i) d

  -- nothing refuses it, and the entry is not there
  module _ (q : found_by rs b c i ≡ Ok None) where
    missing-none : NoneHolds rs
    missing-none = passed (found-missing asked q).0

    missing_has : has_entry b c i ≡ false
    missing_has =
        le-ltb (find_entry b c i) entries
        (subst (λ (o : Answer × ℕ). entries ≤ o.1) (none_settles rs entries (Done, find_entry b c i) missing-none) (found-missing asked q).1)

  -- or it is
  module _ (k : ℕ) (q : found_by rs b c i ≡ Ok (Some k)) where
    at_none : NoneHolds rs
    at_none = passed (found_at asked k q).0

    at-below : k < entries
    at-below = (found_at asked k q).2

    at_here : k ≡ find_entry b c i
    at_here = (found_at asked k q).1 ∙ ap (λ (o : Answer × ℕ). o.1) (none_settles rs entries (Done, find_entry b c i) at_none)

    at_has : has_entry b c i ≡ true
    at_has = lt-ltb (find_entry b c i) entries (rw at_here at at-below)

module _ (b : List ℕ) (c i : ℕ) where
  never_done_lem : never_done (book_refusals b c i) ≡ true
  unfolding book_refusals
  never_done_lem = refl

  pub sized_by : NoneHolds (book_refusals b c i) → length b ≡ book_octets
  unfolding book_refusals
  sized_by n = eqb-true _ _ (not-false _ n.0)

  pub in_range_by : NoneHolds (book_refusals b c i) → in_range c i ≡ true
  unfolding book_refusals
  in_range_by n = not-false _ n.1.0

  pub good_by : NoneHolds (book_refusals b c i) → good_book b ≡ true
  unfolding book_refusals
  good_by n = not-false _ n.1.1.0

  look_not-done : (a : Answer) → lookup b c i ≡ Err a → is_done a ≡ false
  unfolding lookup
  look_not-done a q = let f = found-refused (outcome entries (book_refusals b c i) (find_entry b c i)) a q in sym (ap is_done f.0) ∙ f.1

  spotted_at : (k : ℕ) → spotted (lookup b c i) ≡ Ok k → lookup b c i ≡ Ok (Some k)
  spotted_at k = go (lookup b c i) refl
    where
      go : (r : Result (Option ℕ) Answer) → lookup b c i ≡ r → spotted r ≡ Ok k → r ≡ Ok (Some k)
      go (Ok (Some j)) q e = cc
      go (Ok None) q e = clash (cc)
      go (Err a) q e = clash (cc)

  module _ (k : ℕ) (e : spotted (lookup b c i) ≡ Ok k) where
    q : lookup b c i ≡ Ok (Some k)
    q = spotted_at k e

    pub located : Located b c i k
    unfolding lookup
    located =
        let rs = book_refusals b c i in
        let n = at_none rs never_done_lem b c i k q in
        record {
          sized = sized_by n;
          in_range_lem = in_range_by n;
          good = good_by n;
          here = at_here rs never_done_lem b c i k q;
          below = at-below rs never_done_lem b c i k q;
        }

    -- so the entry has room for what may be loaded
    pub located_count : count_in (entry_of b k) ≤ key_room
    located_count = count_fits (entry_of b k) (good_entry b located.good k located.below)

-- ---- the ways through an operation on the entry that was found

module _ {S : Type 0} (b : List ℕ) (c i : ℕ) (before : S) where
  when-refused : (rs rest : Refusals) (last : Answer × S) (a : Answer) → found_by rs b c i ≡ Err a → (a, before) ≡ settled before (rs ++ rest) last
  when-refused rs rest last a q =
      let f = found-refused (outcome entries rs (find_entry b c i)) a q in
      sym (first_refuses rs rest entries (find_entry b c i) before last f.1 ∙ ap (λ (x : Answer). (x, before)) f.0)

  pub record Ways (at : ℕ → Answer × S) (o : Answer × S) : Type 0 where
    pub refused : (a : Answer) → lookup b c i ≡ Err a → (a, before) ≡ o
    pub missing : lookup b c i ≡ Ok None → (NoEntry, before) ≡ o
    pub found : (k : ℕ) → lookup b c i ≡ Ok (Some k) → at k ≡ o

  -- what an operation learns of the search
  module _ {at : ℕ → Answer × S} {o : Answer × S} (w : Ways at o) where
    pub way-refused : (a : Answer) → spotted (lookup b c i) ≡ Err a → (is_done a ≡ false) × ((a, before) ≡ o)
    way-refused a = go (lookup b c i) refl
      where
        go : (r : Result (Option ℕ) Answer) → lookup b c i ≡ r → spotted r ≡ Err a → (is_done a ≡ false) × ((a, before) ≡ o)
        go (Ok (Some k)) q e = clash (cc)
        go (Ok None) q e = let z : NoEntry ≡ a = cc in (ap is_done (sym z), ap (λ (x : Answer). (x, before)) (sym z) ∙ w.missing q)
        go (Err r) q e = let z : r ≡ a = cc in (ap is_done (sym z) ∙ look_not-done b c i r q, ap (λ (x : Answer). (x, before)) (sym z) ∙ w.refused r q)

    pub way-found : (k : ℕ) → spotted (lookup b c i) ≡ Ok k → at k ≡ o
    way-found k e = w.found k (spotted_at b c i k e)

  module _ (more : ℕ → Refusals) (last : ℕ → Answer × S) where
    abbrev rest : Refusals
    rest = (not (has_entry b c i), NoEntry) ∷ more (find_entry b c i)

    pub ways : Ways (λ k. settled before (more k) (last k)) (settled before (book_refusals b c i ++ rest) (last (find_entry b c i)))
    unfolding lookup
    ways =
        let rs = book_refusals b c i in
        let d = never_done_lem b c i in
        record {
          refused = when-refused rs rest (last (find_entry b c i));
          missing = λ q. sym (none_first rs rest before (last (find_entry b c i)) (missing-none rs d b c i q) ∙ rw (missing_has rs d b c i q));
          found = λ k q.
              rw (at_here rs d b c i k q)
              (sym (none_first rs rest before (last (find_entry b c i)) (at_none rs d b c i k q) ∙ rw (at_has rs d b c i k q)));
        }

-- ---- begin

-- the place of a free entry, or 12
module _ (f : ℕ) where
  pub place_full : {a : Answer} → ok_or (place f) Full ≡ Err a → (a ≡ Full) × (entries ≤ f)
  place_full {a} = go (ltb f entries) refl
    where
      go : (t : Bool) → ltb f entries ≡ t → ok_or (pick t (Some f) None) Full ≡ Err a → (a ≡ Full) × (entries ≤ f)
      go true l q = clash (cc)
      go false l q = let z : a ≡ Full = cc in (z, ltb-false _ _ l)

  pub place_free : {k : ℕ} → ok_or (place f) Full ≡ Ok k → (k ≡ f) × (k < entries)
  place_free {k} = go (ltb f entries) refl
    where
      go : (t : Bool) → ltb f entries ≡ t → ok_or (pick t (Some f) None) Full ≡ Ok k → (k ≡ f) × (k < entries)
      go true l q = let z : k ≡ f = cc in (z, rw z (ltb-true _ _ l))
      go false l q = clash (cc)

module _ (b : List ℕ) (c i : ℕ) where
  pub seek_not-done : (a : Answer) → seeking b c i ≡ Err a → is_done a ≡ false
  unfolding seeking
  seek_not-done a q = let f = found-refused (outcome entries (bad_book b) (find_entry b c i)) a q in sym (ap is_done f.0) ∙ f.1

  pub none_there : (o : Option ℕ) → seeking b c i ≡ Ok o → is_some o ≡ false → seeking b c i ≡ Ok None
  none_there (Some k) q s = absurd (true≢false s)
  none_there None q s = q

module _ (b : List ℕ) (c i : ℕ) (n : List ℕ) where
  pub begin_name_length : (length n ≡ name_octets → ⊥) → (WrongLength, b) ≡ begin_of b c i n
  unfolding begin_of begin_refusals
  begin_name_length m = rw (ne_eqb _ _ m)

  module _ (w : length n ≡ name_octets) where
    pub begin_length : (length b ≡ book_octets → ⊥) → (WrongLength, b) ≡ begin_of b c i n
    unfolding begin_of begin_refusals
    begin_length m = rw (eq-eqb _ _ w, ne_eqb _ _ m)

    module _ (h : length b ≡ book_octets) where
      pub begin_range : in_range c i ≡ false → (OutOfRange, b) ≡ begin_of b c i n
      unfolding begin_of begin_refusals
      begin_range r = rw (eq-eqb _ _ w, eq-eqb _ _ h, r)

      module _ (r : in_range c i ≡ true) where
        pub begin_bad_name : name_right n ≡ false → (BadName, b) ≡ begin_of b c i n
        unfolding begin_of begin_refusals
        begin_bad_name t = rw (eq-eqb _ _ w, eq-eqb _ _ h, r, t)

        module _ (t : name_right n ≡ true) where
          abbrev begins : Refusals
          begins = place_refusals b c i

          named-begins : begin_of b c i n ≡ settled b (bad_book b ++ begins) (Done, begin_after b c i n)
          unfolding begin_of begin_refusals
          named-begins = rw (eq-eqb _ _ w, eq-eqb _ _ h, r, t)

          pub begin_refused : (a : Answer) → seeking b c i ≡ Err a → (a, b) ≡ begin_of b c i n
          unfolding seeking
          begin_refused a q = when-refused b c i b (bad_book b) begins (Done, begin_after b c i n) a q ∙ sym named-begins

          pub begin_already : (k : ℕ) → seeking b c i ≡ Ok (Some k) → (Already, b) ≡ begin_of b c i n
          unfolding seeking
          begin_already k q =
              sym (named-begins ∙ none_first (bad_book b) begins b (Done, begin_after b c i n) (at_none (bad_book b) refl b c i k q)
              ∙ rw (at_has (bad_book b) refl b c i k q))

          pub begin_some : (o : Option ℕ) → seeking b c i ≡ Ok o → is_some o ≡ true → (Already, b) ≡ begin_of b c i n
          begin_some (Some k) q s = begin_already k q
          begin_some None q s = absurd (true≢false (sym s))

          module _ (q : seeking b c i ≡ Ok None) {k : ℕ} (e : k ≡ free_entry b) where
            missing-begins : begin_of b c i n ≡ settled b begins (Done, begin_after b c i n)
            unfolding seeking
            missing-begins = named-begins ∙ none_first (bad_book b) begins b (Done, begin_after b c i n) (missing-none (bad_book b) refl b c i q)

            pub begin_full : entries ≤ k → (Full, b) ≡ begin_of b c i n
            unfolding seeking
            begin_full l = sym (missing-begins ∙ rw (missing_has (bad_book b) refl b c i q, ← e, le-ltb _ _ l))

            pub begin_done : k < entries → (Done, with_entry b k (new_entry c i n)) ≡ begin_of b c i n
            unfolding seeking begin_after
            begin_done l = sym (missing-begins ∙ rw (missing_has (bad_book b) refl b c i q, ← e, lt-ltb _ _ l))

-- ---- an operation on the entry that was found is one on the book

module _ (b : List ℕ) (c i : ℕ) where
  pub erase_ways : Ways b c i b (λ k. (Done, with_entry b k blank)) (erase_of b c i)
  unfolding erase_of entry_refusals
  erase_ways = ways b c i b (λ k. []) (λ k. (Done, with_entry b k blank))

  pub finish_ways : Ways b c i b (λ k. outcome b (complete_refusals (entry_of b k)) (with_entry b k (completed (entry_of b k)))) (finish_of b c i)
  unfolding finish_of finish_refusals
  finish_ways = ways b c i b (λ k. complete_refusals (entry_of b k)) (λ k. (Done, with_entry b k (completed (entry_of b k))))

  pub ready_ways : Ways b c i no_key (λ k. outcome no_key (not_ready (entry_of b k)) (key_in (entry_of b k))) (ready_key_of b c i)
  unfolding ready_key_of ready_refusals
  ready_ways = ways b c i no_key (λ k. not_ready (entry_of b k)) (λ k. (Done, key_in (entry_of b k)))

  module _ (xs : List ℕ) where
    pub add_length : key_room < length xs → (WrongLength, b) ≡ add_of b c i xs
    unfolding add_of add_refusals
    add_length h = rw (lt-ltb _ _ h)

    pub add_ways : length xs ≤ key_room → Ways b c i b (λ k. outcome b (extend_refusals (entry_of b k) xs) (with_entry b k (extended (entry_of b k) xs))) (add_of b c i xs)
    unfolding add_of add_refusals
    add_ways h =
        rw (le-ltb _ _ h)
        (ways b c i b (λ k. extend_refusals (entry_of b k) xs) (λ k. (Done, with_entry b k (extended (entry_of b k) xs))))

-- an entry replaced by itself
pub with_same : (b : List ℕ) (k : ℕ) → with_entry b k (entry_of b k) ≡ b
unfolding with_entry entry_of replaced
with_same b k = rw (← drop-drop, take-append-drop, take-append-drop)

module _ (b : List ℕ) (k : ℕ) (rs : List ℕ → Refusals) (after : List ℕ → List ℕ) where
  on_entry : {r : Answer} {e : List ℕ} → (r, e) ≡ outcome (entry_of b k) (rs (entry_of b k)) (after (entry_of b k))
      → (r, with_entry b k e) ≡ outcome b (rs (entry_of b k)) (with_entry b k (after (entry_of b k)))
  on_entry {r} {e} q =
      ap (λ (o : Answer × List ℕ). (o.0, with_entry b k o.1)) q
      ∙ around (with_entry b k) (entry_of b k) (rs (entry_of b k)) (Done, after (entry_of b k))
      ∙ ap (λ (l : List ℕ). outcome l (rs (entry_of b k)) (with_entry b k (after (entry_of b k)))) (with_same b k)

  -- as the code does it: the entry e is taken out of the book and comes to f
  module _ {e f : List ℕ} {r : Result (Unit {0}) Answer} (is : e ≡ entry_of b k) (q : (r, f) ≡ done_of (outcome e (rs e) (after e))) where
    own : (r, f) ≡ done_of (outcome (entry_of b k) (rs (entry_of b k)) (after (entry_of b k)))
    own = q ∙ ap (λ (l : List ℕ). done_of (outcome l (rs l) (after l))) is

    pub entry_done : {u : Unit {0}} → r ≡ Ok u → (Done, with_entry b k f) ≡ outcome b (rs (entry_of b k)) (with_entry b k (after (entry_of b k)))
    entry_done p = on_entry (sym (is_done_with (outcome (entry_of b k) (rs (entry_of b k)) (after (entry_of b k))) own p))

    pub entry_refused : {a : Answer} → r ≡ Err a → (is_done a ≡ false) × ((a, b) ≡ outcome b (rs (entry_of b k)) (with_entry b k (after (entry_of b k))))
    entry_refused {a} p =
        let o = outcome (entry_of b k) (rs (entry_of b k)) (after (entry_of b k)) in
        let w = is_refused_with o own p in
        let n = λ (z : o.0 ≡ Done). true≢false (sym (ap is_done (sym (ap (λ (x : Answer × List ℕ). x.0) w.0) ∙ z)) ∙ w.1) in
        let same = sym (ap (λ (x : Answer × List ℕ). x.1) w.0) ∙ refusal_keeps (entry_of b k) (rs (entry_of b k)) (Done, after (entry_of b k)) n in
        (w.1, ap (λ (l : List ℕ). (a, l)) (sym (ap (with_entry b k) same ∙ with_same b k)) ∙ on_entry (sym w.0))

-- ---- the key of a ready entry

module _ (e : List ℕ) where
  abbrev pub readying : Answer × List ℕ
  readying = outcome no_key (not_ready e) (key_in e)

  pub ready-not : {a : Answer} {k : List ℕ} → (ready_in e ≡ 1 → ⊥) → a ≡ NotReady → k ≡ no_key → (a, k) ≡ readying
  unfolding not_ready
  ready-not n p q = rw (ne_eqb _ _ n, p, q)

  pub ready_done : {k l : List ℕ} → ready_in e ≡ 1 → k ≡ l → l ≡ key_in e → (Done, k) ≡ readying
  unfolding not_ready
  ready_done n p q = rw (eq-eqb _ _ n, p, q)
