-- Text parted by one octet: where a part ends, and what parts come of a text.
use mathlib.Core.Path.{◌≡◌, refl, sym, ap, ap₂, ◌∙◌}
use mathlib.Core.Bool.{Bool, true, false, ◌&&◌, not}
use mathlib.Core.List.{List, [], ◌∷◌, ◌++◌}
use Prim.Native.Nat.{ℕ, zero, suc, ◌+◌, ◌-◌, ◌≤◌, ◌<◌}
use native.Mathlib.Decide.{dec_lt}
use native.Mathlib.Numerals.{add-one}
use native.Mathlib.Omega.{arith}
use lib.Dec.{ltb, eqb}
use lib.ListN.{length, get_or, take, drop, length-drop, take-append-drop, length-append, get_or-append}
use lib.Seq.{take_all, get_or-drop, get_or-take, get_or_at, drop-drop, take_at, drop_at, drop-cons, length-take-le}
use Rattle.std.specs.Prelude.{Option, Some, None, nat_lt}
use Rattle.std.specs.List.{position, position_or_len}
use Rattle.std.proofs.lemmas.Option.{cond_some, none-some}
use Rattle.std.proofs.lemmas.List.Sums.{fails_before_first, passes_at_first}
use borrow.Author.Tests.{lt-ltb, le-ltb, ltb-true, ltb-false, eq-eqb, eqb-true, not-true}
use Rattle.octets.specs.Tests.{pick, all_below, first_below}
use Rattle.octets.proofs.TestLaws.{all_none, all-step, all-at, all_intro, first-is, first-none, first_le, first_holds, first-before}
use Rattle.text.specs.Parted.{onto, parted, part_end}
use Rattle.text.specs.Walked.{is_part}

-- no element is the separator
abbrev pub Lacks : ℕ → List ℕ → Type 0
Lacks sep xs = (k : ℕ) → k < length xs → eqb (get_or xs k 0) sep ≡ false

-- the same by the test
pub is_part_lem : (sep : ℕ) (xs : List ℕ) → Lacks sep xs → is_part sep xs ≡ true
unfolding is_part
is_part_lem sep xs h = all_intro (λ k. not (eqb (get_or xs k 0) sep)) (length xs) (λ k l. rw (h k l))

pub part_has_none : (sep : ℕ) (xs : List ℕ) → is_part sep xs ≡ true → Lacks sep xs
unfolding is_part
part_has_none sep xs t k l = not-true (eqb (get_or xs k 0) sep) (all-at (λ k. not (eqb (get_or xs k 0) sep)) (length xs) k l t)

all_alike : (f g : ℕ → Bool) (n : ℕ) → ((k : ℕ) → k < n → f k ≡ g k) → all_below f n ≡ all_below g n
unfolding all_below
all_alike f g zero h = refl
all_alike f g (suc n) h = ap₂ ◌&&◌ (all_alike f g n (λ k l. h k (omega arith))) (h n (omega arith))

-- the test, begun with no octet, and with one more
pub part_none : (sep : ℕ) → is_part sep [] ≡ true
unfolding is_part
part_none sep = all_none (λ k. not (eqb (get_or [] k 0) sep))

pub part_more : (sep : ℕ) (xs : List ℕ) (x : ℕ) (part more : Bool) → part ≡ is_part sep xs → more ≡ (part && not (eqb x sep)) → more ≡ is_part sep (xs ++ (x ∷ []))
unfolding is_part
part_more sep xs x part more e is =
    rw (length-append xs (x ∷ []), is, all-step, get_or_at xs x [] 0 (length xs) refl, e, same)
  where
    f : ℕ → Bool
    f k = not (eqb (get_or xs k 0) sep)

    g : ℕ → Bool
    g k = not (eqb (get_or (xs ++ (x ∷ [])) k 0) sep)

    same : all_below g (length xs) ≡ all_below f (length xs)
    same = all_alike g f (length xs) (λ k h. ap (λ (z : ℕ). not (eqb z sep)) (get_or-append xs (x ∷ []) 0 k h))

-- a part of a text from e to s, and its octets
between_long : (xs : List ℕ) (e s : ℕ) → s ≤ length xs → length (take (s - e) (drop e xs)) ≡ s - e
between_long xs e s l = length-take-le (s - e) (drop e xs) (omega (arith, length-drop e xs))

between-at : (xs : List ℕ) (e s k : ℕ) → k < s - e → get_or (take (s - e) (drop e xs)) k 0 ≡ get_or xs (e + k) 0
between-at xs e s k l = get_or-take (s - e) (drop e xs) k 0 l ∙ get_or-drop e xs k 0

-- the rest of a text as the code lends it
pub rest_whole : (xs : List ℕ) (e : ℕ) → take (length xs - e) (drop e xs) ≡ drop e xs
rest_whole xs e = take_all (length xs - e) (drop e xs) (omega (arith, length-drop e xs))

-- the octets of a text after those that come next
pub drop_next : (xs : List ℕ) (e : ℕ) (next rest : List ℕ) → drop e xs ≡ next ++ rest → drop (e + length next) xs ≡ rest
drop_next xs e next rest d = sym (drop-drop (length next) e xs) ∙ ap (drop (length next)) d ∙ drop_at next rest (length next) refl

-- ---- the parts of a text

-- a text without the separator is one part
pub parted-none : (sep : ℕ) (p : List ℕ) → Lacks sep p → parted sep p ≡ p ∷ []
unfolding parted
parted-none sep [] h = refl
parted-none sep (x ∷ p) h = rw (h 0 (omega arith), parted-none sep p (λ k l. h (suc k) (omega arith)))

-- up to the first separator it is the first part
pub parted-at : (sep : ℕ) (xs : List ℕ) (k : ℕ) → k < length xs → ((j : ℕ) → j < k → eqb (get_or xs j 0) sep ≡ false) → eqb (get_or xs k 0) sep ≡ true
    → parted sep xs ≡ take k xs ∷ parted sep (drop (suc k) xs)
unfolding parted
parted-at sep [] k l h e = absurd (omega arith)
parted-at sep (x ∷ xs) zero l h e = rw e
parted-at sep (x ∷ xs) (suc k) l h e =
    rw (h 0 (omega arith), parted-at sep xs k (omega arith) (λ j m. h (suc j) (omega arith)) e)

pub parted_append : (sep : ℕ) (p rest : List ℕ) → Lacks sep p → parted sep (p ++ (sep ∷ rest)) ≡ p ∷ parted sep rest
unfolding parted
parted_append sep [] rest h = rw (eq-eqb sep sep refl)
parted_append sep (x ∷ p) rest h = rw (h 0 (omega arith), parted_append sep p rest (λ k l. h (suc k) (omega arith)))

-- there is always a first part
pub parted_some : (sep : ℕ) (xs : List ℕ) → parted sep xs ≡ [] → ⊥
unfolding parted
parted_some sep [] e = let z : ◌≡◌ {A = ℕ} 0 1 = cc in omega arith
parted_some sep (x ∷ xs) e = go (eqb x sep) (parted sep xs) e
  where
    go : (b : Bool) (ps : List (List ℕ)) → pick b ([] ∷ ps) (onto x ps) ≡ [] → ⊥
    go true ps e = let z : ◌≡◌ {A = ℕ} 0 1 = cc in omega arith
    go false [] e = let z : ◌≡◌ {A = ℕ} 0 1 = cc in omega arith
    go false (p ∷ ps) e = let z : ◌≡◌ {A = ℕ} 0 1 = cc in omega arith

-- ---- parts joined

-- parts with the separator between them
abbrev pub rejoined : ℕ → List (List ℕ) → List ℕ
rejoined sep [] = []
rejoined sep (p ∷ []) = p
rejoined sep (p ∷ q ∷ ps) = p ++ (sep ∷ rejoined sep (q ∷ ps))

abbrev pub AllLack : ℕ → List (List ℕ) → Type 0
AllLack sep [] = Unit {0}
AllLack sep (p ∷ ps) = Lacks sep p × AllLack sep ps

pub parted-rejoined : (sep : ℕ) (p : List ℕ) (ps : List (List ℕ)) → AllLack sep (p ∷ ps) → parted sep (rejoined sep (p ∷ ps)) ≡ p ∷ ps
parted-rejoined sep p [] h = parted-none sep p h.0
parted-rejoined sep p (q ∷ ps) h = parted_append sep p (rejoined sep (q ∷ ps)) h.0 ∙ ap (λ (r : List (List ℕ)). p ∷ r) (parted-rejoined sep q ps h.1)

pub rejoined-parted : (sep : ℕ) (xs : List ℕ) → rejoined sep (parted sep xs) ≡ xs
unfolding parted
rejoined-parted sep [] = refl
rejoined-parted sep (x ∷ xs) = go (eqb x sep) refl (parted sep xs) (parted_some sep xs) (rejoined-parted sep xs)
  where
    go : (b : Bool) → eqb x sep ≡ b → (ps : List (List ℕ)) → (ps ≡ [] → ⊥) → rejoined sep ps ≡ xs → rejoined sep (pick b ([] ∷ ps) (onto x ps)) ≡ x ∷ xs
    go b e [] n h = absurd (n refl)
    go true e (p ∷ ps) n h = rw (eqb-true x sep e, h)
    go false e (p ∷ []) n h = ap (λ (r : List ℕ). x ∷ r) h
    go false e (p ∷ q ∷ ps) n h = ap (λ (r : List ℕ). x ∷ r) h

-- a text of one part is that part
pub parted-one : (sep : ℕ) (xs : List ℕ) → length (parted sep xs) ≡ 1 → get_or (parted sep xs) 0 [] ≡ xs
parted-one sep xs = go (parted sep xs) (rejoined-parted sep xs)
  where
    go : (ps : List (List ℕ)) → rejoined sep ps ≡ xs → length ps ≡ 1 → get_or ps 0 [] ≡ xs
    go [] e l = absurd (omega arith)
    go (p ∷ []) e l = e
    go (p ∷ q ∷ ps) e l = absurd (omega arith)

-- ---- where a part ends

-- a loop over a text from a place on that has passed no separator up to e
pub record Passed (sep : ℕ) (xs : List ℕ) (at e : ℕ) : Type 0 where
  pub from : at ≤ e
  pub to : e ≤ length xs
  pub none : (k : ℕ) → at ≤ k → k < e → eqb (get_or xs k 0) sep ≡ false

-- the part that begins at a place
abbrev pub part_at : ℕ → List ℕ → ℕ → List ℕ
part_at sep xs at = take (part_end sep xs at - at) (drop at xs)

module _ (sep : ℕ) (xs : List ℕ) (at : ℕ) (within : at ≤ length xs) where
  abbrev stops : ℕ → Bool
  stops k = eqb (get_or xs (at + k) 0) sep

  pub passed_start : Passed sep xs at at
  passed_start = record { from = omega arith; to = within; none = λ k a l. absurd (omega arith) }

  -- what was passed is one part, and one part more is passed
  pub passed_part : (e : ℕ) → Passed sep xs at e → is_part sep (take (e - at) (drop at xs)) ≡ true
  passed_part e p =
      is_part_lem sep (take (e - at) (drop at xs))
      (λ k l.
      let m : k < e - at = omega (arith, between_long xs at e p.to) in
      rw (between-at xs at e k m) (p.none (at + k) (omega arith) (omega arith)))

  pub passed_on : (e s : ℕ) → Passed sep xs at e → e ≤ s → s ≤ length xs → is_part sep (take (s - e) (drop e xs)) ≡ true → Passed sep xs at s
  passed_on e s p h l t = record { from = omega (arith, p.from); to = l; none = λ k a m. go k a m (dec_lt k e) }
    where
      go : (k : ℕ) → at ≤ k → k < s → Dec (k < e) → eqb (get_or xs k 0) sep ≡ false
      go k a m (yes b) = p.none k a b
      go k a m (no b) =
          let q : e + (k - e) ≡ k = omega arith in
          let f = part_has_none sep (take (s - e) (drop e xs)) t (k - e) (omega (arith, between_long xs e s l)) in
          rw (between-at xs e s (k - e) (omega arith), q) at f

  -- octets that come next in the text, and have no separator
  pub passed_next : (e : ℕ) → Passed sep xs at e → (next rest : List ℕ) → drop e xs ≡ next ++ rest → is_part sep next ≡ true → Passed sep xs at (e + length next)
  passed_next e p next rest d t =
      let n : e + length next - e ≡ length next = omega arith in
      passed_on e (e + length next) p (omega arith) (omega (arith, p.to, length-drop e xs, ap length d, length-append next rest))
      (rw (n, d, take_at next rest (length next) refl) t)

  -- the part ends at a separator, or at the end of the text
  pub passed_stop : (e : ℕ) → Passed sep xs at e → e < length xs → get_or xs e 0 ≡ sep → e ≡ part_end sep xs at
  unfolding part_end
  passed_stop e p l t =
      let q : at + (e - at) ≡ e = omega (arith, p.from) in
      omega (arith, p.from, first-is stops (length xs - at) (e - at) (omega (arith, p.from)) (λ k m. p.none (at + k) (omega arith) (omega arith)) (rw q (eq-eqb (get_or xs e 0) sep t)))

  pub passed_all : (e : ℕ) → Passed sep xs at e → length xs ≤ e → e ≡ part_end sep xs at
  unfolding part_end
  passed_all e p l =
      omega (arith, p.to, first-none stops (length xs - at) (λ k m. p.none (at + k) (omega arith) (omega arith)))

  -- what strides pass: one after the other, each from a place on
  pub passed_strides : (near e : ℕ) → (at ≤ near) × (near ≤ length xs) × (is_part sep (take (near - at) (drop at xs)) ≡ true)
      → (near ≤ e) × (e ≤ length xs) × (is_part sep (take (e - near) (drop near xs)) ≡ true) → Passed sep xs at e
  passed_strides near e a b = passed_on near e (passed_on at near passed_start a.0 a.1 a.2) b.0 b.1 b.2

  -- the first separator that is found in the rest of the text, as the code lends it, or that there is none
  module _ (e : ℕ) (p : Passed sep xs at e) (r : Option ℕ) (first : r ≡ position (λ x. eqb x sep) (take (length xs - e) (drop e xs))) where
    abbrev is_sep : ℕ → Bool
    is_sep x = eqb x sep

    found : r ≡ position is_sep (drop e xs)
    found = first ∙ ap (position is_sep) (rest_whole xs e)

    abbrev ahead : ℕ
    ahead = position_or_len is_sep (drop e xs)

    passed_ahead : (i : ℕ) → i ≤ ahead → e + i ≤ length xs → Passed sep xs at (e + i)
    passed_ahead i h l = record { from = omega (arith, p.from); to = l; none = λ k a m. go k a m (dec_lt k e) }
      where
        go : (k : ℕ) → at ≤ k → k < e + i → Dec (k < e) → eqb (get_or xs k 0) sep ≡ false
        go k a m (yes b) = p.none k a b
        go k a m (no b) =
            let q : e + (k - e) ≡ k = omega arith in
            let f : eqb (get_or (drop e xs) (k - e) 0) sep ≡ false = fails_before_first is_sep (drop e xs) (k - e) 0 (omega arith) in
            rw (get_or-drop e xs (k - e) 0, q) at f

    pub passed_found : (i : ℕ) → r ≡ Some i → (e + i ≡ part_end sep xs at) × (at ≤ e + i) × (e + i ≤ length xs)
    passed_found i h =
        let some = cond_some (nat_lt ahead (length (drop e xs))) ahead i (sym found ∙ h) in
        let l : ahead < length (drop e xs) = ltb-true ahead (length (drop e xs)) some.0 in
        let w : e + i < length xs = omega (arith, length-drop e xs, some.1) in
        let is : eqb (get_or (drop e xs) ahead 0) sep ≡ true = passes_at_first is_sep (drop e xs) 0 l in
        let at-sep : get_or xs (e + i) 0 ≡ sep = sym (get_or-drop e xs i 0) ∙ eqb-true (get_or (drop e xs) i 0) sep (rw some.1 at is) in
        (passed_stop (e + i) (passed_ahead i (omega (arith, some.1)) (omega arith)) w at-sep, omega (arith, p.from), omega arith)

    pub passed_none : r ≡ None → (length xs ≡ part_end sep xs at) × (at ≤ length xs) × (length xs ≤ length xs)
    passed_none h =
        let l : length (drop e xs) ≤ ahead = go (nat_lt ahead (length (drop e xs))) refl in
        let q : e + (length xs - e) ≡ length xs = omega (arith, p.to) in
        (passed_all (length xs) (rw q at (passed_ahead (length xs - e) (omega (arith, length-drop e xs)) (omega (arith, p.to)))) (omega arith), within, omega arith)
      where
        go : (b : Bool) → nat_lt ahead (length (drop e xs)) ≡ b → length (drop e xs) ≤ ahead
        go true t = absurd (none-some ahead (sym h ∙ found ∙ rw t))
        go false t = ltb-false ahead (length (drop e xs)) t

  pub end_from : at ≤ part_end sep xs at
  unfolding part_end
  end_from = omega arith

  pub end_within : part_end sep xs at ≤ length xs
  unfolding part_end
  end_within = omega (arith, first_le stops (length xs - at))

  before : (j : ℕ) → j < part_end sep xs at - at → eqb (get_or (drop at xs) j 0) sep ≡ false
  unfolding part_end
  before j l = rw (get_or-drop at xs j 0) (first-before stops (length xs - at) j (omega arith))

  stopped : part_end sep xs at < length xs → eqb (get_or (drop at xs) (part_end sep xs at - at) 0) sep ≡ true
  unfolding part_end
  stopped l =
      let q : at + first_below stops (length xs - at) - at ≡ first_below stops (length xs - at) = omega arith in
      rw (q, get_or-drop at xs (first_below stops (length xs - at)) 0) (first_holds stops (length xs - at) (omega arith))

  -- the parts from a place on: the part that begins there, and those after its separator, if there is one
  pub parted-step : parted sep (drop at xs)
      ≡ part_at sep xs at ∷ pick (ltb (part_end sep xs at) (length xs)) (parted sep (drop (part_end sep xs at + 1) xs)) []
  parted-step = go (dec_lt (part_end sep xs at) (length xs))
    where
      go : Dec (part_end sep xs at < length xs)
          → parted sep (drop at xs) ≡ part_at sep xs at ∷ pick (ltb (part_end sep xs at) (length xs)) (parted sep (drop (part_end sep xs at + 1) xs)) []
      go (yes l) =
          let q : at + suc (part_end sep xs at - at) ≡ part_end sep xs at + 1 = omega (arith, end_from) in
          rw (lt-ltb _ _ l)
          (parted-at sep (drop at xs) (part_end sep xs at - at) (omega (arith, length-drop at xs, end_from)) before (stopped l)
          ∙ ap (λ (r : List ℕ). take (part_end sep xs at - at) (drop at xs) ∷ parted sep r) (drop-drop (suc (part_end sep xs at - at)) at xs ∙ ap (λ (k : ℕ). drop k xs) q))
      go (no l) =
          let w : part_end sep xs at ≡ length xs = omega (arith, end_within) in
          let q : take (part_end sep xs at - at) (drop at xs) ≡ drop at xs = take_all (part_end sep xs at - at) (drop at xs) (omega (arith, length-drop at xs)) in
          rw (le-ltb (part_end sep xs at) (length xs) (omega arith), q)
          (parted-none sep (drop at xs) (λ k m. before k (omega (arith, length-drop at xs))))

  pub part_long : length (part_at sep xs at) ≡ part_end sep xs at - at
  part_long = between_long xs at (part_end sep xs at) end_within

  -- it has no separator
  pub part_lacks : Lacks sep (part_at sep xs at)
  part_lacks k l =
      let m : k < part_end sep xs at - at = omega (arith, part_long) in
      rw (get_or-take (part_end sep xs at - at) (drop at xs) k 0 m) (before k m)

  -- and where the text goes on, one after it
  pub part_ends : part_end sep xs at < length xs → drop at xs ≡ part_at sep xs at ++ (sep ∷ drop (part_end sep xs at + 1) xs)
  unfolding part_end
  part_ends l =
      let n = part_end sep xs at - at in
      let h = first_holds stops (length xs - at) (omega arith) in
      let q : at + n ≡ part_end sep xs at = omega arith in
      sym (take-append-drop n (drop at xs))
      ∙ ap (λ (r : List ℕ). part_at sep xs at ++ r)
      (drop-drop n at xs ∙ rw q (drop-cons xs (part_end sep xs at) 0 l ∙ rw (add-one (part_end sep xs at), eqb-true (get_or xs (part_end sep xs at) 0) sep h)))
