-- Decimal numbers: read digit by digit, written with the digits of the tenth part first, and that reading takes back what writing made.
use mathlib.Core.Path.{◌≡◌, refl, sym, ap, ◌∙◌}
use mathlib.Core.Bool.{Bool, true, false, ◌||◌, or-true, not, true≢false}
use mathlib.Core.List.{List, [], ◌∷◌, ◌++◌}
use Prim.Native.Nat.{ℕ, zero, suc, ◌+◌, ◌-◌, ◌*◌, ◌/◌, ◌%◌, ◌^◌, ◌≤◌, ◌<◌}
use native.Mathlib.Nat.{mod-eq_of_lt, pow-suc, zero-add}
use native.Mathlib.Decide.{ℕ_discrete, dec_lt}
use native.Mathlib.Numerals.{add-one}
use native.Mathlib.Omega.{arith}
use lib.Dec.{ltb, leb, eqb}
use lib.ListN.{length, get_or, set, take, drop, length-append, get_or-append}
use lib.Seq.{take-suc, take-length, drop-cons, append_snoc, get_or_at, set_at, set_split}
use Rattle.std.specs.Prelude.{Option, Some, None}
use Rattle.std.specs.Option.{unwrap_or}
use borrow.Author.Tests.{lt-ltb, le-ltb, le-leb, lt-leb, leb-true, eq-eqb, ne_eqb}
use Rattle.octets.specs.Tests.{pick, all_below}
use Rattle.octets.specs.Lists.{replaced}
use Rattle.octets.proofs.TestLaws.{every_fails, every-at, all_none, all-at, all_more, all_fails, all_intro}
use Rattle.text.specs.Decimal.{is_digit, value_to, decimal_value, is_decimal, number_in, last_digits, decimal}
use Rattle.text.proofs.PartedLaws.{Lacks}
use Rattle.text.proofs.RangeLaws.{inside, least, most}

-- ---- a number read

-- a loop that has read the first i digits, worth v
pub record Reading (limit : ℕ) (xs : List ℕ) (i v : ℕ) : Type 0 where
  pub within : i ≤ length xs
  pub digits : all_below (λ k. is_digit (get_or xs k 0)) i ≡ true
  pub worth : v ≡ value_to xs i
  pub small : v ≤ limit

module _ (xs : List ℕ) where
  -- more digits are worth no less
  value_grows : (i k : ℕ) → value_to xs i ≤ value_to xs (k + i)
  unfolding value_to
  value_grows i zero = let e : 0 + i ≡ i = omega arith in rw e (omega arith)
  value_grows i (suc k) = let e : suc k + i ≡ suc (k + i) = omega arith in rw e (omega (arith, value_grows i k))

  abbrev digit_at : ℕ → Bool
  digit_at i = is_digit (get_or xs i 0)

  -- a first digit that is alone, or not 0
  abbrev pub fewest : Bool
  fewest = eqb (length xs) 1 || not (eqb (get_or xs 0 0) 48)

  pub alone : length xs ≤ 1 → 1 ≤ length xs → fewest ≡ true
  alone h l = rw (eq-eqb (length xs) 1 (omega arith))

  pub leading : (get_or xs 0 0 ≡ 48 → ⊥) → fewest ≡ true
  leading h = rw (ne_eqb (get_or xs 0 0) 48 h) (or-true (eqb (length xs) 1))

module _ (limit : ℕ) (xs : List ℕ) where
  abbrev tests : List Bool
  tests = leb 1 (length xs) ∷ all_below (digit_at xs) (length xs) ∷ fewest xs ∷ leb (decimal_value xs) limit ∷ []

  pub reading_start : Reading limit xs 0 0
  unfolding value_to
  reading_start = record { within = omega arith; digits = all_none (digit_at xs); worth = refl; small = omega arith }

  module _ (i v : ℕ) (r : Reading limit xs i v) where
    more-worth : 10 * v + (get_or xs i 0 - 48) ≡ value_to xs (i + 1)
    unfolding value_to
    more-worth = rw (add-one, r.worth)

    pub reading_more : i < length xs → is_digit (get_or xs i 0) ≡ true → 10 * v + (get_or xs i 0 - 48) ≤ limit → Reading limit xs (i + 1) (10 * v + (get_or xs i 0 - 48))
    reading_more l d m =
        record {
          within = omega arith;
          digits = all_more (digit_at xs) i r.digits d;
          worth = more-worth;
          small = m;
        }

  refused : (n : ℕ) → get_or tests n true ≡ false → None ≡ number_in limit xs
  unfolding number_in is_decimal
  refused n e = rw (sym (every_fails tests n e))

  pub refused_empty : length xs ≡ 0 → None ≡ number_in limit xs
  refused_empty e = refused 0 (lt-leb 1 (length xs) (omega arith))

  pub refused_zero : 1 < length xs → get_or xs 0 0 ≡ 48 → None ≡ number_in limit xs
  refused_zero l e = refused 2 (rw (ne_eqb (length xs) 1 (λ q. omega arith), eq-eqb (get_or xs 0 0) 48 e))

  pub refused_other : (i : ℕ) → i < length xs → is_digit (get_or xs i 0) ≡ false → None ≡ number_in limit xs
  refused_other i l h = refused 1 (all_fails (digit_at xs) (length xs) i l h)

  pub refused_large : (i v : ℕ) → Reading limit xs i v → i < length xs → limit < 10 * v + (get_or xs i 0 - 48) → None ≡ number_in limit xs
  refused_large i v r l h =
      let e : length xs - (i + 1) + (i + 1) ≡ length xs = omega arith in
      let g : value_to xs (i + 1) ≤ value_to xs (length xs) = rw e at (value_grows xs (i + 1) (length xs - (i + 1))) in
      refused 3 (lt-leb (decimal_value xs) limit (omega (arith, more-worth i v r)))

  -- digits with no needless 0 before them, worth no more than the limit
  pub is-decimal : 1 ≤ length xs → all_below (digit_at xs) (length xs) ≡ true → fewest xs ≡ true → decimal_value xs ≤ limit → is_decimal limit xs ≡ true
  unfolding is_decimal
  is-decimal l d z m = rw (le-leb 1 (length xs) l, d, z, le-leb (decimal_value xs) limit m)

  pub taken : (i v : ℕ) → Reading limit xs i v → length xs ≤ i → 1 ≤ length xs → fewest xs ≡ true → Some v ≡ number_in limit xs
  unfolding number_in
  taken i v r h l z =
      let q : i ≡ length xs = omega (arith, r.within) in
      let w : v ≡ decimal_value xs = rw q at r.worth in
      rw (is-decimal l (rw q at r.digits) z (omega (arith, r.small)), w)

  by-test : (b : Bool) → is_decimal limit xs ≡ b → number_in limit xs ≡ pick b (Some (decimal_value xs)) None
  unfolding number_in
  by-test b e = rw e

  -- what an answer tells of a field
  pub number_of : (v : ℕ) → number_in limit xs ≡ Some v → (is_decimal limit xs ≡ true) × (v ≡ decimal_value xs)
  number_of v n = go (is_decimal limit xs) refl
    where
      go : (b : Bool) → is_decimal limit xs ≡ b → (is_decimal limit xs ≡ true) × (v ≡ decimal_value xs)
      go true e = let m = by-test true e in (e, cc)
      go false e = let m = by-test false e in absurd (let z : ◌≡◌ {A = ℕ} 0 1 = cc in omega arith)

  pub number-not : number_in limit xs ≡ None → is_decimal limit xs ≡ false
  number-not n = go (is_decimal limit xs) refl
    where
      go : (b : Bool) → is_decimal limit xs ≡ b → is_decimal limit xs ≡ false
      go true e = let m = by-test true e in absurd (let z : ◌≡◌ {A = ℕ} 0 1 = cc in omega arith)
      go false e = e

  module _ (is : is_decimal limit xs ≡ true) where
    digit_within : (k : ℕ) → k < length xs → (48 ≤ get_or xs k 0) × (get_or xs k 0 ≤ 57)
    unfolding is_decimal
    digit_within k l =
        let d = all-at (digit_at xs) (length xs) k l (every-at tests 1 is) in
        (least 48 57 (get_or xs k 0) d, most 48 57 (get_or xs k 0) d)

    some-digit : 1 ≤ length xs
    unfolding is_decimal
    some-digit = leb-true 1 (length xs) (every-at tests 0 is)

    no_zero : 1 < length xs → get_or xs 0 0 ≡ 48 → ⊥
    unfolding is_decimal
    no_zero l e = true≢false (sym (every-at tests 2 is) ∙ rw (ne_eqb (length xs) 1 (λ q. omega arith), eq-eqb (get_or xs 0 0) 48 e))

    pub decimal-most : decimal_value xs ≤ limit
    unfolding is_decimal
    decimal-most = leb-true (decimal_value xs) limit (every-at tests 3 is)

    pub decimal-lacks : (sep : ℕ) → sep < 48 → Lacks sep xs
    decimal-lacks sep h k l = ne_eqb (get_or xs k 0) sep (λ q. omega (arith, digit_within k l))

-- a number that was read is within the limit
pub number-most : (limit : ℕ) (xs : List ℕ) (v : ℕ) → Some v ≡ number_in limit xs → v ≤ limit
number-most limit xs v e = let is = number_of limit xs v (sym e) in omega (arith, decimal-most limit xs is.0)

-- and so it is with 0 in place of none
pub number_or : (limit : ℕ) (xs : List ℕ) (v : Option ℕ) → v ≡ number_in limit xs → unwrap_or v 0 ≤ limit
number_or limit xs None e = omega arith
number_or limit xs (Some v) e = number-most limit xs v e

-- ---- a number written: the digits of its tenth part, where there are any, and its remainder

-- more than enough digits are no more
enough : (j k n : ℕ) → n < j → n < k → last_digits j n ≡ last_digits k n
unfolding last_digits
enough zero k n h l = absurd (omega arith)
enough (suc j) zero n h l = absurd (omega arith)
enough (suc j) (suc k) n h l = go (dec_lt n 10) (λ s. enough j k (n / 10) (omega arith) (omega arith))
  where
    go : Dec (n < 10) → (10 ≤ n → last_digits j (n / 10) ≡ last_digits k (n / 10)) → pick (ltb n 10) [] (last_digits j (n / 10)) ++ ((48 + n % 10) ∷ []) ≡ pick (ltb n 10) [] (last_digits k (n / 10)) ++ ((48 + n % 10) ∷ [])
    go (yes s) tenth = rw (lt-ltb n 10 s)
    go (no s) tenth = let l : 10 ≤ n = omega arith in rw (le-ltb n 10 l, tenth l)

module _ (n : ℕ) where
  pub decimal-one : n < 10 → decimal n ≡ (48 + n) ∷ []
  unfolding decimal last_digits
  decimal-one h = rw (lt-ltb n 10 h, mod-eq_of_lt h)

  pub decimal_more : 10 ≤ n → decimal n ≡ decimal (n / 10) ++ ((48 + n % 10) ∷ [])
  unfolding decimal last_digits
  decimal_more h = rw (le-ltb n 10 h, enough n (suc (n / 10)) (n / 10) (omega arith) (omega arith))

  pub longer : 10 ≤ n → length (decimal n) ≡ length (decimal (n / 10)) + 1
  longer h = rw (decimal_more h) (length-append (decimal (n / 10)) ((48 + n % 10) ∷ []))

-- what holds of one digit, and of a number where it holds of its tenth part, holds of each
module _ (P : ℕ → Type 0) (one : (n : ℕ) → n < 10 → P n) (more : (n : ℕ) → 10 ≤ n → P (n / 10) → P n) where
  below-bound : (k n : ℕ) → n < k → P n
  below-bound zero n h = absurd (omega arith)
  below-bound (suc k) n h = go (dec_lt n 10) (λ s. below-bound k (n / 10) (omega arith))
    where
      go : Dec (n < 10) → (10 ≤ n → P (n / 10)) → P n
      go (yes s) tenth = one n s
      go (no s) tenth = let l : 10 ≤ n = omega arith in more n l (tenth l)

  by_digits : (n : ℕ) → P n
  by_digits n = below-bound (suc n) n (omega arith)

-- ---- how many digits

pub decimal_some : (n : ℕ) → 1 ≤ length (decimal n)
decimal_some n = go (dec_lt n 10)
  where
    go : Dec (n < 10) → 1 ≤ length (decimal n)
    go (yes s) = rw (decimal-one n s) (omega arith)
    go (no s) = omega (arith, longer n (omega arith))

-- a number below 10, 100, 1,000 .. has at most 1, 2, 3 .. digits
pub decimal_size : (k n : ℕ) → n < 10 ^ suc k → length (decimal n) ≤ suc k
decimal_size zero n h = rw (decimal-one n h) (omega arith)
decimal_size (suc k) n h = go (dec_lt n 10) (decimal_size k (n / 10) (omega (arith, pow-suc 10 (suc k))))
  where
    go : Dec (n < 10) → length (decimal (n / 10)) ≤ suc k → length (decimal n) ≤ suc (suc k)
    go (yes s) tenth = rw (decimal-one n s) (omega arith)
    go (no s) tenth = omega (arith, longer n (omega arith))

-- ---- over lent octets

module _ (n : ℕ) (out : List ℕ) (fits : length (decimal n) ≤ length out) where
  pub written_one : n < 10 → (1 ≡ length (decimal n)) × (set out 0 (48 + n) ≡ replaced out 0 (length (decimal n)) (decimal n))
  unfolding replaced
  written_one h =
      let l = ap length (decimal-one n h) in
      (sym l, rw (decimal-one n h) (set_split out 0 (48 + n) (omega arith)))

  -- the last digit after those of the tenth part
  pub written_more : 10 ≤ n → (at : ℕ) (d : List ℕ) → (at ≡ length (decimal (n / 10))) × (d ≡ replaced out 0 (length (decimal (n / 10))) (decimal (n / 10)))
      → (at + 1 ≡ length (decimal n)) × (set d at (48 + n % 10) ≡ replaced out 0 (length (decimal n)) (decimal n))
  unfolding replaced
  written_more h at d w =
      let tenth = decimal (n / 10) in
      let k = length tenth in
      let l : k < length out = omega (arith, longer n h) in
      let long : length (decimal n) ≡ suc k = longer n h ∙ omega arith in (
        omega (arith, w.0, longer n h),
        rw (w.0, w.1, zero-add k, drop-cons out k 0 l, set_at tenth (get_or out k 0) (drop (suc k) out) (48 + n % 10) k refl)
            (sym (rw (long, decimal_more n h, zero-add (suc k), append_snoc tenth (48 + n % 10) (drop (suc k) out)) refl)),
      )

-- ---- what was written is read

value_front : (xs ys : List ℕ) (n : ℕ) → n ≤ length xs → value_to (xs ++ ys) n ≡ value_to xs n
unfolding value_to
value_front xs ys zero h = refl
value_front xs ys (suc n) h = rw (value_front xs ys n (omega arith), get_or-append xs ys 0 n (omega arith))

-- one digit more
module _ (xs : List ℕ) (d : ℕ) where
  snoc-long : length (xs ++ (d ∷ [])) ≡ suc (length xs)
  snoc-long = length-append xs (d ∷ []) ∙ omega arith

  value-snoc : decimal_value (xs ++ (d ∷ [])) ≡ 10 * decimal_value xs + (d - 48)
  unfolding value_to
  value-snoc = rw (snoc-long, value_front xs (d ∷ []) (length xs) (omega arith), get_or_at xs d [] 0 (length xs) refl)

value_one : (n : ℕ) → n < 10 → decimal_value (decimal n) ≡ n
unfolding value_to
value_one n h = rw (decimal-one n h) (omega arith)

pub decimal_round : (n : ℕ) → decimal_value (decimal n) ≡ n
decimal_round =
    by_digits (λ n. decimal_value (decimal n) ≡ n) value_one
    (λ n h e. rw (decimal_more n h) (value-snoc (decimal (n / 10)) (48 + n % 10) ∙ omega arith))

-- each is a digit
abbrev AllDigits : ℕ → Type 0
AllDigits n = (k : ℕ) → k < length (decimal n) → is_digit (get_or (decimal n) k 0) ≡ true

all_digits : (n : ℕ) → AllDigits n
all_digits = by_digits AllDigits one more
  where
    one : (n : ℕ) → n < 10 → AllDigits n
    one n h k l =
        let z : k ≡ 0 = omega (arith, ap length (decimal-one n h)) in
        rw (z, decimal-one n h) (inside 48 57 (48 + n) (omega arith) (omega arith))

    more : (n : ℕ) → 10 ≤ n → AllDigits (n / 10) → AllDigits n
    more n h tenth k l = go (dec_lt k (length (decimal (n / 10))))
      where
        go : Dec (k < length (decimal (n / 10))) → is_digit (get_or (decimal n) k 0) ≡ true
        go (yes s) = rw (decimal_more n h, get_or-append (decimal (n / 10)) ((48 + n % 10) ∷ []) 0 k s) (tenth k s)
        go (no s) = let at = get_or_at (decimal (n / 10)) (48 + n % 10) [] 0 k (omega (arith, longer n h)) in rw (decimal_more n h, at) (inside 48 57 (48 + n % 10) (omega arith) (omega arith))

-- the first is 0 only of 0
first-digit : (n : ℕ) → 1 ≤ n → get_or (decimal n) 0 0 ≡ 48 → ⊥
first-digit = by_digits (λ n. 1 ≤ n → get_or (decimal n) 0 0 ≡ 48 → ⊥) one more
  where
    one : (n : ℕ) → n < 10 → 1 ≤ n → get_or (decimal n) 0 0 ≡ 48 → ⊥
    one n h l e = omega (arith, sym (ap (λ (xs : List ℕ). get_or xs 0 0) (decimal-one n h)) ∙ e)

    more : (n : ℕ) → 10 ≤ n → (1 ≤ n / 10 → get_or (decimal (n / 10)) 0 0 ≡ 48 → ⊥) → 1 ≤ n → get_or (decimal n) 0 0 ≡ 48 → ⊥
    more n h tenth l e =
        tenth (omega arith)
        (sym (get_or-append (decimal (n / 10)) ((48 + n % 10) ∷ []) 0 0 (decimal_some (n / 10))) ∙ sym (ap (λ (xs : List ℕ). get_or xs 0 0) (decimal_more n h)) ∙ e)

pub decimal-is : (limit n : ℕ) → n ≤ limit → is_decimal limit (decimal n) ≡ true
decimal-is limit n h =
    is-decimal limit (decimal n) (decimal_some n) (all_intro (digit_at (decimal n)) (length (decimal n)) (all_digits n)) (go (dec_lt n 10)) (omega (arith, decimal_round n))
  where
    go : Dec (n < 10) → fewest (decimal n) ≡ true
    go (yes s) = alone (decimal n) (omega (arith, ap length (decimal-one n s))) (decimal_some n)
    go (no s) = leading (decimal n) (first-digit n (omega arith))

-- ---- and a number has one way to be written

first_above : (a : ℕ) → 48 ≤ a → (a ≡ 48 → ⊥) → 48 < a
first_above a h n = go (ℕ_discrete a 48)
  where
    go : Dec (a ≡ 48) → 48 < a
    go (yes e) = absurd (n e)
    go (no e) = omega arith

module _ (limit : ℕ) (xs : List ℕ) (is : is_decimal limit xs ≡ true) where
  -- with more digits after the first, that is worth something
  some-worth : (i : ℕ) → 1 ≤ i → 1 < length xs → 1 ≤ value_to xs i
  unfolding value_to
  some-worth i h l =
      let e : i - 1 + 1 ≡ i = omega arith in
      let first = first_above (get_or xs 0 0) (digit_within limit xs is 0 (omega arith)).0 (no_zero limit xs is l) in
      omega (arith, rw e at (value_grows xs 1 (i - 1)))

  back_to : (i : ℕ) → i < length xs → decimal (value_to xs (suc i)) ≡ take (suc i) xs
  unfolding value_to
  back_to zero l =
      let d = digit_within limit xs is 0 l in
      let v : 48 + (10 * 0 + (get_or xs 0 0 - 48)) ≡ get_or xs 0 0 = omega arith in
      decimal-one (10 * 0 + (get_or xs 0 0 - 48)) (omega arith) ∙ rw (v, take-suc xs 0 0 l)
  back_to (suc i) l =
      let d = digit_within limit xs is (suc i) l in
      let worth = some-worth (suc i) (omega arith) (omega arith) in
      let v = 10 * value_to xs (suc i) + (get_or xs (suc i) 0 - 48) in
      let tenth : v / 10 ≡ value_to xs (suc i) = omega arith in
      let last : 48 + v % 10 ≡ get_or xs (suc i) 0 = omega arith in
      decimal_more v (omega arith) ∙ rw (tenth, last, back_to i (omega arith), take-suc xs (suc i) 0 l)

  pub decimal_back : decimal (decimal_value xs) ≡ xs
  decimal_back =
      let e : suc (length xs - 1) ≡ length xs = omega (arith, some-digit limit xs is) in
      rw e at (back_to (length xs - 1) (omega arith)) ∙ take-length xs
