-- The sum over the calls: how far it can go, and the calls of two reports one after the other.
use mathlib.Core.Path.{◌≡◌, refl, sym, ap, ap₂, ◌∙◌}
use mathlib.Core.Bool.{Bool, true, false, ◌&&◌}
use mathlib.Core.List.{List, [], ◌∷◌, ◌++◌}
use Prim.Native.Nat.{ℕ, zero, suc, ◌+◌, ◌*◌, ◌%◌, ◌≤◌, ◌<◌}
use native.Mathlib.Nat.{add-zero, add-suc, mul-zero, mul-suc}
use native.Mathlib.Numerals.{add-one}
use native.Mathlib.Decide.{dec_lt}
use native.Mathlib.Omega.{arith}
use lib.Dec.{leb}
use Rattle.std.proofs.Math.Bool.{and_assoc}
use lib.ListN.{length, get_or, take, drop, take-append-drop, length-append, replicate, length-replicate, get_or-replicate, get_or-append, get_or-eq_default}
use lib.Seq.{get_or-append-add, get_or_at}
use borrow.Author.Tests.{leb-true}
use Rattle.octets.specs.Tests.{all_below}
use Rattle.octets.proofs.TestLaws.{all_none, all-step, all-at, all_alike}
use Rattle.sizes.specs.Frame.{most_words}
use Rattle.report.specs.Report.{per_call, opened, held, replaced, lost, calls, count_at, most_calls, counts_within, sum_below, sum_at, sums}

-- ---- a sum below a number

pub sum-none : (f : ℕ → ℕ) → sum_below f 0 ≡ 0
unfolding sum_below
sum-none f = refl

pub sum_more : (f : ℕ → ℕ) (n : ℕ) → sum_below f (n + 1) ≡ sum_below f n + f n
unfolding sum_below
sum_more f n = rw add-one

pub sum-most : (f : ℕ → ℕ) → ((i : ℕ) → f i ≤ most_words) → (n : ℕ) → sum_below f n ≤ most_words * n
unfolding sum_below
sum-most f h zero = omega arith
sum-most f h (suc n) = omega (arith, sum-most f h n, h n)

-- where two functions agree
sum_same : (f g : ℕ → ℕ) (n : ℕ) → ((i : ℕ) → i < n → f i ≡ g i) → sum_below f n ≡ sum_below g n
unfolding sum_below
sum_same f g zero h = refl
sum_same f g (suc n) h = ap₂ ◌+◌ (sum_same f g n (λ i l. h i (omega arith))) (h n (omega arith))

-- the first n, and m more
sum_add : (f : ℕ → ℕ) (n m : ℕ) → sum_below f (n + m) ≡ sum_below f n + sum_below (λ i. f (n + i)) m
unfolding sum_below
sum_add f n zero = rw (add-zero n) (omega arith)
sum_add f n (suc m) = rw add-suc (omega (arith, sum_add f n m))

sum_constant : (count n : ℕ) → sum_below (λ i. count) n ≡ count * n
unfolding sum_below
sum_constant count zero = sym (mul-zero count)
sum_constant count (suc n) = ap (λ (s : ℕ). s + count) (sum_constant count n) ∙ sym (mul-suc count n)

-- ---- at a place of each call

pub count_most : (counts : List ℕ) → counts_within counts ≡ true → (i : ℕ) → get_or counts i 0 ≤ most_words
unfolding counts_within
count_most counts right i = go (dec_lt i (length counts))
  where
    go : Dec (i < length counts) → get_or counts i 0 ≤ most_words
    go (yes l) = leb-true _ _ (all-at (λ j. leb (get_or counts j 0) most_words) (length counts) i l right)
    go (no m) = rw (get_or-eq_default counts 0 {n = i} (omega arith)) (omega arith)

module _ (counts : List ℕ) (small : (i : ℕ) → get_or counts i 0 ≤ most_words) (few : calls counts ≤ most_calls) (place : ℕ) where
  so_far : (n : ℕ) → sum_below (count_at place counts) n ≤ most_words * n
  so_far = sum-most (count_at place counts) (λ call. small (per_call * call + place))

  -- the sum of some calls, and one more
  pub one_more : (n sum : ℕ) → sum ≡ sum_below (count_at place counts) n → n < calls counts → sum + count_at place counts n ≤ most_calls * most_words
  one_more n sum e l = omega (arith, so_far n, small (per_call * n + place))

  pub at_most : sum_at place counts ≤ most_calls * most_words
  unfolding sum_at
  at_most = omega (arith, so_far (calls counts))

-- the report's figures, of sums made one by one
pub figured : (counts : List ℕ) {o h r l : ℕ} → o ≡ sum_at opened counts → h ≡ sum_at held counts → r ≡ sum_at replaced counts → l ≡ sum_at lost counts
    → o ∷ h ∷ r ∷ l ∷ o ∷ (o + h) ∷ [] ≡ sums counts
unfolding sums
figured counts a b c d = rw (a, b, c, d)

-- the calls of two reports, one after the other, add up
pub one-after_other : (place : ℕ) → place < per_call → (xs ys : List ℕ) → length xs % per_call ≡ 0 → length ys % per_call ≡ 0
    → sum_at place (xs ++ ys) ≡ sum_at place xs + sum_at place ys
unfolding sum_at
one-after_other place p xs ys ex ey =
    let n : calls (xs ++ ys) ≡ calls xs + calls ys = omega (arith, length-append xs ys) in
    ap (sum_below at) n
    ∙ sum_add at (calls xs) (calls ys)
    ∙ ap₂ ◌+◌ (sum_same at (count_at place xs) (calls xs) (λ i l. get_or-append xs ys 0 (per_call * i + place) (omega arith)))
    (sum_same (λ i. at (calls xs + i)) (count_at place ys) (calls ys) later)
  where
    at : ℕ → ℕ
    at = count_at place (xs ++ ys)

    later : (i : ℕ) → i < calls ys → at (calls xs + i) ≡ count_at place ys i
    later i l =
        let e : per_call * (calls xs + i) + place ≡ length xs + (per_call * i + place) = omega arith in
        ap (λ (k : ℕ). get_or (xs ++ ys) k 0) e ∙ get_or-append-add xs ys (per_call * i + place) 0

-- n calls of one count at every place
pub sum_alike : (place : ℕ) → place < per_call → (n count : ℕ) → sum_at place (replicate (per_call * n) count) ≡ count * n
unfolding sum_at
sum_alike place p n count =
    let e : calls (replicate (per_call * n) count) ≡ n = omega (arith, length-replicate (per_call * n) count) in
    ap (sum_below at) e
    ∙ sum_same at (λ i. count) n (λ i l. get_or-replicate (per_call * n) (per_call * i + place) count 0 (omega arith))
    ∙ sum_constant count n
  where
    at : ℕ → ℕ
    at = count_at place (replicate (per_call * n) count)

-- ---- as the code looks the counts over

pub within-none : counts_within [] ≡ true
unfolding counts_within
within-none = all_none (λ i. leb (get_or [] i 0) most_words)

pub within_more : (counts : List ℕ) (x : ℕ) (within more : Bool) → within ≡ counts_within counts → more ≡ (within && leb x most_words)
    → more ≡ counts_within (counts ++ (x ∷ []))
unfolding counts_within
within_more counts x within more e is =
    rw (length-append counts (x ∷ []), is, all-step, get_or_at counts x [] 0 (length counts) refl, e, same)
  where
    f : ℕ → Bool
    f i = leb (get_or counts i 0) most_words

    g : ℕ → Bool
    g i = leb (get_or (counts ++ (x ∷ [])) i 0) most_words

    same : all_below g (length counts) ≡ all_below f (length counts)
    same = all_alike g f (length counts) (λ i h. ap (λ (z : ℕ). leb z most_words) (get_or-append counts (x ∷ []) 0 i h))

-- ---- part after part

all_add : (f : ℕ → Bool) (n m : ℕ) → all_below f (n + m) ≡ (all_below f n && all_below (λ i. f (n + i)) m)
unfolding all_below
all_add f n zero = rw (add-zero n) (whole (all_below f n))
  where
    whole : (b : Bool) → b ≡ (b && true)
    whole true = refl
    whole false = refl
all_add f n (suc m) = rw add-suc (ap (λ (b : Bool). b && f (n + m)) (all_add f n m) ∙ and_assoc (all_below f n) (all_below (λ i. f (n + i)) m) (f (n + m)))

within_append : (xs ys : List ℕ) → counts_within (xs ++ ys) ≡ (counts_within xs && counts_within ys)
unfolding counts_within
within_append xs ys =
    rw (length-append xs ys)
    (all_add g (length xs) (length ys)
    ∙ ap₂ ◌&&◌ (all_alike g (is xs) (length xs) (λ i l. ap small (get_or-append xs ys 0 i l)))
    (all_alike (λ i. g (length xs + i)) (is ys) (length ys) (λ i l. ap small (get_or-append-add xs ys i 0))))
  where
    small : ℕ → Bool
    small x = leb x most_words

    is : List ℕ → ℕ → Bool
    is l i = small (get_or l i 0)

    g : ℕ → Bool
    g = is (xs ++ ys)

-- the first n of them, and the others
within_split : (n : ℕ) (xs : List ℕ) → counts_within xs ≡ (counts_within (take n xs) && counts_within (drop n xs))
within_split n xs = ap counts_within (sym (take-append-drop n xs)) ∙ within_append (take n xs) (drop n xs)

pub part_refused : (n : ℕ) (xs : List ℕ) {part : List ℕ} → part ≡ take n xs → counts_within part ≡ false → counts_within xs ≡ false
part_refused n xs p e = within_split n xs ∙ rw (← p, e)

pub part_passed : (n : ℕ) (xs : List ℕ) {part others : List ℕ} → part ≡ take n xs → others ≡ drop n xs → counts_within part ≡ true
    → counts_within xs ≡ counts_within others
part_passed n xs p o e = within_split n xs ∙ rw (← p, ← o, e)
