-- What is carried of a line from piece to piece: octets kept as far as there is room for them.
use mathlib.Core.Path.{◌≡◌, sym, ap, ◌∙◌}
use mathlib.Core.List.{List, ◌++◌, append_assoc}
use Prim.Native.Nat.{ℕ, ◌+◌, ◌-◌, ◌≤◌, ◌<◌, min}
use native.Mathlib.Decide.{dec_lt}
use native.Mathlib.Omega.{arith}
use lib.ListN.{length, take, length-append, length-take}
use lib.Seq.{take_all, take_at, take-append-add, length-take-le}
use borrow.Rule.Slice.PartMut.{post_of, put_mid}

-- octets within a limit, or all of them
pub take_least : (xs : List ℕ) (count most n : ℕ) → length xs ≤ most → n ≡ min count most → take n xs ≡ take count xs
take_least xs count most n l m = go (dec_lt count most)
  where
    go : Dec (count < most) → take n xs ≡ take count xs
    go (yes h) = let q : n ≡ count = omega arith in rw q
    go (no h) = take_all n xs (omega arith) ∙ sym (take_all count xs (omega arith))

pub take_short : (xs : List ℕ) (count most : ℕ) → count ≤ most → length (take count xs) ≤ most
take_short xs count most h = rw (length-take count xs) (omega arith)

-- more octets, as many as there is room for
pub keeps : (kept : List ℕ) (count : ℕ) → count ≤ length kept → (octets : List ℕ) (n : ℕ) (p : List ℕ) → n ≡ min (length octets) (length kept - count)
    → p ≡ take n octets → take (count + n) (put_mid count (count + n - count) kept p) ≡ take (length kept) (take count kept ++ octets)
keeps kept count h octets n p m e =
    let front : length (take count kept) ≡ count = length-take-le count kept h in
    let l : length p ≡ n = ap length e ∙ length-take-le n octets (omega arith) in
    let f : length (take count kept ++ p) ≡ count + n = length-append (take count kept) p ∙ omega (arith, front) in
    let all : length (take count kept) + (length kept - count) ≡ length kept = omega (arith, front) in
    ap (take (count + n)) (sym (append_assoc (take count kept) p (post_of count (count + n - count) kept)))
    ∙ take_at (take count kept ++ p) (post_of count (count + n - count) kept) (count + n) f
    ∙ ap (λ (r : List ℕ). take count kept ++ r) (e ∙ take_least octets (length kept - count) (length octets) n (omega arith) (omega arith))
    ∙ sym (take-append-add (take count kept) octets (length kept - count))
    ∙ ap (λ (k : ℕ). take k (take count kept ++ octets)) all
