-- Several refusals at once (document 01, "Answer numbers"): the one order in which they count, and the test that a list of refusals keeps to it.
use Rattle.std.specs.Prelude.{ℕ, Bool, true, ◌&&◌, List, [], ◌∷◌, ◌++◌, eqb}
use Rattle.octets.specs.Tests.{pick}
use Rattle.answers.specs.Numbers.{number_of, is_one_of}
use Rattle.answers.specs.Outcomes.{Refusals}

-- the parts of the order: of what is given, of a name (document 02, W-201), of a mask, of the call or packet, of a receiving call's slots (W-207), and of
-- the book
abbrev pub of_given : List ℕ
of_given = 2 ∷ 3 ∷ []

abbrev pub of_name : List ℕ
of_name = 17 ∷ []

abbrev pub of_mask : List ℕ
of_mask = 10 ∷ []

abbrev pub of_call : List ℕ
of_call = 4 ∷ 9 ∷ []

abbrev pub of_slots : List ℕ
of_slots = 16 ∷ []

abbrev pub of_book : List ℕ
of_book = 4 ∷ 5 ∷ 11 ∷ 6 ∷ 13 ∷ 7 ∷ 12 ∷ []

-- 2, then 3, 17, 10, 4 for the call, 9, 16, 4 for the book, 5, 11, 6, 13, 7, 12, 8, each where the operation can give it
abbrev pub refusal_order : List ℕ
refusal_order = of_given ++ (of_name ++ (of_mask ++ (of_call ++ (of_slots ++ (of_book ++ (8 ∷ []))))))

-- an opening is of no name, mask or slot, and 8 is for senders only (document 02, W-204)
abbrev pub without_zeros : List ℕ
without_zeros = of_given ++ (of_call ++ of_book)

abbrev pub opening_order : List ℕ
opening_order = without_zeros ++ (8 ∷ [])

-- the numbers of a list of refusals
abbrev pub numbers_of : Refusals → List ℕ
numbers_of [] = []
numbers_of (r ∷ rs) = number_of r.1 ∷ numbers_of rs

-- what may come after number n: the rest of the order from its place on. Of several lent buffers each may have the wrong length, so that 2 may come again
abbrev pub after_number : ℕ → List ℕ → List ℕ
after_number n [] = []
after_number n (m ∷ ms) = pick (eqb n m) (pick (eqb n 2) (m ∷ ms) ms) (after_number n ms)

-- each number has its place in the order, after that of the one before
abbrev pub in_order : List ℕ → List ℕ → Bool
in_order order [] = true
in_order order (n ∷ ns) = is_one_of n order && in_order (after_number n order) ns
