-- A piece taken line by line, as far as there is room.
use mathlib.Core.Path.{◌≡◌, refl, ap, ◌∙◌}
use mathlib.Core.Bool.{Bool, true, false}
use mathlib.Core.List.{List, [], ◌∷◌, ◌++◌, append-nil}
use Prim.Native.Nat.{ℕ, suc, ◌+◌, ◌-◌, ◌≤◌, ◌<◌}
use native.Mathlib.Omega.{arith}
use lib.Dec.{ltb, eqb}
use lib.ListN.{length, take, length-append, length-take}
use lib.Seq.{take_all}
use borrow.Author.Tests.{lt-ltb, le-ltb}
use Rattle.octets.specs.Tests.{pick}
use Rattle.text.specs.Parted.{line_end}
use Rattle.text.specs.Reader.{Reader, Reading, fresh, and_then, kept, ended, fed, usable}
use Rattle.text.proofs.PartedLaws.{Lacks}
use Rattle.text.proofs.ReaderLaws.{kept-kept, fed_append, Enough}

module _ {S : Type 0} (r : Reader S) where
  -- ---- how far

  pub usable-within : (xs : List ℕ) (left : ℕ) (s : Reading S) → usable r left s xs ≤ length xs
  unfolding usable
  usable-within [] left s = omega arith
  usable-within (x ∷ xs) left s = go (ltb left r.room) (eqb x line_end) (usable-within xs)
    where
      go : (t b : Bool) → ((left : ℕ) (s : Reading S) → usable r left s xs ≤ length xs)
          → pick t 0 (suc (pick b (usable r (left - length (ended r s).0) (fresh (ended r s).1) xs) (usable r left (kept r s (x ∷ [])) xs))) ≤ suc (length xs)
      go true b more = omega arith
      go false true more = omega (arith, more (left - length (ended r s).0) (fresh (ended r s).1))
      go false false more = omega (arith, more left (kept r s (x ∷ [])))

  -- nothing is taken only where there is nothing, or no room: so a caller that gives room gets on
  pub usable_some : (left : ℕ) (s : Reading S) (x : ℕ) (xs : List ℕ) → r.room ≤ left → 1 ≤ usable r left s (x ∷ xs)
  unfolding usable
  usable_some left s x xs h = rw (le-ltb left r.room h) (omega arith)

  pub usable-none : (left : ℕ) (s : Reading S) (xs : List ℕ) → left < r.room → usable r left s xs ≡ 0
  unfolding usable
  usable-none left s [] h = refl
  usable-none left s (x ∷ xs) h = rw (lt-ltb left r.room h)

  -- all is taken where there is room for what it comes to and a line more
  pub usable-all : (xs : List ℕ) (left : ℕ) (s : Reading S) → length (fed r s xs).0 + r.room ≤ left → usable r left s xs ≡ length xs
  unfolding usable fed
  usable-all [] left s h = refl
  usable-all (x ∷ xs) left s h = rw (le-ltb left r.room (omega arith)) (ap suc (go (eqb x line_end) h (usable-all xs)))
    where
      one : List ℕ × S
      one = ended r s

      go : (b : Bool) → length (pick b (and_then one (λ t. fed r (fresh t) xs)) (fed r (kept r s (x ∷ [])) xs)).0 + r.room ≤ left
          → ((left : ℕ) (s : Reading S) → length (fed r s xs).0 + r.room ≤ left → usable r left s xs ≡ length xs)
          → pick b (usable r (left - length one.0) (fresh one.1) xs) (usable r left (kept r s (x ∷ [])) xs) ≡ length xs
      go true g more = more (left - length one.0) (fresh one.1) (omega (arith, length-append one.0 (fed r (fresh one.1) xs).0))
      go false g more = more left (kept r s (x ∷ [])) g

  -- ---- line by line

  -- octets of a line that does not end
  pub fed_part : (p : List ℕ) (s : Reading S) → length s.line ≤ r.most → Lacks line_end p → fed r s p ≡ ([], kept r s p)
  unfolding fed
  fed_part [] s h l = rw (append-nil s.line, take_all r.most s.line h)
  fed_part (x ∷ p) s h l =
      let fits : length (take r.most (s.line ++ (x ∷ []))) ≤ r.most = rw (length-take r.most (s.line ++ (x ∷ []))) (omega arith) in
      rw (l 0 (omega arith), ← kept-kept r.most s.line (x ∷ []) p) (fed_part p (kept r s (x ∷ [])) fits (λ k m. l (suc k) (omega arith)))

  module _ (enough : Enough r) (s : Reading S) (p rest : List ℕ) (short : length s.line ≤ r.most) (lacks : Lacks line_end p) where
    -- a line that does
    pub fed_line : fed r s (p ++ (line_end ∷ rest)) ≡ and_then (r.act (s.line ++ p) s.state) (λ t. fed r (fresh t) rest)
    unfolding fed
    fed_line = fed_append r p s (line_end ∷ rest) ∙ rw (fed_part p s short lacks, enough.as_all (s.line ++ p) s.state)

  module _ (left : ℕ) (h : r.room ≤ left) where
    pub usable_part : (p : List ℕ) (s : Reading S) (rest : List ℕ) → Lacks line_end p → usable r left s (p ++ rest) ≡ length p + usable r left (fed r s p).1 rest
    unfolding usable fed
    usable_part [] s rest l = omega arith
    usable_part (x ∷ p) s rest l =
        rw (le-ltb left r.room h, l 0 (omega arith)) (ap suc (usable_part p (kept r s (x ∷ [])) rest (λ k m. l (suc k) (omega arith))) ∙ omega arith)

    pub usable_line : Enough r → (s : Reading S) (p rest : List ℕ) → length s.line ≤ r.most → Lacks line_end p
        → let one = r.act (s.line ++ p) s.state in
        usable r left s (p ++ (line_end ∷ rest)) ≡ length p + suc (usable r (left - length one.0) (fresh one.1) rest)
    unfolding usable
    usable_line enough s p rest k l =
        usable_part p s (line_end ∷ rest) l ∙ rw (fed_part p s k l, le-ltb left r.room h, enough.as_all (s.line ++ p) s.state)
