-- A number and its octets: what is written is read back, and octets that are read as a number are what is written of it.
use mathlib.Core.Path.{◌≡◌, sym, ap, ◌∙◌}
use mathlib.Core.List.{List, [], ◌∷◌, ◌++◌}
use Prim.Native.Nat.{ℕ, zero, suc, ◌+◌, ◌*◌, ◌/◌, ◌%◌, ◌≤◌, ◌<◌}
use native.Mathlib.Nat.{div-div-eq-div-mul}
use native.Mathlib.Omega.{arith}
use lib.ListN.{length, get_or, take, drop}
use lib.Seq.{get_or-append-add}
use Rattle.octets.specs.Bits.{Octets}
use Rattle.held.specs.Number.{two_of, four_of, two_at, four_at}
use Rattle.held.proofs.RowLaws.{drop-next}

-- ---- the digits

-- in steps of one octet
module _ (x : ℕ) where
  second : x / 65536 ≡ x / 256 / 256
  second = sym (div-div-eq-div-mul x 256 256)

  third : x / 16777216 ≡ x / 256 / 256 / 256
  third = sym (ap (λ (y : ℕ). y / 256) (div-div-eq-div-mul x 256 256) ∙ div-div-eq-div-mul x 65536 256)

pub two-sum : (x : ℕ) → x < 65536 → 256 * (x / 256 % 256) + x % 256 ≡ x
two-sum x h = omega arith

pub four_sum : (x : ℕ) → x < 4294967296 → 16777216 * (x / 16777216 % 256) + 65536 * (x / 65536 % 256) + 256 * (x / 256 % 256) + x % 256 ≡ x
four_sum x h = rw (third x, second x) (omega arith)

pub two_digits : (a b : ℕ) → a < 256 → b < 256 → two_of (256 * a + b) ≡ a ∷ b ∷ []
two_digits a b ha hb =
    let p : (256 * a + b) / 256 % 256 ≡ a = omega arith in
    let q : (256 * a + b) % 256 ≡ b = omega arith in
    cc

module _ (a b c d : ℕ) (ha : a < 256) (hb : b < 256) (hc : c < 256) (hd : d < 256) where
  abbrev whole : ℕ
  whole = 16777216 * a + 65536 * b + 256 * c + d

  pub four_digits : four_of whole ≡ a ∷ b ∷ c ∷ d ∷ []
  four_digits =
      let p : whole / 16777216 % 256 ≡ a = omega arith in
      let q : whole / 65536 % 256 ≡ b = omega arith in
      let r : whole / 256 % 256 ≡ c = omega arith in
      let s : whole % 256 ≡ d = omega arith in
      cc

-- they are octets
module _ (x : ℕ) (l : List ℕ) (o : Octets l) where
  pub two-octets : Octets (two_of x ++ l)
  two-octets zero = omega arith
  two-octets (suc zero) = omega arith
  two-octets (suc (suc i)) = o i

  pub four_octets : Octets (four_of x ++ l)
  four_octets zero = omega arith
  four_octets (suc zero) = omega arith
  four_octets (suc (suc zero)) = omega arith
  four_octets (suc (suc (suc zero))) = omega arith
  four_octets (suc (suc (suc (suc i)))) = o i

-- ---- in a list

-- behind other octets
module _ (pre l : List ℕ) (i j : ℕ) (place : i ≡ length pre + j) where
  at : (k : ℕ) → get_or (pre ++ l) (i + k) 0 ≡ get_or l (j + k) 0
  at k = let e : i + k ≡ length pre + (j + k) = omega arith in rw e (get_or-append-add pre l (j + k) 0)

  first : get_or (pre ++ l) i 0 ≡ get_or l j 0
  first = rw place (get_or-append-add pre l j 0)

  pub two-behind : two_at (pre ++ l) i ≡ two_at l j
  two-behind = rw (first, at 1)

  pub four_behind : four_at (pre ++ l) i ≡ four_at l j
  four_behind = rw (first, at 1, at 2, at 3)

module _ (pre post : List ℕ) (x i : ℕ) (place : length pre ≡ i) where
  pub two_read : x < 65536 → two_at (pre ++ (two_of x ++ post)) i ≡ x
  two_read h = two-behind pre (two_of x ++ post) i 0 (omega arith) ∙ two-sum x h

  pub four_read : x < 4294967296 → four_at (pre ++ (four_of x ++ post)) i ≡ x
  four_read h = four_behind pre (four_of x ++ post) i 0 (omega arith) ∙ four_sum x h

module _ (o : List ℕ) (i : ℕ) (octets : Octets o) where
  pub two_small : two_at o i < 65536
  two_small = omega (arith, octets i, octets (i + 1))

  pub four_small : four_at o i < 4294967296
  four_small = omega (arith, octets i, octets (i + 1), octets (i + 2), octets (i + 3))

  pub two-written : i + 2 ≤ length o → two_of (two_at o i) ≡ take 2 (drop i o)
  two-written h =
      let a = drop-next o i (i + 1) (omega arith) (omega arith) in
      let b = drop-next o (i + 1) (i + 2) (omega arith) (omega arith) in
      let e : drop i o ≡ get_or o i 0 ∷ get_or o (i + 1) 0 ∷ drop (i + 2) o = cc in
      two_digits _ _ (octets i) (octets (i + 1)) ∙ ap (take 2) (sym e)

  pub four_written : i + 4 ≤ length o → four_of (four_at o i) ≡ take 4 (drop i o)
  four_written h =
      let a = drop-next o i (i + 1) (omega arith) (omega arith) in
      let b = drop-next o (i + 1) (i + 2) (omega arith) (omega arith) in
      let c = drop-next o (i + 2) (i + 3) (omega arith) (omega arith) in
      let d = drop-next o (i + 3) (i + 4) (omega arith) (omega arith) in
      let e : drop i o ≡ get_or o i 0 ∷ get_or o (i + 1) 0 ∷ get_or o (i + 2) 0 ∷ get_or o (i + 3) 0 ∷ drop (i + 4) o = cc in
      four_digits _ _ _ _ (octets i) (octets (i + 1)) (octets (i + 2)) (octets (i + 3)) ∙ ap (take 4) (sym e)
