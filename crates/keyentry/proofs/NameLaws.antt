-- A name is right exactly where it is the sentence's: printable text, and zeros after it.
use Prim.Native.Nat.{ℕ, ◌+◌, ◌-◌, ◌≤◌, ◌<◌}
use native.Mathlib.Decide.{dec_lt}
use native.Mathlib.Omega.{arith}
use mathlib.Core.Path.{◌≡◌, refl, sym, ap, ◌∙◌}
use mathlib.Core.Bool.{true, false, not, true≢false}
use mathlib.Core.List.{List, [], ◌∷◌, ◌++◌}
use lib.ListN.{length, get_or, take, drop, replicate, length-append, length-replicate, length-drop, take-append-drop, get_or-eq_default}
use lib.Seq.{take_all, length-take-le, get_or-take, get_or-drop}
use lib.Dec.{leb}
use borrow.Author.Tests.{le-leb, leb-true, not-true, not-false}
use Rattle.std.specs.Prelude.{Option, Some, None, cond, ltb}
use Rattle.std.specs.Option.{unwrap_or}
use Rattle.std.specs.List.{position_or_len}
use Rattle.octets.specs.Lists.{all_zero}
use Rattle.octets.specs.Tests.{all_below, first_below}
use Rattle.octets.proofs.ListLaws.{zeros_are, padded-at}
use Rattle.octets.proofs.TestLaws.{and_left, and_right, first_le, first_holds, first-before}
use Rattle.keyentry.proofs.RightLaws.{zeros}
use Rattle.keyentry.proofs.PlaceLaws.{placed}
use Rattle.keyentry.specs.Name.{name_octets, no_name, IsName, is_printable, text_octets, name_right}

pub text_at-most : (n : List ℕ) → text_octets n ≤ name_octets
unfolding text_octets
text_at-most n = first_le (λ k. not (is_printable (get_or n k 0))) name_octets

-- what the borrow checker says of a name lent from the end of its text on
pub padding_lent : (n : List ℕ) {m : ℕ} → length n ≡ name_octets → m ≡ text_octets n → take (name_octets - m) (drop m n) ≡ drop (text_octets n) n
padding_lent n {m} w q = take_all (name_octets - m) (drop m n) (simp length-drop (omega arith)) ∙ rw q

-- `position` finds the end of the text
pub text_of_position : (n : List ℕ) (r : Option ℕ) → length n ≡ name_octets
    → r ≡ cond (ltb (position_or_len (λ x. not (is_printable x)) n) (length n)) (Some (position_or_len (λ x. not (is_printable x)) n)) None → unwrap_or r (length n) ≡ text_octets n
unfolding text_octets
text_of_position n r w q =
    placed (λ x. not (is_printable x)) 0 n r q
    ∙ ap (λ (k : ℕ). first_below (λ j. not (is_printable (get_or n j 0))) k) w

between : (x : ℕ) → is_printable x ≡ true → (0x20 ≤ x) × (x ≤ 0x7E)
unfolding is_printable
between x p = (leb-true _ _ (and_left (leb 0x20 x) _ p), leb-true _ _ (and_right (leb 0x20 x) _ p))

is-between : (x : ℕ) → 0x20 ≤ x → x ≤ 0x7E → is_printable x ≡ true
unfolding is_printable
is-between x l m = rw (le-leb _ _ l, le-leb _ _ m)

pub right-is_name : (n : List ℕ) → length n ≡ name_octets → name_right n ≡ true → IsName n
unfolding name_right text_octets
right-is_name n w r =
    let m = text_octets n in
    let short : length (take m n) ≡ m = length-take-le m n (omega (arith, text_at-most n)) in
    record {
      text = take m n;
      printable = λ k l.
          let l' : k < m = rw short at l in
          rw (get_or-take m n k 0 l') (between (get_or n k 0) (not-false _ (first-before (λ j. not (is_printable (get_or n j 0))) name_octets k l')));
      fits = rw short (text_at-most n);
      padded =
          sym (take-append-drop m n)
          ∙ ap (λ (l : List ℕ). take m n ++ l) (zeros_are (drop m n) (16 - length (take m n)) (length-drop m n ∙ omega arith) r);
    }

pub name_is_long : (n : List ℕ) → IsName n → length n ≡ name_octets
name_is_long n p = ap length p.padded ∙ simp (length-append, length-replicate) (omega (arith, p.fits))

pub name_is-right : (n : List ℕ) → IsName n → name_right n ≡ true
unfolding name_right text_octets
name_is-right n p =
    zeros (drop (text_octets n) n) (λ j.
    get_or-drop (text_octets n) n j 0 ∙ ap (λ (l : List ℕ). get_or l (text_octets n + j) 0) p.padded ∙ padded-at p.text (16 - length p.text) (text_octets n + j)
    ∙ get_or-eq_default p.text 0 (omega (arith, reaches (dec_lt (text_octets n) (length p.text)))))
  where
    -- the text goes on as far as octets are printable
    reaches : Dec (text_octets n < length p.text) → length p.text ≤ text_octets n
    reaches (yes l) =
        let m = text_octets n in
        let q = p.printable m l in
        let same : get_or n m 0 ≡ get_or p.text m 0 = ap (λ (x : List ℕ). get_or x m 0) p.padded ∙ padded-at p.text (16 - length p.text) m in
        let no = first_holds (λ k. not (is_printable (get_or n k 0))) name_octets (omega (arith, p.fits)) in
        absurd (true≢false (sym (ap is_printable same ∙ is-between _ q.0 q.1) ∙ not-true _ no))
    reaches (no m) = omega arith

-- all zeros is a name
pub no_name_lem : IsName no_name
unfolding no_name
no_name_lem = record { text = []; printable = λ k l. absurd (omega arith); fits = omega arith; padded = refl }

-- and so is WARD FOUR
abbrev pub ward_four : List ℕ
ward_four = 0x57 ∷ 0x41 ∷ 0x52 ∷ 0x44 ∷ 0x20 ∷ 0x46 ∷ 0x4F ∷ 0x55 ∷ 0x52 ∷ replicate 7 0

pub ward_four_lem : IsName ward_four
unfolding name_right text_octets is_printable all_zero all_below first_below
ward_four_lem = right-is_name _ refl refl

-- spaces and tildes are right, 20 and 7E hex; 1F, 7F, and a letter after a zero are not
pub samples : (name_right (replicate name_octets 0x20) ≡ true) × (name_right (replicate name_octets 0x7E) ≡ true) × (name_right (0x1F ∷ replicate 15 0) ≡ false)
    × (name_right (0x7F ∷ replicate 15 0) ≡ false) × (name_right (0x41 ∷ 0 ∷ 0x42 ∷ replicate 13 0) ≡ false)
unfolding name_right text_octets is_printable all_zero all_below first_below
samples = (refl, refl, refl, refl, refl)
