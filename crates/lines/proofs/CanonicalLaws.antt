-- A line that stands for a record is the record's line, and the record is fine.
use mathlib.Core.Path.{◌≡◌, refl, sym, ap, subst, ◌∙◌}
use mathlib.Core.Bool.{Bool, true, false, ◌&&◌}
use mathlib.Core.List.{List, [], ◌∷◌}
use Prim.Native.Nat.{ℕ, ◌/◌, ◌≤◌}
use native.Mathlib.Omega.{arith}
use lib.Dec.{ltb, leb, eqb}
use lib.ListN.{length, get_or}
use borrow.Author.Tests.{eqb-true, ne_eqb, leb-true}
use Rattle.octets.specs.Tests.{pick}
use Rattle.octets.specs.Bits.{Octets}
use Rattle.octets.proofs.TestLaws.{and_left, and_right}
use Rattle.text.specs.Parted.{tab_octet, parted}
use Rattle.text.specs.Decimal.{decimal_value, decimal}
use Rattle.text.specs.Hex.{is_hex, octets_in, hex_text}
use Rattle.text.specs.Fields.{field_at}
use Rattle.text.proofs.PartedLaws.{rejoined, rejoined-parted}
use Rattle.text.proofs.DecimalLaws.{decimal_back, decimal-most}
use Rattle.text.proofs.HexLaws.{hex_size, hex_back, octets-hex_octets, length-hex_octets}
use Rattle.sizes.specs.Ciphers.{key_room, vector_octets}
use Rattle.lines.specs.Record.{Record, Load, Open, Join, Voice, Announce, Lost, End, Malformed, record_frame, most_number, line_octets, is_pair, is_number, is_key, load_record, open_record, join_record, voice_record, announce_record, alone, by_letter, of_parts, line_of, printed, Fine}

-- r is fine, and its line is l
record Of (r : Record) (l : List ℕ) : Type 0 where
  fine : Fine r
  line : printed r ≡ l

-- a record that is picked by a test, and is not malformed, passes it
passed : (t : Bool) (r : Record) → (pick t r Malformed ≡ Malformed → ⊥) → t ≡ true
passed true r n = refl
passed false r n = absurd (n refl)

-- octets that were read from a field
module _ (field : List ℕ) (n : ℕ) (h : is_hex n field ≡ true) where
  half : length field / 2 ≡ n
  half = omega (arith, hex_size field n h)

  size_is : length (octets_in field) ≡ n
  size_is = length-hex_octets field (length field / 2) ∙ half

  octets-are : Octets (octets_in field)
  octets-are = rw half (octets-hex_octets field n h)

  back_is : hex_text (octets_in field) ≡ field
  back_is = rw half (hex_back field n h)

-- a number that was read from a field
module _ (field : List ℕ) (h : is_number field ≡ true) where
  small_is : decimal_value field ≤ most_number
  small_is = decimal-most most_number field h

  number_is : decimal (decimal_value field) ≡ field
  number_is = decimal_back most_number field h

-- a line of a letter and fields
abbrev line_with : ℕ → List (List ℕ) → List ℕ
line_with x fs = rejoined tab_octet ((x ∷ []) ∷ fs)

-- ---- each kind of record, of as many fields as it has

-- two tests, and three
both : (a b : Bool) → (a && b) ≡ true → (a ≡ true) × (b ≡ true)
both a b e = (and_left a b e, and_right a b e)

all : (a b c : Bool) → ((a && b) && c) ≡ true → (a ≡ true) × (b ≡ true) × (c ≡ true)
all a b c e = let p = and_left (a && b) c e in (and_left a b p, and_right a b p, and_right (a && b) c e)

load_of : (fs : List (List ℕ)) → (load_record fs ≡ Malformed → ⊥) → Of (load_record fs) (line_with 0x4B fs)
unfolding printed field_at is_pair
load_of [] n = absurd (n refl)
load_of (c ∷ []) n = absurd (n refl)
load_of (c ∷ i ∷ []) n = absurd (n refl)
load_of (c ∷ i ∷ k ∷ []) n =
    let t = passed ((is_number c && is_number i) && is_key k) (Load (decimal_value c) (decimal_value i) (octets_in k)) n in
    let is = all (is_number c) (is_number i) (is_key k) t in
    let size = length k / 2 in
    let key = both (is_hex size k) (leb 1 size && leb size key_room) is.2 in
    let bounds = both (leb 1 size) (leb size key_room) key.1 in
    rw t
    (record {
      fine = (
        small_is c is.0,
        small_is i is.1,
        omega (arith, leb-true 1 size bounds.0, size_is k size key.0),
        omega (arith, leb-true size key_room bounds.1, size_is k size key.0),
        octets-are k size key.0,
      );
      line = rw (number_is c is.0, number_is i is.1, back_is k size key.0);
    })
load_of (c ∷ i ∷ k ∷ f ∷ fs) n = absurd (n (rw (ne_eqb (length (c ∷ i ∷ k ∷ f ∷ fs)) 3 (λ e. omega arith))))

open_of_lem : (fs : List (List ℕ)) → (open_record fs ≡ Malformed → ⊥) → Of (open_record fs) (line_with 0x4F fs)
unfolding printed field_at is_pair
open_of_lem [] n = absurd (n refl)
open_of_lem (c ∷ []) n = absurd (n refl)
open_of_lem (c ∷ i ∷ []) n = absurd (n refl)
open_of_lem (c ∷ i ∷ v ∷ []) n =
    let t = passed ((is_number c && is_number i) && is_hex vector_octets v) (Open (decimal_value c) (decimal_value i) (octets_in v)) n in
    let is = all (is_number c) (is_number i) (is_hex vector_octets v) t in
    rw t
    (record {
      fine = (small_is c is.0, small_is i is.1, size_is v vector_octets is.2, octets-are v vector_octets is.2);
      line = rw (number_is c is.0, number_is i is.1, back_is v vector_octets is.2);
    })
open_of_lem (c ∷ i ∷ v ∷ f ∷ fs) n = absurd (n (rw (ne_eqb (length (c ∷ i ∷ v ∷ f ∷ fs)) 3 (λ e. omega arith))))

join_of_lem : (fs : List (List ℕ)) → (join_record fs ≡ Malformed → ⊥) → Of (join_record fs) (line_with 0x4A fs)
unfolding printed field_at is_pair
join_of_lem [] n = absurd (n refl)
join_of_lem (c ∷ []) n = absurd (n refl)
join_of_lem (c ∷ i ∷ []) n =
    let t = passed (is_number c && is_number i) (Join (decimal_value c) (decimal_value i)) n in
    let is = both (is_number c) (is_number i) t in
    rw t (record { fine = (small_is c is.0, small_is i is.1); line = rw (number_is c is.0, number_is i is.1) })
join_of_lem (c ∷ i ∷ f ∷ fs) n = absurd (n (rw (ne_eqb (length (c ∷ i ∷ f ∷ fs)) 2 (λ e. omega arith))))

voice_of_lem : (fs : List (List ℕ)) → (voice_record fs ≡ Malformed → ⊥) → Of (voice_record fs) (line_with 0x56 fs)
unfolding printed field_at
voice_of_lem [] n = absurd (n refl)
voice_of_lem (m ∷ []) n = absurd (n refl)
voice_of_lem (m ∷ v ∷ []) n =
    let t = passed (is_number m && is_hex record_frame v) (Voice (decimal_value m) (octets_in v)) n in
    let is = both (is_number m) (is_hex record_frame v) t in
    rw t
    (record {
      fine = (small_is m is.0, size_is v record_frame is.1, octets-are v record_frame is.1);
      line = rw (number_is m is.0, back_is v record_frame is.1);
    })
voice_of_lem (m ∷ v ∷ f ∷ fs) n = absurd (n (rw (ne_eqb (length (m ∷ v ∷ f ∷ fs)) 2 (λ e. omega arith))))

announce_of_lem : (fs : List (List ℕ)) → (announce_record fs ≡ Malformed → ⊥) → Of (announce_record fs) (line_with 0x49 fs)
unfolding printed field_at
announce_of_lem [] n = absurd (n refl)
announce_of_lem (v ∷ []) n =
    let t = passed (is_hex vector_octets v) (Announce (octets_in v)) n in
    rw t (record { fine = (size_is v vector_octets t, octets-are v vector_octets t); line = rw (back_is v vector_octets t) })
announce_of_lem (v ∷ f ∷ fs) n = absurd (n (rw (ne_eqb (length (v ∷ f ∷ fs)) 1 (λ e. omega arith))))

lost_of_lem : (fs : List (List ℕ)) → (alone Lost fs ≡ Malformed → ⊥) → Of (alone Lost fs) (line_with 0x4C fs)
unfolding printed
lost_of_lem [] n = record { fine = tt; line = refl }
lost_of_lem (f ∷ fs) n = absurd (n (rw (ne_eqb (length (f ∷ fs)) 0 (λ e. omega arith))))

end_of : (fs : List (List ℕ)) → (alone End fs ≡ Malformed → ⊥) → Of (alone End fs) (line_with 0x45 fs)
unfolding printed
end_of [] n = record { fine = tt; line = refl }
end_of (f ∷ fs) n = absurd (n (rw (ne_eqb (length (f ∷ fs)) 0 (λ e. omega arith))))

-- ---- every line

-- by one letter, or by those after it
either : (x y : ℕ) (fs : List (List ℕ)) (r s : Record) → ((r ≡ Malformed → ⊥) → Of r (line_with y fs)) → ((s ≡ Malformed → ⊥) → Of s (line_with x fs))
    → (pick (eqb x y) r s ≡ Malformed → ⊥) → Of (pick (eqb x y) r s) (line_with x fs)
either x y fs r s hr hs = go (eqb x y) refl
  where
    go : (b : Bool) → eqb x y ≡ b → (pick b r s ≡ Malformed → ⊥) → Of (pick b r s) (line_with x fs)
    go true e n = subst (λ (z : ℕ). Of r (line_with z fs)) (sym (eqb-true x y e)) (hr n)
    go false e n = hs n

letter_of : (x : ℕ) (fs : List (List ℕ)) → (by_letter x fs ≡ Malformed → ⊥) → Of (by_letter x fs) (line_with x fs)
letter_of x fs =
    either x 0x4B fs _ _ (load_of fs)
    (either x 0x4F fs _ _ (open_of_lem fs)
    (either x 0x4A fs _ _ (join_of_lem fs)
    (either x 0x56 fs _ _ (voice_of_lem fs)
    (either x 0x49 fs _ _ (announce_of_lem fs)
    (either x 0x4C fs _ _ (lost_of_lem fs) (either x 0x45 fs _ _ (end_of fs) (λ n. absurd (n refl))))))))

parts_of : (parts : List (List ℕ)) → (of_parts parts ≡ Malformed → ⊥) → Of (of_parts parts) (rejoined tab_octet parts)
unfolding field_at
parts_of [] n = absurd (n refl)
parts_of (p ∷ fs) n = go p (eqb-true (length p) 1 (passed (eqb (length p) 1) (by_letter (get_or p 0 0) fs) n)) n
  where
    go : (p : List ℕ) → length p ≡ 1 → (of_parts (p ∷ fs) ≡ Malformed → ⊥) → Of (of_parts (p ∷ fs)) (rejoined tab_octet (p ∷ fs))
    go [] e n = absurd (omega arith)
    go (x ∷ []) e n = letter_of x fs n
    go (x ∷ y ∷ p) e n = absurd (omega arith)

line_of_lem : (line : List ℕ) → (line_of line ≡ Malformed → ⊥) → Of (line_of line) line
unfolding line_of
line_of_lem line = go (ltb line_octets (length line))
  where
    go : (b : Bool) → (pick b Malformed (of_parts (parted tab_octet line)) ≡ Malformed → ⊥) → Of (pick b Malformed (of_parts (parted tab_octet line))) line
    go true n = absurd (n refl)
    go false n = subst (λ (l : List ℕ). Of (of_parts (parted tab_octet line)) l) (rejoined-parted tab_octet line) (parts_of (parted tab_octet line) n)

-- only one line stands for a record
pub canonical : (line : List ℕ) (r : Record) → line_of line ≡ r → (r ≡ Malformed → ⊥) → printed r ≡ line
canonical line r e n = ap printed (sym e) ∙ (line_of_lem line (λ q. n (sym e ∙ q))).line

-- and the record is fine
pub read_fine : (line : List ℕ) (r : Record) → line_of line ≡ r → (r ≡ Malformed → ⊥) → Fine r
read_fine line r e n = subst Fine e (line_of_lem line (λ q. n (sym e ∙ q))).fine
