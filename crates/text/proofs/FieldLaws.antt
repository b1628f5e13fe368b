-- The fields of a line, read one after the other.
use mathlib.Core.Path.{◌≡◌, refl, sym, ap, ◌∙◌}
use mathlib.Core.Bool.{Bool, true, false, ◌&&◌, true≢false}
use mathlib.Core.List.{List, [], ◌∷◌, ◌++◌}
use Prim.Native.Nat.{ℕ, ◌+◌, ◌-◌, ◌/◌, ◌≤◌, ◌<◌}
use native.Mathlib.Nat.{sub-zero}
use native.Mathlib.Decide.{ℕ_discrete}
use native.Mathlib.Omega.{arith}
use lib.Dec.{eqb}
use lib.ListN.{length, get_or, take, drop, length-drop, get_or-eq_default}
use lib.Seq.{take_all, take_at, get_or-drop, length-take-le}
use borrow.Author.Tests.{lt-ltb, le-ltb, eqb-true, eq-eqb, ne_eqb}
use Rattle.std.specs.Prelude.{Option, Some, None, is_none}
use Rattle.std.specs.Borrow.{Bor}
use Rattle.std.specs.Slice.{IsGetRangeResult}
use Rattle.std.specs.Option.{unwrap_or}
use Rattle.std.specs.Iterator.{YieldsFirstRef, Yields, SkipsThenYields}
use Rattle.octets.proofs.TestLaws.{not_so, and_left, and_right}
use Rattle.text.specs.Parted.{tab_octet, parted, part_end}
use Rattle.text.specs.Hex.{is_hex, most_octets, hex_octets, octets_in, read_hex}
use Rattle.text.proofs.PartedLaws.{parted-none, parted-one, parted-step, parted_some}
use Rattle.text.proofs.HexLaws.{read_of, hex_size, hex-lacks, length-hex_octets}
use Rattle.text.specs.declared.field.Fields.{Fields}
use Rattle.text.specs.Fields.{field_at, are_fields}
use Rattle.text.specs.Walked.{fields_in, left, last_hex}

-- ---- the next field

-- the fields of a text are the part up to the first tab, and those of what follows that tab, if it is there
pub fields_step : (rest : List ℕ) (end : ℕ) (next : Option (Bor (List ℕ))) → end ≡ part_end tab_octet rest 0 → IsGetRangeResult rest (end + 1) (length rest) next
    → parted tab_octet rest ≡ take end rest ∷ fields_in next
fields_step rest end None e g =
    let l : length rest ≤ end = omega arith in
    rw (← e, le-ltb end (length rest) l, sub-zero end) at (parted-step tab_octet rest 0 (omega arith))
fields_step rest end (Some next) e g =
    let l : end < length rest = omega arith in
    let n : next.now ≡ drop (end + 1) rest = g.0.2 ∙ take_all (length rest - (end + 1)) (drop (end + 1) rest) (omega (arith, length-drop (end + 1) rest)) in
    rw n (rw (← e, lt-ltb end (length rest) l, sub-zero end) at (parted-step tab_octet rest 0 (omega arith)))

-- where no field is left there are none
pub left-none : (fields : Fields) → is_none fields.rest ≡ true → left fields ≡ []
unfolding left
left-none fields e = go fields.rest e
  where
    go : (rest : Option (Bor (List ℕ))) → is_none rest ≡ true → fields_in rest ≡ []
    go None h = refl
    go (Some rest) h = absurd (true≢false (sym h))

pub left_some : (fields : Fields) → is_none fields.rest ≡ false → left fields ≡ [] → ⊥
unfolding left
left_some fields e = go fields.rest e
  where
    go : (rest : Option (Bor (List ℕ))) → is_none rest ≡ false → fields_in rest ≡ [] → ⊥
    go None h = absurd (true≢false h)
    go (Some rest) h = parted_some tab_octet rest.now

-- ---- a field further on

walked_on : (xs : List (Bor (List ℕ))) (s t : Fields) → Yields (YieldsFirstRef left) s xs t → drop (length xs) (left s) ≡ left t
walked_on [] s t y = ap left y
walked_on (x ∷ xs) s t y = rw y.1 (walked_on xs y.0 t y.2)

-- what `nth` gives of the fields, and an empty text where there are fewer
pub nth_field : (s u : Fields) (n : ℕ) (r : Option (Bor (List ℕ))) (d : Bor (List ℕ)) → d.now ≡ [] → SkipsThenYields (YieldsFirstRef left) s n r u
    → (unwrap_or r d).now ≡ field_at (left s) n
unfolding field_at
nth_field s u n None d e y =
    let all : drop (length y.0) (left s) ≡ [] = walked_on y.0 s y.1.0 y.1.1 ∙ y.1.2.0 in
    e ∙ sym (get_or-eq_default (left s) [] {n = n} (omega (arith, length-drop (length y.0) (left s), ap length all, y.2)))
nth_field s u n (Some x) d e y =
    let rest : drop n (left s) ≡ x.now ∷ left u = rw y.2 at (walked_on y.0 s y.1.0 y.1.1) ∙ y.1.2 in
    let z : n + 0 ≡ n = omega arith in
    sym (ap (λ (fs : List (List ℕ)). get_or fs 0 []) rest) ∙ rw z at (get_or-drop n (left s) 0 [])

-- ---- the last field

pub no_last : (fields : Fields) (n : ℕ) → fields.rest ≡ None → false ≡ last_hex n (left fields)
unfolding last_hex left
no_last fields n e = rw e

module _ (fields : Fields) (rest : Bor (List ℕ)) (some : fields.rest ≡ Some rest) where
  left-is : left fields ≡ parted tab_octet rest.now
  unfolding left
  left-is = ap fields_in some

  -- where one field is left it is the rest of the line
  pub lone_rest : length (left fields) ≡ 1 → field_at (left fields) 0 ≡ rest.now
  unfolding field_at
  lone_rest e = rw left-is (parted-one tab_octet rest.now (ap length (sym left-is) ∙ e))

  module _ (n : ℕ) where
    -- hex has no tab
    hex-rest : is_hex n rest.now ≡ true → left fields ≡ rest.now ∷ []
    hex-rest h = left-is ∙ parted-none tab_octet rest.now (hex-lacks rest.now n tab_octet (omega arith) h)

    pub is_last : is_hex n rest.now ≡ last_hex n (left fields)
    unfolding last_hex
    is_last = go (are_fields 1 (left fields)) refl
      where
        go : (one : Bool) → are_fields 1 (left fields) ≡ one → is_hex n rest.now ≡ (one && is_hex n (field_at (left fields) 0))
        go true e = ap (is_hex n) (sym (lone_rest (eqb-true (length (left fields)) 1 e)))
        go false e = not_so (is_hex n rest.now) (λ h. true≢false (rw (hex-rest h) at e))

  pub last_read : (octets : List ℕ) → is_hex (length octets) rest.now ≡ true → read_hex rest.now octets ≡ hex_octets (field_at (left fields) 0) (length octets)
  unfolding field_at
  last_read octets h = rw (hex-rest (length octets) h) (read_of rest.now octets h)

-- ---- the answer to whether the last field is hex

-- as many fields from field k on
from_count : (fs : List (List ℕ)) (k n : ℕ) → 1 ≤ n → eqb (length (drop k fs)) n ≡ eqb (length fs) (k + n)
from_count fs k n h = go (ℕ_discrete (length fs) (k + n))
  where
    go : Dec (length fs ≡ k + n) → eqb (length (drop k fs)) n ≡ eqb (length fs) (k + n)
    go (yes e) = eq-eqb (length (drop k fs)) n (omega (arith, length-drop k fs)) ∙ sym (eq-eqb (length fs) (k + n) e)
    go (no e) = ne_eqb (length (drop k fs)) n (λ q. e (omega (arith, length-drop k fs))) ∙ sym (ne_eqb (length fs) (k + n) e)

-- octets that were read from a field, at the start of the lent ones
kept : (n : ℕ) (field m tail : List ℕ) → is_hex n field ≡ true → m ≡ hex_octets field n → take n (m ++ tail) ≡ octets_in field
kept n field m tail h e =
    let half : length field / 2 ≡ n = omega (arith, hex_size field n h) in
    take_at m tail n (ap length e ∙ length-hex_octets field n) ∙ e ∙ ap (hex_octets field) (sym half)

-- the answer b to whether the last field is the hex of n octets, and the octets m that are read from it
pub record Last (fields : Fields) (n : ℕ) (b : Bool) (m : List ℕ) : Type 0 where
  pub answer : b ≡ last_hex n (left fields)
  pub octets : b ≡ true → m ≡ hex_octets (field_at (left fields) 0) n

-- read into the first n octets of a room
module _ (room : List ℕ) (n : ℕ) (fits : n ≤ length room) where
  pub part_size : n ≡ length (take n room)
  part_size = sym (length-take-le n room fits)

  pub part_fits : 1 ≤ n → n ≤ most_octets → (1 ≤ length (take n room)) × (length (take n room) ≤ most_octets)
  part_fits h l = (omega (arith, part_size), omega (arith, part_size))

  pub last-lent : (fields : Fields) (b : Bool) (m : List ℕ)
      → (b ≡ last_hex (length (take n room)) (left fields)) × (b ≡ true → m ≡ hex_octets (field_at (left fields) 0) (length (take n room))) → Last fields n b m
  last-lent fields b m read =
      record {
        answer = read.0 ∙ ap (λ (k : ℕ). last_hex k (left fields)) (sym part_size);
        octets = λ t. read.1 t ∙ ap (hex_octets (field_at (left fields) 0)) (sym part_size);
      }

-- it is field k of all
module _ (fs : List (List ℕ)) (next : Fields) (k : ℕ) (rest : left next ≡ drop k fs) (n : ℕ) (b : Bool) (m : List ℕ) (last : Last next n b m) where
  field_is : field_at (left next) 0 ≡ field_at fs k
  unfolding field_at
  field_is = let z : k + 0 ≡ k = omega arith in rw (rest, get_or-drop k fs 0 [], z)

  last-is : b ≡ (are_fields (k + 1) fs && is_hex n (field_at fs k))
  unfolding last_hex
  last-is = last.answer ∙ rw (field_is, rest, from_count fs k 1 (omega arith))

  pub last-not : b ≡ false → (are_fields (k + 1) fs && is_hex n (field_at fs k)) ≡ false
  last-not e = sym last-is ∙ e

  module _ (e : b ≡ true) where
    pub last_fields : are_fields (k + 1) fs ≡ true
    last_fields = and_left (are_fields (k + 1) fs) (is_hex n (field_at fs k)) (sym last-is ∙ e)

    pub last-hex : is_hex n (field_at fs k) ≡ true
    last-hex = and_right (are_fields (k + 1) fs) (is_hex n (field_at fs k)) (sym last-is ∙ e)

    pub last-kept : (tail : List ℕ) → take n (m ++ tail) ≡ octets_in (field_at fs k)
    last-kept tail = kept n (field_at fs k) m tail last-hex (last.octets e ∙ ap (λ (f : List ℕ). hex_octets f n) field_is)
