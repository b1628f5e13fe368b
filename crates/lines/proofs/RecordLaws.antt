-- What a line's fields make of each kind of record.
use mathlib.Core.Path.{◌≡◌, refl, sym, ap, ◌∙◌}
use mathlib.Core.Bool.{Bool, true, false, ◌&&◌, and-true, false≢true}
use mathlib.Core.List.{List, [], ◌∷◌, ◌++◌}
use Prim.Native.Nat.{ℕ, ◌/◌, ◌≤◌, ◌<◌}
use native.Mathlib.Omega.{arith}
use lib.ListN.{length, drop, length-drop, drop_of_length-le}
use lib.Seq.{get_or-drop}
use Rattle.std.specs.Prelude.{Some, None, is_none}
use Rattle.std.specs.Bool.{then_some}
use Rattle.std.specs.Borrow.{Bor}
use borrow.Author.Tests.{le-leb, lt-leb, eqb-true, eq-eqb, ne_eqb}
use Rattle.octets.proofs.TestLaws.{and_right, and_false_r}
use Rattle.text.specs.Decimal.{is_decimal, decimal_value, number_in}
use Rattle.text.specs.Hex.{is_hex}
use Rattle.text.specs.Fields.{field_at, are_fields}
use Rattle.text.specs.Walked.{left}
use Rattle.text.proofs.DecimalLaws.{number_of, number-not}
use Rattle.text.proofs.FieldLaws.{Last, last_fields, last-hex, last-kept, last-not, left-none, left_some, lone_rest}
use Rattle.sizes.specs.Ciphers.{key_room, vector_octets}
use Rattle.text.specs.declared.field.Fields.{Fields}
use Rattle.lines.specs.declared.record.Parsed.{Parsed}
use Rattle.lines.specs.declared.record.Parsed.TheVariants as code
use Rattle.lines.specs.Record.{Record, Load, Open, Join, Voice, Announce, Malformed, record_frame, most_number, is_pair, is_number, is_key, load_record, open_record, join_record, voice_record, announce_record, alone, record_in}
use Rattle.lines.specs.Pairs.{IsPair}

and-mid-false : (a b c : Bool) → (a && c) ≡ false → (a && (b && c)) ≡ false
and-mid-false true true c e = e
and-mid-false true false c e = refl
and-mid-false false b c e = refl

-- ---- a record where a test holds

by-test : (b : Bool) (p : Parsed) (xs : List ℕ) {r : Record} → (b ≡ true → record_in (Some p) xs ≡ r) → (b ≡ false → Malformed ≡ r) → record_in (then_some b p) xs ≡ r
by-test true p xs t f = t refl
by-test false p xs t f = f refl

-- ---- a vector

module _ (fields : Fields) (b : Bool) (m : List ℕ) (last : Last fields vector_octets b m) where
  abbrev all : List (List ℕ)
  all = left fields

  pub announce_is : (tail : List ℕ) → record_in (then_some b code.Announce) (m ++ tail) ≡ announce_record all
  announce_is tail =
      by-test b code.Announce (m ++ tail)
      (λ e. rw (last_fields all fields 0 refl vector_octets b m last e, last-hex all fields 0 refl vector_octets b m last e)
      (ap Announce (last-kept all fields 0 refl vector_octets b m last e tail)))
      (λ e. rw (last-not all fields 0 refl vector_octets b m last e))

-- ---- a mask and a frame

module _ (fs : List (List ℕ)) where
  pub voice_no_mask : number_in most_number (field_at fs 0) ≡ None → Malformed ≡ voice_record fs
  voice_no_mask e = rw (number-not most_number (field_at fs 0) e, and_false_r)

  module _ (next : Fields) (rest : left next ≡ drop 1 fs) (b : Bool) (m : List ℕ) (last : Last next record_frame b m) where
    pub voice_is : (mask : ℕ) → number_in most_number (field_at fs 0) ≡ Some mask → (tail : List ℕ) → record_in (then_some b (code.Voice mask)) (m ++ tail) ≡ voice_record fs
    voice_is mask n tail =
        let is = number_of most_number (field_at fs 0) mask n in
        by-test b (code.Voice mask) (m ++ tail)
        (λ e. rw (last_fields fs next 1 rest record_frame b m last e, is.0, last-hex fs next 1 rest record_frame b m last e, is.1)
        (ap (Voice (decimal_value (field_at fs 0))) (last-kept fs next 1 rest record_frame b m last e tail)))
        (λ e. rw (and-mid-false (are_fields 2 fs) (is_number (field_at fs 0)) (is_hex record_frame (field_at fs 1)) (last-not fs next 1 rest record_frame b m last e)))

-- ---- a cipher and a key ID, and what comes after them

two-at_least : (fs : List (List ℕ)) → is_pair fs ≡ true → 2 ≤ length fs
unfolding is_pair field_at is_decimal
two-at_least [] e = absurd (false≢true e)
two-at_least (x ∷ []) e = absurd (false≢true (and_right (is_number x) (is_number []) e))
two-at_least (x ∷ y ∷ fs) e = omega arith

module _ (fs others : List (List ℕ)) (is : IsPair fs None others) where
  no-pair : is_pair fs ≡ false
  unfolding IsPair
  no-pair = is

  pub load_no_pair : Malformed ≡ load_record fs
  load_no_pair = rw (no-pair, and_false_r)

  pub open_no_pair : Malformed ≡ open_record fs
  open_no_pair = rw (no-pair, and_false_r)

  pub join_no_pair : Malformed ≡ join_record fs
  join_no_pair = rw (no-pair, and_false_r)

module _ (fs : List (List ℕ)) (c i : ℕ) (next : Fields) (is : IsPair fs (Some (record { cipher = c; id = i })) (left next)) where
  is-pair : (is_pair fs ≡ true) × (c ≡ decimal_value (field_at fs 0)) × (i ≡ decimal_value (field_at fs 1)) × (left next ≡ drop 2 fs)
  unfolding IsPair
  is-pair = is

  pub open_is : (b : Bool) (m : List ℕ) → Last next vector_octets b m → (tail : List ℕ) → record_in (then_some b (code.Open c i)) (m ++ tail) ≡ open_record fs
  open_is b m last tail =
      by-test b (code.Open c i) (m ++ tail)
      (λ e. rw (last_fields fs next 2 is-pair.3 vector_octets b m last e, is-pair.0, last-hex fs next 2 is-pair.3 vector_octets b m last e, ← is-pair.1, ← is-pair.2)
      (ap (Open c i) (last-kept fs next 2 is-pair.3 vector_octets b m last e tail)))
      (λ e. rw (and-mid-false (are_fields 3 fs) (is_pair fs) (is_hex vector_octets (field_at fs 2)) (last-not fs next 2 is-pair.3 vector_octets b m last e)))

  abbrev hex : List ℕ
  hex = field_at fs 2

  no_key_lem : (are_fields 3 fs ≡ true → is_key hex ≡ false) → Malformed ≡ load_record fs
  no_key_lem h = go (are_fields 3 fs) refl
    where
      go : (b : Bool) → are_fields 3 fs ≡ b → Malformed ≡ load_record fs
      go true t = rw (h t, and_false_r, and_false_r)
      go false t = rw t

  pub load_no_key : next.rest ≡ None → Malformed ≡ load_record fs
  load_no_key e =
      let none : drop 2 fs ≡ [] = sym is-pair.3 ∙ left-none next (ap is_none e) in
      rw (ne_eqb (length fs) 3 (λ l. omega (arith, length-drop 2 fs, ap length none)))

  -- a key of as many octets as half the rest of the line is long
  module _ (rest : Bor (List ℕ)) (some : next.rest ≡ Some rest) (count : ℕ) (half : count ≡ length rest.now / 2) where
    size : are_fields 3 fs ≡ true → length hex / 2 ≡ count
    unfolding field_at
    size t =
        let three = eqb-true (length fs) 3 t in
        let one : length (left next) ≡ 1 = ap length is-pair.3 ∙ omega (arith, length-drop 2 fs) in
        let whole : hex ≡ rest.now = sym (rw is-pair.3 (get_or-drop 2 fs 0 [])) ∙ lone_rest next rest some one in
        omega (arith, ap length whole)

    pub load_none : count ≡ 0 → Malformed ≡ load_record fs
    load_none e = no_key_lem (λ t. rw (size t, e, and_false_r))

    pub load_long : key_room < count → Malformed ≡ load_record fs
    load_long l = no_key_lem (λ t. rw (size t, lt-leb count key_room l, and_false_r, and_false_r))

    module _ (more : 1 ≤ count) (fits : count ≤ key_room) (b : Bool) (m : List ℕ) (last : Last next count b m) where
      is-key : are_fields 3 fs ≡ true → is_key hex ≡ is_hex count hex
      is-key t = rw (size t, le-leb 1 count more, le-leb count key_room fits, and-true)

      pub load_is : (tail : List ℕ) → record_in (then_some b (code.Load c i count)) (m ++ tail) ≡ load_record fs
      load_is tail =
          by-test b (code.Load c i count) (m ++ tail)
          (λ e. let t = last_fields fs next 2 is-pair.3 count b m last e in
          rw (t, is-pair.0, is-key t, last-hex fs next 2 is-pair.3 count b m last e, ← is-pair.1, ← is-pair.2)
          (ap (Load c i) (last-kept fs next 2 is-pair.3 count b m last e tail)))
          (λ e. no_key_lem (λ t. is-key t ∙ rw t at (last-not fs next 2 is-pair.3 count b m last e)))

  -- no more than the pair
  pub join_is : (xs : List ℕ) → record_in (then_some (is_none next.rest) (code.Join c i)) xs ≡ join_record fs
  join_is xs = by-test (is_none next.rest) (code.Join c i) xs done more
    where
      done : is_none next.rest ≡ true → Join c i ≡ join_record fs
      done h =
          let none : drop 2 fs ≡ [] = sym is-pair.3 ∙ left-none next h in
          let two : length fs ≡ 2 = omega (arith, two-at_least fs is-pair.0, length-drop 2 fs, ap length none) in
          rw (eq-eqb (length fs) 2 two, is-pair.0, ← is-pair.1, ← is-pair.2)

      more : is_none next.rest ≡ false → Malformed ≡ join_record fs
      more h =
          let many : length fs ≡ 2 → ⊥ = λ l. left_some next h (is-pair.3 ∙ drop_of_length-le fs {i = 2} (omega arith)) in
          rw (ne_eqb (length fs) 2 many)

-- ---- a letter alone

pub alone-is : (next : Fields) (p : Parsed) (xs : List ℕ) → record_in (then_some (is_none next.rest) p) xs ≡ alone (record_in (Some p) xs) (left next)
alone-is next p xs = by-test (is_none next.rest) p xs done more
  where
    done : is_none next.rest ≡ true → record_in (Some p) xs ≡ alone (record_in (Some p) xs) (left next)
    done h = rw (left-none next h)

    more : is_none next.rest ≡ false → Malformed ≡ alone (record_in (Some p) xs) (left next)
    more h = rw (ne_eqb (length (left next)) 0 (λ l. left_some next h (drop_of_length-le (left next) {i = 0} (omega arith))))
