-- Octets in hex: what a digit is worth, hex read and written in a loop, and that reading takes back what writing made.
use mathlib.Core.Path.{◌≡◌, refl, sym, ap, ap₂, ◌∙◌}
use mathlib.Core.Bool.{Bool, true, false, ◌&&◌, ◌||◌, true≢false, false≢true}
use mathlib.Core.List.{List}
use Prim.Native.Nat.{ℕ, ◌+◌, ◌-◌, ◌*◌, ◌/◌, ◌%◌, ◌≤◌, ◌<◌}
use native.Mathlib.Nat.{div-one}
use native.Mathlib.Decide.{ℕ_discrete, dec_lt}
use native.Mathlib.Omega.{arith}
use lib.Dec.{ltb, eqb}
use lib.ListN.{length, get_or, set, get_or-eq_default}
use lib.Seq.{ext_get_or}
use Rattle.std.specs.Prelude.{Option, Some, None, is_some}
use Rattle.std.specs.Option.{unwrap_or}
use borrow.Author.Tests.{lt-ltb, le-ltb, eqb-true, eq-eqb, ne_eqb}
use Rattle.octets.specs.Tests.{pick, all_below}
use Rattle.octets.specs.Lists.{tab}
use Rattle.octets.specs.Bits.{Octets}
use Rattle.octets.proofs.TestLaws.{and_left, and_right, all-at, all-step, all_intro, agree}
use Rattle.octets.proofs.ListLaws.{length-tab, get_or-tab, tab_same, octets-tab}
use Rattle.octets.proofs.Front.{Front, front_start, front_more, front_to, front_done}
use Rattle.text.specs.Decimal.{is_digit}
use Rattle.text.specs.Hex.{is_letter_digit, is_hex_digit, hex_value, hex_digit, is_hex, hex_octets, hex_text, read_hex}
use Rattle.text.proofs.RangeLaws.{inside, above, least, most}
use Rattle.text.proofs.PartedLaws.{Lacks}

-- ---- one digit

module _ (x : ℕ) where
  pub value_lt : hex_value x < 16
  unfolding hex_value
  value_lt = go (is_digit x) (is_letter_digit x) refl refl
    where
      go : (d l : Bool) → is_digit x ≡ d → is_letter_digit x ≡ l → pick d (x - 48) (pick l (10 + (x - 65)) 0) < 16
      go true l e f = omega (arith, most 48 57 x e)
      go false true e f = omega (arith, most 65 70 x f)
      go false false e f = omega arith

  pub value_none : is_hex_digit x ≡ false → hex_value x ≡ 0
  unfolding hex_value
  value_none = go (is_digit x) (is_letter_digit x)
    where
      go : (d l : Bool) → (d || l) ≡ false → pick d (x - 48) (pick l (10 + (x - 65)) 0) ≡ 0
      go true l e = absurd (true≢false e)
      go false true e = absurd (true≢false e)
      go false false e = refl

  pub digit_least : is_hex_digit x ≡ true → 48 ≤ x
  digit_least = go (is_digit x) (is_letter_digit x) refl refl
    where
      go : (d l : Bool) → is_digit x ≡ d → is_letter_digit x ≡ l → (d || l) ≡ true → 48 ≤ x
      go true l e f t = least 48 57 x e
      go false true e f t = omega (arith, least 65 70 x f)
      go false false e f t = absurd (false≢true t)

  pub worth_digit : 48 ≤ x → x ≤ 57 → Some (x - 48) ≡ pick (is_hex_digit x) (Some (hex_value x)) None
  unfolding hex_value
  worth_digit h l = rw (inside 48 57 x h l)

  pub worth_letter : 65 ≤ x → x ≤ 70 → Some (x - 65 + 10) ≡ pick (is_hex_digit x) (Some (hex_value x)) None
  unfolding hex_value
  worth_letter h l = let q : x - 65 + 10 ≡ 10 + (x - 65) = omega arith in rw (above 48 57 x (omega arith), inside 65 70 x h l, q)

  pub worth_none : is_digit x ≡ false → is_letter_digit x ≡ false → None ≡ pick (is_hex_digit x) (Some (hex_value x)) None
  worth_none d l = rw (d, l)

  -- what the code makes of a digit: its worth, and none for an octet that is no digit
  module _ (v : Option ℕ) (worth : v ≡ pick (is_hex_digit x) (Some (hex_value x)) None) where
    pub worth_or : unwrap_or v 0 ≡ hex_value x
    worth_or = rw worth (go (is_hex_digit x) refl)
      where
        go : (b : Bool) → is_hex_digit x ≡ b → unwrap_or (pick b (Some (hex_value x)) None) 0 ≡ hex_value x
        go true e = refl
        go false e = sym (value_none e)

    pub worth_some : is_some v ≡ is_hex_digit x
    worth_some = rw worth (go (is_hex_digit x))
      where
        go : (b : Bool) → is_some (pick b (Some (hex_value x)) None) ≡ b
        go true = refl
        go false = refl

-- ---- hex read

module _ (field : List ℕ) where
  abbrev pub digit_at : ℕ → Bool
  digit_at k = is_hex_digit (get_or field k 0)

  -- whether the digits so far are digits, one on
  pub digits_more : (i : ℕ) (all : Bool) (value : Option ℕ) → all ≡ all_below digit_at i → value ≡ pick (digit_at i) (Some (hex_value (get_or field i 0))) None
      → (all && is_some value) ≡ all_below digit_at (i + 1)
  digits_more i all value e v = rw (e, worth_some (get_or field i 0) value v, all-step)

  pub values_lt : (k : ℕ) → get_or (tab (λ i. hex_value (get_or field i 0)) (length field)) k 0 < 16
  values_lt k = go (dec_lt k (length field))
    where
      go : Dec (k < length field) → get_or (tab (λ i. hex_value (get_or field i 0)) (length field)) k 0 < 16
      go (yes l) = rw (get_or-tab (λ i. hex_value (get_or field i 0)) (length field) k l) (value_lt (get_or field k 0))
      go (no l) = rw (get_or-eq_default (tab (λ i. hex_value (get_or field i 0)) (length field)) 0 {n = k} (omega (arith, length-tab (λ i. hex_value (get_or field i 0)) (length field)))) (omega arith)

  pub is-hex : (n : ℕ) (b : Bool) → length field ≡ 2 * n → b ≡ all_below digit_at (length field) → b ≡ is_hex n field
  unfolding is_hex
  is-hex n b l e = rw (eq-eqb (length field) (2 * n) l) (e ∙ ap (all_below digit_at) l)

  pub not-hex : (n : ℕ) → (length field ≡ 2 * n → ⊥) → false ≡ is_hex n field
  unfolding is_hex
  not-hex n h = rw (ne_eqb (length field) (2 * n) h)

  pub length-hex_octets : (n : ℕ) → length (hex_octets field n) ≡ n
  unfolding hex_octets
  length-hex_octets n = length-tab (λ i. 16 * hex_value (get_or field (2 * i) 0) + hex_value (get_or field (2 * i + 1) 0)) n

  pub get_or-hex_octets : (n i : ℕ) → i < n → get_or (hex_octets field n) i 0 ≡ 16 * hex_value (get_or field (2 * i) 0) + hex_value (get_or field (2 * i + 1) 0)
  unfolding hex_octets
  get_or-hex_octets n i h = get_or-tab (λ i. 16 * hex_value (get_or field (2 * i) 0) + hex_value (get_or field (2 * i + 1) 0)) n i h

  -- the octets of which vs has the digits' values
  pub read_done : (d₀ d vs : List ℕ) → length field ≡ 2 * length d₀ → vs ≡ tab (λ i. hex_value (get_or field i 0)) (length field)
      → d ≡ tab (λ i. 16 * get_or vs (2 * i) 0 + get_or vs (2 * i + 1) 0) (length d₀) → d ≡ read_hex field d₀
  unfolding read_hex hex_octets
  read_done d₀ d vs l e h =
      rw (eq-eqb (length field) (2 * length d₀) l)
      (h ∙ tab_same _ _ (length d₀) (λ i b. ap₂ (λ (x y : ℕ). 16 * x + y) (value (2 * i) (omega arith)) (value (2 * i + 1) (omega arith))))
    where
      value : (k : ℕ) → k < length field → get_or vs k 0 ≡ hex_value (get_or field k 0)
      value k b = rw e (get_or-tab (λ i. hex_value (get_or field i 0)) (length field) k b)

  pub read_not : (d₀ : List ℕ) → (length field ≡ 2 * length d₀ → ⊥) → d₀ ≡ read_hex field d₀
  unfolding read_hex
  read_not d₀ h = rw (ne_eqb (length field) (2 * length d₀) h)

  pub hex_size : (n : ℕ) → is_hex n field ≡ true → length field ≡ 2 * n
  unfolding is_hex
  hex_size n e = eqb-true (length field) (2 * n) (and_left (eqb (length field) (2 * n)) (all_below digit_at (2 * n)) e)

  pub read_of : (d₀ : List ℕ) → is_hex (length d₀) field ≡ true → read_hex field d₀ ≡ hex_octets field (length d₀)
  unfolding read_hex
  read_of d₀ e = rw (eq-eqb (length field) (2 * length d₀) (hex_size (length d₀) e))

  pub hex-lacks : (n sep : ℕ) → sep < 48 → is_hex n field ≡ true → Lacks sep field
  unfolding is_hex
  hex-lacks n sep h e k l =
      let digit = all-at digit_at (2 * n) k (omega (arith, hex_size n e)) (and_right (eqb (length field) (2 * n)) (all_below digit_at (2 * n)) e) in
      ne_eqb (get_or field k 0) sep (λ q. omega (arith, digit_least (get_or field k 0) digit))

-- ---- hex written

module _ (xs : List ℕ) where
  abbrev written : ℕ → ℕ
  written k = hex_digit (get_or xs (k / 2) 0 / pick (eqb (k % 2) 0) 16 1 % 16)

  pub length-hex_text : length (hex_text xs) ≡ 2 * length xs
  unfolding hex_text
  length-hex_text = length-tab written (2 * length xs)

  pub hex_text-high : (i : ℕ) → i < length xs → get_or xs i 0 < 256 → get_or (hex_text xs) (2 * i) 0 ≡ hex_digit (get_or xs i 0 / 16)
  unfolding hex_text
  hex_text-high i l o =
      let q : 2 * i / 2 ≡ i = omega arith in
      let r : 2 * i % 2 ≡ 0 = omega arith in
      let m : get_or xs i 0 / 16 % 16 ≡ get_or xs i 0 / 16 = omega arith in
      get_or-tab written (2 * length xs) (2 * i) (omega arith) ∙ rw (q, r, m)

  pub hex_text-low : (i : ℕ) → i < length xs → get_or (hex_text xs) (2 * i + 1) 0 ≡ hex_digit (get_or xs i 0 % 16)
  unfolding hex_text
  hex_text-low i l =
      let q : (2 * i + 1) / 2 ≡ i = omega arith in
      let r : (2 * i + 1) % 2 ≡ 1 = omega arith in
      get_or-tab written (2 * length xs) (2 * i + 1) (omega arith) ∙ rw (q, r, div-one)

  pub write_start : (d : List ℕ) → length d ≡ 2 * length xs → Front (hex_text xs) d d (2 * 0)
  write_start d e = front_start (hex_text xs) d (e ∙ sym length-hex_text)

  pub write_more : (d₀ d : List ℕ) (i high low : ℕ) → Front (hex_text xs) d₀ d (2 * i) → i < length xs → get_or xs i 0 < 256
      → high ≡ hex_digit (get_or xs i 0 / 16) → low ≡ hex_digit (get_or xs i 0 % 16)
      → Front (hex_text xs) d₀ (set (set d (2 * i) high) (2 * i + 1) low) (2 * (i + 1))
  write_more d₀ d i high low f l o eh el =
      let first = front_more (hex_text xs) d₀ d (2 * i) high f (omega (arith, length-hex_text)) (eh ∙ sym (hex_text-high i l o)) in
      front_to (hex_text xs) d₀ (set (set d (2 * i) high) (2 * i + 1) low) (2 * i + 1 + 1) (2 * (i + 1)) (omega arith)
      (front_more (hex_text xs) d₀ (set d (2 * i) high) (2 * i + 1) low first (omega (arith, length-hex_text)) (el ∙ sym (hex_text-low i l)))

  pub write_done : (d₀ d : List ℕ) (i : ℕ) → Front (hex_text xs) d₀ d (2 * i) → length xs ≤ i → d ≡ hex_text xs
  write_done d₀ d i f h = front_done (hex_text xs) d₀ d (2 * i) f (omega (arith, length-hex_text))

-- ---- what was written is read

digit-hex : (n : ℕ) → n < 16 → is_hex_digit (hex_digit n) ≡ true
unfolding hex_digit all_below
digit-hex n h = all-at (λ n. is_hex_digit (hex_digit n)) 16 n h refl

value_digit : (n : ℕ) → n < 16 → hex_value (hex_digit n) ≡ n
unfolding hex_digit hex_value all_below
value_digit n h = agree (λ n. hex_value (hex_digit n)) (λ n. n) 16 refl n h

module _ (xs : List ℕ) where
  pub hex_text-hex : is_hex (length xs) (hex_text xs) ≡ true
  unfolding is_hex hex_text
  hex_text-hex =
      rw (eq-eqb (length (hex_text xs)) (2 * length xs) (length-hex_text xs))
      (all_intro (digit_at (hex_text xs)) (2 * length xs) (λ k l. rw (get_or-tab (written xs) (2 * length xs) k l) (digit-hex (get_or xs (k / 2) 0 / pick (eqb (k % 2) 0) 16 1 % 16) (omega arith))))

  pub hex_round : Octets xs → hex_octets (hex_text xs) (length xs) ≡ xs
  hex_round o =
      ext_get_or 0 (hex_octets (hex_text xs) (length xs)) xs (length-hex_octets (hex_text xs) (length xs))
      (λ i l. at i (omega (arith, length-hex_octets (hex_text xs) (length xs))))
    where
      at : (i : ℕ) → i < length xs → get_or (hex_octets (hex_text xs) (length xs)) i 0 ≡ get_or xs i 0
      at i l =
          let high : hex_value (get_or (hex_text xs) (2 * i) 0) ≡ get_or xs i 0 / 16 = rw (hex_text-high xs i l (o i)) (value_digit (get_or xs i 0 / 16) (omega (arith, o i))) in
          let low : hex_value (get_or (hex_text xs) (2 * i + 1) 0) ≡ get_or xs i 0 % 16 = rw (hex_text-low xs i l) (value_digit (get_or xs i 0 % 16) (omega arith)) in
          omega (arith, get_or-hex_octets (hex_text xs) (length xs) i l, high, low)

-- ---- and hex has one way to be written

digit_back : (x : ℕ) → is_hex_digit x ≡ true → hex_digit (hex_value x) ≡ x
unfolding hex_digit hex_value
digit_back x = go (is_digit x) (is_letter_digit x) refl refl
  where
    go : (d l : Bool) → is_digit x ≡ d → is_letter_digit x ≡ l → (d || l) ≡ true
        → pick (ltb (pick d (x - 48) (pick l (10 + (x - 65)) 0)) 10) (48 + pick d (x - 48) (pick l (10 + (x - 65)) 0)) (65 + (pick d (x - 48) (pick l (10 + (x - 65)) 0) - 10)) ≡ x
    go true l e f t = rw (lt-ltb (x - 48) 10 (omega (arith, most 48 57 x e))) (omega (arith, least 48 57 x e))
    go false true e f t = rw (le-ltb (10 + (x - 65)) 10 (omega arith)) (omega (arith, least 65 70 x f))
    go false false e f t = absurd (false≢true t)

module _ (xs : List ℕ) (n : ℕ) (hex : is_hex n xs ≡ true) where
  pub octets-hex_octets : Octets (hex_octets xs n)
  unfolding hex_octets
  octets-hex_octets =
      octets-tab (λ i. 16 * hex_value (get_or xs (2 * i) 0) + hex_value (get_or xs (2 * i + 1) 0)) n
      (λ i l. omega (arith, value_lt (get_or xs (2 * i) 0), value_lt (get_or xs (2 * i + 1) 0)))

  digit_hex : (k : ℕ) → k < 2 * n → is_hex_digit (get_or xs k 0) ≡ true
  unfolding is_hex
  digit_hex k l = all-at (digit_at xs) (2 * n) k l (and_right (eqb (length xs) (2 * n)) (all_below (digit_at xs) (2 * n)) hex)

  pub hex_back : hex_text (hex_octets xs n) ≡ xs
  hex_back =
      ext_get_or 0 (hex_text ys) xs (length-hex_text ys ∙ omega (arith, hex_size xs n hex, length-hex_octets xs n))
      (λ k l. at k (omega (arith, length-hex_text ys, length-hex_octets xs n)) (ℕ_discrete (k % 2) 0))
    where
      ys : List ℕ
      ys = hex_octets xs n

      at : (k : ℕ) → k < 2 * n → Dec (k % 2 ≡ 0) → get_or (hex_text ys) k 0 ≡ get_or xs k 0
      at k l (yes e) =
          let q : 2 * (k / 2) ≡ k = omega arith in
          let y = get_or-hex_octets xs n (k / 2) (omega arith) in
          let v : get_or ys (k / 2) 0 / 16 ≡ hex_value (get_or xs (2 * (k / 2)) 0) = omega (arith, y, value_lt (get_or xs (2 * (k / 2) + 1) 0)) in
          let h = hex_text-high ys (k / 2) (omega (arith, length-hex_octets xs n)) (octets-hex_octets (k / 2)) ∙ ap hex_digit v ∙ digit_back (get_or xs (2 * (k / 2)) 0) (digit_hex (2 * (k / 2)) (omega arith)) in
          rw q at h
      at k l (no e) =
          let q : 2 * (k / 2) + 1 ≡ k = omega arith in
          let y = get_or-hex_octets xs n (k / 2) (omega arith) in
          let v : get_or ys (k / 2) 0 % 16 ≡ hex_value (get_or xs (2 * (k / 2) + 1) 0) = omega (arith, y, value_lt (get_or xs (2 * (k / 2) + 1) 0)) in
          let h = hex_text-low ys (k / 2) (omega (arith, length-hex_octets xs n)) ∙ ap hex_digit v ∙ digit_back (get_or xs (2 * (k / 2) + 1) 0) (digit_hex (2 * (k / 2) + 1) (omega arith)) in
          rw q at h
