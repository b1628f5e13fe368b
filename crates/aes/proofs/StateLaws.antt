-- Laws of the state: its places, its columns, its size, and that its elements are octets.
use mathlib.Core.Path.{◌≡◌, sym, ap, ap₂, ◌∙◌}
use mathlib.Core.List.{List, [], ◌∷◌}
use Prim.Native.Nat.{ℕ, zero, suc, ◌+◌, ◌-◌, ◌*◌, ◌/◌, ◌%◌, ◌≤◌, ◌<◌}
use native.Mathlib.Nat.{add-zero, add_comm}
use native.Mathlib.Omega.{arith}
use lib.Bits.{bit_xor, xor_lt}
use lib.ListN.{length, get_or}
use lib.Seq.{ext_get_or}
use Rattle.octets.specs.Bits.{Octets}
use Rattle.octets.specs.Lists.{tab}
use Rattle.octets.proofs.ListLaws.{length-tab, get_or-tab, octets-tab}
use Rattle.aes.specs.Field.{sbox_of}
use Rattle.aes.specs.Cipher.{word, cell, sub_bytes, shift_rows, mixed, mix_columns, add_round_key, rounds, cipher}
use Rattle.aes.specs.Prepared.{octet_of, octets_in}
use Rattle.aes.proofs.FieldLaws.{mul_lt, sbox_lt}
use Rattle.aes.proofs.WordLaws.{octet_xor, octets-at, length-octets_in, octets-octets_in}

-- ---- sizes

pub length-shift_rows : (s : List ℕ) → length (shift_rows s) ≡ 16
unfolding shift_rows
length-shift_rows s = length-tab _ 16

pub length-mix_columns : (s : List ℕ) → length (mix_columns s) ≡ 16
unfolding mix_columns
length-mix_columns s = length-tab _ 16

pub length-add_round_key : (w s : List ℕ) (n : ℕ) → length (add_round_key w s n) ≡ 16
unfolding add_round_key
length-add_round_key w s n = length-tab _ 16

pub length-cipher : (w s : List ℕ) → length (cipher w s) ≡ 16
unfolding cipher
length-cipher w s = length-add_round_key w (shift_rows (sub_bytes (rounds w s 13))) 14

-- ---- places

place : (i : ℕ) → i % 4 + 4 * ((i / 4 + i % 4) % 4) ≡ 5 * i % 16
place i = omega arith

pub shift_at : (s : List ℕ) (i : ℕ) → i < 16 → get_or (shift_rows s) i 0 ≡ get_or s (5 * i % 16) 0
unfolding shift_rows
shift_at s i h = get_or-tab _ 16 i h ∙ ap (λ (k : ℕ). get_or s k 0) (place i)

-- SubBytes may come after ShiftRows
pub sub_shifted : (s : List ℕ) (i v : ℕ) → i < 16 → v ≡ get_or (shift_rows s) i 0 → sbox_of v ≡ get_or (shift_rows (sub_bytes s)) i 0
unfolding sub_bytes
sub_shifted s i v h e =
    ap sbox_of (e ∙ shift_at s i h) ∙ sym (shift_at (sub_bytes s) i h ∙ get_or-tab (λ k. sbox_of (get_or s k 0)) 16 (5 * i % 16) (omega arith))

pub word_at : (x : List ℕ) (q r : ℕ) → r < 4 → get_or (word x q) r 0 ≡ get_or x (4 * q + r) 0
unfolding word
word_at x q r h = get_or-tab (λ k. get_or x (4 * q + k) 0) 4 r h

pub add_round_key-at : (w s : List ℕ) (n i : ℕ) → i < 16 → bit_xor (get_or s i 0) (get_or w (16 * n + i) 0) ≡ get_or (add_round_key w s n) i 0
unfolding add_round_key
add_round_key-at w s n i h = sym (get_or-tab (λ k. bit_xor (get_or s k 0) (get_or w (16 * n + k) 0)) 16 i h)

-- ---- a column

cell_at : (x : List ℕ) (q r : ℕ) → r < 4 → cell (word x q) r 0 ≡ cell x r q
cell_at x q r h = rw add-zero (word_at x q r h ∙ ap (λ (k : ℕ). get_or x k 0) (add_comm (4 * q) r))

-- mixing reads the one column
mixed-at : (x : List ℕ) (q r : ℕ) → r < 4 → mixed (word x q) r 0 ≡ mixed x r q
unfolding mixed
mixed-at x q r h =
    rw
    (cell_at x q r h, cell_at x q ((r + 1) % 4) (omega arith), cell_at x q ((r + 2) % 4) (omega arith), cell_at x q ((r + 3) % 4) (omega arith))

mixed-place : (x : List ℕ) (q r : ℕ) → q < 4 → r < 4 → mixed x r q ≡ get_or (mix_columns x) (4 * q + r) 0
unfolding mix_columns
mixed-place x q r hq hr =
    let m : (4 * q + r) % 4 ≡ r = omega arith in
    let d : (4 * q + r) / 4 ≡ q = omega arith in
    sym (get_or-tab (λ i. mixed x (i % 4) (i / 4)) 16 (4 * q + r) (omega arith) ∙ rw (m, d))

four : (x : List ℕ) (q a b c d : ℕ) → a ≡ get_or x (4 * q) 0 → b ≡ get_or x (4 * q + 1) 0 → c ≡ get_or x (4 * q + 2) 0 → d ≡ get_or x (4 * q + 3) 0
    → a ∷ b ∷ c ∷ d ∷ [] ≡ word x q
unfolding word tab
four x q a b c d ea eb ec ed = rw (ea, eb, ec, ed, add-zero)

pub column_law : (x : List ℕ) (q a b c d : ℕ) → q < 4
    → a ≡ get_or x (4 * q) 0 → b ≡ get_or x (4 * q + 1) 0 → c ≡ get_or x (4 * q + 2) 0 → d ≡ get_or x (4 * q + 3) 0
    → (r : ℕ) → r < 4 → mixed (a ∷ b ∷ c ∷ d ∷ []) r 0 ≡ get_or (mix_columns x) (4 * q + r) 0
column_law x q a b c d h ea eb ec ed r l =
    ap (λ (t : List ℕ). mixed t r 0) (four x q a b c d ea eb ec ed) ∙ mixed-at x q r l ∙ mixed-place x q r h l

-- ---- a state in words

-- octet i after ShiftRows
pub shifted_at : (s : List ℕ) (i : ℕ) → i < 16 → octet_of (get_or s (5 * i % 16 / 4) 0) (5 * i % 16 % 4) ≡ get_or (shift_rows (octets_in 4 s)) i 0
shifted_at s i h = sym (shift_at (octets_in 4 s) i h ∙ octets-at 4 s (5 * i % 16) (omega arith))

-- the sum of a state and a round key
module _ (w s t : List ℕ) (n : ℕ) (h : n < 15) (sum-at : (q : ℕ) → q < 4 → get_or t q 0 ≡ bit_xor (get_or s q 0) (get_or w (4 * n + q) 0)) where
  key-octet : (i : ℕ) → i < 16 → octet_of (get_or w (4 * n + i / 4) 0) (i % 4) ≡ get_or (octets_in 60 w) (16 * n + i) 0
  key-octet i l =
      let e : 4 * n + i / 4 ≡ (16 * n + i) / 4 = omega arith in
      let f : i % 4 ≡ (16 * n + i) % 4 = omega arith in
      rw (e, f) (sym (octets-at 60 w (16 * n + i) (omega arith)))

  pub key_added : octets_in 4 t ≡ add_round_key (octets_in 60 w) (octets_in 4 s) n
  key_added =
      ext_get_or 0 (octets_in 4 t) (add_round_key (octets_in 60 w) (octets_in 4 s) n) (length-octets_in 4 t ∙ sym (length-add_round_key (octets_in 60 w) (octets_in 4 s) n))
      (λ i l.
      let k : i < 16 = omega (arith, length-octets_in 4 t) in
      octets-at 4 t i k
      ∙ ap (λ (v : ℕ). octet_of v (i % 4)) (sum-at (i / 4) (omega arith))
      ∙ octet_xor (get_or s (i / 4) 0) (get_or w (4 * n + i / 4) 0) (i % 4)
      ∙ ap₂ bit_xor (sym (octets-at 4 s i k)) (key-octet i k)
      ∙ add_round_key-at (octets_in 60 w) (octets_in 4 s) n i k)

-- ---- the rounds, as `PreparedKey::encipher` makes them

module _ (w b s : List ℕ) (n : ℕ) (h : 1 ≤ n) (e : s ≡ rounds w b (n - 1)) where
  pub rounds_more : (r : List ℕ) → r ≡ add_round_key w (mix_columns (shift_rows (sub_bytes s))) n → r ≡ rounds w b (n + 1 - 1)
  unfolding rounds
  rounds_more r p =
      let after : n + 1 - 1 ≡ suc (n - 1) = omega arith in
      let this : n ≡ suc (n - 1) = omega arith in
      rw after (p ∙ ap₂ (λ (t : List ℕ) (k : ℕ). add_round_key w (mix_columns (shift_rows (sub_bytes t))) k) e this)

  pub rounds-last : (r : List ℕ) → n ≡ 14 → r ≡ add_round_key w (shift_rows (sub_bytes s)) 14 → r ≡ cipher w b
  unfolding cipher
  rounds-last r q p = rw (p, e, q)

-- ---- octets

-- a word that is v, 0, 0, 0
pub octets-first : (v : ℕ) → v < 256 → Octets (v ∷ 0 ∷ 0 ∷ 0 ∷ [])
octets-first v h zero = h
octets-first v h (suc zero) = omega arith
octets-first v h (suc (suc zero)) = omega arith
octets-first v h (suc (suc (suc zero))) = omega arith
octets-first v h (suc (suc (suc (suc i)))) = omega arith

octets-sub_bytes : (s : List ℕ) → Octets s → Octets (sub_bytes s)
unfolding sub_bytes
octets-sub_bytes s o = octets-tab _ 16 (λ i h. sbox_lt (get_or s i 0) (o i))

octets-shift_rows : (s : List ℕ) → Octets s → Octets (shift_rows s)
unfolding shift_rows
octets-shift_rows s o = octets-tab _ 16 (λ i h. o (i % 4 + 4 * ((i / 4 + i % 4) % 4)))

pub mixed_lt : (s : List ℕ) (r c : ℕ) → Octets s → mixed s r c < 256
unfolding mixed
mixed_lt s r c o =
    let x = xor_lt 8 in
    x _ _ (x _ _ (x _ _ (mul_lt _ 2 (o _)) (mul_lt _ 3 (o _))) (o _)) (o _)

octets-mix_columns : (s : List ℕ) → Octets s → Octets (mix_columns s)
unfolding mix_columns
octets-mix_columns s o = octets-tab _ 16 (λ i h. mixed_lt s (i % 4) (i / 4) o)

octets-add_round_key : (w s : List ℕ) (n : ℕ) → Octets w → Octets s → Octets (add_round_key w s n)
unfolding add_round_key
octets-add_round_key w s n ow os = octets-tab _ 16 (λ i h. xor_lt 8 (get_or s i 0) (get_or w (16 * n + i) 0) (os i) (ow (16 * n + i)))

octets-rounds : (w s : List ℕ) (n : ℕ) → Octets w → Octets s → Octets (rounds w s n)
unfolding rounds
octets-rounds w s zero ow os = octets-add_round_key w s 0 ow os
octets-rounds w s (suc n) ow os =
    octets-add_round_key w _ (suc n) ow (octets-mix_columns _ (octets-shift_rows _ (octets-sub_bytes _ (octets-rounds w s n ow os))))

pub octets-cipher : (w s : List ℕ) → Octets w → Octets s → Octets (cipher w s)
unfolding cipher
octets-cipher w s ow os = octets-add_round_key w _ 14 ow (octets-shift_rows _ (octets-sub_bytes _ (octets-rounds w s 13 ow os)))

-- ---- a state in words after its steps

pub octets-shifted : (s : List ℕ) → Octets (shift_rows (sub_bytes (octets_in 4 s)))
octets-shifted s = octets-shift_rows _ (octets-sub_bytes _ (octets-octets_in 4 s))

pub octets-mixed : (s : List ℕ) → Octets (mix_columns (shift_rows (sub_bytes (octets_in 4 s))))
octets-mixed s = octets-mix_columns _ (octets-shifted s)
