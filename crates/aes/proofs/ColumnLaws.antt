-- Laws of the columns: the four rows of each, and that a mixed column is the sum of its four octets' columns, each rotated to its row.
use mathlib.Core.Path.{◌≡◌, refl, ap, ◌∙◌}
use mathlib.Core.List.{List, [], ◌∷◌}
use Prim.Native.Nat.{ℕ, zero, suc, ◌+◌, ◌*◌, ◌/◌, ◌%◌, ◌<◌}
use native.Mathlib.Omega.{arith}
use lib.Bits.{bit_or, bit_xor, xor_comm, xor_lt, xor_zero_r}
use lib.ListN.{get_or}
use Rattle.octets.specs.Lists.{tab}
use Rattle.octets.proofs.ListLaws.{length-tab, get_or-tab}
use Rattle.octets.proofs.BitLaws.{xor_assoc}
use Rattle.aes.specs.Field.{xtime, reduce, digit, mul_bits, mul, sbox_of}
use Rattle.aes.specs.Cipher.{mixed, mix_columns}
use Rattle.aes.specs.Prepared.{as_word, word_in, octet_of, mixed_alone, IsColumns}
use Rattle.aes.proofs.FieldLaws.{mul-two, mul-three, sbox_lt}
use Rattle.aes.proofs.WordLaws.{word_same, octet-word, rotated_8, rotated_16, rotated_24, word_xor}
use Rattle.aes.proofs.StateLaws.{mixed_lt, octets-first, column_law}

-- ---- the rows of a column

module _ (v : ℕ) where
  alone-0 : mixed_alone v 0 ≡ xtime v
  unfolding mixed_alone mixed mul mul_bits digit xtime reduce
  alone-0 = xor_zero_r _ ∙ xor_zero_r _ ∙ xor_zero_r _ ∙ mul-two v

  alone-1 : mixed_alone v 1 ≡ v
  unfolding mixed_alone mixed mul mul_bits digit xtime reduce
  alone-1 = refl

  alone-2 : mixed_alone v 2 ≡ v
  unfolding mixed_alone mixed mul mul_bits digit xtime reduce
  alone-2 = xor_zero_r v

  alone-3 : mixed_alone v 3 ≡ bit_xor v (xtime v)
  unfolding mixed_alone mixed mul mul_bits digit xtime reduce
  alone-3 = xor_zero_r _ ∙ xor_zero_r _ ∙ mul-three v

alone_lt : (v r : ℕ) → v < 256 → mixed_alone v r < 256
unfolding mixed_alone
alone_lt v r h = mixed_lt _ r 0 (octets-first v h)

-- ---- a mixed column

row_0 : (a b c d : ℕ) → bit_xor (bit_xor (bit_xor (mixed_alone a 0) (mixed_alone b 3)) (mixed_alone c 2)) (mixed_alone d 1) ≡ mixed (a ∷ b ∷ c ∷ d ∷ []) 0 0
unfolding mixed
row_0 a b c d = rw (alone-0, alone-3, alone-2, alone-1, mul-two, mul-three)

-- the first of four goes last
around : (a b c d : ℕ) → a < 256 → b < 256 → c < 256 → d < 256 → (i j k l : ℕ)
    → bit_xor (bit_xor (bit_xor (mixed_alone a i) (mixed_alone b j)) (mixed_alone c k)) (mixed_alone d l)
    ≡ bit_xor (bit_xor (bit_xor (mixed_alone b j) (mixed_alone c k)) (mixed_alone d l)) (mixed_alone a i)
around a b c d ha hb hc hd i j k l =
    let p = alone_lt a i ha in
    let q = alone_lt b j hb in
    let r = alone_lt c k hc in
    ap (λ (z : ℕ). bit_xor z (mixed_alone d l)) (xor_assoc _ _ _ p q r)
    ∙ xor_assoc _ _ _ p (xor_lt 8 _ _ q r) (alone_lt d l hd)
    ∙ xor_comm (mixed_alone a i) _

module _ (a b c d : ℕ) (ha : a < 256) (hb : b < 256) (hc : c < 256) (hd : d < 256) where
  -- a row of the sum of four octets' columns, each rotated to its row
  abbrev sum_row : ℕ → ℕ
  sum_row r = bit_xor (bit_xor (bit_xor (mixed_alone a r) (mixed_alone b ((r + 3) % 4))) (mixed_alone c ((r + 2) % 4))) (mixed_alone d ((r + 1) % 4))

  sum_row_lem : (r : ℕ) → r < 4 → sum_row r ≡ mixed (a ∷ b ∷ c ∷ d ∷ []) r 0
  unfolding mixed
  sum_row_lem zero h = row_0 a b c d
  sum_row_lem (suc zero) h = around a b c d ha hb hc hd 1 0 3 2 ∙ row_0 b c d a
  sum_row_lem (suc (suc zero)) h = around a b c d ha hb hc hd 2 1 0 3 ∙ around b c d a hb hc hd ha 1 0 3 2 ∙ row_0 c d a b
  sum_row_lem (suc (suc (suc zero))) h =
      around a b c d ha hb hc hd 3 2 1 0 ∙ around b c d a hb hc hd ha 2 1 0 3 ∙ around c d a b hc hd ha hb 1 0 3 2 ∙ row_0 d a b c
  sum_row_lem (suc (suc (suc (suc r)))) h = absurd (omega arith)

  -- the same sum of the columns as words
  sum-words : bit_xor
      (bit_xor (bit_xor (as_word (mixed_alone a)) (as_word (λ r. mixed_alone b ((r + 3) % 4)))) (as_word (λ r. mixed_alone c ((r + 2) % 4))))
      (as_word (λ r. mixed_alone d ((r + 1) % 4))) ≡ as_word sum_row
  sum-words =
      let oa : (r : ℕ) → mixed_alone a r < 256 = λ r. alone_lt a r ha in
      let ob : (r : ℕ) → mixed_alone b ((r + 3) % 4) < 256 = λ r. alone_lt b ((r + 3) % 4) hb in
      let oc : (r : ℕ) → mixed_alone c ((r + 2) % 4) < 256 = λ r. alone_lt c ((r + 2) % 4) hc in
      let od : (r : ℕ) → mixed_alone d ((r + 1) % 4) < 256 = λ r. alone_lt d ((r + 1) % 4) hd in
      rw (word_xor _ _ oa ob, word_xor _ _ (λ r. xor_lt 8 _ _ (oa r) (ob r)) oc)
      (word_xor _ _ (λ r. xor_lt 8 _ _ (xor_lt 8 _ _ (oa r) (ob r)) (oc r)) od)

  -- as `aes::column` makes it, of the column that four entries stand for
  module _ (x : List ℕ) (q i j k l m n o : ℕ) (hq : q < 4)
      (ea : a ≡ get_or x (4 * q) 0) (eb : b ≡ get_or x (4 * q + 1) 0) (ec : c ≡ get_or x (4 * q + 2) 0) (ed : d ≡ get_or x (4 * q + 3) 0)
      (ei : i ≡ as_word (mixed_alone a)) (ej : j ≡ as_word (mixed_alone b)) (ek : k ≡ as_word (mixed_alone c)) (el : l ≡ as_word (mixed_alone d))
      (em : m ≡ bit_or (j * 256 % 4294967296) (j / 16777216)) (en : n ≡ bit_or (k * 65536 % 4294967296) (k / 65536)) (eo : o ≡ bit_or (l * 16777216 % 4294967296) (l / 256)) where
    summed : bit_xor (bit_xor (bit_xor i m) n) o ≡ as_word sum_row
    summed =
        rw
        (em, en, eo, ei, ej, ek, el, rotated_8 (mixed_alone b) (λ r. alone_lt b r hb), rotated_16 (mixed_alone c) (λ r. alone_lt c r hc), rotated_24 (mixed_alone d) (λ r. alone_lt d r hd))
        sum-words

    pub column_sum : bit_xor (bit_xor (bit_xor i m) n) o ≡ word_in (mix_columns x) q
    unfolding word_in
    column_sum = summed ∙ word_same sum_row _ (λ r h. sum_row_lem r h ∙ column_law x q a b c d hq ea eb ec ed r h)

-- ---- the table, as `Sbox::columns` makes it

abbrev pub column_of : ℕ → ℕ
column_of x = as_word (mixed_alone (sbox_of x))

pub alone_is : (s d : ℕ) → d ≡ xtime s → d + 256 * s + 65536 * s + 16777216 * bit_xor s d ≡ as_word (mixed_alone s)
unfolding as_word
alone_is s d e = rw (e, alone-0, alone-1, alone-2, alone-3)

pub columns_done : (t : List ℕ) → t ≡ tab column_of 256 → IsColumns t
columns_done t e = rw e (record { size = length-tab column_of 256; rule = get_or-tab column_of 256 })

-- the S-box's value in an entry
pub entry_sub : (x w : ℕ) → x < 256 → w ≡ column_of x → octet_of w 1 ≡ sbox_of x
entry_sub x w h e =
    ap (λ (v : ℕ). octet_of v 1) e ∙ octet-word (mixed_alone (sbox_of x)) (λ r. alone_lt (sbox_of x) r (sbox_lt x h)) 1 (omega arith) ∙ alone-1 (sbox_of x)
