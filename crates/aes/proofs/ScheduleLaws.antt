-- Laws of the key schedule: its words' steps, what `aes::temp` returns in its three cases, what a turn of the expansion adds, its size, and that
-- its elements are octets.
use mathlib.Core.Path.{◌≡◌, refl, sym, ap, ap₂, ◌∙◌}
use mathlib.Core.Bool.{Bool, true, false}
use mathlib.Core.List.{List, [], ◌∷◌, ◌++◌, append_assoc}
use Prim.Native.Nat.{ℕ, zero, suc, ◌+◌, ◌-◌, ◌*◌, ◌/◌, ◌%◌, ◌^◌, ◌≤◌, ◌<◌}
use native.Mathlib.Omega.{arith}
use lib.Bits.{bit_or, bit_xor, xor_lt}
use lib.Dec.{eqb}
use lib.ListN.{length, get_or, set, take, length-append}
use lib.Seq.{take_all, take-append-le, get_or-set_same, get_or-set_other}
use borrow.Author.Tests.{ne_eqb}
use Rattle.std.specs.Int.{w32, from_le_bytes, to_le_bytes}
use Rattle.octets.specs.Tests.{pick, all_below}
use Rattle.octets.specs.Bits.{Octets}
use Rattle.octets.specs.Lists.{tab}
use Rattle.octets.proofs.TestLaws.{agree}
use Rattle.octets.proofs.ListLaws.{tab_same, octets-tab}
use Rattle.octets.proofs.BitLaws.{octets_append}
use Rattle.aes.specs.Field.{xtime, reduce, sbox_of}
use Rattle.aes.specs.Cipher.{word, xors, rot_word, sub_word, rcon_of, temp, next_word, expanded, key_expansion, aes}
use Rattle.aes.specs.Prepared.{as_word, octet_of, octets_of, octets_in}
use Rattle.aes.proofs.FieldLaws.{xtime_lt, sbox_lt}
use Rattle.aes.proofs.WordLaws.{le_word, le_octet, octet_lt, octet_xor, as_octets, rotated_24, octet-at, four_octets, octets_same, word-octets}
use Rattle.aes.proofs.StateLaws.{octets-first, length-cipher, octets-cipher}

-- ---- words

pub rotated-octets : (t : ℕ) → t < 4294967296 → octets_of (bit_or (t * 16777216 % 4294967296) (t / 256)) ≡ rot_word (octets_of t)
unfolding rot_word
rotated-octets t h =
    let e : bit_or (t * 16777216 % 4294967296) (t / 256) ≡ as_word (λ r. octet_of t ((r + 1) % 4)) =
    ap (λ (w : ℕ). bit_or (w * 16777216 % 4294967296) (w / 256)) (sym (as_octets t h)) ∙ rotated_24 (octet_of t) (octet_lt t) in
    ap octets_of e
    ∙ four_octets (λ r. octet_of t ((r + 1) % 4)) (λ r. octet_lt t ((r + 1) % 4))
    ∙ tab_same (λ r. octet_of t ((r + 1) % 4)) (λ i. get_or (octets_of t) ((i + 1) % 4) 0) 4 (λ r l. sym (octet-at t ((r + 1) % 4) (omega arith)))

-- a word put together of the S-box's values at another's octets
pub substituted-octets : (t : ℕ) (x y : List ℕ) → x ≡ to_le_bytes w32 t → ((r : ℕ) → r < 4 → get_or y r 0 ≡ sbox_of (get_or x r 0)) → octets_of (from_le_bytes w32 y) ≡ sub_word (octets_of t)
unfolding as_word sub_word
substituted-octets t x y is e =
    let each : (r : ℕ) → r < 4 → get_or y r 0 ≡ sbox_of (octet_of t r) = λ r h. e r h ∙ ap (λ (z : List ℕ). sbox_of (get_or z r 0)) is ∙ ap sbox_of (le_octet t r h) in
    ap octets_of (le_word (get_or y 0 0) (get_or y 1 0) (get_or y 2 0) (get_or y 3 0))
    ∙ rw (each 0 (omega arith), each 1 (omega arith), each 2 (omega arith), each 3 (omega arith))
    (four_octets (λ r. sbox_of (octet_of t r)) (λ r. sbox_lt (octet_of t r) (octet_lt t r))
    ∙ tab_same (λ r. sbox_of (octet_of t r)) (λ i. sbox_of (get_or (octets_of t) i 0)) 4 (λ r l. ap sbox_of (sym (octet-at t r l))))

sum-octets : (v w : ℕ) → octets_of (bit_xor v w) ≡ xors (octets_of v) (octets_of w)
unfolding octets_of xors
sum-octets v w =
    tab_same (octet_of (bit_xor v w)) (λ i. bit_xor (get_or (octets_of v) i 0) (get_or (octets_of w) i 0)) 4
    (λ r l. octet_xor v w r ∙ sym (ap₂ bit_xor (octet-at v r l) (octet-at w r l)))

small_octets : (x : ℕ) → x < 256 → octets_of x ≡ x ∷ 0 ∷ 0 ∷ 0 ∷ []
unfolding octets_of octet_of tab
small_octets x h =
    let a : x / 1 % 256 ≡ x = omega arith in
    let b : x / 256 % 256 ≡ 0 = omega arith in
    let c : x / 65536 % 256 ≡ 0 = omega arith in
    let d : x / 16777216 % 256 ≡ 0 = omega arith in
    rw (a, b, c, d)

rcon_lt : (j : ℕ) → rcon_of j < 256
unfolding rcon_of
rcon_lt zero = omega arith
rcon_lt (suc zero) = omega arith
rcon_lt (suc (suc j)) = xtime_lt (rcon_of (suc j)) (rcon_lt (suc j))

-- ---- the three cases of temp

pub temp-zero : (t u v r i : ℕ) → i % 8 ≡ 0 → octets_of u ≡ rot_word (octets_of t) → octets_of v ≡ sub_word (octets_of u) → r ≡ rcon_of (i / 8)
    → octets_of (bit_xor v r) ≡ temp (octets_of t) i
unfolding temp
temp-zero t u v r i e p q c = rw (sum-octets v r, q, p, c, small_octets (rcon_of (i / 8)) (rcon_lt (i / 8)), e)

pub temp_four : (t : List ℕ) (i : ℕ) → i % 8 ≡ 4 → sub_word t ≡ temp t i
unfolding temp
temp_four t i e = rw e

pub temp-rest : (t : List ℕ) (i : ℕ) → (i % 8 ≡ 0 → ⊥) → (i % 8 ≡ 4 → ⊥) → t ≡ temp t i
unfolding temp
temp-rest t i z f = rw (ne_eqb _ _ z, ne_eqb _ _ f)

pub rcon_is : (n : ℕ) → 0 < n → n < 8 → 1 * 2 ^ (n - 1) % 256 ≡ rcon_of n
unfolding all_below rcon_of xtime reduce
rcon_is n h l =
    let e : suc (n - 1) ≡ n = omega arith in
    agree (λ (k : ℕ). 1 * 2 ^ k % 256) (λ k. rcon_of (suc k)) 7 refl (n - 1) (omega arith) ∙ ap rcon_of e

-- ---- the words of a schedule

-- word i, of the two words that it is made of
pub next-is : (w : List ℕ) (i v : ℕ) → 8 ≤ i → octets_of v ≡ temp (octets_of (get_or w (i - 1) 0)) i
    → octets_of (bit_xor (get_or w (i - 8) 0) v) ≡ next_word (octets_in i w) i
unfolding next_word
next-is w i v h e = rw (sum-octets (get_or w (i - 8) 0) v, word-octets i w (i - 8) (omega arith), word-octets i w (i - 1) (omega arith), e)

-- one word more
four_more : (f : ℕ → ℕ) (m : ℕ) → tab f (suc (suc (suc (suc m)))) ≡ tab f m ++ (f m ∷ f (suc m) ∷ f (suc (suc m)) ∷ f (suc (suc (suc m))) ∷ [])
unfolding tab
four_more f m = simp append_assoc

module _ (w : List ℕ) (i v : ℕ) (h : i < length w) where
  new-octet : (j r : ℕ) → j ≡ 4 * i + r → r < 4 → octet_of (get_or (set w i v) (j / 4) 0) (j % 4) ≡ octet_of v r
  new-octet j r e l =
      let d : j / 4 ≡ i = omega arith in
      let m : j % 4 ≡ r = omega arith in
      rw (d, m, get_or-set_same w i v 0 h)

  octets_more : octets_in (i + 1) (set w i v) ≡ octets_in i w ++ octets_of v
  unfolding octets_in octets_of tab
  octets_more =
      let e : 4 * (i + 1) ≡ suc (suc (suc (suc (4 * i)))) = omega arith in
      rw (e, four_more (λ j. octet_of (get_or (set w i v) (j / 4) 0) (j % 4)) (4 * i))
      (ap₂ ◌++◌
      (octets_same i (set w i v) w (λ q l. get_or-set_other w i q v 0 (λ z. omega arith)))
      (rw
      (new-octet (4 * i) 0 (omega arith) (omega arith), new-octet (suc (4 * i)) 1 (omega arith) (omega arith), new-octet (suc (suc (4 * i))) 2 (omega arith) (omega arith), new-octet (suc (suc (suc (4 * i)))) 3 (omega arith) (omega arith))))

pub expand_more : (k w : List ℕ) (i v : ℕ) → 8 ≤ i → i < length w → octets_of v ≡ next_word (octets_in i w) i → octets_in i w ≡ expanded k (i - 8)
    → octets_in (i + 1) (set w i v) ≡ expanded k (i + 1 - 8)
unfolding expanded
expand_more k w i v h l next e =
    let g : i + 1 - 8 ≡ suc (i - 8) = omega arith in
    let j : 8 + (i - 8) ≡ i = omega arith in
    octets_more w i v l ∙ rw (g, j, next, e)

-- ---- size

length-next : (w : List ℕ) (i : ℕ) → length (next_word w i) ≡ 4
unfolding next_word xors tab
length-next w i = refl

length-expanded : (k : List ℕ) (n : ℕ) → length (expanded k n) ≡ length k + 4 * n
unfolding expanded
length-expanded k zero = omega arith
length-expanded k (suc n) =
    length-append (expanded k n) (next_word (expanded k n) (8 + n)) ∙ omega (arith, length-expanded k n, length-next (expanded k n) (8 + n))

first-words : (k : List ℕ) (n : ℕ) → take (length k) (expanded k n) ≡ k
unfolding expanded
first-words k zero = take_all (length k) k (omega arith)
first-words k (suc n) =
    take-append-le (length k) (expanded k n) (next_word (expanded k n) (8 + n)) (omega (arith, length-expanded k n)) ∙ first-words k n

pub key-first : (k : List ℕ) → length k ≡ 32 → take 32 (key_expansion k) ≡ k
unfolding key_expansion
key-first k l = ap (λ (m : ℕ). take m (expanded k 52)) (sym l) ∙ first-words k 52

-- ---- octets

octets-word : (w : List ℕ) (i : ℕ) → Octets w → Octets (word w i)
unfolding word
octets-word w i o = octets-tab _ 4 (λ k h. o (4 * i + k))

octets-xors : (a b : List ℕ) → Octets a → Octets b → Octets (xors a b)
unfolding xors
octets-xors a b oa ob = octets-tab _ 4 (λ i h. xor_lt 8 (get_or a i 0) (get_or b i 0) (oa i) (ob i))

octets-rot_word : (t : List ℕ) → Octets t → Octets (rot_word t)
unfolding rot_word
octets-rot_word t o = octets-tab _ 4 (λ i h. o ((i + 1) % 4))

octets-sub_word : (t : List ℕ) → Octets t → Octets (sub_word t)
unfolding sub_word
octets-sub_word t o = octets-tab _ 4 (λ i h. sbox_lt (get_or t i 0) (o i))

octets-pick : (b : Bool) (x y : List ℕ) → Octets x → Octets y → Octets (pick b x y)
octets-pick true x y ox oy = ox
octets-pick false x y ox oy = oy

octets-temp : (t : List ℕ) (i : ℕ) → Octets t → Octets (temp t i)
unfolding temp
octets-temp t i o =
    octets-pick (eqb (i % 8) 0) _ _ (octets-xors _ _ (octets-sub_word _ (octets-rot_word t o)) (octets-first (rcon_of (i / 8)) (rcon_lt (i / 8))))
    (octets-pick (eqb (i % 8) 4) _ _ (octets-sub_word t o) o)

octets-next : (w : List ℕ) (i : ℕ) → Octets w → Octets (next_word w i)
unfolding next_word
octets-next w i o = octets-xors _ _ (octets-word w (i - 8) o) (octets-temp _ i (octets-word w (i - 1) o))

octets-expanded : (k : List ℕ) (n : ℕ) → Octets k → Octets (expanded k n)
unfolding expanded
octets-expanded k zero o = o
octets-expanded k (suc n) o = octets_append (expanded k n) (next_word (expanded k n) (8 + n)) (octets-expanded k n o) (octets-next (expanded k n) (8 + n) (octets-expanded k n o))

octets-key_expansion : (k : List ℕ) → Octets k → Octets (key_expansion k)
unfolding key_expansion
octets-key_expansion k o = octets-expanded k 52 o

-- ---- what other crates cite: AES gives sixteen octets

pub length-aes : (k s : List ℕ) → length (aes k s) ≡ 16
unfolding aes
length-aes k s = length-cipher (key_expansion k) s

pub octets-aes : (k s : List ℕ) → Octets k → Octets s → Octets (aes k s)
unfolding aes
octets-aes k s ok os = octets-cipher (key_expansion k) s (octets-key_expansion k ok) os
