-- The cases of the keys' definitions, each as a way through the code meets it.
use Prim.Native.Nat.{ℕ, zero, suc, ◌+◌, ◌-◌, ◌*◌, ◌/◌, ◌%◌, ◌≤◌, ◌<◌}
use native.Mathlib.Decide.{ℕ_discrete, dec_lt}
use native.Mathlib.Omega.{arith}
use mathlib.Core.Path.{◌≡◌, refl, sym, ap, ap₂, ◌∙◌, fun_ext}
use mathlib.Core.Bool.{Bool, true, false, ◌&&◌, not, true≢false}
use mathlib.Core.List.{List, [], ◌∷◌, ◌++◌}
use lib.ListN.{length, get_or, take, drop, replicate, length-append, get_or-append}
use lib.Seq.{get_or-take, length-take-le, get_or-append_seam}
use lib.Bits.{bit_xor}
use lib.Dec.{ltb, eqb}
use borrow.Author.Tests.{lt-ltb, le-ltb, eq-eqb, ne_eqb, eqb-true}
use borrow.Author.Rules.{part_to_end}
use Rattle.octets.specs.Tests.{pick, all_below}
use Rattle.octets.specs.Lists.{all_zero}
use Rattle.ciphers.specs.Keys.{ones, odd_octet, scramble_key, des_key, key_allowed, key_right}
use Rattle.octets.proofs.TestLaws.{and_left, all-step, agree}
use Rattle.octets.proofs.ListLaws.{padded-at}
use Rattle.sizes.specs.Ciphers.{by_cipher}

-- two octets as one number, the high one first
module _ (k : List ℕ) (n : ℕ) (is : n ≡ get_or k 0 0 * 256 + get_or k 1 0) (octet : get_or k 1 0 < 256) where
  pub scramble-none : n ≤ 0 → ltb 0 n ≡ scramble_key k
  unfolding scramble_key
  scramble-none h =
      let high : get_or k 0 0 ≡ 0 = omega arith in
      let low : get_or k 1 0 ≡ 0 = omega arith in
      rw (le-ltb 0 n h, high, low)

  pub scramble-some : 0 < n → ltb n 32768 ≡ scramble_key k
  unfolding scramble_key
  scramble-some h = go (dec_lt (get_or k 0 0) 128) (ℕ_discrete (get_or k 0 0) 0)
    where
      go : Dec (get_or k 0 0 < 128) → Dec (get_or k 0 0 ≡ 0) → ltb n 32768 ≡ (ltb (get_or k 0 0) 128 && not (eqb (get_or k 0 0) 0 && eqb (get_or k 1 0) 0))
      go (no t) e = rw (le-ltb n 32768 (omega arith), le-ltb (get_or k 0 0) 128 (omega arith))
      go (yes t) (no e) = rw (lt-ltb n 32768 (omega arith), lt-ltb (get_or k 0 0) 128 t, ne_eqb (get_or k 0 0) 0 e)
      go (yes t) (yes e) = rw (lt-ltb n 32768 (omega arith), lt-ltb (get_or k 0 0) 128 t, eq-eqb (get_or k 0 0) 0 e, ne_eqb (get_or k 1 0) 0 (λ z. omega arith))

-- tests that agree below n
alike : (f g : ℕ → Bool) (n : ℕ) → ((i : ℕ) → i < n → f i ≡ g i) → all_below f n ≡ all_below g n
unfolding all_below
alike f g zero e = refl
alike f g (suc n) e = rw (alike f g n (λ i h. e i (omega arith)), e n (omega arith))

-- each octet of a list has odd parity
abbrev pub all_odd : List ℕ → Bool
all_odd xs = all_below (λ i. odd_octet (get_or xs i 0)) (length xs)

-- and the next
pub odd_more : (xs : List ℕ) (x : ℕ) (odd more : Bool) → odd ≡ all_odd xs → more ≡ (odd && odd_octet x) → more ≡ all_odd (xs ++ x ∷ [])
odd_more xs x odd more e f =
    let size : length (xs ++ x ∷ []) ≡ length xs + 1 = length-append xs (x ∷ []) in
    rw (size, all-step)
    (f ∙ ap₂ ◌&&◌ (e ∙ alike _ _ (length xs) (λ i h. ap odd_octet (sym (get_or-append xs (x ∷ []) 0 i h)))) (ap odd_octet (sym (get_or-append_seam xs x [] 0))))

pub first_odd : (k : List ℕ) → 8 ≤ length k → all_odd (take 8 k) ≡ des_key k
unfolding des_key
first_odd k h =
    rw (length-take-le 8 k h) (alike (λ i. odd_octet (get_or (take 8 k) i 0)) (λ i. odd_octet (get_or k i 0)) 8 (λ i l. ap odd_octet (get_or-take 8 k i 0 l)))

-- the bits above a place, folded onto those below it
abbrev fold_at : ℕ → ℕ → ℕ
fold_at n x = bit_xor x (x / n)

-- an octet folded to one bit, by a test of each octet
pub odd_folded : (x : ℕ) → x < 256
    → eqb (fold_at 2 (fold_at 4 (fold_at 16 x)) % 2) 1 ≡ odd_octet x
unfolding odd_octet all_below
odd_folded x h =
    ap (λ (n : ℕ). eqb n 1)
    (agree (λ x. fold_at 2 (fold_at 4 (fold_at 16 x)) % 2) (λ x. ones x % 2) 256 refl x h)

-- zeros after a key change no rule of it
pub padded_allowed : (xs : List ℕ) (n c : ℕ) → key_allowed c (xs ++ replicate n 0) ≡ key_allowed c xs
unfolding key_allowed scramble_key des_key
padded_allowed xs n c =
    ap (λ (f : ℕ → ℕ). by_cipher c (ltb (f 0) 128 && not (eqb (f 0) 0 && eqb (f 1) 0)) (all_below (λ i. odd_octet (f i)) 8) true false)
    (fun_ext (padded-at xs n))

pub zeros-past : (key : List ℕ) (room n : ℕ) → length key ≡ room → all_zero (take (room - n) (drop n key)) ≡ all_zero (drop n key)
zeros-past key room n e = ap (λ (m : ℕ). all_zero (take (m - n) (drop n key))) (sym e) ∙ ap all_zero (part_to_end key n)

-- only a cipher has a key that is right
pub key_ranged : (c : ℕ) (k : List ℕ) → key_right c k ≡ true → (1 ≤ c) × (c ≤ 3)
unfolding key_right key_allowed
key_ranged c k e = go (eqb c 1) refl (eqb c 2) refl (eqb c 3) refl (and_left (key_allowed c k) _ e)
  where
    go : (x : Bool) → eqb c 1 ≡ x → (y : Bool) → eqb c 2 ≡ y → (z : Bool) → eqb c 3 ≡ z
        → pick x (scramble_key k) (pick y (des_key k) (pick z true false)) ≡ true → (1 ≤ c) × (c ≤ 3)
    go true e y f z g h = let q = eqb-true c 1 e in omega arith
    go false e true f z g h = let q = eqb-true c 2 f in omega arith
    go false e false f true g h = let q = eqb-true c 3 g in omega arith
    go false e false f false g h = absurd (true≢false (sym h))
