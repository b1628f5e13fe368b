-- The register in a number: what loading and shifting do to its stages.
use mathlib.Core.Path.{◌≡◌, sym, ap, ◌∙◌}
use mathlib.Core.List.{List}
use Prim.Native.Nat.{ℕ, zero, suc, ◌+◌, ◌-◌, ◌*◌, ◌/◌, ◌%◌, ◌^◌, ◌≤◌, ◌<◌}
use native.Mathlib.Nat.{zero-add, one-mul, mod-lt}
use native.Mathlib.Decide.{dec_lt}
use native.Mathlib.Omega.{arith}
use lib.Arith.{digits_lt}
use lib.Bits.{bit_xor}
use lib.Pow.{pow_pos, pow-add, shl_exact, shr-shr}
use Rattle.octets.specs.Lists.{iterate}
use Rattle.octets.specs.Bits.{bit, octets_from}
use Rattle.octets.proofs.ListLaws.{iterate_add}
use Rattle.octets.proofs.BitLaws.{xor_bit, bit-low, octets_from_same}
use Rattle.octets.proofs.Numbers.{pushed, kept, pushed_new, pushed_old}
use Rattle.generator.specs.Generator.{filled, announced, shifted, next_vector}
use Rattle.generator.specs.Held.{stages, Holds}
use Rattle.generator.proofs.VectorLaws.{moved}

-- ---- loading

-- the number of announced octets holds their register
pub filled-held : (octets : List ℕ) (r : ℕ) → ((k : ℕ) → k < 64 → r / 2 ^ (63 - k) % 2 ≡ bit octets k) → Holds r (filled octets)
unfolding Holds filled
filled-held octets r h i l =
    let e : 63 - (63 - i) ≡ i = omega arith in
    rw e at (h (63 - i) (omega arith))

-- ---- shifting

-- what k shifts feed, up to 15: their taps lie in the register as it stands
fed_stage : (b : ℕ → ℕ) (k i : ℕ) → k ≤ 15 → i < k
    → iterate shifted k b i ≡ (b (64 - k + i) + b (62 - k + i) + b (46 - k + i) + b (38 - k + i) + b (27 - k + i) + b (15 - k + i)) % 2
unfolding iterate shifted
fed_stage b k i few l =
    let e : suc (k - suc i) + i ≡ k = omega arith in
    (rw (e, zero-add i) at (moved b i (suc (k - suc i)) 0))
    ∙ rw (
      tap 63 (64 - k + i) (omega arith),
      tap 61 (62 - k + i) (omega arith),
      tap 45 (46 - k + i) (omega arith),
      tap 37 (38 - k + i) (omega arith),
      tap 26 (27 - k + i) (omega arith),
      tap 14 (15 - k + i) (omega arith),
    )
  where
    tap : (j m : ℕ) → m + (k - suc i) ≡ j → iterate shifted (k - suc i) b j ≡ b m
    tap j m e = rw (e, zero-add (k - suc i)) at (moved b (k - suc i) 0 m)

-- a stage of an exclusive or
stage_xor : (x y p i : ℕ) → stages x i ≡ p % 2 → stages (bit_xor x y) i ≡ (p + stages y i) % 2
stage_xor x y p i e = xor_bit x y i ∙ omega arith

stage_six : (a b c d e f i : ℕ)
    → stages (bit_xor (bit_xor (bit_xor (bit_xor (bit_xor a b) c) d) e) f) i ≡ (stages a i + stages b i + stages c i + stages d i + stages e i + stages f i) % 2
stage_six a b c d e f i =
    let ab = xor_bit a b i in
    let abc = stage_xor (bit_xor a b) c (stages a i + stages b i) i ab in
    let abcd = stage_xor (bit_xor (bit_xor a b) c) d (stages a i + stages b i + stages c i) i abc in
    let abcde = stage_xor (bit_xor (bit_xor (bit_xor a b) c) d) e (stages a i + stages b i + stages c i + stages d i) i abcd in
    stage_xor (bit_xor (bit_xor (bit_xor (bit_xor a b) c) d) e) f (stages a i + stages b i + stages c i + stages d i + stages e i) i abcde

module _ (r k : ℕ) (few : k ≤ 15) where
  -- the six stages that are fed back, each with those below it
  abbrev taps : ℕ
  taps =
      bit_xor (bit_xor (bit_xor (bit_xor (bit_xor (r / 2 ^ (64 - k)) (r / 2 ^ (62 - k))) (r / 2 ^ (46 - k))) (r / 2 ^ (38 - k))) (r / 2 ^ (27 - k)))
      (r / 2 ^ (15 - k))

  taps-stage : (i : ℕ) → i < k → stages taps i ≡ iterate shifted k (stages r) i
  taps-stage i l =
      stage_six (r / 2 ^ (64 - k)) (r / 2 ^ (62 - k)) (r / 2 ^ (46 - k)) (r / 2 ^ (38 - k)) (r / 2 ^ (27 - k)) (r / 2 ^ (15 - k)) i
      ∙ rw (shr-shr r (64 - k) i, shr-shr r (62 - k) i, shr-shr r (46 - k) i, shr-shr r (38 - k) i, shr-shr r (27 - k) i, shr-shr r (15 - k) i)
      (sym (fed_stage (stages r) k i few l))

  pub width_is : 1 * 2 ^ k % 2 ^ 64 ≡ 2 ^ k
  width_is = shl_exact {a = 1} 1 k 64 (omega arith) (omega arith) ∙ one-mul (2 ^ k)

  pub fed-held : ((i : ℕ) → i < k → stages (taps % (1 * 2 ^ k % 2 ^ 64)) i ≡ iterate shifted k (stages r) i) × (taps % (1 * 2 ^ k % 2 ^ 64) < 2 ^ k)
  fed-held = rw width_is ((λ i l. bit-low taps k i l ∙ taps-stage i l), mod-lt taps (pow_pos k))

module _ (r k fed : ℕ) (few : k ≤ 15) (small : fed < 2 ^ k) where
  abbrev next : ℕ
  next = r * 2 ^ k % 2 ^ 64 + fed

  next-is : next ≡ pushed r fed (64 - k) k
  next-is = let e : 64 - k + k ≡ 64 = omega arith in rw e

  pub shift_small : next < 2 ^ 64
  shift_small =
      let e : 64 - k + k ≡ 64 = omega arith in
      rw (next-is, kept r fed (64 - k) k small) (rw (sym (pow-add 2 (64 - k) k), e) at (digits_lt (mod-lt r (pow_pos (64 - k))) small))

  pub shift_held : ((i : ℕ) → i < k → stages fed i ≡ iterate shifted k (stages r) i) → Holds next (iterate shifted k (stages r))
  unfolding Holds iterate
  shift_held h i l = rw next-is (go (dec_lt i k))
    where
      go : Dec (i < k) → stages (pushed r fed (64 - k) k) i ≡ iterate shifted k (stages r) i
      go (yes a) = pushed_new r fed (64 - k) k small i a ∙ h i a
      go (no a) =
          let e : k + (i - k) ≡ i = omega arith in
          let f : i - k + k ≡ i = omega arith in
          ap (stages (pushed r fed (64 - k) k)) (sym e)
          ∙ pushed_old r fed (64 - k) k small (i - k) (omega arith)
          ∙ sym (rw (f, zero-add k) at (moved (stages r) k 0 (i - k)))

-- a shift sees only the 64 stages
shifted_agrees : (a b : ℕ → ℕ) → ((i : ℕ) → i < 64 → a i ≡ b i) → (i : ℕ) → i < 64 → shifted a i ≡ shifted b i
unfolding shifted
shifted_agrees a b h zero l = rw (h 63 (omega arith), h 61 (omega arith), h 45 (omega arith), h 37 (omega arith), h 26 (omega arith), h 14 (omega arith))
shifted_agrees a b h (suc i) l = h i (omega arith)

shifts_agree : (k : ℕ) (a b : ℕ → ℕ) → ((i : ℕ) → i < 64 → a i ≡ b i) → (i : ℕ) → i < 64 → iterate shifted k a i ≡ iterate shifted k b i
unfolding iterate
shifts_agree zero a b h = h
shifts_agree (suc k) a b h = shifted_agrees (iterate shifted k a) (iterate shifted k b) (shifts_agree k a b h)

module _ (b : ℕ → ℕ) where
  pub shift_start : (r : ℕ) → Holds r b → Holds r (iterate shifted 0 b)
  unfolding iterate
  shift_start r h = h

  pub shift_more : (n k m r next : ℕ) → k + n ≡ m → Holds r (iterate shifted n b) → Holds next (iterate shifted k (stages r))
      → Holds next (iterate shifted m b)
  unfolding Holds
  shift_more n k m r next e h more i l =
      more i l
      ∙ shifts_agree k (stages r) (iterate shifted n b) h i l
      ∙ ap (λ (c : ℕ → ℕ). c i) (iterate_add shifted k n b ∙ ap (λ (z : ℕ). iterate shifted z b) e)

-- the number's octets announce L(S)
pub shift_done : (s : List ℕ) (r : ℕ) → Holds r (iterate shifted 64 (filled s)) → octets_from 8 (λ k. stages r (63 - k)) ≡ next_vector s
unfolding Holds announced next_vector
shift_done s r h = octets_from_same 8 (λ k. stages r (63 - k)) (λ k. iterate shifted 64 (filled s) (63 - k)) (λ k. h (63 - k) (omega arith))
