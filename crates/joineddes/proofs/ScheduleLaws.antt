-- The keys of the rounds in numbers, two to a round: each box's six bits in the top of an octet.
use mathlib.Core.Path.{◌≡◌, refl, sym, ap, ap₂, ◌∙◌}
use mathlib.Core.Bool.{Bool, true, false}
use mathlib.Core.List.{List}
use Prim.Native.Nat.{ℕ, zero, suc, ◌+◌, ◌-◌, ◌*◌, ◌/◌, ◌%◌, ◌^◌, ◌≤◌, ◌<◌}
use native.Mathlib.Nat.{add-zero}
use native.Mathlib.Decide.{dec_lt}
use native.Mathlib.Omega.{arith}
use borrow.Author.Count.{below_none, below_more}
use borrow.Author.Tests.{eqb-true, eqb-false}
use lib.Dec.{eqb}
use lib.ListN.{length, get_or, set, length-set}
use lib.Seq.{get_or-set_same, get_or-set_other, ext_get_or}
use Rattle.octets.specs.Bits.{bit}
use Rattle.octets.specs.Lists.{tab}
use Rattle.octets.specs.Tests.{pick}
use Rattle.octets.proofs.ListLaws.{length-tab, get_or-tab}
use Rattle.octets.proofs.Numbers.{pushed, pushed_new, pushed_old}
use Rattle.des.specs.Des.{round_key}
use Rattle.joineddes.specs.Joined.{box_bits, keys_in, Scheduled}
use Rattle.des.proofs.BitLists.{BitList}

-- ---- the key of a round

-- four times the number of six bits has them from the top of an octet on
pub six_bit : (l : List ℕ) (o : ℕ) → BitList l → (q : ℕ) → q < 6
    → 4 * (32 * get_or l o 0 + 16 * get_or l (o + 1) 0 + 8 * get_or l (o + 2) 0 + 4 * get_or l (o + 3) 0 + 2 * get_or l (o + 4) 0 + get_or l (o + 5) 0) / 2 ^ (7 - q) % 2
    ≡ get_or l (o + q) 0
six_bit l o b zero h = rw (add-zero o) (omega (arith, b o, b (o + 1), b (o + 2), b (o + 3), b (o + 4), b (o + 5)))
six_bit l o b (suc zero) h = omega (arith, b o, b (o + 1), b (o + 2), b (o + 3), b (o + 4), b (o + 5))
six_bit l o b (suc (suc zero)) h = omega (arith, b o, b (o + 1), b (o + 2), b (o + 3), b (o + 4), b (o + 5))
six_bit l o b (suc (suc (suc zero))) h = omega (arith, b o, b (o + 1), b (o + 2), b (o + 3), b (o + 4), b (o + 5))
six_bit l o b (suc (suc (suc (suc zero)))) h = omega (arith, b o, b (o + 1), b (o + 2), b (o + 3), b (o + 4), b (o + 5))
six_bit l o b (suc (suc (suc (suc (suc zero))))) h = omega (arith, b o, b (o + 1), b (o + 2), b (o + 3), b (o + 4), b (o + 5))
six_bit l o b (suc (suc (suc (suc (suc (suc q)))))) h = absurd (omega arith)

-- r has, in its n low octets, the bits of n boxes: each second one, from the first on
unfoldable pub HasBoxes : List ℕ → ℕ → ℕ → ℕ → Type 0
HasBoxes bits first n r = (i q : ℕ) → i < n → q < 6 → r / 2 ^ (8 * n - 1 - (8 * i + q)) % 2 ≡ get_or bits (6 * (2 * i + first) + q) 0

module _ (bits : List ℕ) (first : ℕ) where
  pub boxes_start : HasBoxes bits first 0 0
  unfolding HasBoxes
  boxes_start i q h = absurd (omega arith)

  -- one box more
  pub boxes_more : (n r x : ℕ) → n < 4 → x < 256 → ((q : ℕ) → q < 6 → x / 2 ^ (7 - q) % 2 ≡ get_or bits (6 * (2 * n + first) + q) 0)
      → HasBoxes bits first n r → HasBoxes bits first (n + 1) (pushed r x 24 8)
  unfolding HasBoxes
  boxes_more n r x l small six h i q a b = go (dec_lt i n)
    where
      go : Dec (i < n) → pushed r x 24 8 / 2 ^ (8 * (n + 1) - 1 - (8 * i + q)) % 2 ≡ get_or bits (6 * (2 * i + first) + q) 0
      go (yes c) =
          let e : 8 * (n + 1) - 1 - (8 * i + q) ≡ 8 + (8 * n - 1 - (8 * i + q)) = omega arith in
          rw e (pushed_old r x 24 8 small (8 * n - 1 - (8 * i + q)) (omega arith) ∙ h i q c b)
      go (no c) =
          let e : 8 * (n + 1) - 1 - (8 * i + q) ≡ 7 - q = omega arith in
          let last : i ≡ n = omega arith in
          rw (e, last) (pushed_new r x 24 8 small (7 - q) (omega arith) ∙ six q b)

-- two numbers that have a list's boxes, each second one, have the list
pub box_bits-is : (even odd : ℕ) (l : List ℕ) → length l ≡ 48 → HasBoxes l 0 4 even → HasBoxes l 1 4 odd → box_bits even odd ≡ l
unfolding box_bits HasBoxes
box_bits-is even odd l long he ho =
    ext_get_or 0 (box_bits even odd) l (length-tab at 48 ∙ sym long)
    (λ k b. let inside : k < 48 = omega (arith, length-tab at 48) in get_or-tab at 48 k inside ∙ go k inside (eqb (k / 6 % 2) 0) refl)
  where
    at : ℕ → ℕ
    at k = pick (eqb (k / 6 % 2) 0) even odd / 2 ^ (31 - (8 * (k / 12) + k % 6)) % 2

    go : (k : ℕ) → k < 48 → (t : Bool) → eqb (k / 6 % 2) 0 ≡ t → pick t even odd / 2 ^ (31 - (8 * (k / 12) + k % 6)) % 2 ≡ get_or l k 0
    go k h true e = he (k / 12) (k % 6) (omega arith) (omega arith) ∙ ap (λ (z : ℕ). get_or l z 0) (omega (arith, eqb-true (k / 6 % 2) 0 e))
    go k h false e = ho (k / 12) (k % 6) (omega arith) (omega arith) ∙ ap (λ (z : ℕ). get_or l z 0) (omega (arith, eqb-false (k / 6 % 2) 0 e))

-- ---- the keys of the rounds

-- numbers that hold the keys of the first n rounds
pub record FirstKeys (keys : ℕ → List ℕ) (n : ℕ) (words : List ℕ) : Type 0 where
  pub long : length words ≡ 32
  pub held : (j : ℕ) → j < n → keys_in words j ≡ keys j

module _ (keys : ℕ → List ℕ) where
  pub keys_start : (words : List ℕ) → length words ≡ 32 → FirstKeys keys 0 words
  keys_start words long = record { long = long; held = below_none (λ (j : ℕ). keys_in words j ≡ keys j) }

  pub keys_more : (n : ℕ) (words : List ℕ) (even odd : ℕ) → n < 16 → box_bits even odd ≡ keys n → FirstKeys keys n words
      → FirstKeys keys (n + 1) (set (set words (2 * n) even) (2 * n + 1) odd)
  keys_more n words even odd h e f =
      record {
        long = length-set once (2 * n + 1) odd ∙ once-long;
        held = below_more (λ (j : ℕ). keys_in (set once (2 * n + 1) odd) j ≡ keys j) n
            (λ j b. ap₂ box_bits (other (2 * j) (omega arith)) (other (2 * j + 1) (omega arith)) ∙ f.held j b)
            (ap₂ box_bits
            (get_or-set_other once (2 * n + 1) (2 * n) odd 0 (λ q. omega arith) ∙ get_or-set_same words (2 * n) even 0 (omega (arith, f.long)))
            (get_or-set_same once (2 * n + 1) odd 0 (omega (arith, once-long)))
            ∙ e);
      }
    where
      once : List ℕ
      once = set words (2 * n) even

      once-long : length once ≡ 32
      once-long = length-set words (2 * n) even ∙ f.long

      other : (k : ℕ) → k < 2 * n → get_or (set once (2 * n + 1) odd) k 0 ≡ get_or words k 0
      other k b = get_or-set_other once (2 * n + 1) k odd 0 (λ q. omega arith) ∙ get_or-set_other words (2 * n) k even 0 (λ q. omega arith)

pub keys_done : (key words : List ℕ) (n : ℕ) → 16 ≤ n → FirstKeys (round_key (tab (bit key) 64)) n words → Scheduled key words
keys_done key words n h f = record { long = f.long; keys = λ j b. f.held j (omega arith) }
