-- A stream's bits in the top of a number, and a part turned by them.
use mathlib.Core.Path.{◌≡◌, sym, ap, ◌∙◌}
use mathlib.Core.List.{List, ◌++◌}
use Prim.Native.Nat.{ℕ, suc, ◌+◌, ◌-◌, ◌*◌, ◌/◌, ◌%◌, ◌^◌, ◌≤◌, ◌<◌, min}
use native.Mathlib.Nat.{mul_assoc, pow-suc, mul-mod_left}
use native.Mathlib.Decide.{dec_lt}
use native.Mathlib.Omega.{arith}
use lib.ListN.{length, take, drop, length-drop, get_or-append}
use lib.Seq.{length-take-le}
use lib.Pow.{pow-add, shl-shr, shr-shr}
use Rattle.octets.specs.Bits.{bit, octets_from, Octets}
use borrow.Rule.Slice.PartMut.{put_mid}
use Rattle.octets.specs.Turn.{within, turned}
use Rattle.octets.proofs.BitLaws.{bit-low, bit-octets_from}
use Rattle.octets.proofs.Front.{Front, front_ahead, front_piece, front_rest}
use Rattle.octets.proofs.Turning.{within_in, within-out, length-turned, turned_alike, turned-past}
use Rattle.octets.proofs.Parts.{part_bit, turned_part}

-- ---- the top of a number

pub top_kept : (x n k : ℕ) → k < n → n ≤ 64 → x / 2 ^ (64 - n) * 2 ^ (64 - n) / 2 ^ (63 - k) % 2 ≡ x / 2 ^ (63 - k) % 2
top_kept x n k h l =
    let e : 63 - k ≡ (64 - n) + (n - 1 - k) = omega arith in
    let m : ℕ = 64 - n in
    let d : ℕ = n - 1 - k in
    rw e (ap (λ (z : ℕ). z % 2) (sym (shr-shr (x / 2 ^ m * 2 ^ m) m d) ∙ ap (λ (z : ℕ). z / 2 ^ d) (shl-shr (x / 2 ^ m) m) ∙ shr-shr x m d))

even : (y d t : ℕ) → y * 2 ^ (suc d + t) / 2 ^ t % 2 ≡ 0
even y d t =
    ap (λ (z : ℕ). y * z / 2 ^ t % 2) (pow-add 2 (suc d) t)
    ∙ ap (λ (z : ℕ). z / 2 ^ t % 2) (sym (mul_assoc y (2 ^ suc d) (2 ^ t)))
    ∙ ap (λ (z : ℕ). z % 2) (shl-shr (y * 2 ^ suc d) t)
    ∙ ap (λ (z : ℕ). y * z % 2) (pow-suc 2 d)
    ∙ ap (λ (z : ℕ). z % 2) (sym (mul_assoc y (2 ^ d) 2))
    ∙ mul-mod_left (y * 2 ^ d) 2

pub top_lost : (x n k : ℕ) → n ≤ k → k < 64 → x / 2 ^ (64 - n) * 2 ^ (64 - n) / 2 ^ (63 - k) % 2 ≡ 0
top_lost x n k h l =
    let e : 64 - n ≡ suc (k - n) + (63 - k) = omega arith in
    ap (λ (z : ℕ). x / 2 ^ (64 - n) * 2 ^ z / 2 ^ (63 - k) % 2) e ∙ even (x / 2 ^ (64 - n)) (k - n) (63 - k)

-- ---- a stream's bits there

-- the bits of a number's end, moved to its top
moved : (x s k : ℕ) → s + k < 64 → x * 2 ^ s % 2 ^ 64 / 2 ^ (63 - k) % 2 ≡ x / 2 ^ (63 - (s + k)) % 2
moved x s k h =
    let e : 63 - k ≡ s + (63 - (s + k)) = omega arith in
    bit-low (x * 2 ^ s) 64 (63 - k) (omega arith)
    ∙ ap (λ (z : ℕ). x * 2 ^ s / 2 ^ z % 2) e
    ∙ ap (λ (z : ℕ). z % 2) (sym (shr-shr (x * 2 ^ s) s (63 - (s + k))))
    ∙ ap (λ (z : ℕ). z / 2 ^ (63 - (s + k)) % 2) (shl-shr x s)

-- a stream xs of fewer octets than ys, which were copied over the first of them
module _ (xs p ys : List ℕ) (copied : p ≡ xs) where
  pub padded-bit : (k : ℕ) → k < 8 * length xs → bit (p ++ drop (length xs) ys) k ≡ bit xs k
  padded-bit k h =
      rw copied (ap (λ (x : ℕ). x / 2 ^ (7 - k % 8) % 2) (get_or-append xs (drop (length xs) ys) 0 (k / 8) (omega arith)))

-- the number of eight octets that stand in the stream from octet `start` on, moved up by s bits to begin at bit `from`
module _ (xs eight : List ℕ) (number start from s : ℕ) (is_at : 8 * start + s ≡ from)
    (has : (k : ℕ) → k < 64 → number / 2 ^ (63 - k) % 2 ≡ bit eight k)
    (stand : (k : ℕ) → k < 64 → 8 * start + k < 8 * length xs → bit eight k ≡ bit xs (8 * start + k)) where
  pub moved-bits : (k : ℕ) → s + k < 64 → from + k < 8 * length xs → number * 2 ^ s % 2 ^ 64 / 2 ^ (63 - k) % 2 ≡ bit xs (from + k)
  moved-bits k h l =
      let e : 8 * start + (s + k) ≡ from + k = omega arith in
      moved number s k h ∙ has (s + k) h ∙ stand (s + k) h (omega arith) ∙ ap (bit xs) e

-- ---- a part turned by the bits of a stream from bit `from` on, which reaches that far

module _ (w from : ℕ) (xs part : List ℕ) (reach : from + w ≤ 8 * length xs) where
  abbrev key : ℕ → ℕ
  key n = bit xs (from + n)

  abbrev goal : List ℕ
  goal = turned w key part

  -- every bit of it, by whole octets
  pub turned-whole : (p : List ℕ) (n : ℕ) → n ≡ length part → from % 8 ≡ 0 → length part ≤ w / 8 → p ≡ turned (8 * length part) (bit (take n (drop (from / 8) xs))) part → p ≡ goal
  turned-whole p n en h l e =
      e
      ∙ turned_alike (8 * length part) w (bit (take n (drop (from / 8) xs))) key part
      (λ k b.
      let at : 8 * (from / 8) + k ≡ from + k = omega arith in
      within_in (8 * length part) (bit (take n (drop (from / 8) xs))) k b
      ∙ part_bit (from / 8) n xs k (omega arith)
      ∙ ap (bit xs) at
      ∙ sym (within_in w key k (omega arith)))

  -- seven octets at a time, from octet `at` on: the number t has the bits that turn them, and zeros past the width
  module _ (at bits b t : ℕ) (inside : 8 * at < w) (is-bits : bits ≡ min (w - 8 * at) 56)
      (has : (k : ℕ) → k < 57 → 8 * (from / 8 + at) + from % 8 + k < 8 * length xs → b / 2 ^ (63 - k) % 2 ≡ bit xs (8 * (from / 8 + at) + from % 8 + k))
      (is-top : t ≡ b / 2 ^ (64 - bits) * 2 ^ (64 - bits)) where
    turns : (k : ℕ) → k < 56 → t / 2 ^ (63 - k) % 2 ≡ within w key (8 * at + k)
    turns k h = rw is-top (go (dec_lt k bits))
      where
        go : Dec (k < bits) → b / 2 ^ (64 - bits) * 2 ^ (64 - bits) / 2 ^ (63 - k) % 2 ≡ within w key (8 * at + k)
        go (yes l) =
            let e : 8 * (from / 8 + at) + from % 8 + k ≡ from + (8 * at + k) = omega arith in
            top_kept b bits k l (omega arith)
            ∙ has k (omega arith) (omega arith)
            ∙ ap (bit xs) e
            ∙ sym (within_in w key (8 * at + k) (omega arith))
        go (no l) = top_lost b bits k (omega arith) (omega arith) ∙ sym (within-out w key (8 * at + k) (omega arith))

    -- so do its first octets
    key-bits : (octets : List ℕ) → octets ≡ octets_from 8 (λ k. t / 2 ^ (63 - k) % 2) → (n k : ℕ) → n ≤ 7 → k < 8 * n → bit (take n octets) k ≡ within w key (8 * at + k)
    key-bits octets eo n k h l =
        let z : 8 * 0 + k ≡ k = omega arith in
        part_bit 0 n octets k l
        ∙ ap (bit octets) z
        ∙ ap (λ (o : List ℕ). bit o k) eo
        ∙ bit-octets_from 8 (λ k. t / 2 ^ (63 - k) % 2) (λ k. omega arith) k (omega arith)
        ∙ turns k (omega arith)

    pub turn_more : (d p octets : List ℕ) (n : ℕ) → Front goal part d at → n ≤ 7 → at + n ≤ length part → octets ≡ octets_from 8 (λ k. t / 2 ^ (63 - k) % 2)
        → p ≡ turned (8 * length (take (at + n - at) (drop at d))) (bit (take n octets)) (take (at + n - at) (drop at d)) → Front goal part (put_mid at (at + n - at) d p) (at + n)
    turn_more d p octets n f h fits eo ep =
        let m : at + n - at ≡ n = omega arith in
        rw m
        (front_piece goal part d p at n f (omega (arith, length-turned w key part))
        (rw (m, front_ahead goal part d at n f (sym (length-turned w key part))) at ep
        ∙ turned_part at n w key part fits (8 * length (take n (drop at part))) (bit (take n octets))
        (λ k l. within_in (8 * length (take n (drop at part))) (bit (take n octets)) k (omega (arith, long)) ∙ key-bits octets eo n k h l)))
      where
        long : length (take n (drop at part)) ≡ n
        long = length-take-le n (drop at part) (omega (arith, length-drop at part))

  -- a part of seven octets whose bits one number has
  pub turned_seven : (b t : ℕ) (p octets : List ℕ) → length part ≡ 7 → 0 < w → w ≤ 56
      → ((k : ℕ) → k < 57 → 8 * (from / 8) + from % 8 + k < 8 * length xs → b / 2 ^ (63 - k) % 2 ≡ bit xs (8 * (from / 8) + from % 8 + k))
      → t ≡ b / 2 ^ (64 - w) * 2 ^ (64 - w) → octets ≡ octets_from 8 (λ k. t / 2 ^ (63 - k) % 2) → p ≡ turned (8 * length part) (bit (take 7 octets)) part → p ≡ goal
  turned_seven b t p octets long some few has is-top eo e =
      e
      ∙ turned_alike (8 * length part) w (bit (take 7 octets)) key part
      (λ k l.
      let z : 8 * 0 + k ≡ k = omega arith in
      within_in (8 * length part) (bit (take 7 octets)) k l
      ∙ key-bits 0 w b t some (omega arith) (λ j h m. let q : from / 8 + 0 ≡ from / 8 = omega arith in rw q (has j h (omega arith))) is-top octets eo 7 k (omega arith) (omega arith)
      ∙ ap (within w key) z)

  pub turn_done : Octets part → (d : List ℕ) (at n : ℕ) → Front goal part d at → n ≡ min (length part) ((w + 7) / 8) → n ≤ at → d ≡ goal
  turn_done o d at n f e h =
      front_rest goal part d at f (λ j a b. let l : j < length part = omega (arith, length-turned w key part) in turned-past w key part o j l (omega arith))
