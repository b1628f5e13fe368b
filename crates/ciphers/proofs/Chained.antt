-- Output feedback, a block at a time: the octets of a session, copied from the blocks that they stand in. Over any form in which a block is carried to the next
-- one, and over the octets of a block.
use mathlib.Core.Path.{◌≡◌, sym, ap, subst, ◌∙◌}
use mathlib.Core.List.{List}
use mathlib.Core.Logic.{◌⊎◌, inl, inr}
use Prim.Native.Nat.{ℕ, ◌+◌, ◌-◌, ◌*◌, ◌/◌, ◌%◌, ◌≤◌, ◌<◌, min}
use native.Mathlib.Nat.{add-zero, add_assoc}
use native.Mathlib.Omega.{arith}
use borrow.Rule.Slice.PartMut.{put_mid}
use lib.ListN.{length, get_or, take, drop, length-drop}
use lib.Seq.{get_or-take, get_or-drop, length-take-le}
use Rattle.octets.specs.Bits.{bit, octets_from, Octets}
use Rattle.octets.proofs.BitLaws.{bit_lt, bit_at, octet_of_lem, get_or-octets_from, length-octets_from}
use Rattle.octets.proofs.Front.{Front, front_start, front_part, front_done}

-- ---- the octets of a block

-- a block has 8 octets, DES's, or 16, AES's
abbrev pub Wide : ℕ → Type 0
Wide n = (n ≡ 8) ⊎ (n ≡ 16)

pub wide_bounds : (n : ℕ) → Wide n → (8 ≤ n) × (n ≤ 16)
wide_bounds n (inl e) = (omega arith, omega arith)
wide_bounds n (inr e) = (omega arith, omega arith)

-- octet m of blocks stands at place m mod w of its block
pub place_lt : (w m : ℕ) → Wide w → m % w < w
place_lt w m (inl e) = rw e (omega arith)
place_lt w m (inr e) = rw e (omega arith)

-- r octets on, in the block
same_block : (w m r : ℕ) → Wide w → m % w + r < w → ((m + r) / w ≡ m / w) × ((m + r) % w ≡ m % w + r)
same_block w m r (inl e) h = (rw e (omega (arith, rw e at h)), rw e (omega (arith, rw e at h)))
same_block w m r (inr e) h = (rw e (omega (arith, rw e at h)), rw e (omega (arith, rw e at h)))

-- and at its end
next-block : (w m r : ℕ) → Wide w → m % w + r ≡ w → ((m + r) / w ≡ m / w + 1) × ((m + r) % w ≡ 0)
next-block w m r (inl e) h = (rw e (omega (arith, rw e at h)), rw e (omega (arith, rw e at h)))
next-block w m r (inr e) h = (rw e (omega (arith, rw e at h)), rw e (omega (arith, rw e at h)))

-- bit 8 m + k of the blocks is bit k of octet m
bits-placed : (w m k : ℕ) → Wide w → k < 8 → ((8 * m + k) / (8 * w) ≡ m / w) × ((8 * m + k) % (8 * w) ≡ 8 * (m % w) + k)
bits-placed w m k (inl e) h = (rw e (omega arith), rw e (omega arith))
bits-placed w m k (inr e) h = (rw e (omega arith), rw e (omega arith))

-- the lesser count, by the length that the lent octets had
pub least_by : {n m k : ℕ} (w at i : ℕ) → n ≡ min (w - at) (m - i) → m ≡ k → n ≡ min (w - at) (k - i)
least_by w at i e l = rw l at e

-- n octets of m are lent from i on
pub lent_count : (m i n : ℕ) → i + n ≤ m → (d : List ℕ) → length d ≡ m → length (take (i + n - i) (drop i d)) ≡ n
lent_count m i n h d l =
    let e : i + n - i ≡ n = omega arith in
    rw e (length-take-le n (drop i d) (omega (arith, length-drop i d)))

-- ---- the octets of a session

-- x is carried for block n, where `For n x`
module _ {A : Type 0} (For : ℕ → A → Type 0) (block : ℕ → List ℕ) (w : ℕ) where
  -- used block j, counted from 0
  abbrev used : ℕ → List ℕ
  used j = block (j + 2)

  -- bit n of the used blocks
  abbrev pub used_bit : ℕ → ℕ
  used_bit n = bit (used (n / (8 * w))) (n % (8 * w))

  module _ (from : ℕ) (o : List ℕ) where
    abbrev pub session : List ℕ
    session = octets_from (length o) (λ k. used_bit (8 * from + k))

    length-session : length session ≡ length o
    length-session = length-octets_from (length o) (λ k. used_bit (8 * from + k))

    -- d has the first i octets; the next one is octet `at` of the block after x
    pub record Fed (d : List ℕ) (x : A) (at i : ℕ) : Type 0 where
      pub next : i < length o → For ((from + i) / w + 1) x
      pub place : i < length o → at ≡ (from + i) % w
      pub front : Front session o d i

    pub fed_start : (x : A) → For (from / w + 1) x → Fed o x (from % w) 0
    fed_start x e =
        record {
          next = λ h. rw (add-zero from) e;
          place = λ h. rw (add-zero from);
          front = front_start session o (sym length-session);
        }

    pub fed-all : (d : List ℕ) (x : A) (at i : ℕ) → Fed d x at i → length o ≤ i → d ≡ session
    fed-all d x at i f h = front_done session o d i f.front (omega (arith, length-session))

    module _ (wd : Wide w) where
      -- octet i of them stands in its block
      stands : (i p : ℕ) → i < length o → p ≡ (from + i) % w → (b : List ℕ) → Octets b → b ≡ used ((from + i) / w) → get_or b p 0 ≡ get_or session i 0
      stands i p l e b octets is_b =
          octet_of_lem (get_or b p 0) (λ k. used_bit (8 * from + (8 * i + k))) (octets p)
          (λ k. bit_lt (used ((8 * from + (8 * i + k)) / (8 * w))) ((8 * from + (8 * i + k)) % (8 * w)))
          (λ k h.
          let s : 8 * from + (8 * i + k) ≡ 8 * (from + i) + k = omega arith in
          let q = bits-placed w (from + i) k wd h in
          sym (bit_at b p k h) ∙ rw (s, q.0, q.1, ← e) (ap (λ (x : List ℕ). bit x (8 * p + k)) is_b))
          ∙ sym (get_or-octets_from (length o) (λ k. used_bit (8 * from + k)) i l)

      -- a turn of the loop: the rest of a block, or of the octets
      pub fed_more : (d : List ℕ) (x : A) (at i : ℕ) → Fed d x at i → i < length o
          → (y : A) (b part : List ℕ) (n : ℕ) → ((m : ℕ) → For m x → For (m + 1) y) → length b ≡ w → Octets b → ((m : ℕ) → For m y → b ≡ block m)
          → n ≡ min (w - at) (length o - i) → (m : ℕ) → m ≡ n → part ≡ take m (drop at b) → Fed (put_mid i (i + n - i) d part) y 0 (i + n)
      fed_more d x at i f l y b part n e long octets is_b size m count as_taken =
          let p : at ≡ (from + i) % w = f.place l in
          let inside : at < w = rw p (place_lt w (from + i) wd) in
          let on = e ((from + i) / w + 1) (f.next l) in
          let is_part_lem : part ≡ take n (drop at b) = rw count at as_taken in
          let fits : at + n ≤ w = omega arith in
          let after : i + n < length o → ((from + i + n) / w ≡ (from + i) / w + 1) × ((from + i + n) % w ≡ 0) =
          λ h. next-block w (from + i) n wd (rw (← p) (omega arith)) in
          record {
            next = λ h. subst (λ (k : ℕ). For k y) (sym (rw (← add_assoc from i n, (after h).0))) on;
            place = λ h. rw (← add_assoc from i n, (after h).1);
            front =
                front_part session o d part i (i + n - i) n f.front (omega arith) (ap length is_part_lem ∙ length-take-le n (drop at b) (omega (arith, length-drop at b)))
                (omega (arith, length-session))
                (λ r h.
                let q = same_block w (from + i) r wd (rw (← p) (omega arith)) in
                let two : (from + i) / w + 1 + 1 ≡ (from + i) / w + 2 = add_assoc ((from + i) / w) 1 1 in
                ap (λ (x : List ℕ). get_or x r 0) is_part_lem ∙ get_or-take n (drop at b) r 0 h ∙ get_or-drop at b r 0
                ∙ stands (i + r) (at + r) (omega arith) (rw (← add_assoc from i r, q.1, p)) b octets
                (rw (← add_assoc from i r, q.0) (is_b ((from + i) / w + 2) (subst (λ (k : ℕ). For k y) two on))));
          }
