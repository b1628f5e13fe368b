-- Bounds of the sizes that belong to the cipher types and the rates, and the vector that stands for none.
use mathlib.Core.Path.{◌≡◌, refl}
use mathlib.Core.Bool.{Bool, true, false, ◌||◌, false≢true}
use Prim.Native.Nat.{ℕ, ◌+◌, ◌*◌, ◌%◌, ◌≤◌, ◌<◌}
use native.Mathlib.Omega.{arith}
use lib.Dec.{eqb}
use borrow.Author.Tests.{eqb-true}
use Rattle.octets.specs.Tests.{pick, all_below}
use Rattle.octets.specs.Lists.{all_zero}
use Rattle.sizes.specs.Ciphers.{key_octets, key_room, session_slots, no_vector}
use Rattle.sizes.specs.Frame.{half_rate, full_rate, is_rate, width, frame_octets, slot_bits, slot_octets}
use Rattle.sizes.proofs.Cases.{by_each}

pub key-at-most : (c : ℕ) → key_octets c ≤ key_room
key-at-most c = by_each c (λ (n : ℕ). n ≤ key_room) 2 8 32 0 (omega arith) (omega arith) (omega arith) (omega arith)

pub slots-at-most : (c : ℕ) → session_slots c ≤ 8
slots-at-most c = by_each c (λ (n : ℕ). n ≤ 8) 4 8 8 0 (omega arith) (omega arith) (omega arith) (omega arith)

-- only a cipher has a slot
pub slot_ranged : (c p : ℕ) → p < session_slots c → (1 ≤ c) × (c ≤ 3)
slot_ranged c p = go (eqb c 1) refl (eqb c 2) refl (eqb c 3) refl
  where
    go : (x : Bool) → eqb c 1 ≡ x → (y : Bool) → eqb c 2 ≡ y → (z : Bool) → eqb c 3 ≡ z
        → p < pick x 4 (pick y 8 (pick z 8 0)) → (1 ≤ c) × (c ≤ 3)
    go true e y f z g h = let q = eqb-true c 1 e in omega arith
    go false e true f z g h = let q = eqb-true c 2 f in omega arith
    go false e false f true g h = let q = eqb-true c 3 g in omega arith
    go false e false f false g h = absurd (omega arith)

pub no_vector-zero : all_zero no_vector ≡ true
unfolding all_zero all_below
no_vector-zero = refl

-- ---- rates

-- what holds at both holds at each
pub by_rate : (P : ℕ → Type 0) → P half_rate → P full_rate → (rate : ℕ) → is_rate rate ≡ true → P rate
unfolding is_rate
by_rate P half full rate = go (eqb rate half_rate) refl (eqb rate full_rate) refl
  where
    go : (h : Bool) → eqb rate half_rate ≡ h → (f : Bool) → eqb rate full_rate ≡ f → (h || f) ≡ true → P rate
    go true e f d r = rw (eqb-true rate half_rate e) half
    go false e true d r = rw (eqb-true rate full_rate d) full
    go false e false d r = absurd (false≢true r)

-- and of each width
by_width : (P : ℕ → Type 0) → P (width half_rate) → P (width full_rate) → (rate : ℕ) → P (width rate)
by_width P half full rate = go (eqb rate full_rate)
  where
    go : (t : Bool) → P (pick t (width full_rate) (width half_rate))
    go true = full
    go false = half

pub width_some : (rate : ℕ) → 0 < width rate
width_some = by_width (λ w. 0 < w) (omega arith) (omega arith)

-- the octets of a slot hold its bits from the octet on in which they begin
pub slot_held : (rate p : ℕ) → slot_bits (width rate) * p % 8 + slot_bits (width rate) ≤ 8 * slot_octets (width rate)
slot_held rate p = by_width (λ w. slot_bits w * p % 8 + slot_bits w ≤ 8 * slot_octets w) (omega arith) (omega arith) rate

-- frames of different rates have different lengths
pub same_width : (r s : ℕ) → frame_octets (width r) ≡ frame_octets (width s) → width r ≡ width s
same_width r s =
    by_width (λ a. frame_octets a ≡ frame_octets (width s) → a ≡ width s)
    (by_width (λ b. frame_octets (width half_rate) ≡ frame_octets b → width half_rate ≡ b) (λ e. refl) (λ e. absurd (omega arith)) s)
    (by_width (λ b. frame_octets (width full_rate) ≡ frame_octets b → width full_rate ≡ b) (λ e. absurd (omega arith)) (λ e. refl) s) r

-- and so have two rates
pub same_rate : (r : ℕ) → is_rate r ≡ true → (s : ℕ) → is_rate s ≡ true → frame_octets (width r) ≡ frame_octets (width s) → r ≡ s
same_rate r rr s rs =
    by_rate (λ a. frame_octets (width a) ≡ frame_octets (width s) → a ≡ s)
    (by_rate (λ b. frame_octets (width half_rate) ≡ frame_octets (width b) → half_rate ≡ b) (λ e. refl) (λ e. absurd (omega arith)) s rs)
    (by_rate (λ b. frame_octets (width full_rate) ≡ frame_octets (width b) → full_rate ≡ b) (λ e. absurd (omega arith)) (λ e. refl) s rs) r rr
