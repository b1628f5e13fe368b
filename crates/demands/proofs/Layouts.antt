-- The paper's numbers of a rate are those that follow from its width.
use mathlib.Core.Path.{◌≡◌, refl}
use mathlib.Core.Bool.{Bool, true, false}
use Prim.Native.Nat.{ℕ, zero, suc, ◌*◌, ◌≤◌, ◌<◌}
use native.Mathlib.Omega.{arith}
use lib.Dec.{eqb}
use Rattle.octets.specs.Tests.{pick}
use Rattle.sizes.specs.Frame.{is_rate, width, word_octets, word_bits, frame_octets, slot_bits}
use Rattle.calls.specs.Call.{sending_end, receiving_end, by_default, terms_right}
use Rattle.demands.specs.Rates.{Layout, half, full, layout}

abbrev pub layout_by : ℕ → Layout
layout_by w = record { speech = w; octets = word_octets w; bits = word_bits w; frame = frame_octets w; slot = slot_bits w }

pub layout_is : (rate : ℕ) → layout rate ≡ layout_by (width rate)
layout_is rate = go (eqb rate 1)
  where
    go : (t : Bool) → pick t full half ≡ layout_by (pick t 72 49)
    go true = refl
    go false = refl

-- what holds of both holds at each rate
pub by_layout : (P : Layout → Type 0) → P half → P full → (rate : ℕ) → P (layout rate)
by_layout P h f rate = go (eqb rate 1)
  where
    go : (t : Bool) → P (pick t full half)
    go true = f
    go false = h

pub rate_is : (rate : ℕ) → rate ≤ 1 → is_rate rate ≡ true
unfolding is_rate
rate_is zero l = refl
rate_is (suc zero) l = refl
rate_is (suc (suc n)) l = absurd (omega arith)

-- what an opening may name besides cipher and key
pub ways_right : (rate strictness : ℕ) → rate ≤ 1 → strictness ≤ 1 → terms_right receiving_end rate strictness ≡ true
unfolding terms_right
ways_right rate zero l m = rw (rate_is rate l)
ways_right rate (suc zero) l m = rw (rate_is rate l)
ways_right rate (suc (suc n)) l m = absurd (omega arith)

pub sender-right : (rate : ℕ) → rate ≤ 1 → terms_right sending_end rate by_default ≡ true
unfolding terms_right
sender-right rate l = rw (rate_is rate l)

-- a slot has the speech of four words, and at least half rate's
pub layout-slot : (rate : ℕ) → (layout rate).slot ≡ (layout rate).speech * 4
layout-slot = by_layout (λ l. l.slot ≡ l.speech * 4) refl refl

pub layout_some : (rate : ℕ) → 0 < (layout rate).speech
layout_some = by_layout (λ l. 0 < l.speech) (omega arith) (omega arith)

pub layout_speech : (rate : ℕ) → 49 ≤ (layout rate).speech
layout_speech = by_layout (λ l. 49 ≤ l.speech) (omega arith) (omega arith)

pub layout_least : (rate : ℕ) → 196 ≤ (layout rate).slot
layout_least = by_layout (λ l. 196 ≤ l.slot) (omega arith) (omega arith)
