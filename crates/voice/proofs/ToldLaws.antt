-- What the Result of a slot says of its outcome, as the code meets it, and what a caller learns from it.
use mathlib.Core.Path.{◌≡◌, refl, ap}
use mathlib.Core.Bool.{Bool, true, false, true≢false}
use mathlib.Core.List.{List}
use Rattle.std.specs.Prelude.{Ok, Err}
use Prim.Native.Nat.{ℕ, ◌<◌}
use native.Mathlib.Omega.{arith}
use lib.Dec.{leb, eqb}
use borrow.Author.Tests.{le-leb, lt-leb, leb-true, leb-false}
use Rattle.octets.specs.Tests.{pick}
use Rattle.answers.specs.declared.Answer.{Answer}
use Rattle.answers.specs.Numbers.{number_of}
use Rattle.answers.proofs.OutcomeLaws.{Refusal}
use Rattle.calls.specs.declared.call.Call.{Call}
use Rattle.voice.specs.declared.slot.Slot.{Slot}
use Rattle.voice.specs.Told.{held_of, slot_of}

module _ (a : Answer) where
  -- held or not, it is 0 or 1
  pub held_told : {h : Bool} → held_of a ≡ Ok h → (number_of a < 2) × (h ≡ eqb (number_of a) 1)
  held_told {h} = go (leb (number_of a) 1) refl
    where
      go : (t : Bool) → leb (number_of a) 1 ≡ t → pick t (Ok (eqb (number_of a) 1)) (Err a) ≡ Ok h → (number_of a < 2) × (h ≡ eqb (number_of a) 1)
      go true l p = let e : h ≡ eqb (number_of a) 1 = cc in (omega (arith, leb-true (number_of a) 1 l), e)
      go false l p = let z : true ≡ false = cc in absurd (true≢false z)

  pub held_refused : {b : Answer} → held_of a ≡ Err b → Refusal a × (b ≡ a)
  held_refused {b} = go (leb (number_of a) 1) refl
    where
      go : (t : Bool) → leb (number_of a) 1 ≡ t → pick t (Ok (eqb (number_of a) 1)) (Err a) ≡ Err b → Refusal a × (b ≡ a)
      go true l p = let z : true ≡ false = cc in absurd (true≢false z)
      go false l p = let e : b ≡ a = cc in (omega (arith, leb-false (number_of a) 1 l), e)

module _ (o : Answer × (Call × List ℕ)) where
  -- ---- what the code returns

  pub slot_is : {h : Bool} {d : Call} → number_of o.0 < 2 → h ≡ eqb (number_of o.0) 1 → d ≡ o.1.0 → Ok (record { held = h; call = d }) ≡ (slot_of o).0
  slot_is l p q = rw (p, q, le-leb (number_of o.0) 1 (omega arith)) refl

  pub refused_as : {a : Answer} → held_of o.0 ≡ Err a → Err a ≡ (slot_of o).0
  refused_as p = let n = held_refused o.0 p in rw (n.1, lt-leb (number_of o.0) 1 (omega (arith, n.0))) refl

  -- ---- what it learns

  abbrev its-slot : Slot
  its-slot = record { held = eqb (number_of o.0) 1; call = o.1.0 }

  -- a slot is answered 0, or held and 1, and has the call after it
  pub slot_told : {s : Slot} → (slot_of o).0 ≡ Ok s → (number_of o.0 < 2) × (s.held ≡ eqb (number_of o.0) 1) × (s.call ≡ o.1.0)
  slot_told {s} = go (leb (number_of o.0) 1) refl
    where
      go : (t : Bool) → leb (number_of o.0) 1 ≡ t → pick t (Ok its-slot) (Err o.0) ≡ Ok s → (number_of o.0 < 2) × (s.held ≡ eqb (number_of o.0) 1) × (s.call ≡ o.1.0)
      go true l p =
          let e : s ≡ its-slot = cc in (omega (arith, leb-true (number_of o.0) 1 l), ap (λ (x : Slot). x.held) e, ap (λ (x : Slot). x.call) e)
      go false l p = let z : true ≡ false = cc in absurd (true≢false z)

  -- and all else refuses it
  pub slot_refused_by : {a : Answer} → (slot_of o).0 ≡ Err a → Refusal o.0 × (o.0 ≡ a)
  slot_refused_by {a} = go (leb (number_of o.0) 1) refl
    where
      go : (t : Bool) → leb (number_of o.0) 1 ≡ t → pick t (Ok its-slot) (Err o.0) ≡ Err a → Refusal o.0 × (o.0 ≡ a)
      go true l p = let z : true ≡ false = cc in absurd (true≢false z)
      go false l p = let e : o.0 ≡ a = cc in (omega (arith, leb-false (number_of o.0) 1 l), e)

  pub slot_refuses : {a : Answer} → (slot_of o).0 ≡ Err a → Refusal o.0
  slot_refuses p = (slot_refused_by p).0
