-- A vector that is heard after all slots of a session is told as its own session starts: so the demands told when heard contain demand 3 and the default one.
use mathlib.Core.Path.{◌≡◌, refl, sym, ap, ◌∙◌}
use mathlib.Core.Bool.{Bool, true, false, or-true, or-false}
use mathlib.Core.List.{List, [], ◌∷◌, ◌++◌, append-nil}
use mathlib.Core.Logic.{inr}
use Prim.Native.Nat.{ℕ, zero, suc, ◌≤◌}
use native.Mathlib.Omega.{arith}
use lib.Dec.{eqb}
use lib.ListN.{length, drop, length-drop}
use Rattle.sizes.specs.Ciphers.{session_slots, scrambles, superframe_slots}
use Rattle.calls.specs.Call.{by_default, strict}
use Rattle.demands.specs.Talk.{Slot, Session, Talk, WayIn, opening, joining, Full, slot_counts, Kept, HasKey}
use Rattle.demands.specs.Notices.{Notice, hear, join, is_reached, slot_notice, slot_notices, first_notices, opening_notices, notices_of}
use Rattle.demands.specs.Log.{Receiver}
use Rattle.demands.specs.Demand3.{Meets3}
use Rattle.demands.specs.Demand3Default.{since_known, default_notices, heard_from, Meets3Announced}
use Rattle.demands.specs.ToldWhenHeard.{next_told, heard_after, known_in, later_notices, first_heard, opening_heard, heard_notices, LaterPlaces, AnyPlace, Meets3Heard, Meets3HeardDefault}
use Rattle.demands.proofs.Standing.{key_ranged, slots_some}
use Rattle.demands.proofs.Marking.{known_next, known_by, sessions_by, first_by, strict-first, default_first}
use Rattle.demands.proofs.ReceiverMeets.{full-drop}

-- heard after all slots, and then what follows
after-all : (n : ℕ) (told : List Notice) (reached : Bool) (xs : List Slot) (later ms : List Notice) → length xs ≤ n → told ++ later ≡ ms
    → heard_after n told (slot_notices reached xs) ++ later ≡ slot_notices reached xs ++ ms
after-all zero told reached [] later ms l e = ap (λ (ns : List Notice). ns ++ later) (append-nil told) ∙ e
after-all (suc n) told reached [] later ms l e = ap (λ (ns : List Notice). ns ++ later) (append-nil told) ∙ e
after-all zero told reached (x ∷ xs) later ms l e = absurd (omega arith)
after-all (suc n) told reached (x ∷ xs) later ms l e =
    ap (λ (ns : List Notice). slot_notice reached x.arrived x ∷ ns) (after-all n told reached xs later ms (omega arith) e)

-- each place is after all slots of a session
abbrev pub InTime : ℕ → (ℕ → ℕ) → Type 0
InTime c places = (n : ℕ) → session_slots c ≤ places n

module _ (m c : ℕ) where
  abbrev rides : Bool
  rides = eqb m by_default

  -- the first session that is heard, from slot p on, and those after it
  first-in-time : (known : Bool) (p : ℕ) (x : Session) (xs : List Session) → Full c (slot_counts (x ∷ xs)) → (places : ℕ → ℕ) → InTime c places
      → first_heard c rides known p places (x ∷ xs) ≡ first_by m c (is_reached c known) p (x ∷ xs)
  first-in-time known p x [] f places late =
      after-all (places 0) [] (is_reached c known) (drop p x.slots) [] [] (omega (arith, length-drop p x.slots, late 0)) refl
  first-in-time known p x (y ∷ ys) f places late =
      after-all (places 0) (next_told c (y ∷ ys)) (is_reached c known) (drop p x.slots) (later_notices c rides known (λ n. places (suc n)) (y ∷ ys))
      (sessions_by m c (known_next m c (is_reached c known)) (y ∷ ys)) (omega (arith, length-drop p x.slots, f.0, late 0))
      (ap (λ (ns : List Notice). next_told c (y ∷ ys) ++ ns)
      (first-in-time (known_in rides known y) 0 y ys f.1 (λ n. places (suc n)) (λ n. late (suc n))
      ∙ ap (λ (r : Bool). slot_notices r y.slots ++ sessions_by m c (known_next m c r) ys) (sym (known_by m c known y.announced))))

module _ (c : ℕ) (places : ℕ → ℕ) (late : InTime c places) where
  opened-in-time : (xs : List Session) → Full c (slot_counts xs)
      → (opening_heard c false places xs ≡ opening_notices c xs) × (opening_heard c true places xs ≡ since_known (scrambles c) (opening_notices c xs))
  opened-in-time [] f = (refl, refl)
  opened-in-time (x ∷ xs) f = (
    ap (λ (ns : List Notice). hear x.vector ∷ ns) (first-in-time strict c true 0 x xs f places late ∙ strict-first c true 0 (x ∷ xs)),
    ap (λ (ns : List Notice). hear x.vector ∷ ns)
        (first-in-time by_default c true 0 x xs f places late ∙ ap (λ (r : Bool). first_by by_default c r 0 (x ∷ xs)) (or-true (scrambles c))
        ∙ sym (default_first c true true (λ u. refl) 0 (x ∷ xs))),
  )

  joined-in-time : (xs : List Session) → Full c (slot_counts xs)
      → (first_heard c false false superframe_slots places xs ≡ first_notices c false superframe_slots xs)
      × (first_heard c true false superframe_slots places xs ≡ since_known (scrambles c) (first_notices c false superframe_slots xs))
  joined-in-time [] f = (refl, refl)
  joined-in-time (x ∷ xs) f = (
    first-in-time strict c false superframe_slots x xs f places late ∙ strict-first c false superframe_slots (x ∷ xs),
    first-in-time by_default c false superframe_slots x xs f places late
        ∙ ap (λ (r : Bool). first_by by_default c r superframe_slots (x ∷ xs)) (or-false (scrambles c))
        ∙ sym (default_first c (scrambles c) false (λ u. u) superframe_slots (x ∷ xs)),
  )

-- what is told is then the same, strict and in the default way
pub heard_in_time : (t : Talk) → Kept t → (e : WayIn) (places : ℕ → ℕ) → InTime t.cipher places
    → (heard_notices false t e places ≡ notices_of t e) × (heard_notices true t e places ≡ default_notices t e)
heard_in_time t k opening places late = opened-in-time t.cipher places late t.sessions k.full
heard_in_time t k (joining n) places late =
    let o = joined-in-time t.cipher places late (drop n t.sessions) (full-drop t.cipher n t.sessions k.full) in
    (ap (λ (ns : List Notice). join ∷ ns) o.0, ap (λ (ns : List Notice). join ∷ ns) o.1)

-- ---- so a receiver that meets the demand told when heard meets the demand itself

module _ (t : Talk) (k : Kept t) (b : List ℕ) (i : ℕ) (h : HasKey b t.cipher i t.key) (e : WayIn) where
  -- after the last slot of each session
  abbrev last : ℕ → ℕ
  last n = session_slots t.cipher

  last-later : (xs : List Session) → LaterPlaces last xs
  last-later [] = tt
  last-later (x ∷ xs) = (inr (omega (arith, slots_some t.cipher (key_ranged b t.cipher i t.key h))), last-later xs)

  last-any : (xs : List Session) → AnyPlace last xs
  last-any [] = tt
  last-any (x ∷ xs) = last-later xs

  same-notices : (heard_notices false t e last ≡ notices_of t e) × (heard_notices true t e last ≡ default_notices t e)
  same-notices = heard_in_time t k e last (λ n. omega arith)

pub heard_meets_3 : (R : Receiver) → Meets3Heard R → Meets3 R
heard_meets_3 R m t k b i h e few =
    rw (same-notices t k b i h e).0 at (m t k b i h e few (last t k b i h e) (last-any t k b i h e (heard_from e t.sessions)))

pub heard_meets_announced : (R : Receiver) → Meets3HeardDefault R → Meets3Announced R
heard_meets_announced R m t k e link few b i h =
    rw (same-notices t k b i h e).1 at (m t k e link few b i h (last t k b i h e) (last-any t k b i h e (heard_from e t.sessions)))
