-- How many slots a receiver is told of: as many as are to come, whichever of them count as reached.
use mathlib.Core.Path.{◌≡◌, refl, ap, ◌∙◌}
use mathlib.Core.List.{List, [], ◌∷◌, ◌++◌}
use mathlib.Core.Bool.{Bool, true, false, ◌&&◌, not}
use Prim.Native.Nat.{ℕ, zero, suc, ◌≤◌}
use native.Mathlib.Omega.{arith}
use lib.ListN.{length, length-append, drop, length-drop}
use Rattle.sizes.specs.Ciphers.{scrambles, superframe_slots}
use Rattle.demands.specs.Talk.{Slot, Session, Talk, WayIn, opening, joining}
use Rattle.demands.specs.Arrivals.{all_slots, slots_from, slots_after}
use Rattle.demands.specs.Notices.{Notice, hear, join, announce, lost, voice, slots_told, is_reached, slot_notice, slot_notices, start_notices, session_notices, first_notices, opening_notices, notices_of, WithinLimit}
use Rattle.demands.specs.Demand3Default.{since_known}

-- a slot is one, arrived or not
pub told_slot : (reached a : Bool) (x : Slot) (ns : List Notice) → slots_told (slot_notice reached a x ∷ ns) ≡ suc (slots_told ns)
told_slot reached true x ns = refl
told_slot reached false x ns = refl

-- which count as reached is all that the default way changes
pub since_told : (known : Bool) (ns : List Notice) → slots_told (since_known known ns) ≡ slots_told ns
since_told known [] = refl
since_told known (hear v ∷ ns) = since_told true ns
since_told known (join ∷ ns) = since_told known ns
since_told known (announce v ∷ ns) = since_told true ns
since_told known (lost ∷ ns) = ap suc (since_told known ns)
since_told known (voice reached x ∷ ns) = ap suc (since_told known ns)

told_slots : (reached : Bool) (xs ys : List Slot) (ns : List Notice) → slots_told ns ≡ length ys → slots_told (slot_notices reached xs ++ ns) ≡ length (xs ++ ys)
told_slots reached [] ys ns e = e
told_slots reached (x ∷ xs) ys ns e = told_slot reached x.arrived x (slot_notices reached xs ++ ns) ∙ ap suc (told_slots reached xs ys ns e)

told_start : (told : Bool) (v : List ℕ) (ns : List Notice) → slots_told (start_notices told v ++ ns) ≡ slots_told ns
told_start true v ns = refl
told_start false v ns = refl

module _ (c : ℕ) where
  told-sessions : (xs : List Session) → slots_told (session_notices c xs) ≡ length (all_slots xs)
  told-sessions [] = refl
  told-sessions (x ∷ xs) =
      told_start (not (scrambles c) && x.announced) x.vector (slot_notices (is_reached c x.announced) x.slots ++ session_notices c xs)
      ∙ told_slots (is_reached c x.announced) x.slots (all_slots xs) (session_notices c xs) (told-sessions xs)

  told-first : (told : Bool) (p : ℕ) (xs : List Session) → slots_told (first_notices c told p xs) ≡ length (slots_from p xs)
  told-first told p [] = refl
  told-first told p (x ∷ xs) = told_slots (is_reached c told) (drop p x.slots) (all_slots xs) (session_notices c xs) (told-sessions xs)

-- so the slot limit is one of the slots that are to come, as the receiver comes in
pub told_after : (t : Talk) (e : WayIn) → slots_told (notices_of t e) ≡ length (slots_after t e)
told_after t opening = go t.sessions
  where
    go : (xs : List Session) → slots_told (opening_notices t.cipher xs) ≡ length (all_slots xs)
    go [] = refl
    go (x ∷ xs) = told-first t.cipher true 0 (x ∷ xs)
told_after t (joining n) = told-first t.cipher false superframe_slots (drop n t.sessions)

-- of a call of at most so many slots, however it comes in
from-within : (p : ℕ) (xs : List Session) → length (slots_from p xs) ≤ length (all_slots xs)
from-within p [] = omega arith
from-within p (x ∷ xs) =
    rw (length-append (drop p x.slots) (all_slots xs), length-append x.slots (all_slots xs), length-drop p x.slots) (omega arith)

drop-within : (n : ℕ) (xs : List Session) → length (all_slots (drop n xs)) ≤ length (all_slots xs)
drop-within zero xs = omega arith
drop-within (suc n) [] = omega arith
drop-within (suc n) (x ∷ xs) = rw (length-append x.slots (all_slots xs)) (omega (arith, drop-within n xs))

pub within_limit : (t : Talk) → length (all_slots t.sessions) ≤ 1000000 → (e : WayIn) → WithinLimit t e
within_limit t l opening = rw (told_after t opening) (omega (arith, l))
within_limit t l (joining n) = rw (told_after t (joining n)) (omega (arith, from-within superframe_slots (drop n t.sessions), drop-within n t.sessions))
