-- The premises of demand 3 told when heard can be met, and words are handed out by a vector that was kept: for DES and AES, at either rate, strict and by
-- default, of 71 octets that were zeros, a call of three sessions with losses whose vectors are not the generator's.
use mathlib.Core.Path.{◌≡◌, refl, sym, ◌∙◌}
use mathlib.Core.Bool.{Bool, true, false}
use mathlib.Core.Logic.{inl}
use mathlib.Core.List.{List, [], ◌∷◌, map}
use Prim.Native.Nat.{ℕ, zero, suc, ◌≤◌}
use native.Mathlib.Omega.{arith}
use lib.ListN.{replicate}
use Rattle.octets.specs.Lists.{Each}
use Rattle.sizes.specs.Ciphers.{session_slots, no_vector, scrambles}
use Rattle.openings.specs.Samples.{seed}
use Rattle.ciphers.specs.Keystream.{stream}
use Rattle.calls.specs.Call.{by_default, strict}
use Rattle.demands.specs.Rates.{layout, FrameAt}
use Rattle.demands.specs.Talk.{Talk, WayIn, opening, joining, Kept}
use Rattle.demands.specs.Demand3.{Right}
use Rattle.demands.specs.Demand3Default.{heard_from}
use Rattle.demands.specs.ToldWhenHeard.{heard_notices, AnyPlace, heard_log}
use Rattle.demands.specs.HostDemands.{octets_in}
use Rattle.demands.proofs.Standing.{eight_slots}
use Rattle.demands.proofs.ToldSlots.{within_limit}
use Rattle.demands.proofs.Settled.{answers, due, right-events}
use Rattle.demands.proofs.Samples.{repeating, repeating-kept}
use Rattle.demands.proofs.SampleKeys.{key_of, book_of_three, has_key, key_long}
use Rattle.demands.proofs.HostMeets.{octets_meet_heard, octets_meet_heard_default}

-- every other slot is lost
abbrev others : List Bool
others = true ∷ false ∷ true ∷ false ∷ true ∷ false ∷ true ∷ false ∷ []

-- the second's and the third's announcements arrive
abbrev pub kept_call : ℕ → ℕ → List ℕ → Talk
kept_call c r frame =
    record {
      cipher = c;
      rate = r;
      key = key_of c;
      sessions = record { vector = seed; announced = false; slots = repeating r frame (stream c (key_of c) seed) 0 others }
          ∷ record { vector = no_vector; announced = true; slots = repeating r frame (stream c (key_of c) no_vector) 0 others }
          ∷ record { vector = seed; announced = true; slots = repeating r frame (stream c (key_of c) seed) 0 (true ∷ []) } ∷ [];
    }

-- the second's is heard right after the opening or joining; the third's after so many slots of the second
abbrev pub at_once : ℕ → ℕ → ℕ
at_once p zero = 0
at_once p (suc n) = p

-- what is answered where the third's is heard in the middle, and before the second's first slot: a lost slot and a told vector are 0. By the opening all are
-- 0; by joining the two slots that arrive in the rest of the first session are held, 1
abbrev pub joined_numbers : List ℕ
joined_numbers = 0 ∷ 0 ∷ (1 ∷ 0 ∷ 1 ∷ 0 ∷ replicate 10 0)

pub record HandedOut (m : ℕ) (rides : Bool) (t : Talk) (p : ℕ) : Type 0 where
  pub kept : Kept t
  pub opened : answers (heard_log rides (octets_in m) book_of_three 0 t opening (at_once p)) ≡ replicate 20 0
  pub joined : answers (heard_log rides (octets_in m) book_of_three 0 t (joining 0) (at_once p)) ≡ joined_numbers
  -- and each word that is handed out is the one that was spoken
  pub right : Each Right (heard_log rides (octets_in m) book_of_three 0 t opening (at_once p)) × Each Right (heard_log rides (octets_in m) book_of_three 0 t (joining 0) (at_once p))

module _ (c : ℕ) (g : (1 ≤ c) × (c ≤ 3)) (n : scrambles c ≡ false) (r : ℕ) (l : r ≤ 1) (frame : List ℕ) (f : FrameAt (layout r) frame) where
  abbrev t : Talk
  t = kept_call c r frame

  eight : 8 ≡ session_slots c
  eight = sym (eight_slots c g n)

  call_kept : Kept t
  call_kept =
      record {
        rate = l;
        key = key_long c g;
        each = (
          record { vector = refl; slots = repeating-kept r frame f (stream c (key_of c) seed) 0 others },
          (
            record { vector = refl; slots = repeating-kept r frame f (stream c (key_of c) no_vector) 0 others },
            (record { vector = refl; slots = repeating-kept r frame f (stream c (key_of c) seed) 0 (true ∷ []) }, tt),
          ),
        );
        full = (eight, (eight, omega (arith, eight)));
      }

  module _ (p : ℕ) where
    any : AnyPlace (at_once p) t.sessions
    any = (inl refl, (inl refl, tt))

    strictly : (e : WayIn) → AnyPlace (at_once p) (heard_from e t.sessions) → Each Right (heard_log false (octets_in strict) book_of_three 0 t e (at_once p))
    strictly e = octets_meet_heard t call_kept book_of_three 0 (has_key c g) e (within_limit t (omega arith) e) (at_once p)

    numbers : (rides : Bool) (m : ℕ) (e : WayIn) → Each Right (heard_log rides (octets_in m) book_of_three 0 t e (at_once p))
        → answers (heard_log rides (octets_in m) book_of_three 0 t e (at_once p)) ≡ map due (heard_notices rides t e (at_once p))
    numbers rides m e = right-events (octets_in m) book_of_three c 0 r (octets_in m).idle (heard_notices rides t e (at_once p))

    pub strict-out : map due (heard_notices false t opening (at_once p)) ≡ replicate 20 0 → map due (heard_notices false t (joining 0) (at_once p)) ≡ joined_numbers
        → HandedOut strict false t p
    strict-out o j =
        record {
          kept = call_kept;
          opened = numbers false strict opening (strictly opening any) ∙ o;
          joined = numbers false strict (joining 0) (strictly (joining 0) any) ∙ j;
          right = (strictly opening any, strictly (joining 0) any);
        }

    linked : Each Right (heard_log true (octets_in by_default) book_of_three 0 t opening (at_once p))
        × Each Right (heard_log true (octets_in by_default) book_of_three 0 t (joining 0) (at_once p))
    linked = (
      octets_meet_heard_default t call_kept opening (λ z. (inl refl, (inl refl, tt))) (within_limit t (omega arith) opening) book_of_three 0 (has_key c g)
          (at_once p) any,
      octets_meet_heard_default t call_kept (joining 0) (λ z. (inl refl, (inl refl, tt))) (within_limit t (omega arith) (joining 0)) book_of_three 0 (has_key c g)
          (at_once p) any,
    )

    pub default_out : map due (heard_notices true t opening (at_once p)) ≡ replicate 20 0 → map due (heard_notices true t (joining 0) (at_once p)) ≡ joined_numbers
        → HandedOut by_default true t p
    default_out o j =
        record {
          kept = call_kept;
          opened = numbers true by_default opening linked.0 ∙ o;
          joined = numbers true by_default (joining 0) linked.1 ∙ j;
          right = linked;
        }

  -- heard before the first slot of a session whose own vector was told, and in its middle
  pub both_places : (HandedOut strict false t 0 × HandedOut strict false t 3) × (HandedOut by_default true t 0 × HandedOut by_default true t 3)
  both_places = ((strict-out 0 (rw n) (rw n), strict-out 3 (rw n) (rw n)), (default_out 0 (rw n) (rw n), default_out 3 (rw n) (rw n)))

-- ---- at either rate, whatever one frame is said in every slot

module _ (r : ℕ) (l : r ≤ 1) (frame : List ℕ) (f : FrameAt (layout r) frame) where
  pub kept-des : (HandedOut strict false (kept_call 2 r frame) 0 × HandedOut strict false (kept_call 2 r frame) 3)
      × (HandedOut by_default true (kept_call 2 r frame) 0 × HandedOut by_default true (kept_call 2 r frame) 3)
  kept-des = both_places 2 (omega arith, omega arith) refl r l frame f

  pub kept-aes : (HandedOut strict false (kept_call 3 r frame) 0 × HandedOut strict false (kept_call 3 r frame) 3)
      × (HandedOut by_default true (kept_call 3 r frame) 0 × HandedOut by_default true (kept_call 3 r frame) 3)
  kept-aes = both_places 3 (omega arith, omega arith) refl r l frame f
