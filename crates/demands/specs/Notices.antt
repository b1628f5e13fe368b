-- Demand 3, what a receiver is told of a call: the opening, or that it joins; each slot in turn; and a vector as its session starts.
use Rattle.std.specs.Prelude.{List, [], ◌∷◌, ◌++◌, map, Bool, true, false, ◌&&◌, ◌||◌, not, ℕ, suc, ◌≤◌, drop}
use Rattle.sizes.specs.Ciphers.{scrambles, superframe_slots}
use Rattle.demands.specs.Talk.{Slot, Session, Talk, WayIn, opening, joining}

pub data Notice : Type 0 where
  -- the opening, with its vector
  hear : List ℕ → Notice
  join : Notice
  -- a session starts, and its vector has been announced
  announce : List ℕ → Notice
  lost : Notice
  -- a slot that arrives, and whether its session counts as reached
  voice : Bool → Slot → Notice

-- how many slots it is told of, arrived or lost
abbrev pub slots_told : List Notice → ℕ
slots_told [] = 0
slots_told (hear v ∷ ns) = slots_told ns
slots_told (join ∷ ns) = slots_told ns
slots_told (announce v ∷ ns) = slots_told ns
slots_told (lost ∷ ns) = suc (slots_told ns)
slots_told (voice reached x ∷ ns) = suc (slots_told ns)

-- a session counts as reached where its vector reached the receiver; scramble needs none
abbrev pub is_reached : ℕ → Bool → Bool
is_reached c told = scrambles c || told

abbrev pub slot_notice : Bool → Bool → Slot → Notice
slot_notice reached true x = voice reached x
slot_notice reached false x = lost

abbrev pub slot_notices : Bool → List Slot → List Notice
slot_notices reached = map (λ x. slot_notice reached x.arrived x)

-- of a vector, if it arrived
abbrev pub start_notices : Bool → List ℕ → List Notice
start_notices true v = announce v ∷ []
start_notices false v = []

-- whole sessions: scramble has no vector to be told of
abbrev pub session_notices : ℕ → List Session → List Notice
session_notices c [] = []
session_notices c (x ∷ xs) =
    start_notices (not (scrambles c) && x.announced) x.vector ++ (slot_notices (is_reached c x.announced) x.slots ++ session_notices c xs)

-- the first session that is heard, from slot p on, and those after it; told is whether the first one's vector reached the receiver
abbrev pub first_notices : ℕ → Bool → ℕ → List Session → List Notice
first_notices c told p [] = []
first_notices c told p (x ∷ xs) = slot_notices (is_reached c told) (drop p x.slots) ++ session_notices c xs

-- a call without a session has no opening
abbrev pub opening_notices : ℕ → List Session → List Notice
opening_notices c [] = []
opening_notices c (x ∷ xs) = hear x.vector ∷ first_notices c true 0 (x ∷ xs)

abbrev pub notices_of : Talk → WayIn → List Notice
notices_of t opening = opening_notices t.cipher t.sessions
notices_of t (joining n) = join ∷ first_notices t.cipher false superframe_slots (drop n t.sessions)

-- at most as many slots as one receiving call may be told of (document 02, W-207)
abbrev pub WithinLimit : Talk → WayIn → Type 0
WithinLimit t e = slots_told (notices_of t e) ≤ 1000000
