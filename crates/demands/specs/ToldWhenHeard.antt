-- Demand 3, told when heard: the receiver is told of an announced vector when it is heard, at any place of the session before, and nobody keeps the time for
-- it. And our receivers in this form, by the steps that the interface's contracts cite.
use Rattle.std.specs.Prelude.{◌≡◌, List, [], ◌∷◌, ◌++◌, Bool, true, false, ◌&&◌, ◌||◌, not, ◌⊎◌, ℕ, suc, ◌≤◌, take, drop}
use Rattle.octets.specs.Lists.{Each}
use Rattle.answers.specs.declared.Answer.{Answer}
use Rattle.sizes.specs.Ciphers.{scrambles, superframe_slots}
use Rattle.hearing.specs.declared.Hearing.{Hearing}
use Rattle.hearing.specs.Hearing.{no_hearing}
use Rattle.nxdn.specs.Operations.{Open, Join, Voice, Lost}
use Rattle.nxdn.specs.Interface.{Of, Heard, asked_step}
use Rattle.demands.specs.Talk.{Session, Talk, WayIn, opening, joining, Kept, HasKey}
use Rattle.demands.specs.Notices.{Notice, hear, join, is_reached, slot_notices, start_notices, WithinLimit}
use Rattle.demands.specs.Log.{Receiver, Event, events}
use Rattle.demands.specs.Demand3.{Right}
use Rattle.demands.specs.Demand3Default.{Successive, GeneratedOrAnnounced, heard_from}

-- ---- what is told

-- the next session's vector, if its announcement arrived; scramble has none
abbrev pub next_told : ℕ → List Session → List Notice
next_told c [] = []
next_told c (y ∷ ys) = start_notices (not (scrambles c) && y.announced) y.vector

-- it is heard after so many of a session's slots; after all of them, or more, is as its own session starts
abbrev pub heard_after : ℕ → List Notice → List Notice → List Notice
heard_after n told slots = take n slots ++ (told ++ drop n slots)

-- where a receiver that rides knew a vector before, it knows this session's
abbrev pub known_in : Bool → Bool → Session → Bool
known_in rides before x = x.announced || (rides && before)

-- whole sessions: places says of each after how many of its slots the next one's vector is heard
abbrev pub later_notices : ℕ → Bool → Bool → (ℕ → ℕ) → List Session → List Notice
later_notices c rides before places [] = []
later_notices c rides before places (x ∷ xs) =
    heard_after (places 0) (next_told c xs) (slot_notices (is_reached c (known_in rides before x)) x.slots)
    ++ later_notices c rides (known_in rides before x) (λ n. places (suc n)) xs

-- the first session that is heard, from slot p on, and those after it; told is whether its vector reached the receiver
abbrev pub first_heard : ℕ → Bool → Bool → ℕ → (ℕ → ℕ) → List Session → List Notice
first_heard c rides told p places [] = []
first_heard c rides told p places (x ∷ xs) =
    heard_after (places 0) (next_told c xs) (slot_notices (is_reached c told) (drop p x.slots)) ++ later_notices c rides told (λ n. places (suc n)) xs

abbrev pub opening_heard : ℕ → Bool → (ℕ → ℕ) → List Session → List Notice
opening_heard c rides places [] = []
opening_heard c rides places (x ∷ xs) = hear x.vector ∷ first_heard c rides true 0 places (x ∷ xs)

-- Notices' `announce` is a vector that is told, here when it is heard
abbrev pub heard_notices : Bool → Talk → WayIn → (ℕ → ℕ) → List Notice
heard_notices rides t opening places = opening_heard t.cipher rides places t.sessions
heard_notices rides t (joining n) places = join ∷ first_heard t.cipher rides false superframe_slots places (drop n t.sessions)

-- in the first session that is heard also right after the opening, or joining; and so in a later one whose own vector was told. Where it wasn't, after its
-- first slot at the soonest: before that it could as well be that session's own
abbrev pub LaterPlaces : (ℕ → ℕ) → List Session → Type 0
LaterPlaces places [] = Unit {0}
LaterPlaces places (x ∷ xs) = ((x.announced ≡ true) ⊎ (1 ≤ places 0)) × LaterPlaces (λ n. places (suc n)) xs

abbrev pub AnyPlace : (ℕ → ℕ) → List Session → Type 0
AnyPlace places [] = Unit {0}
AnyPlace places (x ∷ xs) = LaterPlaces (λ n. places (suc n)) xs

-- ---- the demand

abbrev pub heard_log : Bool → Receiver → List ℕ → ℕ → Talk → WayIn → (ℕ → ℕ) → List Event
heard_log rides R b i t e places = events R b t.cipher i t.rate R.idle (heard_notices rides t e places)

-- what a right log is, is demand 3's, and so is what is asked of the sender
abbrev pub Meets3Heard : Receiver → Type 0
Meets3Heard R = (t : Talk) → Kept t → (b : List ℕ) (i : ℕ) → HasKey b t.cipher i t.key → (e : WayIn) → WithinLimit t e → (places : ℕ → ℕ)
    → AnyPlace places (heard_from e t.sessions)
    → Each Right (heard_log false R b i t e places)

-- and in the default way
abbrev pub Meets3HeardDefault : Receiver → Type 0
Meets3HeardDefault R = (t : Talk) → Kept t → (e : WayIn) → (scrambles t.cipher ≡ false → Successive GeneratedOrAnnounced (heard_from e t.sessions))
    → WithinLimit t e → (b : List ℕ) (i : ℕ) → HasKey b t.cipher i t.key → (places : ℕ → ℕ)
    → AnyPlace places (heard_from e t.sessions)
    → Each Right (heard_log true R b i t e places)

-- ---- ours

-- without what it may write
abbrev pub left : {S : Type 0} → Answer × (S × List ℕ) → Answer × S
left r = (r.0, r.1.0)

abbrev pub hearing_with : ℕ → Receiver
hearing_with strictness =
    record {
      State = Hearing;
      idle = no_hearing;
      hear = λ c i rate v b s. left (asked_step b (Of (Open c i rate strictness v)) s);
      join = λ c i rate b s. left (asked_step b (Of (Join c i rate strictness)) s);
      voice = λ mask frame s. asked_step [] (Of (Voice mask frame)) s;
      lost = λ s. left (asked_step [] (Of Lost) s);
      announce = λ v s. left (asked_step [] (Heard v) s);
    }

-- 1 is strict, 0 the default
abbrev pub hearing_recorder : Receiver
hearing_recorder = hearing_with 1

abbrev pub hearing_handset : Receiver
hearing_handset = hearing_with 0
