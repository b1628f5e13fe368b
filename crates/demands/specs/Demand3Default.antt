-- Demand 3 in the default way (document 02, W-206), of any receiver that goes on with the generator's next vector where no announcement came; and our receiver
-- in it, which a handset is.
use Rattle.std.specs.Prelude.{◌≡◌, List, [], ◌∷◌, Bool, true, false, ◌⊎◌, ℕ, drop}
use Rattle.octets.specs.Lists.{Each}
use Rattle.generator.specs.Generator.{next_vector}
use Rattle.sizes.specs.Ciphers.{scrambles}
use Rattle.demands.specs.Talk.{Session, Talk, WayIn, opening, joining, Kept, HasKey}
use Rattle.demands.specs.Notices.{Notice, hear, join, announce, lost, voice, notices_of, WithinLimit}
use Rattle.demands.specs.Log.{Receiver, Event, events}
use Rattle.demands.specs.Demand3.{Right, ours_in}

-- ---- what is told is the same, but for which slots count as reached

-- those after the first known vector: the opening's, or the first that was announced; scramble needs none
abbrev pub since_known : Bool → List Notice → List Notice
since_known known [] = []
since_known known (hear v ∷ ns) = hear v ∷ since_known true ns
since_known known (join ∷ ns) = join ∷ since_known known ns
since_known known (announce v ∷ ns) = announce v ∷ since_known true ns
since_known known (lost ∷ ns) = lost ∷ since_known known ns
since_known known (voice reached x ∷ ns) = voice known x ∷ since_known known ns

abbrev pub default_notices : Talk → WayIn → List Notice
default_notices t e = since_known (scrambles t.cipher) (notices_of t e)

abbrev pub default_log : Receiver → List ℕ → ℕ → Talk → WayIn → List Event
default_log R b i t e = events R b t.cipher i t.rate R.idle (default_notices t e)

-- ---- what is asked of the sender besides its rules

-- of the sessions that a receiver hears of: all, or those from its late entry on
abbrev pub heard_from : WayIn → List Session → List Session
heard_from opening xs = xs
heard_from (joining n) xs = drop n xs

-- of each session and the one after it
abbrev pub Successive : (Session → Session → Type 0) → List Session → Type 0
Successive P [] = Unit {0}
Successive P (x ∷ []) = Unit {0}
Successive P (x ∷ y ∷ ys) = P x y × Successive P (y ∷ ys)

-- the next vector is the generator's
abbrev pub Generated : Session → Session → Type 0
Generated x y = y.vector ≡ next_vector x.vector

-- or its announcement arrived
abbrev pub GeneratedOrAnnounced : Session → Session → Type 0
GeneratedOrAnnounced x y = (y.announced ≡ true) ⊎ Generated x y

-- ---- the demand

-- scramble has no vectors. What a right log is, is demand 3's: a slot that counts as reached is handed out, and any other is held as it came
abbrev pub MeetsTalkDefault : (Session → Session → Type 0) → Receiver → Talk → Type 0
MeetsTalkDefault P R t = Kept t → (e : WayIn) → (scrambles t.cipher ≡ false → Successive P (heard_from e t.sessions)) → WithinLimit t e
    → (b : List ℕ) (i : ℕ) → HasKey b t.cipher i t.key → Each Right (default_log R b i t e)

abbrev pub Meets3Default : Receiver → Type 0
Meets3Default R = (t : Talk) → MeetsTalkDefault Generated R t

-- and with a weaker premise: an announcement at the session's start wins over the generator's next vector
abbrev pub Meets3Announced : Receiver → Type 0
Meets3Announced R = (t : Talk) → MeetsTalkDefault GeneratedOrAnnounced R t

-- 0 is the default
abbrev pub handset : Receiver
handset = ours_in 0
