-- No slot is left out of a log, of either way, whatever the receiver: the log lists exactly the slots that arrived, in order.
use mathlib.Core.Path.{◌≡◌, refl, ap, ◌∙◌}
use mathlib.Core.List.{List, [], ◌∷◌, ◌++◌}
use mathlib.Core.Bool.{Bool, true, false, ◌&&◌, not}
use Prim.Native.Nat.{ℕ}
use lib.ListN.{drop}
use Rattle.sizes.specs.Ciphers.{scrambles, superframe_slots}
use Rattle.octets.specs.Tests.{pick}
use Rattle.demands.specs.Talk.{Slot, Session, Talk, WayIn, opening, joining}
use Rattle.demands.specs.Arrivals.{Shown, shown_in, arriving, all_slots, slots_from, slots_after}
use Rattle.demands.specs.Notices.{Notice, hear, join, announce, lost, voice, is_reached, slot_notice, slot_notices, start_notices, session_notices, first_notices, notices_of}
use Rattle.demands.specs.Log.{Receiver, Event, event, events, talk_log}
use Rattle.demands.specs.Demand3Default.{since_known, default_notices, default_log}

-- ---- what notices bring

abbrev brought : List Notice → List Shown
brought [] = []
brought (hear v ∷ ns) = brought ns
brought (join ∷ ns) = brought ns
brought (announce v ∷ ns) = brought ns
brought (lost ∷ ns) = brought ns
brought (voice reached x ∷ ns) = (x.mask, (x.spoken, x.sent)) ∷ brought ns

slots-brought : (reached : Bool) (xs ys : List Slot) (ns : List Notice) → brought ns ≡ arriving ys → brought (slot_notices reached xs ++ ns) ≡ arriving (xs ++ ys)
slots-brought reached [] ys ns e = e
slots-brought reached (x ∷ xs) ys ns e = one x.arrived (slots-brought reached xs ys ns e)
  where
    one : (a : Bool) → brought (slot_notices reached xs ++ ns) ≡ arriving (xs ++ ys)
        → brought (slot_notice reached a x ∷ (slot_notices reached xs ++ ns)) ≡ pick a ((x.mask, (x.spoken, x.sent)) ∷ arriving (xs ++ ys)) (arriving (xs ++ ys))
    one true h = ap (λ (r : List Shown). (x.mask, (x.spoken, x.sent)) ∷ r) h
    one false h = h

start_brought : (told : Bool) (v : List ℕ) (ns : List Notice) → brought (start_notices told v ++ ns) ≡ brought ns
start_brought true v ns = refl
start_brought false v ns = refl

module _ (c : ℕ) where
  sessions-brought : (xs : List Session) → brought (session_notices c xs) ≡ arriving (all_slots xs)
  sessions-brought [] = refl
  sessions-brought (x ∷ xs) =
      start_brought (not (scrambles c) && x.announced) x.vector (slot_notices (is_reached c x.announced) x.slots ++ session_notices c xs)
      ∙ slots-brought (is_reached c x.announced) x.slots (all_slots xs) (session_notices c xs) (sessions-brought xs)

  first-brought : (told : Bool) (p : ℕ) (xs : List Session) → brought (first_notices c told p xs) ≡ arriving (slots_from p xs)
  first-brought told p [] = refl
  first-brought told p (x ∷ xs) = slots-brought (is_reached c told) (drop p x.slots) (all_slots xs) (session_notices c xs) (sessions-brought xs)

talk-brought : (t : Talk) (e : WayIn) → brought (notices_of t e) ≡ arriving (slots_after t e)
talk-brought t opening = opened t.sessions
  where
    opened : (xs : List Session) → brought (notices_of (record { cipher = t.cipher; rate = t.rate; key = t.key; sessions = xs }) opening) ≡ arriving (all_slots xs)
    opened [] = refl
    opened (x ∷ xs) = first-brought t.cipher true 0 (x ∷ xs)
talk-brought t (joining n) = first-brought t.cipher false superframe_slots (drop n t.sessions)

-- which slots count as reached is all that the default way changes
since_brought : (known : Bool) (ns : List Notice) → brought (since_known known ns) ≡ brought ns
since_brought known [] = refl
since_brought known (hear v ∷ ns) = since_brought true ns
since_brought known (join ∷ ns) = since_brought known ns
since_brought known (announce v ∷ ns) = since_brought true ns
since_brought known (lost ∷ ns) = since_brought known ns
since_brought known (voice reached x ∷ ns) = ap (λ (r : List Shown). (x.mask, (x.spoken, x.sent)) ∷ r) (since_brought known ns)

-- ---- and what a receiver logs of them

module _ (R : Receiver) (b : List ℕ) where
  events-shown : (c i r : ℕ) (s : R.State) (ns : List Notice) → shown_in (events R b c i r s ns) ≡ brought ns
  events-shown c i r s [] = refl
  events-shown c i r s (n ∷ ns) = one n (events R b c i r (event R b c i r n s).1 ns) (events-shown c i r (event R b c i r n s).1 ns)
    where
      one : (n : Notice) (es : List Event) → shown_in es ≡ brought ns → shown_in ((event R b c i r n s).0 ∷ es) ≡ brought (n ∷ ns)
      one (hear v) es h = h
      one join es h = h
      one (announce v) es h = h
      one lost es h = h
      one (voice reached x) es h = ap (λ (r : List Shown). (x.mask, (x.spoken, x.sent)) ∷ r) h

  pub log_complete : (i : ℕ) (t : Talk) (e : WayIn) → shown_in (talk_log R b i t e) ≡ arriving (slots_after t e)
  log_complete i t e = events-shown t.cipher i t.rate R.idle (notices_of t e) ∙ talk-brought t e

  pub default_complete : (i : ℕ) (t : Talk) (e : WayIn) → shown_in (default_log R b i t e) ≡ arriving (slots_after t e)
  default_complete i t e =
      events-shown t.cipher i t.rate R.idle (default_notices t e) ∙ since_brought (scrambles t.cipher) (notices_of t e) ∙ talk-brought t e
