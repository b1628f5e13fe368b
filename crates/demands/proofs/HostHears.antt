-- A host's call meets demand 3 told when heard, whatever else the host does in between: load and erase keys, other calls, packets.
use mathlib.Core.Path.{◌≡◌, refl, sym, ap, ap₂, subst, ◌∙◌}
use mathlib.Core.Bool.{Bool, true, false, ◌&&◌, not}
use mathlib.Core.List.{List, [], ◌∷◌, ◌++◌}
use Prim.Native.Nat.{ℕ, zero, suc}
use lib.ListN.{take, drop, replicate}
use Rattle.octets.specs.Lists.{Each}
use Rattle.answers.specs.declared.Answer.{Answer}
use Rattle.sizes.specs.Ciphers.{scrambles, superframe_slots}
use Rattle.held.specs.Call as call
use Rattle.calls.specs.Call.{by_default, strict}
use Rattle.nxdn.specs.Operations.{Open, Join, Voice, Lost}
use Rattle.nxdn.specs.Interface.{Asked, Of, Heard, on_call}
use Rattle.demands.specs.Talk.{Slot, Session, Talk, WayIn, opening, joining}
use Rattle.demands.specs.Notices.{Notice, hear, join, announce, lost, voice, is_reached, slot_notice, slot_notices, start_notices}
use Rattle.demands.specs.Log.{Event, answered, arrived, event, events}
use Rattle.demands.specs.Demand3.{Right}
use Rattle.demands.specs.ToldWhenHeard.{next_told, heard_after, known_in, later_notices, first_heard, opening_heard, heard_log}
use Rattle.demands.specs.Host.{Host, Function, Keys, Screen, OnCall, LookAt, OnPacket, host_step, Calls}
use Rattle.demands.specs.HostDemands.{numbered, octets_in, Beside, gone_on, call_on, host_in, HostDemand3}
use Rattle.demands.proofs.DeviceLaws.{by_number}
use Rattle.demands.proofs.HostLaws.{own-number}
use Rattle.demands.proofs.HostEnds.{bookless, heard_bookless}
use Rattle.demands.proofs.ReceiverMeets.{each-drop}
use Rattle.demands.proofs.HostMeets.{octets_meet_heard, octets_meet_heard_default}

-- ---- what is done beside a call

beside_stays : (n : ℕ) (h : Host) (f : Function) (l : List ℕ) → Beside n f → (host_step h f l).1.0.calls n ≡ h.calls n
unfolding host_step
beside_stays n h (Keys o) l b = refl
beside_stays n h (Screen o) l b = refl
beside_stays n h (OnCall m a) l b = by_number (λ (y : List ℕ). y ≡ h.calls n) m _ h.calls n (λ e. absurd (b (sym e))) (λ e. refl)
beside_stays n h (LookAt m a) l b = refl
beside_stays n h (OnPacket m o) l b = refl

gone_stays : (n : ℕ) (h : Host) (fs : Calls) → Each (λ f. Beside n f.0) fs → (gone_on h fs).calls n ≡ h.calls n
unfolding gone_on
gone_stays n h [] b = refl
gone_stays n h (f ∷ fs) b = beside_stays n (gone_on h fs) f.0 f.1 b.0 ∙ gone_stays n h fs b.1

-- ---- after the first notice no other opens

abbrev Later : Notice → Type 0
Later (hear v) = ⊥
Later join = ⊥
Later (announce v) = Unit {0}
Later lost = Unit {0}
Later (voice reached x) = Unit {0}

each_both : (xs ys : List Notice) → Each Later xs → Each Later ys → Each Later (xs ++ ys)
each_both [] ys p q = q
each_both (x ∷ xs) ys p q = (p.0, each_both xs ys p.1 q)

each_take : (n : ℕ) (xs : List Notice) → Each Later xs → Each Later (take n xs)
each_take zero xs p = tt
each_take (suc n) [] p = tt
each_take (suc n) (x ∷ xs) p = (p.0, each_take n xs p.1)

slot-later : (reached a : Bool) (x : Slot) → Later (slot_notice reached a x)
slot-later reached true x = tt
slot-later reached false x = tt

slots-later : (reached : Bool) (xs : List Slot) → Each Later (slot_notices reached xs)
slots-later reached [] = tt
slots-later reached (x ∷ xs) = (slot-later reached x.arrived x, slots-later reached xs)

start_later : (a : Bool) (v : List ℕ) → Each Later (start_notices a v)
start_later true v = (tt, tt)
start_later false v = tt

next-later : (c : ℕ) (xs : List Session) → Each Later (next_told c xs)
next-later c [] = tt
next-later c (y ∷ ys) = start_later (not (scrambles c) && y.announced) y.vector

after-later : (n : ℕ) (told slots : List Notice) → Each Later told → Each Later slots → Each Later (heard_after n told slots)
after-later n told slots p q = each_both (take n slots) (told ++ drop n slots) (each_take n slots q) (each_both told (drop n slots) p (each-drop Later n slots q))

session-later : (c : ℕ) (xs : List Session) (n : ℕ) (reached : Bool) (slots : List Slot) (rest : List Notice) → Each Later rest
    → Each Later (heard_after n (next_told c xs) (slot_notices reached slots) ++ rest)
session-later c xs n reached slots rest =
    each_both (heard_after n (next_told c xs) (slot_notices reached slots)) rest
    (after-later n (next_told c xs) (slot_notices reached slots) (next-later c xs) (slots-later reached slots))

sessions-later : (c : ℕ) (rides before : Bool) (places : ℕ → ℕ) (xs : List Session) → Each Later (later_notices c rides before places xs)
sessions-later c rides before places [] = tt
sessions-later c rides before places (x ∷ xs) =
    session-later c xs (places 0) (is_reached c (known_in rides before x)) x.slots
    (later_notices c rides (known_in rides before x) (λ n. places (suc n)) xs) (sessions-later c rides (known_in rides before x) (λ n. places (suc n)) xs)

first-later : (c : ℕ) (rides told : Bool) (p : ℕ) (places : ℕ → ℕ) (xs : List Session) → Each Later (first_heard c rides told p places xs)
first-later c rides told p places [] = tt
first-later c rides told p places (x ∷ xs) =
    session-later c xs (places 0) (is_reached c told) (drop p x.slots) (later_notices c rides told (λ n. places (suc n)) xs)
    (sessions-later c rides told (λ n. places (suc n)) xs)

-- ---- the same log as of the call's octets alone

module _ (m n : ℕ) (between : ℕ → Calls) (beside : (k : ℕ) → Each (λ f. Beside n f.0) (between k)) (h₀ : Host) (b : List ℕ) (c i rate : ℕ) where
  abbrev told_host : Notice → ℕ × Host → Event × (ℕ × Host)
  told_host = event (host_in m n between h₀) b c i rate

  abbrev told_octets : Notice → List ℕ → Event × List ℕ
  told_octets = event (octets_in m) b c i rate

  -- the call's octets afterwards
  call_left : (a : Asked) (l : List ℕ) (s : ℕ × Host) → (call_on n between a l s).1.0.1.calls n ≡ (on_call s.1.book a (s.1.calls n) l).1.0
  unfolding host_step
  call_left a l s =
      gone_stays n (host_step s.1 (OnCall n a) l).1.0 (between s.0) (beside s.0)
      ∙ own-number n (on_call s.1.book a (s.1.calls n) l).1.0 s.1.calls

  Alike : Notice → ℕ × Host → Type 0
  Alike nt s = ((told_host nt s).0 ≡ (told_octets nt (s.1.calls n)).0) × ((told_host nt s).1.1.calls n ≡ (told_octets nt (s.1.calls n)).1)

  alike : (nt : Notice) (s : ℕ × Host) → Later nt → Alike nt s
  unfolding host_step Alike
  alike (hear v) s z = absurd z
  alike join s z = absurd z
  alike (announce v) s z =
      let e = heard_bookless s.1.book v (s.1.calls n) [] in
      (ap (λ (r : ℕ × (List ℕ × List ℕ)). answered (numbered r.0)) e, call_left (Heard v) [] s ∙ ap (λ (r : ℕ × (List ℕ × List ℕ)). r.1.0) e)
  alike lost s z =
      let e = bookless s.1.book Lost (s.1.calls n) [] refl in
      (ap (λ (r : ℕ × (List ℕ × List ℕ)). answered (numbered r.0)) e, call_left (Of Lost) [] s ∙ ap (λ (r : ℕ × (List ℕ × List ℕ)). r.1.0) e)
  alike (voice reached x) s z =
      let e = bookless s.1.book (Voice x.mask x.sent) (s.1.calls n) x.sent refl in (
        ap
            (λ (r : ℕ × (List ℕ × List ℕ)).
            arrived
            (record { rate = rate; reached = reached; mask = x.mask; spoken = x.spoken; came = x.sent; answer = numbered r.0; frame = r.1.1 })) e,
        call_left (Of (Voice x.mask x.sent)) x.sent s ∙ ap (λ (r : ℕ × (List ℕ × List ℕ)). r.1.0) e,
      )

  same_log : (s : ℕ × Host) (ns : List Notice) → Each Later ns
      → events (host_in m n between h₀) b c i rate s ns ≡ events (octets_in m) b c i rate (s.1.calls n) ns
  unfolding Alike
  same_log s [] z = refl
  same_log s (nt ∷ ns) z =
      let a = alike nt s z.0 in
      ap₂ (λ (e : Event) (es : List Event). e ∷ es) a.0
      (same_log (told_host nt s).1 ns z.1 ∙ ap (λ (x : List ℕ). events (octets_in m) b c i rate x ns) a.1)

  -- the opening, or joining, reads the host's own book
  module _ (own : h₀.book ≡ b) (zero-call : h₀.calls n ≡ replicate call.call_octets 0) where
    in-first : (a : Asked) (l : List ℕ) → on_call h₀.book a (h₀.calls n) l ≡ on_call b a (replicate call.call_octets 0) l
    in-first a l = ap₂ (λ (d x : List ℕ). on_call d a x l) own zero-call

    entered : (a : Asked) (ns : List Notice) → Each Later ns
        → events (host_in m n between h₀) b c i rate (call_on n between a [] (0, h₀)).1.0 ns
        ≡ events (octets_in m) b c i rate (on_call b a (replicate call.call_octets 0) []).1.0 ns
    entered a ns z =
        same_log (call_on n between a [] (0, h₀)).1.0 ns z
        ∙ ap (λ (x : List ℕ). events (octets_in m) b c i rate x ns)
        (call_left a [] (0, h₀) ∙ ap (λ (r : ℕ × (List ℕ × List ℕ)). r.1.0) (in-first a []))

    first-answer : (a : Asked) → (call_on n between a [] (0, h₀)).0 ≡ numbered (on_call b a (replicate call.call_octets 0) []).0
    unfolding host_step
    first-answer a = ap (λ (r : ℕ × (List ℕ × List ℕ)). numbered r.0) (in-first a [])

    opened-log : (v : List ℕ) (ns : List Notice) → Each Later ns
        → events (host_in m n between h₀) b c i rate (0, h₀) (hear v ∷ ns) ≡ events (octets_in m) b c i rate (octets_in m).idle (hear v ∷ ns)
    opened-log v ns z =
        ap₂ (λ (r : Answer) (es : List Event). answered r ∷ es) (first-answer (Of (Open c i rate m v))) (entered (Of (Open c i rate m v)) ns z)

    joined-log : (ns : List Notice) → Each Later ns
        → events (host_in m n between h₀) b c i rate (0, h₀) (join ∷ ns) ≡ events (octets_in m) b c i rate (octets_in m).idle (join ∷ ns)
    joined-log ns z = ap₂ (λ (r : Answer) (es : List Event). answered r ∷ es) (first-answer (Of (Join c i rate m))) (entered (Of (Join c i rate m)) ns z)

    opening-log : (rides : Bool) (places : ℕ → ℕ) (xs : List Session)
        → events (host_in m n between h₀) b c i rate (0, h₀) (opening_heard c rides places xs)
        ≡ events (octets_in m) b c i rate (octets_in m).idle (opening_heard c rides places xs)
    opening-log rides places [] = refl
    opening-log rides places (x ∷ xs) = opened-log x.vector (first_heard c rides true 0 places (x ∷ xs)) (first-later c rides true 0 places (x ∷ xs))

-- ---- any host

module _ (m n : ℕ) (between : ℕ → Calls) (beside : (k : ℕ) → Each (λ f. Beside n f.0) (between k)) (h : Host)
    (z : h.calls n ≡ replicate call.call_octets 0) (t : Talk) (i : ℕ) (rides : Bool) (places : ℕ → ℕ) where
  whole-log : (e : WayIn)
      → heard_log rides (host_in m n between h) h.book i t e places ≡ heard_log rides (octets_in m) h.book i t e places
  whole-log opening = opening-log m n between beside h h.book t.cipher i t.rate refl z rides places t.sessions
  whole-log (joining k) =
      joined-log m n between beside h h.book t.cipher i t.rate refl z (first_heard t.cipher rides false superframe_slots places (drop k t.sessions))
      (first-later t.cipher rides false superframe_slots places (drop k t.sessions))

pub host_meets_3 : HostDemand3
host_meets_3 =
    record {
      recorder =
          λ h n z between beside t k i key e few places any.
          subst (Each Right) (sym (whole-log strict n between beside h z t i false places e)) (octets_meet_heard t k h.book i key e few places any);
      handset =
          λ h n z between beside t k i key e link few places any.
          subst (Each Right) (sym (whole-log by_default n between beside h z t i true places e))
          (octets_meet_heard_default t k e link few h.book i key places any);
    }
