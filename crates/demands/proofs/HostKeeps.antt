-- A host's octets hold exactly what the operations leave and what was heard and not yet announced: nothing else is in them, and nothing else is announced.
use mathlib.Core.Path.{◌≡◌, refl, sym, ap, ap₂, subst, ◌∙◌}
use mathlib.Core.Bool.{Bool, true, false}
use mathlib.Core.List.{List, [], ◌∷◌, ◌++◌}
use Prim.Native.Nat.{ℕ}
use lib.Dec.{eqb, ltb}
use Rattle.octets.specs.Tests.{pick}
use Rattle.answers.specs.declared.Answer.{Answer}
use Rattle.answers.specs.Numbers.{number_of}
use Rattle.answers.specs.Outcomes.{Refusals, outcome}
use Rattle.calls.specs.declared.call.Call.{Call}
use Rattle.calls.specs.Call.{standing}
use Rattle.calls.specs.Vector.{awaits, announce_of}
use Rattle.hearing.specs.declared.Hearing.{Hearing}
use Rattle.hearing.specs.Hearing.{one_kept, under_way, call_of, alone, keeping}
use Rattle.hearing.specs.Heard.{handed, handed_on, carried, heard_refusals, heard_of}
use Rattle.held.specs.Call as call
use Rattle.held.proofs.CallLaws.{none_read}
use Rattle.nxdn.specs.Operations.{CallOperation, Announce, call_step}
use Rattle.nxdn.specs.Interface.{Asked, Of, Heard, asked_step, fits, on_call, Next, Show}
use Rattle.demands.specs.Device.{Device, Operation, OfCall, with_number, step, device_after}
use Rattle.demands.specs.Host.{Host, Function, Keys, Screen, OnCall, LookAt, OnPacket, host_step, Calls, host_after, operations_of, Holds, Keeping, stays_kept, heard_by, kept_then, starts_by, comes_by, made_by, hearing_of}
use Rattle.demands.proofs.HostSteps.{kept, comes_to, read_operations}
use Rattle.demands.proofs.HostLaws.{asked-left, asked_unfit, RightHost, always_kept, octets_hold}

-- two outcomes of the same refusals
together : {S T : Type 0} (P : S → T → Type 0) (x : S) (y : T) (rs : Refusals) (u : S) (v : T) → P x y → P u v → P (outcome x rs u).1 (outcome y rs v).1
together P x y [] u v p q = q
together {S} {T} P x y (r ∷ rs) u v p q = go r.0 (together P x y rs u v p q)
  where
    go : (t : Bool) → P (outcome x rs u).1 (outcome y rs v).1 → P (pick t (r.1, x) (outcome x rs u)).1 (pick t (r.1, y) (outcome y rs v)).1
    go true e = p
    go false e = e

-- a call that keeps these
abbrev Shaped : List (List ℕ) → Hearing → Type 0
Shaped ws h = h ≡ hearing_of h.call ws

shaped : (c : Call) (ws : List (List ℕ)) → Shaped ws (hearing_of c ws)
shaped c [] = refl
shaped c (w ∷ ws) = refl

its_call : (c : Call) (ws : List (List ℕ)) → (hearing_of c ws).call ≡ c
its_call c [] = refl
its_call c (w ∷ ws) = refl

-- ---- one function on a call

handed_shaped : (w : List ℕ) (more : List (List ℕ)) (c : Call) → Shaped (pick (under_way (standing c)) (w ∷ more) []) (handed one_kept w c)
unfolding handed
handed_shaped w more c = go (under_way (standing c))
  where
    go : (u : Bool) → Shaped (pick u (w ∷ more) []) (pick u (keeping c w) (alone (announce_of c w).1))
    go true = refl
    go false = refl

none_shaped : (u : Bool) (w : List ℕ) (c : Call) → Shaped (pick u [] []) (alone c)
none_shaped true w c = refl
none_shaped false w c = refl

on_shaped : (c : Call) (ws : List (List ℕ)) (r : Answer × (Call × List ℕ)) → Shaped (stays_kept ws r) (handed_on (hearing_of c ws) r.0 r.1.0)
unfolding handed_on handed
on_shaped c [] r = go (ltb 1 (number_of r.0))
  where
    go : (t : Bool) → Shaped (pick t [] (pick (under_way (standing r.1.0)) [] [])) (pick t (alone c) (alone r.1.0))
    go true = refl
    go false = none_shaped (under_way (standing r.1.0)) [] r.1.0
on_shaped c (w ∷ ws) r = go (ltb 1 (number_of r.0))
  where
    go : (t : Bool) → Shaped (pick t (w ∷ ws) (pick (under_way (standing r.1.0)) (w ∷ ws) [])) (pick t (keeping c w) (handed one_kept w r.1.0))
    go true = refl
    go false = handed_shaped w ws r.1.0

-- what it keeps then
abbrev kept_on : List ℕ → Call → List (List ℕ) → Asked → List (List ℕ)
kept_on b c ws (Of o) = stays_kept ws (call_step b c o)
kept_on b c ws (Heard w) = heard_by c w ws

asked_shaped : (b : List ℕ) (a : Asked) (h : Hearing) (ws : List (List ℕ)) → call_of h ≡ h.call → Shaped ws h
    → Shaped (kept_on b (call_of h) ws a) (asked_step b a h).1.0
unfolding carried heard_of
asked_shaped b (Of o) h ws q s =
    subst (λ (g : Hearing). Shaped (stays_kept ws (call_step b (call_of h) o)) (handed_on g (call_step b (call_of h) o).0 (call_step b (call_of h) o).1.0)) (sym s)
    (on_shaped h.call ws (call_step b (call_of h) o))
asked_shaped b (Heard w) h ws q s =
    together (λ (g : Hearing) (vs : List (List ℕ)). Shaped vs g) h ws (heard_refusals (standing (call_of h)) w) (handed one_kept w h.call)
    (pick (under_way (standing (call_of h))) (w ∷ []) []) s
    (subst (λ (c : Call). Shaped (pick (under_way (standing c)) (w ∷ []) []) (handed one_kept w h.call)) (sym q) (handed_shaped w [] h.call))

-- the same announcements
starts_same : (b : List ℕ) (n : ℕ) (o : CallOperation) (h : Hearing) (ws : List (List ℕ)) → Shaped ws h
    → kept b n o h ≡ starts_by n ws (call_step b (call_of h) o)
starts_same b n o h [] s = rw (ap (λ (x : Hearing). x.kept) s)
starts_same b n o h (w ∷ ws) s = rw (ap (λ (x : Hearing). x.kept) s, ap (λ (x : Hearing). x.next) s)

-- of one number and of all others
paired : {A B : Type 0} (P : A → B → Type 0) (n : ℕ) (x : A) (y : B) (f : ℕ → A) (g : ℕ → B) → P x y → ((m : ℕ) → P (f m) (g m)) → (m : ℕ)
    → P (with_number n x f m) (with_number n y g m)
paired {A} {B} P n x y f g own others m = go (eqb m n)
  where
    go : (t : Bool) → P (pick t x (f m)) (pick t y (g m))
    go true = own
    go false = others m

-- ---- a host

-- what its octets hold, and what its calls keep
record Keeps (h : Host) (d : Device) (k : Keeping) : Type 0 where
  holds : Holds h d
  keeps : (n : ℕ) → Shaped (k n) (call.hearing_in (h.calls n))

module _ (h : Host) (d : Device) (k : Keeping) (i : RightHost h) (p : Keeps h d k) (l : List ℕ) where
  abbrev its : ℕ → Hearing
  its n = call.hearing_in (h.calls n)

  comes-same : (f : Function) → comes_to h f l ≡ comes_by d k f l
  comes-same (Keys o) = refl
  comes-same (Screen o) = refl
  comes-same (OnCall n (Of o)) =
      ap (λ (os : List Operation). pick (fits (Of o) l) (os ++ (OfCall n o ∷ [])) [])
      (starts_same h.book n o (its n) (k n) (p.keeps n)
      ∙ ap₂ (λ (b : List ℕ) (c : Call). starts_by n (k n) (call_step b c o)) p.holds.book (p.holds.calls n))
  comes-same (OnCall n (Heard w)) = ap (λ (c : Call). pick (awaits (standing c)) (OfCall n (Announce w) ∷ []) []) (p.holds.calls n)
  comes-same (LookAt n Next) = refl
  comes-same (LookAt n Show) = refl
  comes-same (OnPacket n o) = refl

  -- the call that it is on
  own-keeps : (n : ℕ) (a : Asked) → fits a l ≡ true
      → Shaped (kept_on d.book (d.calls n) (k n) a) (call.hearing_in (on_call h.book a (h.calls n) l).1.0)
  own-keeps n a e =
      subst (λ (b : List ℕ). Shaped (kept_on b (d.calls n) (k n) a) (call.hearing_in (on_call h.book a (h.calls n) l).1.0)) p.holds.book
      (subst (λ (c : Call). Shaped (kept_on h.book c (k n) a) (call.hearing_in (on_call h.book a (h.calls n) l).1.0)) (p.holds.calls n)
      (subst (Shaped (kept_on h.book (call_of (its n)) (k n) a)) (sym (asked-left h.book a (h.calls n) l (i.calls n) e).1)
      (asked_shaped h.book a (its n) (k n) (i.calls n).whole.right (p.keeps n))))

  of-keeps : (n : ℕ) (o : CallOperation) (t : Bool) → fits (Of o) l ≡ t
      → Shaped (pick t (stays_kept (k n) (call_step d.book (d.calls n) o)) (k n)) (call.hearing_in (on_call h.book (Of o) (h.calls n) l).1.0)
  of-keeps n o true e = own-keeps n (Of o) e
  of-keeps n o false e = subst (λ (x : List ℕ). Shaped (k n) (call.hearing_in x)) (sym (asked_unfit h.book (Of o) (h.calls n) l (i.calls n) e)) (p.keeps n)

  abbrev Reads : List (List ℕ) → List ℕ → Type 0
  Reads ws x = Shaped ws (call.hearing_in x)

  then_keeps : (f : Function) (m : ℕ) → Shaped (kept_then d k f l m) (call.hearing_in ((host_step h f l).1.0.calls m))
  unfolding host_step
  then_keeps (Keys o) m = p.keeps m
  then_keeps (Screen o) m = p.keeps m
  then_keeps (OnCall n (Of o)) m = paired Reads n _ _ k h.calls (of-keeps n o (fits (Of o) l) refl) p.keeps m
  then_keeps (OnCall n (Heard w)) m = paired Reads n _ _ k h.calls (own-keeps n (Heard w) refl) p.keeps m
  then_keeps (LookAt n a) m = p.keeps m
  then_keeps (OnPacket n o) m = p.keeps m

-- ---- any history from zeros

-- the operations that it comes to are those that the device and what was heard say, and its calls keep what was heard and not yet announced
made_keeps : (fs : Calls) → (read_operations fs ≡ (made_by fs).0) × ((n : ℕ) → Shaped ((made_by fs).1 n) (call.hearing_in ((host_after fs).calls n)))
unfolding read_operations made_by host_after
made_keeps [] = (refl, λ n. subst (Shaped []) (sym none_read) refl)
made_keeps (f ∷ fs) =
    let m = made_keeps fs in
    let d = device_after step (made_by fs).0 in
    let p : Keeps (host_after fs) d (made_by fs).1 =
    record { holds = subst (λ (os : List Operation). Holds (host_after fs) (device_after step os)) m.0 (octets_hold fs); keeps = m.1 } in (
      ap₂ (λ (os ps : List Operation). os ++ ps) (comes-same (host_after fs) d (made_by fs).1 (always_kept fs) p f.1 f.0) m.0,
      then_keeps (host_after fs) d (made_by fs).1 (always_kept fs) p f.1 f.0,
    )

same_operations : (fs : Calls) → read_operations fs ≡ operations_of fs
same_operations fs = (made_keeps fs).0

-- a host's octets hold the device after the operations that its calls come to
pub host_holds : (fs : Calls) → Holds (host_after fs) (device_after step (operations_of fs))
host_holds fs = subst (λ (os : List Operation). Holds (host_after fs) (device_after step os)) (same_operations fs) (octets_hold fs)

-- so a call's octets hold the device's call and what is kept by it, and nothing else
pub host_keeps : (fs : Calls) (n : ℕ) → call.hearing_in ((host_after fs).calls n) ≡ hearing_of ((device_after step (operations_of fs)).calls n) ((made_by fs).1 n)
host_keeps fs n =
    let h = call.hearing_in ((host_after fs).calls n) in
    (made_keeps fs).1 n
    ∙ ap (λ (c : Call). hearing_of c ((made_by fs).1 n))
    (sym ((always_kept fs).calls n).whole.right ∙ (host_holds fs).calls n)
