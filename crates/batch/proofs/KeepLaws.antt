-- A step that is refused changes nothing, and so do steps that are all refused.
use mathlib.Core.Path.{◌≡◌, refl, ap, ap₂, ◌∙◌}
use mathlib.Core.Bool.{Bool, true, false}
use mathlib.Core.List.{List, [], ◌∷◌, ◌++◌}
use Prim.Native.Nat.{ℕ, zero, suc, ◌≤◌}
use lib.Dec.{eqb}
use lib.ListN.{length, get_or, take, drop, take-append-drop}
use lib.Seq.{drop-drop}
use Rattle.octets.specs.Tests.{pick}
use Rattle.octets.specs.Lists.{replaced, Each}
use Rattle.answers.proofs.OutcomeLaws.{Refusal}
use Rattle.sizes.specs.Frame.{frame_octets, width}
use Rattle.calls.specs.declared.call.Call.{Call}
use Rattle.voice.specs.Slot.{lost_of, voice_of}
use Rattle.calls.specs.Vector.{announce_of}
use Rattle.voice.proofs.Settled.{voice_keeps}
use Rattle.hearing.specs.declared.Hearing.{Hearing}
use Rattle.hearing.specs.Hearing.{call_of}
use Rattle.hearing.specs.Heard.{carried}
use Rattle.hearing.proofs.HeardLaws.{carried_keeps, heard_keeps}
use Rattle.batch.specs.Batch.{Step, Voice, Lost, Announce, Heard, Unknown, step_octets, lent_at, frame_in, slot_in, vector_in, step_in}
use Rattle.batch.specs.Batch.{framed, beside, taken, recorded, batch_of}

-- the front of a list and what is behind it
front_and-rest : (n : ℕ) (xs : List ℕ) → take n xs ++ drop (length (take n xs)) xs ≡ xs
front_and-rest zero xs = refl
front_and-rest (suc n) [] = refl
front_and-rest (suc n) (x ∷ xs) = ap (λ (l : List ℕ). x ∷ l) (front_and-rest n xs)

-- a part put back as it was
put_back : (o : List ℕ) (a n : ℕ) → replaced o a (length (take n (drop a o))) (take n (drop a o)) ≡ o
unfolding replaced
put_back o a n = rw (← drop-drop (length (take n (drop a o))) a o, front_and-rest n (drop a o), take-append-drop a o)

module _ (h : Hearing) (o : List ℕ) where
  slot-keeps : (mask rate : ℕ) → Refusal (taken (Voice mask (frame_in rate o)) h o).0 → (taken (Voice mask (frame_in rate o)) h o).1 ≡ (h, o)
  unfolding taken carried
  slot-keeps mask rate r =
      let frame : List ℕ = frame_in rate o in
      let same : (voice_of (call_of h) mask frame).1.1 ≡ frame = ap (λ (d : Call × List ℕ). d.1) (voice_keeps (call_of h) mask frame r) in
      ap₂ (λ (s : Hearing) (l : List ℕ). (s, l)) (carried_keeps (λ c. framed o (voice_of c mask frame)) h r)
      (ap (λ (f : List ℕ). replaced o lent_at (length f) f) same ∙ put_back o lent_at (frame_octets (width rate)))

  lost_keeps : Refusal (taken Lost h o).0 → (taken Lost h o).1 ≡ (h, o)
  unfolding taken carried
  lost_keeps r = ap (λ (s : Hearing). (s, o)) (carried_keeps (λ c. beside o (lost_of c)) h r)

  announce_keeps : (w : List ℕ) → Refusal (taken (Announce w) h o).0 → (taken (Announce w) h o).1 ≡ (h, o)
  unfolding taken carried
  announce_keeps w r = ap (λ (s : Hearing). (s, o)) (carried_keeps (λ c. beside o (announce_of c w)) h r)

  hearing-keeps : (w : List ℕ) → Refusal (taken (Heard w) h o).0 → (taken (Heard w) h o).1 ≡ (h, o)
  unfolding taken
  hearing-keeps w r = ap (λ (s : Hearing). (s, o)) (heard_keeps h w r)

  none-keeps : (taken Unknown h o).1 ≡ (h, o)
  unfolding taken
  none-keeps = refl

  pub recorded_keeps : Refusal (recorded h o).0 → (recorded h o).1 ≡ (h, o)
  unfolding step_in
  recorded_keeps = go (eqb (get_or o 0 0) 1) (eqb (get_or o 0 0) 2) (eqb (get_or o 0 0) 3) (eqb (get_or o 0 0) 4)
    where
      one : Bool → Bool → Bool → Bool → Step
      one a b c d =
          pick a (slot_in h.call.terms.rate o) (pick b Lost (pick c (Announce (vector_in o)) (pick d (Heard (vector_in o)) Unknown)))

      go : (a b c d : Bool) → Refusal (taken (one a b c d) h o).0 → (taken (one a b c d) h o).1 ≡ (h, o)
      go true b c d r = slot-keeps (get_or o 1 0) h.call.terms.rate r
      go false true c d r = lost_keeps r
      go false false true d r = announce_keeps (vector_in o) r
      go false false false true r = hearing-keeps (vector_in o) r
      go false false false false r = none-keeps

-- ---- so many

-- where every answer is a refusal, the call and the octets of the steps are as they were
pub batch_keeps : (n : ℕ) (h : Hearing) (steps : List ℕ) → Each (λ a. 2 ≤ a) (batch_of n h steps).0 → (batch_of n h steps).1 ≡ (h, steps)
unfolding batch_of
batch_keeps zero h steps e = refl
batch_keeps (suc n) h steps e =
    let o : List ℕ = take step_octets steps in
    let one : (recorded h o).1 ≡ (h, o) = recorded_keeps h o e.0 in
    let same : (recorded h o).1.0 ≡ h = ap (λ (r : Hearing × List ℕ). r.0) one in
    let rest : (batch_of n (recorded h o).1.0 (drop step_octets steps)).1 ≡ ((recorded h o).1.0, drop step_octets steps) =
    batch_keeps n (recorded h o).1.0 (drop step_octets steps) e.1 in
    ap₂ (λ (s : Hearing) (l : List ℕ). (s, l)) (ap (λ (r : Hearing × List ℕ). r.0) rest ∙ same)
    (ap₂ (λ (x y : List ℕ). x ++ y) (ap (λ (r : Hearing × List ℕ). r.1) one) (ap (λ (r : Hearing × List ℕ). r.1) rest) ∙ take-append-drop step_octets steps)
