-- What the code of each step did is what its definition says, the session's octets are kept from step to step, and so many steps are done one after the other.
use mathlib.Core.Path.{◌≡◌, refl, sym, ap, ap₂, ◌∙◌}
use mathlib.Core.Bool.{Bool, true, false, true≢false}
use Rattle.std.specs.Prelude.{Result, Ok, Err}
use Rattle.std.specs.Int.{from_bool}
use mathlib.Core.List.{List, [], ◌∷◌, ◌++◌, append-nil, append_assoc}
use Prim.Native.Nat.{ℕ, suc, ◌+◌, ◌-◌, ◌*◌, ◌≤◌, ◌<◌}
use native.Mathlib.Numerals.{add-one}
use native.Mathlib.Decide.{ℕ_discrete}
use native.Mathlib.Omega.{arith}
use lib.ListN.{length, get_or, take, drop, set, take-append-drop, length-set, length-append, length-drop}
use lib.Seq.{take-suc-set, take_all, take_at, drop_at, length-take-le, drop-drop}
use lib.Dec.{eqb, leb}
use borrow.Author.Tests.{ne_eqb, eqb-true, eqb-false, le-leb, lt-leb, le-ltb, leb-true, leb-false}
use borrow.Rule.Slice.PartMut.{put_mid}
use Rattle.octets.specs.Lists.{replaced}
use Rattle.octets.proofs.Parts.{put-replaced, replaced-length}
use Rattle.answers.specs.declared.Answer.{Answer}
use Rattle.answers.specs.declared.Answer.TheVariants.{Done, OutOfRange}
use Rattle.octets.specs.Tests.{pick}
use Rattle.answers.specs.Numbers.{number_of, is_done}
use Rattle.answers.specs.Outcomes.{Refusals, outcome, result_of}
use Rattle.answers.proofs.OutcomeLaws.{Refusal, among_not_done, from_two, among_refuses, by_refusals}
use Rattle.answers.proofs.ResultLaws.{is_returned, is_refused}
use Rattle.sizes.specs.Frame.{frame_octets, width}
use Rattle.calls.specs.declared.call.Call.{Call}
use Rattle.calls.specs.Call.{standing, written}
use Rattle.calls.specs.Counts.{plus, lost_words}
use Rattle.voice.specs.declared.slot.Slot.{Slot}
use Rattle.voice.specs.Slot.{slot_on, lost_refusals, lost_of, voice_of}
use Rattle.voice.specs.Told.{slot_of}
use Rattle.voice.proofs.ToldLaws.{slot_told, slot_refused_by}
use Rattle.calls.specs.Vector.{with_vector, announce_refusals, announce_of}
use Rattle.calls.proofs.CallLaws.{good_by}
use Rattle.hearing.specs.declared.Hearing.{Hearing}
use Rattle.hearing.specs.Hearing.{one_kept, under_way, kept_right, call_of, keeping}
use Rattle.hearing.specs.Heard.{handed, handed_on, carried, heard_refusals, heard_of}
use Rattle.hearing.proofs.HearingLaws.{good_of, good_call_of, alone_of}
use Rattle.hearing.proofs.HeardLaws.{handed-later, handed_now}
use Rattle.sessions.specs.Session.{Cached}
use Rattle.batch.specs.declared.Recorded.{Recorded}
use Rattle.batch.specs.Told.{recorded_of}
use Rattle.batch.specs.Batch.{Voice, Lost, Announce, Heard, step_octets, lent_at, frame_in, slot_in, vector_in, step_in}
use Rattle.batch.specs.Batch.{beside, taken, recorded, batch_of}
use Rattle.batch.proofs.KeepLaws.{recorded_keeps}

-- ---- the session's octets

keeping_of : (c : Call) (w : List ℕ) → under_way (standing c) ≡ true → call_of (keeping c w) ≡ c
unfolding call_of kept_right
keeping_of c w u = rw u

-- nothing holds what is not said to be made
cached_as : {made goes : Bool} {c d : Call} {session : List ℕ} → Cached made c session → (goes ≡ true → (made ≡ true) × (d ≡ c)) → Cached goes d session
cached_as h g = record { holds = λ t. rw (g t).1 (h.holds (g t).0) }

module _ (h : Hearing) (c : Call) where
  -- the call that it is, after an operation that handed nothing on
  call-after : (handed h.kept h.next c).kept ≡ h.kept → call_of (handed h.kept h.next c) ≡ c
  unfolding handed
  call-after k = go (ℕ_discrete h.kept one_kept)
    where
      later : (u : Bool) → under_way (standing c) ≡ u → h.kept ≡ one_kept → call_of (handed h.kept h.next c) ≡ c
      later true u e = ap (λ (n : ℕ). call_of (handed n h.next c)) e ∙ ap call_of (handed-later h.next c u) ∙ keeping_of c h.next u
      later false u e =
          let z : 0 ≡ one_kept = sym (ap (λ (s : Hearing). s.kept) (handed_now h.next c u)) ∙ ap (λ (n : ℕ). (handed n h.next c).kept) (sym e) ∙ k ∙ e in
          absurd (omega arith)

      go : Dec (h.kept ≡ one_kept) → call_of (handed h.kept h.next c) ≡ c
      go (no n) = rw (ne_eqb h.kept one_kept n) (alone_of c)
      go (yes e) = later (under_way (standing c)) refl e

  -- as the code says it
  pub kept_cached : {made goes : Bool} {after : Hearing} {session : List ℕ} → Cached made c session → after ≡ handed h.kept h.next c
      → (goes ≡ true → (made ≡ true) × (after.kept ≡ h.kept)) → Cached goes (call_of after) session
  kept_cached m e g =
      cached_as m (λ t. ((g t).0, ap call_of e ∙ call-after (sym (ap (λ (s : Hearing). s.kept) e) ∙ (g t).1)))

module _ (h : Hearing) (w : List ℕ) where
  -- a vector that is heard, and kept
  heard-later : {after : Hearing} → heard_of h w ≡ (Done, after) → after.kept ≡ one_kept → call_of after ≡ call_of h
  unfolding heard_of heard_refusals
  heard-later {after} =
      by_refusals (λ o. o ≡ (Done, after) → after.kept ≡ one_kept → call_of after ≡ call_of h) h (heard_refusals (standing (call_of h)) w)
      (Done, handed one_kept w h.call)
      (λ a m q. absurd (true≢false (sym (ap (λ (o : Answer × Hearing). is_done o.0) q) ∙ among_not_done a (heard_refusals (standing (call_of h)) w) refl m)))
      (λ n q k.
      let its : call_of h ≡ h.call = good_call_of h (good_of h (good_by (call_of h) n.1.0)) in
      let is : after ≡ handed one_kept w h.call = sym (ap (λ (o : Answer × Hearing). o.1) q) in
      ap call_of is ∙ go its (under_way (standing h.call)) refl (sym (ap (λ (s : Hearing). s.kept) is) ∙ k))
    where
      go : call_of h ≡ h.call → (u : Bool) → under_way (standing h.call) ≡ u → (handed one_kept w h.call).kept ≡ one_kept
          → call_of (handed one_kept w h.call) ≡ call_of h
      go its true u k = ap call_of (handed-later w h.call u) ∙ keeping_of h.call w u ∙ sym its
      go its false u k =
          let z : 0 ≡ one_kept = sym (ap (λ (s : Hearing). s.kept) (handed_now w h.call u)) ∙ k in
          absurd (omega arith)

  -- so what holds the call's session holds it still, where it stays made
  pub heard_cached : {made goes : Bool} {session : List ℕ} {r : Result Hearing Answer} {after : Hearing} → Cached made (call_of h) session
      → r ≡ result_of (heard_of h w) → r ≡ Ok after → (goes ≡ true → (made ≡ true) × (after.kept ≡ one_kept)) → Cached goes (call_of after) session
  heard_cached m e p g = cached_as m (λ t. ((g t).0, heard-later (is_returned (heard_of h w) e p) (g t).1))

-- ---- what the code of each kind did

-- of an outcome, what is not done is refused
undone_refuses : {S : Type 0} (before after : S) (rs : Refusals) → from_two rs ≡ true → is_done (outcome before rs after).0 ≡ false
    → Refusal (outcome before rs after).0
undone_refuses before after rs t =
    by_refusals (λ o. is_done o.0 ≡ false → Refusal o.0) before rs (Done, after) (λ a m d. among_refuses a rs t m) (λ n d. absurd (true≢false d))

lent_long : (n : ℕ) → lent_at + n - lent_at ≡ n
lent_long n = omega arith

put_frame : (o f : List ℕ) (n : ℕ) → lent_at + n ≤ length o → length f ≡ length (take (lent_at + n - lent_at) (drop lent_at o))
    → put_mid lent_at (lent_at + n - lent_at) o f ≡ replaced o lent_at (length f) f
put_frame o f n fits l =
    let size : length f ≡ n = l ∙ rw (lent_long n) (length-take-le n (drop lent_at o) (simp length-drop (omega arith))) in
    put-replaced o f lent_at n ∙ ap (λ (k : ℕ). replaced o lent_at k f) (sym size)

module _ (h : Hearing) where
  -- what the Result of a step says of an operation that was done, or held, and of one that was refused
  taken-told : (a : Answer) (d : Call) (x : List ℕ) → number_of a < 2
      → (Ok (record { held = eqb (number_of a) 1; hearing = handed h.kept h.next d }), x) ≡ recorded_of (a, (handed_on h a d, x))
  unfolding handed_on
  taken-told a d x l = rw (le-leb (number_of a) 1 (omega arith), le-ltb 1 (number_of a) (omega arith)) refl

  refused-told : (a : Answer) (s : Hearing) (x : List ℕ) → Refusal a → (Err a, x) ≡ recorded_of (a, (s, x))
  refused-told a s x r = rw (lt-leb (number_of a) 1 (omega (arith, r))) refl

  module _ (o : List ℕ) (f : Call → Answer × Call) (refuses : is_done (f (call_of h)).0 ≡ false → Refusal (f (call_of h)).0)
      {c : Call} (its : c ≡ call_of h) {r : Result Call Answer} (e : r ≡ result_of (f c)) where
    its-result : r ≡ result_of (f (call_of h))
    its-result = e ∙ ap (λ (x : Call). result_of (f x)) its

    -- an operation on the call alone, as the code does it: done, and what is kept is handed on; or refused
    step-done : {d : Call} {s : Hearing} → r ≡ Ok d → s ≡ handed h.kept h.next d
        → (Ok (record { held = false; hearing = s }), o) ≡ recorded_of (carried (λ x. beside o (f x)) h)
    unfolding carried
    step-done {d} p q = rw (q, is_returned (f (call_of h)) its-result p) (taken-told Done d o (omega arith))

    step-refused : {a : Answer} → r ≡ Err a → (Err a, o) ≡ recorded_of (carried (λ x. beside o (f x)) h)
    unfolding carried
    step-refused {a} p =
        let n = is_refused (f (call_of h)) its-result p in
        ap (λ (b : Answer). (Err b, o)) (sym n.0) ∙ refused-told _ _ o (refuses (ap is_done n.0 ∙ n.1))

  -- lost, announced
  module _ (o : List ℕ) {c : Call} (its : c ≡ call_of h) {r : Result Call Answer} where
    module _ (e : r ≡ result_of (lost_of c)) where
      lost_refuses : is_done (lost_of (call_of h)).0 ≡ false → Refusal (lost_of (call_of h)).0
      unfolding lost_of lost_refusals
      lost_refuses = undone_refuses (call_of h) (written (plus (call_of h).counts lost_words) (slot_on (standing (call_of h)))) (lost_refusals (call_of h)) refl

      pub lost-done : {d : Call} {s : Hearing} → r ≡ Ok d → s ≡ handed h.kept h.next d → (Ok (record { held = false; hearing = s }), o) ≡ recorded_of (taken Lost h o)
      unfolding taken
      lost-done = step-done o lost_of lost_refuses its e

      pub lost-refused : {a : Answer} → r ≡ Err a → (Err a, o) ≡ recorded_of (taken Lost h o)
      unfolding taken
      lost-refused = step-refused o lost_of lost_refuses its e

    module _ (w : List ℕ) (e : r ≡ result_of (announce_of c w)) where
      announce_refuses : is_done (announce_of (call_of h) w).0 ≡ false → Refusal (announce_of (call_of h) w).0
      unfolding announce_of announce_refusals
      announce_refuses =
          undone_refuses (call_of h) (written (call_of h).counts (with_vector w (standing (call_of h)))) (announce_refusals (standing (call_of h)) w) refl

      pub announce_done : {d : Call} {s : Hearing} → r ≡ Ok d → s ≡ handed h.kept h.next d
          → (Ok (record { held = false; hearing = s }), o) ≡ recorded_of (taken (Announce w) h o)
      unfolding taken
      announce_done = step-done o (λ x. announce_of x w) announce_refuses its e

      pub announce_refused : {a : Answer} → r ≡ Err a → (Err a, o) ≡ recorded_of (taken (Announce w) h o)
      unfolding taken
      announce_refused = step-refused o (λ x. announce_of x w) announce_refuses its e

  -- heard
  module _ (w o : List ℕ) {r : Result Hearing Answer} (e : r ≡ result_of (heard_of h w)) where
    pub heard_done : {s : Hearing} → r ≡ Ok s → (Ok (record { held = false; hearing = s }), o) ≡ recorded_of (taken (Heard w) h o)
    unfolding taken
    heard_done p = rw (is_returned (heard_of h w) e p) refl

    heard_refuses : is_done (heard_of h w).0 ≡ false → Refusal (heard_of h w).0
    unfolding heard_of heard_refusals
    heard_refuses = undone_refuses h (handed one_kept w h.call) (heard_refusals (standing (call_of h)) w) refl

    pub heard_refused : {a : Answer} → r ≡ Err a → (Err a, o) ≡ recorded_of (taken (Heard w) h o)
    unfolding taken
    heard_refused {a} p =
        let n = is_refused (heard_of h w) e p in
        ap (λ (b : Answer). (Err b, o)) (sym n.0) ∙ refused-told _ _ o (heard_refuses (ap is_done n.0 ∙ n.1))

  -- a slot: its frame, lent and put back
  module _ (o : List ℕ) {c : Call} (its : c ≡ call_of h) (mask rate n : ℕ) (is : n ≡ frame_octets (width rate)) (fits : lent_at + n ≤ length o)
      {r : Result Slot Answer} {f : List ℕ} (e : (r, f) ≡ slot_of (voice_of c mask (take (lent_at + n - lent_at) (drop lent_at o))))
      (size : length f ≡ length (take (lent_at + n - lent_at) (drop lent_at o))) where
    abbrev v : Answer × (Call × List ℕ)
    v = voice_of (call_of h) mask (frame_in rate o)

    abbrev back : List ℕ
    back = put_mid lent_at (lent_at + n - lent_at) o f

    as-slot : (r, f) ≡ slot_of v
    as-slot = e ∙ ap₂ (λ (x : Call) (m : ℕ). slot_of (voice_of x mask (take m (drop lent_at o)))) its (lent_long n ∙ is)

    slot-result : r ≡ (slot_of v).0
    slot-result = ap (λ (x : Result Slot Answer × List ℕ). x.0) as-slot

    back-is : back ≡ replaced o lent_at (length v.1.1) v.1.1
    back-is = put_frame o f n fits size ∙ ap (λ (x : List ℕ). replaced o lent_at (length x) x) (ap (λ (x : Result Slot Answer × List ℕ). x.1) as-slot)

    pub voice_done : {t : Slot} {s : Hearing} → r ≡ Ok t → s ≡ handed h.kept h.next t.call
        → (Ok (record { held = t.held; hearing = s }), back) ≡ recorded_of (taken (Voice mask (frame_in rate o)) h o)
    unfolding taken carried
    voice_done p q =
        let t = slot_told v (sym slot-result ∙ p) in
        rw (q, t.1, t.2, back-is) (taken-told v.0 v.1.0 (replaced o lent_at (length v.1.1) v.1.1) t.0)

    pub voice_refused : {a : Answer} → r ≡ Err a → (Err a, back) ≡ recorded_of (taken (Voice mask (frame_in rate o)) h o)
    unfolding taken carried
    voice_refused p =
        let t = slot_refused_by v (sym slot-result ∙ p) in
        rw (← t.1, back-is) (refused-told v.0 (handed_on h v.0 v.1.0) (replaced o lent_at (length v.1.1) v.1.1) t.0)

-- ---- which kind it is

module _ (h : Hearing) (o : List ℕ) {r : Result Recorded Answer × List ℕ} where
  pub is_voice : get_or o 0 0 ≡ 1 → r ≡ recorded_of (taken (slot_in h.call.terms.rate o) h o) → r ≡ recorded_of (recorded h o)
  unfolding step_in
  is_voice k e = e ∙ sym (rw k)

  pub is_lost : get_or o 0 0 ≡ 2 → r ≡ recorded_of (taken Lost h o) → r ≡ recorded_of (recorded h o)
  unfolding step_in
  is_lost k e = e ∙ sym (rw k)

  pub is_announce : get_or o 0 0 ≡ 3 → r ≡ recorded_of (taken (Announce (vector_in o)) h o) → r ≡ recorded_of (recorded h o)
  unfolding step_in
  is_announce k e = e ∙ sym (rw k)

  pub is-heard : get_or o 0 0 ≡ 4 → r ≡ recorded_of (taken (Heard (vector_in o)) h o) → r ≡ recorded_of (recorded h o)
  unfolding step_in
  is-heard k e = e ∙ sym (rw k)

pub is_unknown : (h : Hearing) (o : List ℕ) → (get_or o 0 0 ≡ 1 → ⊥) → (get_or o 0 0 ≡ 2 → ⊥) → (get_or o 0 0 ≡ 3 → ⊥) → (get_or o 0 0 ≡ 4 → ⊥)
    → (Err OutOfRange, o) ≡ recorded_of (recorded h o)
unfolding step_in taken
is_unknown h o a b c d = sym (rw (ne_eqb (get_or o 0 0) 1 a, ne_eqb (get_or o 0 0) 2 b, ne_eqb (get_or o 0 0) 3 c, ne_eqb (get_or o 0 0) 4 d))

-- ---- what a caller learns

module _ (t : Answer × (Hearing × List ℕ)) {r : Result Recorded Answer} {x : List ℕ} (e : (r, x) ≡ recorded_of t) where
  left-is : x ≡ t.1.1
  left-is = ap (λ (p : Result Recorded Answer × List ℕ). p.1) e

  result-is : (recorded_of t).0 ≡ r
  result-is = sym (ap (λ (p : Result Recorded Answer × List ℕ). p.0) e)

  abbrev its : Recorded
  its = record { held = eqb (number_of t.0) 1; hearing = t.1.0 }

  -- it was done, or held
  pub told_done : {s : Recorded} → r ≡ Ok s → ((t.0, (s.hearing, x)) ≡ t) × (from_bool s.held ≡ number_of t.0)
  told_done {s} p = go (leb (number_of t.0) 1) refl (result-is ∙ p)
    where
      by-number : (b : Bool) → eqb (number_of t.0) 1 ≡ b → number_of t.0 ≤ 1 → from_bool b ≡ number_of t.0
      by-number true n l = sym (eqb-true _ _ n)
      by-number false n l = omega (arith, eqb-false _ _ n)

      go : (b : Bool) → leb (number_of t.0) 1 ≡ b → pick b (Ok its) (Err t.0) ≡ Ok s → ((t.0, (s.hearing, x)) ≡ t) × (from_bool s.held ≡ number_of t.0)
      go true l q =
          let is : s ≡ its = cc in
          let number : from_bool its.held ≡ number_of t.0 = by-number (eqb (number_of t.0) 1) refl (leb-true (number_of t.0) 1 l) in
          (ap₂ (λ (h : Hearing) (o : List ℕ). (t.0, (h, o))) (ap (λ (c : Recorded). c.hearing) is) left-is, rw is number)
      go false l q = let z : true ≡ false = cc in absurd (true≢false z)

  -- or refused
  pub told_refused : {a : Answer} → r ≡ Err a → ((a, (t.1.0, x)) ≡ t) × Refusal t.0 × (a ≡ t.0)
  told_refused {a} p = go (leb (number_of t.0) 1) refl (result-is ∙ p)
    where
      go : (b : Bool) → leb (number_of t.0) 1 ≡ b → pick b (Ok its) (Err t.0) ≡ Err a → ((a, (t.1.0, x)) ≡ t) × Refusal t.0 × (a ≡ t.0)
      go true l q = let z : true ≡ false = cc in absurd (true≢false z)
      go false l q =
          let is : a ≡ t.0 = cc in
          (ap₂ (λ (b : Answer) (o : List ℕ). (b, (t.1.0, o))) is left-is, omega (arith, leb-false (number_of t.0) 1 l), is)

-- a step that is refused leaves the call and its octets
pub step_refused : (h : Hearing) (o : List ℕ) {r : Result Recorded Answer} {x : List ℕ} {a : Answer} → (r, x) ≡ recorded_of (recorded h o) → r ≡ Err a
    → (a, (h, x)) ≡ recorded h o
step_refused h o {x = x} {a = a} e p =
    let t = told_refused (recorded h o) e p in
    ap (λ (s : Hearing). (a, (s, x))) (sym (ap (λ (k : Hearing × List ℕ). k.0) (recorded_keeps h o t.1))) ∙ t.0

-- ---- so many

-- what stands before what the rest comes to
abbrev pub behind : List ℕ → List ℕ → List ℕ × (Hearing × List ℕ) → List ℕ × (Hearing × List ℕ)
behind answers steps r = (answers ++ r.0, (r.1.0, steps ++ r.1.1))

-- after i of n steps, what is left comes to the whole
pub record Going (n : ℕ) (h₀ : Hearing) (steps₀ : List ℕ) (i : ℕ) (answers : List ℕ) (h : Hearing) (steps : List ℕ) : Type 0 where
  pub within : i ≤ n
  pub answered : length answers ≡ n
  pub long : length steps ≡ step_octets * n
  pub comes : behind (take i answers) (take (step_octets * i) steps) (batch_of (n - i) h (drop (step_octets * i) steps)) ≡ batch_of n h₀ steps₀

module _ (n : ℕ) (h₀ : Hearing) (steps₀ : List ℕ) where
  pub going_none : (answers : List ℕ) → length answers ≡ n → length steps₀ ≡ step_octets * n → Going n h₀ steps₀ 0 answers h₀ steps₀
  going_none answers l m =
      let none : n - 0 ≡ n = omega arith in
      record { within = omega arith; answered = l; long = m; comes = rw none }

  module _ {i : ℕ} {answers steps : List ℕ} {h : Hearing} (g : Going n h₀ steps₀ i answers h steps) where
    pub going_all : n ≤ i → (answers, (h, steps)) ≡ batch_of n h₀ steps₀
    unfolding batch_of
    going_all l =
        let e : n - i ≡ 0 = omega arith in
        let same : take i answers ++ [] ≡ answers = append-nil (take i answers) ∙ take_all i answers (omega (arith, g.answered)) in
        sym (ap₂ (λ (a o : List ℕ). (a, (h, o))) same (take-append-drop (step_octets * i) steps))
        ∙ rw e at g.comes

    -- a step more, its octets lent and put back
    module _ (more : i < n) {a : Answer} {after : Hearing} {o : List ℕ} (size : length o ≡ step_octets)
        (did : (a, (after, o)) ≡ recorded h (take (step_octets * i + step_octets - step_octets * i) (drop (step_octets * i) steps))) where
      abbrev at : ℕ
      at = step_octets * i

      on : List ℕ
      on = replaced steps at step_octets o

      fits : at + step_octets ≤ length steps
      fits = omega (arith, g.long)

      front : length (take at steps) ≡ at
      front = length-take-le at steps (omega (arith, fits))

      next : step_octets * (i + 1) ≡ at + step_octets
      next = omega arith

      taken-on : take (step_octets * (i + 1)) on ≡ take at steps ++ o
      unfolding on replaced
      taken-on =
          rw (next, ← append_assoc (take at steps) o (drop (at + step_octets) steps))
          (take_at (take at steps ++ o) (drop (at + step_octets) steps) (at + step_octets) (simp length-append (omega (arith, front, size))))

      left-on : drop (step_octets * (i + 1)) on ≡ drop step_octets (drop at steps)
      unfolding on replaced
      left-on =
          rw (next, ← append_assoc (take at steps) o (drop (at + step_octets) steps), drop-drop step_octets at steps)
          (drop_at (take at steps ++ o) (drop (at + step_octets) steps) (at + step_octets) (simp length-append (omega (arith, front, size))))

      answers-on : take (i + 1) (set answers i (number_of a)) ≡ take i answers ++ (number_of a ∷ [])
      answers-on = rw (add-one i) (take-suc-set answers i (number_of a) (omega (arith, g.answered)))

      rest : List ℕ × (Hearing × List ℕ)
      rest = batch_of (n - (i + 1)) after (drop step_octets (drop at steps))

      -- the first of those that were left, and then the others
      one_more : batch_of (n - i) h (drop at steps) ≡ (number_of a ∷ rest.0, (rest.1.0, o ++ rest.1.1))
      unfolding batch_of rest
      one_more =
          let e : n - i ≡ suc (n - (i + 1)) = omega arith in
          let k : at + step_octets - at ≡ step_octets = omega arith in
          let done : (a, (after, o)) ≡ recorded h (take step_octets (drop at steps)) = did ∙ ap (λ (m : ℕ). recorded h (take m (drop at steps))) k in
          rw (e, ← done)

      both : behind (take i answers ++ (number_of a ∷ [])) (take at steps ++ o) rest
          ≡ behind (take i answers) (take at steps) (number_of a ∷ rest.0, (rest.1.0, o ++ rest.1.1))
      both =
          ap₂ (λ (x y : List ℕ). (x, (rest.1.0, y))) (append_assoc (take i answers) (number_of a ∷ []) rest.0) (append_assoc (take at steps) o rest.1.1)

      pub going_on_lem : {v : ℕ} → v ≡ number_of a → Going n h₀ steps₀ (i + 1) (set answers i v) after (put_mid at (at + step_octets - at) steps o)
      unfolding on rest
      going_on_lem {v} e =
          rw (e, put-replaced steps o at step_octets)
          (record {
            within = omega arith;
            answered = simp length-set g.answered;
            long = replaced-length steps o at step_octets size fits ∙ g.long;
            comes = rw (answers-on, taken-on, left-on) (both ∙ ap (behind (take i answers) (take at steps)) (sym one_more) ∙ g.comes);
          })
