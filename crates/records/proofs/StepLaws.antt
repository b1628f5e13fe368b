-- The ways through a record.
use mathlib.Core.Path.{◌≡◌, refl, sym, ap, ap₂, subst, ◌∙◌}
use mathlib.Core.Bool.{Bool, true, false}
use mathlib.Core.List.{List, [], ◌++◌}
use Prim.Native.Nat.{ℕ, ◌≤◌}
use native.Mathlib.Omega.{arith}
use lib.ListN.{length, take}
use lib.Seq.{take_at}
use Rattle.std.specs.Prelude.{Option, Some, None, Result, Err}
use Rattle.octets.specs.Tests.{pick}
use Rattle.answers.specs.declared.Answer.{Answer}
use Rattle.answers.specs.declared.Answer.TheVariants as answer
use Rattle.answers.specs.declared.Answer.TheVariants.{Done}
use Rattle.answers.specs.Numbers.{is_done}
use Rattle.answers.specs.Outcomes.{result_of, answer_in}
use Rattle.answers.proofs.OutcomeLaws.{around}
use Rattle.answers.proofs.ResultLaws.{or_before, told}
use Rattle.sizes.specs.Ciphers.{vector_octets}
use Rattle.calls.specs.declared.call.Call.{Call}
use Rattle.calls.specs.declared.counts.Counts.{Counts}
use Rattle.openings.specs.Ladder.{session_vector, key_for}
use Rattle.calls.specs.Counts.{no_counts, plus, lost_words}
use Rattle.calls.specs.Call.{receiving_end, strict, standing, terms_of, written, no_call, end_refusals, end_of, after_end}
use Rattle.sizes.specs.Frame.{half_rate}
use Rattle.calls.specs.Opening.{begun_refusals, begun, open_of, joined, join_refusals, join_of}
use Rattle.voice.specs.declared.slot.Slot.{Slot}
use Rattle.voice.specs.Slot.{slot_on, lost_refusals, lost_of, voice_of}
use Rattle.voice.specs.Told.{slot_of}
use Rattle.voice.proofs.Settled.{voice_keeps}
use Rattle.voice.proofs.ToldLaws.{slot_refused_by}
use Rattle.calls.specs.Vector.{with_vector, announce_refusals, announce_of}
use Rattle.sessions.specs.Session.{call_after}
use Rattle.lines.specs.declared.record.Parsed.{Parsed}
use Rattle.lines.specs.declared.record.Parsed.TheVariants as code
use Rattle.lines.specs.Record.{record_frame, record_room, record_in, key_count}
use Rattle.records.specs.declared.step.Outcome.{Outcome}
use Rattle.keyentry.specs.Name.{no_name}
use Rattle.keybook.specs.Operations.{load_of}
use Rattle.records.specs.Step.{Effect, book_step, call_step, without_counts, slot_step, step_of, as_effect}

-- ---- what each record is

module _ (p : Option Parsed) (octets book : List ℕ) (call : Call) where
  pub load_is : {c i n : ℕ} → p ≡ Some (code.Load c i n) → step_of (record_in p octets) book call ≡ book_step call (load_of book c i no_name (take n octets))
  unfolding step_of
  load_is e = rw e

  pub open_is : {c i : ℕ} → p ≡ Some (code.Open c i) → step_of (record_in p octets) book call ≡ call_step book (open_of call c i half_rate strict (take vector_octets octets) book)
  unfolding step_of
  open_is e = rw e

  pub join_is : {c i : ℕ} → p ≡ Some (code.Join c i) → step_of (record_in p octets) book call ≡ call_step book (join_of call c i half_rate strict book)
  unfolding step_of
  join_is e = rw e

  pub voice_is : {mask : ℕ} → p ≡ Some (code.Voice mask) → step_of (record_in p octets) book call ≡ slot_step book (voice_of call mask (take record_frame octets))
  unfolding step_of
  voice_is e = rw e

  pub announce_is : p ≡ Some code.Announce → step_of (record_in p octets) book call ≡ call_step book (announce_of call (take vector_octets octets))
  unfolding step_of
  announce_is e = rw e

  pub lost-is : p ≡ Some code.Lost → step_of (record_in p octets) book call ≡ call_step book (lost_of call)
  unfolding step_of
  lost-is e = rw e

  pub end_is : p ≡ Some code.End → step_of (record_in p octets) book call ≡ call_step book (without_counts (end_of call))
  unfolding step_of
  end_is e = rw e

  pub malformed_is : p ≡ None → step_of (record_in p octets) book call ≡ call_step book (answer.Malformed, call)
  unfolding step_of
  malformed_is e = rw e

-- the octets of a key are among those lent
pub count_fits : (p : Option Parsed) {c i n : ℕ} → p ≡ Some (code.Load c i n) → key_count p ≤ record_room → n ≤ record_room
count_fits p e h = rw e at h

-- ---- what a refusal leaves

module _ (c : Call) where
  -- a slot that is refused leaves the call and its frame
  module _ (mask : ℕ) (frame : List ℕ) where
    abbrev o : Answer × (Call × List ℕ)
    o = voice_of c mask frame

    pub slot_refused : {r : Result Slot Answer} {f : List ℕ} {a : Answer} → (r, f) ≡ slot_of o → r ≡ Err a → (a, (c, f)) ≡ o
    slot_refused {f = f} q e =
        let t = slot_refused_by o (sym (ap (λ (s : Result Slot Answer × List ℕ). s.0) q) ∙ e) in
        let left : o.1 ≡ (c, frame) = voice_keeps c mask frame t.0 in
        ap₂ (λ (b : Answer) (d : Call). (b, (d, f))) (sym t.1) (sym (ap (λ (x : Call × List ℕ). x.0) left))
        ∙ ap (λ (x : List ℕ). (o.0, (o.1.0, x))) (ap (λ (s : Result Slot Answer × List ℕ). s.1) q)

  -- the call after an operation, be it refused, is what the operation leaves
  abbrev pub Leaves : Answer × Call → Type 0
  Leaves o = call_after c (result_of o) ≡ o.1

  pub open_leaves : (n i r m : ℕ) (w book : List ℕ) → Leaves (open_of c n i r m w book)
  unfolding open_of
  open_leaves n i r m w book =
      or_before c (begun_refusals receiving_end (standing c) n i r m w book) (written no_counts (begun receiving_end (terms_of n (key_for book n i) r m) (session_vector n w)))

  pub join_leaves : (n i r m : ℕ) (book : List ℕ) → Leaves (join_of c n i r m book)
  unfolding join_of
  join_leaves n i r m book =
      or_before c (join_refusals (standing c) n i r m book) (written no_counts (joined (terms_of n (key_for book n i) r m)))

  pub announce_leaves : (w : List ℕ) → Leaves (announce_of c w)
  unfolding announce_of
  announce_leaves w = or_before c (announce_refusals (standing c) w) (written c.counts (with_vector w (standing c)))

  pub lost_leaves : Leaves (lost_of c)
  unfolding lost_of
  lost_leaves = or_before c (lost_refusals c) (written (plus c.counts lost_words) (slot_on (standing c)))

  pub end_leaves : Leaves (without_counts (end_of c))
  unfolding end_of
  end_leaves =
      subst Leaves (sym (around (λ (d : Call × Counts). d.0) (c, no_counts) (end_refusals (standing c)) (Done, after_end c)))
      (or_before c (end_refusals (standing c)) no_call)

-- ---- what the code hands back is that

-- no frame is shown
pub comes : (r : Outcome) (octets after : List ℕ) {a : Answer} {call : Call} {s : Effect} → r.answer ≡ a → r.call ≡ call → r.shown ≡ 0
    → s ≡ as_effect a after call [] → as_effect r.answer after r.call (take r.shown octets) ≡ s
comes r octets after p q z e = rw (p, q, z) (sym e)

-- so after an operation on the call
pub comes_after : (c : Call) (r : Outcome) (octets book : List ℕ) {done : Result Call Answer} {o : Answer × Call} {s : Effect}
    → (r.answer ≡ answer_in done) × (r.call ≡ call_after c done) × (r.shown ≡ 0) → done ≡ result_of o → Leaves c o → s ≡ call_step book o
    → as_effect r.answer book r.call (take r.shown octets) ≡ s
comes_after c r octets book {o = o} q e l z = comes r octets book (q.0 ∙ told o e) (q.1 ∙ ap (call_after c) e ∙ l) q.2 z

-- the frame is shown where the slot is done
pub slot_comes : (r : Outcome) (book frame rest : List ℕ) {o : Answer × (Call × List ℕ)} {s : Effect} → length frame ≡ record_frame
    → (r.answer, (r.call, frame)) ≡ o → r.shown ≡ pick (is_done r.answer) record_frame 0
    → s ≡ slot_step book o → as_effect r.answer book r.call (take r.shown (frame ++ rest)) ≡ s
slot_comes r book frame rest l q z e = rw (e, ← q, z, go (is_done r.answer))
  where
    go : (b : Bool) → take (pick b record_frame 0) (frame ++ rest) ≡ pick b frame []
    go true = take_at frame rest record_frame l
    go false = refl

pub shown-fits : (a : Answer) {n : ℕ} → n ≡ pick (is_done a) record_frame 0 → n ≤ record_frame
shown-fits a = go (is_done a)
  where
    go : (b : Bool) {n : ℕ} → n ≡ pick b record_frame 0 → n ≤ record_frame
    go true e = omega arith
    go false e = omega arith
