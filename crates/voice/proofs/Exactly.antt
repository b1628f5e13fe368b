-- When a slot is done or held, by the struct's own fields: in both directions. And what a frame of another length and too few lent octets get.
use mathlib.Core.Path.{◌≡◌, refl, sym, ap, ◌∙◌}
use mathlib.Core.Bool.{Bool, true, false, not}
use mathlib.Core.List.{List}
use Prim.Native.Nat.{ℕ, ◌≤◌, ◌<◌}
use native.Mathlib.Decide.{dec_lt}
use native.Mathlib.Omega.{arith}
use lib.Dec.{ltb, eqb}
use lib.ListN.{length}
use borrow.Author.Tests.{ne_eqb, lt-ltb, le-ltb, ltb-false}
use Rattle.octets.specs.Tests.{pick}
use Rattle.answers.specs.declared.Answer.{Answer}
use Rattle.answers.specs.declared.Answer.TheVariants.{Done, Held, WrongLength, PastLimit}
use Rattle.answers.specs.Numbers.{number_of}
use Rattle.answers.proofs.OutcomeLaws.{NoneHolds, gives}
use Rattle.calls.specs.declared.call.Call.{Call}
use Rattle.calls.specs.Counts.{plus, total, lost_words}
use Rattle.octets.specs.Bits.{bit}
use Rattle.sizes.specs.Frame.{width, frame_octets, session_octets, most_words}
use Rattle.calls.specs.Call.{closed_end, receiving_end, unknown_vector, good_call, standing, width_of, written, is_bad, width_in, receives, knows}
use Rattle.voice.specs.Slot.{slot_on, is_full, lost_refusals, lost_of, top_mask, voice_refusals, stream_of, voice_after, voice_by, voice_of, voice_by_octets}
use Rattle.calls.proofs.CallLaws.{good_by, not_bad, stands_some, width_in_lem, is_receiver, knows-is}
use Rattle.voice.proofs.SlotLaws.{not_full, is-full, full_is, below_limit, lost_refused, none_long, none-good, none_open, none-full, taken-under-two, voice_refused, voice_taken, by_refused, by_long, by_short, answer_taken}

-- ---- a voice slot

-- a frame as long as the rate has it, a mask of at most 15, and a good call that stands, a receiver below its limit, whose vector is known or is not
pub record Takes (c : Call) (mask : ℕ) (frame : List ℕ) (known : Bool) : Type 0 where
  pub long : length frame ≡ frame_octets (width_of c.terms)
  pub masked : mask ≤ top_mask
  pub good : good_call c ≡ true
  pub stands : c.end ≡ closed_end → ⊥
  pub room : c.end ≡ receiving_end → total c.counts < most_words
  pub vector : not (eqb c.known unknown_vector) ≡ known

-- the number of a slot that is taken: 0 where the vector is known, else 1
abbrev taken : Bool → ℕ
taken known = number_of (pick known Done Held)

same_by : (a b : Bool) → taken a ≡ taken b → a ≡ b
same_by true true e = refl
same_by true false e = absurd (omega arith)
same_by false true e = absurd (omega arith)
same_by false false e = refl

module _ (c : Call) (mask : ℕ) (frame : List ℕ) where
  abbrev number : ℕ
  number = number_of (voice_of c mask frame).0

  answered : (b : Bool) → Takes c mask frame b → number ≡ taken b
  answered b t =
      ap number_of (sym (answer_taken c mask frame t.long t.masked t.good b t.stands (not_full c t.good t.room) (knows-is c t.good ∙ t.vector)))

  takes : NoneHolds (voice_refusals c mask frame) → Takes c mask frame (not (eqb c.known unknown_vector))
  unfolding voice_refusals
  takes n =
      record {
        long = none_long c mask frame n;
        masked = ltb-false _ _ n.0;
        good = none-good c mask frame n;
        stands = none_open c mask frame n;
        room = below_limit c (none-good c mask frame n) (none-full c mask frame n);
        vector = refl;
      }

  exactly : (b : Bool) → (number ≡ taken b → Takes c mask frame b) × (Takes c mask frame b → number ≡ taken b)
  exactly b = (only, answered b)
    where
      only : number ≡ taken b → Takes c mask frame b
      only e =
          let t = takes (voice_taken stream_of c mask frame (omega (arith, taken-under-two b))) in
          rw (same_by b (not (eqb c.known unknown_vector)) (sym e ∙ answered (not (eqb c.known unknown_vector)) t)) t

  pub done_exactly : (number ≡ 0 → Takes c mask frame true) × (Takes c mask frame true → number ≡ 0)
  done_exactly = exactly true

  pub held_exactly : (number ≡ 1 → Takes c mask frame false) × (Takes c mask frame false → number ≡ 1)
  held_exactly = exactly false

-- ---- a slot past the limit

-- a good receiving call that was told of 1,000,000 slots
pub record AtLimit (c : Call) : Type 0 where
  pub good : good_call c ≡ true
  pub receives : c.end ≡ receiving_end
  pub full : total c.counts ≡ 4000000

at_limit : (c : Call) → is_bad (standing c) ≡ false → is_full (standing c) c.counts ≡ true → AtLimit c
at_limit c g f = let e = full_is c (good_by c g) f in record { good = good_by c g; receives = e.0; full = e.1 }

-- there, and nowhere else, a slot is 16: one that arrived, whatever its frame, with a mask of at most 15
pub voice_past : (c : Call) (mask : ℕ) (frame : List ℕ) → (number_of (voice_of c mask frame).0 ≡ 16 → (mask ≤ 15) × AtLimit c)
    × ((mask ≤ 15) × AtLimit c → voice_of c mask frame ≡ (PastLimit, (c, frame)))
unfolding voice_by voice_refusals
voice_past c mask frame = (
  gives (λ a. number_of a ≡ 16 → (mask ≤ 15) × AtLimit c) (c, frame) (voice_refusals c mask frame) (voice_after stream_of mask frame c.counts (standing c))
      (λ h z. absurd (omega arith), λ m. (λ h z. absurd (omega arith), λ g. (λ h z. absurd (omega arith), λ o. (λ f z. (ltb-false _ _ m, at_limit c g f), λ n. (λ h z. absurd (omega arith), λ l. tt)))))
      (λ z. absurd (omega (arith, taken-under-two (knows (standing c))))),
  λ h. let l = h.1 in
      sym (voice_refused stream_of c mask frame 3 (le-ltb _ _ h.0, (not_bad c l.good, (stands_some c l.good (λ z. omega (arith, l.receives)), is-full c l.good l.receives (omega (arith, l.full)))))),
)

-- or lost
pub lost-past : (c : Call) → (number_of (lost_of c).0 ≡ 16 → AtLimit c) × (AtLimit c → lost_of c ≡ (PastLimit, c))
unfolding lost_of lost_refusals
lost-past c = (
  gives (λ a. number_of a ≡ 16 → AtLimit c) c (lost_refusals c) (Done, written (plus c.counts lost_words) (slot_on (standing c)))
      (λ h z. absurd (omega arith), λ g. (λ h z. absurd (omega arith), λ r. (λ f z. at_limit c g f, λ n. tt))) (λ z. absurd (omega arith)),
  λ l. sym (lost_refused c 2 (not_bad c l.good, (ap not (ap receives (is_receiver c l.good l.receives)), is-full c l.good l.receives (omega (arith, l.full))))),
)

-- ---- a frame of another length, and too few lent octets

-- what is asked last: a frame as long as the other rate's, say
pub other_length : (c : Call) (mask : ℕ) (frame : List ℕ) → mask ≤ top_mask → good_call c ≡ true → (c.end ≡ closed_end → ⊥) → (c.end ≡ receiving_end → total c.counts < most_words)
    → (length frame ≡ frame_octets (width_of c.terms) → ⊥) → voice_of c mask frame ≡ (WrongLength, (c, frame))
unfolding voice_refusals
other_length c mask frame m good o room n =
    sym (voice_refused stream_of c mask frame 4 (le-ltb _ _ m, (not_bad c good, (stands_some c good o, (not_full c good room, ap not (ne_eqb _ _ (λ e. n (e ∙ ap frame_octets (width_in_lem c good o)))))))))

-- by lent octets: 196, or at full rate 288, are enough, whatever the call
session_long : (r : ℕ) → session_octets (width r) ≡ pick (eqb r 1) 288 196
session_long r = go (eqb r 1)
  where
    go : (t : Bool) → session_octets (pick t 72 49) ≡ pick t 288 196
    go true = refl
    go false = refl

module _ (session : List ℕ) (c : Call) (mask : ℕ) (frame : List ℕ) where
  abbrev lent : Answer × (Call × List ℕ)
  lent = voice_by (λ d. bit session) c mask frame

  -- of a call that nothing refuses
  asked : number_of lent.0 < 2 → session_octets (width_in (standing c)) ≡ pick (eqb c.terms.rate 1) 288 196
  asked t =
      let n = voice_taken (λ d. bit session) c mask frame t in
      ap session_octets (width_in_lem c (none-good c mask frame n) (none_open c mask frame n)) ∙ session_long c.terms.rate

  pub lent_enough : pick (eqb c.terms.rate 1) 288 196 ≤ length session → voice_by_octets session c mask frame ≡ lent
  lent_enough l = go (dec_lt (number_of lent.0) 2)
    where
      go : Dec (number_of lent.0 < 2) → voice_by_octets session c mask frame ≡ lent
      go (yes t) = by_long session c mask frame (omega (arith, asked t))
      go (no t) = by_refused session c mask frame (omega arith)

  -- of fewer, a slot that would be done or held is 2, and one that would be refused is refused as it would be
  pub lent_too_few : length session < pick (eqb c.terms.rate 1) 288 196
      → voice_by_octets session c mask frame ≡ pick (ltb (number_of lent.0) 2) (WrongLength, (c, frame)) lent
  lent_too_few l = go (dec_lt (number_of lent.0) 2)
    where
      go : Dec (number_of lent.0 < 2) → voice_by_octets session c mask frame ≡ pick (ltb (number_of lent.0) 2) (WrongLength, (c, frame)) lent
      go (yes t) = rw (lt-ltb _ _ t) (sym (by_short session c mask frame (voice_taken (λ d. bit session) c mask frame t) (omega (arith, asked t))))
      go (no t) = rw (le-ltb (number_of lent.0) 2 (omega arith)) (by_refused session c mask frame (omega arith))
