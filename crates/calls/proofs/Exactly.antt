-- When an announcement is taken and a next vector given, by the struct's own fields: in both directions. What a number that is no rate or no strictness gets,
-- and what start answers besides what open does. And nothing opens a call that stands.
use mathlib.Core.Path.{◌≡◌, refl, sym, ap, ◌∙◌}
use mathlib.Core.Bool.{Bool, true, false, ◌&&◌, not, true≢false}
use mathlib.Core.Logic.{◌⊎◌, inl, inr}
use mathlib.Core.List.{List}
use Prim.Native.Nat.{ℕ, ◌≤◌}
use native.Mathlib.Omega.{arith}
use lib.Dec.{eqb}
use lib.ListN.{length}
use borrow.Author.Tests.{eq-eqb, ne_eqb, eqb-true, not-true, not-false}
use Rattle.octets.specs.Tests.{pick}
use Rattle.octets.specs.Lists.{all_zero}
use Rattle.octets.proofs.TestLaws.{and_left, and_right, and_false_r, not_so}
use Rattle.generator.specs.Generator.{next_vector}
use Rattle.answers.specs.declared.Answer.{Answer}
use Rattle.answers.specs.declared.Answer.TheVariants.{Done, OutOfRange, ZeroVector, NotNow}
use Rattle.answers.specs.Numbers.{number_of, is_done}
use Rattle.answers.specs.Outcomes.{Refusals, outcome}
use Rattle.answers.proofs.OutcomeLaws.{NoneHolds, Refusal, from_two, among_refuses, by_refusals, some_refuses}
use Rattle.answers.proofs.TableLaws.{answer_alone}
use Rattle.sizes.specs.Ciphers.{vector_octets, scrambles}
use Rattle.openings.specs.Ladder.{session_vector, key_for, key_refusals, zero_for, vector_refusals}
use Rattle.openings.proofs.LadderLaws.{vector-from-two, sends_more}
use Rattle.calls.specs.declared.call.Call.{Call}
use Rattle.calls.specs.Counts.{no_counts}
use Rattle.sizes.specs.Frame.{is_rate}
use Rattle.calls.specs.Call.{closed_end, sending_end, receiving_end, unknown_vector, told_vector, carried_vector, by_default, terms_right, good_call, standing, terms_of, call_at, written, is_bad, stands}
use Rattle.calls.specs.Opening.{join_refusals, begun_refusals, begun, begun_of, open_of, start_of, joined, join_of}
use Rattle.calls.specs.Vector.{awaits, with_vector, announce_refusals, announce_of, generates, following, next_refusals, next_vector_of}
use Rattle.calls.proofs.CallLaws.{is-sender, is_told_lem, by_known, carried_default, receiver_right, by_stands, good_by, not_bad, stands_some, is_receiver}
use Rattle.calls.proofs.VectorLaws.{announce_done, announce_refused}

-- ---- a number that is no rate, or no strictness

-- whatever else is asked, where book and vector have their lengths: any rate but 0 and 1 is 3, and so is any strictness that a receiver is given
module _ (c : Call) (n i r m : ℕ) (b : List ℕ) (k : length b ≡ 832) where
  no-terms : (end : ℕ) → (2 ≤ r) ⊎ (2 ≤ m) → terms_right end r m ≡ false
  unfolding terms_right is_rate
  no-terms end (inl h) = rw (ne_eqb r 0 (λ e. omega (arith, e)), ne_eqb r 1 (λ e. omega (arith, e)))
  no-terms end (inr h) = rw (ne_eqb m 0 (λ e. omega (arith, e)), ne_eqb m 1 (λ e. omega (arith, e)), and_false_r)

  pub join_out_of_range : (2 ≤ r) ⊎ (2 ≤ m) → join_of c n i r m b ≡ (OutOfRange, c)
  unfolding join_of join_refusals key_refusals
  join_out_of_range h = rw (eq-eqb _ _ k, no-terms receiving_end h)

  module _ (w : List ℕ) (l : length w ≡ 8) where
    begin-out-of-range : (end : ℕ) → (2 ≤ r) ⊎ (2 ≤ m) → begun_of end c n i r m w b ≡ (OutOfRange, c)
    unfolding begun_refusals vector_refusals key_refusals
    begin-out-of-range end h = rw (eq-eqb _ _ l, eq-eqb _ _ k, no-terms end h)

    pub open_out_of_range : (2 ≤ r) ⊎ (2 ≤ m) → open_of c n i r m w b ≡ (OutOfRange, c)
    unfolding open_of
    open_out_of_range = begin-out-of-range receiving_end

pub start_out_of_range : (c : Call) (n i r : ℕ) (b : List ℕ) → length b ≡ 832 → (w : List ℕ) → length w ≡ 8 → 2 ≤ r → start_of c n i r w b ≡ (OutOfRange, c)
unfolding start_of
start_out_of_range c n i r b k w l h = begin-out-of-range c n i r by_default b k w l sending_end (inl h)

-- ---- an announcement

-- what a receiver stands with that was told no vector of its session: none, or by default a carried one
abbrev pub NotTold : Call → Type 0
NotTold c = (c.known ≡ unknown_vector) ⊎ ((c.known ≡ carried_vector) × (c.terms.strictness ≡ by_default))

-- eight octets, zeros or not, and a good receiving call, DES or AES, at position 0 of a session of which it was told no vector
pub record Timely (c : Call) (w : List ℕ) : Type 0 where
  pub long : length w ≡ vector_octets
  pub good : good_call c ≡ true
  pub receives : c.end ≡ receiving_end
  pub vectored : scrambles c.terms.cipher ≡ false
  pub starts : c.position ≡ 0
  pub untold : NotTold c

-- a good receiver's vector is so, or it was told
or_untold : (c : Call) → good_call c ≡ true → c.end ≡ receiving_end → (c.known ≡ told_vector → ⊥) → NotTold c
or_untold c good r =
    let right = receiver_right c good r in
    by_known (λ n. c.known ≡ n → (n ≡ told_vector → ⊥) → NotTold c) c.terms.cipher c.terms.strictness c.known (all_zero c.vector) right
    (λ z e n. inl e) (λ e n. absurd (n refl))
    (λ e n. inr (e, (carried_default c.terms.cipher c.terms.strictness c.known (all_zero c.vector) right e).1)) refl

untold-not : (c : Call) → NotTold c → eqb c.known told_vector ≡ false
untold-not c (inl e) = rw e
untold-not c (inr e) = rw e.0

module _ (c : Call) (w : List ℕ) where
  awaited : Timely c w → awaits (standing c) ≡ true
  awaited t =
      rw (is_receiver c t.good t.receives, t.vectored, eq-eqb _ _ t.starts, is_told_lem c.known c.vector, untold-not c t.untold)

  pub timely : NoneHolds (announce_refusals (standing c) w) → Timely c w
  unfolding announce_refusals
  timely n =
      by_stands c good (λ o e s. absurd (true≢false (sym waits ∙ ap awaits s))) (λ o e s. absurd (true≢false (sym waits ∙ ap awaits s)))
      (λ o e s.
      let a = sym (ap awaits s) ∙ waits in
      let b = and_right (not (scrambles c.terms.cipher)) _ a in
      record {
        long = eqb-true _ _ (not-false _ n.0);
        good = good;
        receives = e;
        vectored = not-true _ (and_left (not (scrambles c.terms.cipher)) _ a);
        starts = eqb-true _ _ (and_left (eqb c.position 0) _ b);
        untold = or_untold c good e (λ n. true≢false (sym (eq-eqb _ _ n) ∙ sym (is_told_lem c.known c.vector) ∙ not-true _ (and_right (eqb c.position 0) _ b)));
      })
    where
      good : good_call c ≡ true
      good = good_by c n.1.0

      waits : awaits (standing c) ≡ true
      waits = not-false _ n.1.1.0

  from-two : from_two (announce_refusals (standing c) w) ≡ true
  unfolding announce_refusals
  from-two = refl

  -- then the call stands as it did, under the same terms, but that it was told w
  pub announced-leaves : Timely c w → announce_of c w ≡ (Done, call_at receiving_end c.terms 0 told_vector w c.counts)
  unfolding announce_refusals
  announced-leaves t =
      sym (announce_done c w (ap not (eq-eqb _ _ t.long), (not_bad c t.good, (ap not (awaited t), tt))))
      ∙ rw (is_receiver c t.good t.receives, t.starts)

  pub announced_exactly : (number_of (announce_of c w).0 ≡ 0 → Timely c w) × (Timely c w → number_of (announce_of c w).0 ≡ 0)
  unfolding announce_of announce_refusals
  announced_exactly = (
    by_refusals (λ o. number_of o.0 ≡ 0 → Timely c w) c (announce_refusals (standing c) w) (Done, written c.counts (with_vector w (standing c)))
        (λ a m z. absurd (omega (arith, among_refuses a (announce_refusals (standing c) w) from-two m))) (λ n z. timely n),
    λ t. ap (λ (o : Answer × Call). number_of o.0) (announced-leaves t),
  )

  -- anything else is 9, of a good call and a vector of eight octets
  pub announced_else : good_call c ≡ true → length w ≡ vector_octets → (Timely c w → ⊥) → announce_of c w ≡ (NotNow, c)
  unfolding announce_refusals
  announced_else good l n = sym (announce_refused c w 2 (long, (not_bad c good, ap not {x = awaits (standing c)} (not_so (awaits (standing c)) (λ a. n (timely (long, (not_bad c good, (ap not a, tt)))))))))
    where
      long : not (eqb (length w) vector_octets) ≡ false
      long = ap not (eq-eqb _ _ l)

  -- at any position but 0 no announcement is taken, in either way, and the call stays as it was
  pub untimely : (c.position ≡ 0 → ⊥) → Refusal (announce_of c w).0 × ((announce_of c w).1 ≡ c)
  unfolding announce_of
  untimely p = some_refuses c (announce_refusals (standing c) w) (Done, written c.counts (with_vector w (standing c))) from-two (λ n. p (timely n).starts)

-- ---- next vector

-- eight lent octets, and a good sending call, DES or AES
pub record Generating (c : Call) (out : List ℕ) : Type 0 where
  pub long : length out ≡ vector_octets
  pub good : good_call c ≡ true
  pub sends : c.end ≡ sending_end
  pub vectored : scrambles c.terms.cipher ≡ false

module _ (c : Call) (out : List ℕ) where
  generating : NoneHolds (next_refusals (standing c) out) → Generating c out
  unfolding next_refusals
  generating n =
      let good = good_by c n.1.0 in
      let has : generates (standing c) ≡ true = not-false _ n.1.1.0 in
      by_stands c good (λ o e s. absurd (true≢false (sym has ∙ ap generates s)))
      (λ o e s. record { long = eqb-true _ _ (not-false _ n.0); good = good; sends = e; vectored = not-true _ (sym (ap generates s) ∙ has) })
      (λ o e s. absurd (true≢false (sym has ∙ ap generates s)))

  -- then it writes L of the call's vector
  pub next_given : Generating c out → next_vector_of c out ≡ (Done, next_vector c.vector)
  unfolding next_vector_of next_refusals
  next_given g = rw (is-sender c g.good g.sends, eq-eqb _ _ g.long, g.vectored)

  pub next_exactly : (number_of (next_vector_of c out).0 ≡ 0 → Generating c out) × (Generating c out → number_of (next_vector_of c out).0 ≡ 0)
  unfolding next_vector_of next_refusals
  next_exactly = (
    by_refusals (λ o. number_of o.0 ≡ 0 → Generating c out) out (next_refusals (standing c) out) (Done, following (standing c))
        (λ a m z. absurd (omega (arith, among_refuses a (next_refusals (standing c) out) refl m))) (λ n z. generating n),
    λ g. ap (λ (o : Answer × List ℕ). number_of o.0) (next_given g),
  )

-- ---- open and start

module _ (c : Call) (n i r : ℕ) (w b : List ℕ) where
  abbrev open_asks : Refusals
  open_asks = vector_refusals false (is_rate r && true) (is_bad (standing c)) (stands (standing c)) n i w b

  abbrev started : ℕ → Call
  started end = written no_counts (begun end (terms_of n (key_for b n i) r by_default) (session_vector n w))

  -- start answers what open does by default, but 8 where that would be done with zeros, of DES or AES
  pub start_answers : (start_of c n i r w b).0 ≡ pick (is_done (open_of c n i r by_default w b).0 && zero_for n w) ZeroVector (open_of c n i r by_default w b).0
  unfolding start_of open_of begun_refusals terms_right
  start_answers =
      ap (λ (o : Answer × Call). o.0) (sends_more (is_rate r && true) (is_bad (standing c)) (stands (standing c)) n i b w c (started sending_end))
      ∙ go (outcome c open_asks (started sending_end)) (outcome c open_asks (started receiving_end)) (answer_alone c open_asks (Done, started sending_end) ∙ sym (answer_alone c open_asks (Done, started receiving_end)))
    where
      by : (t : Bool) (d : Call) (a : Answer) → (pick {A = Answer × Call} t (ZeroVector, c) (a, d)).0 ≡ pick t ZeroVector a
      by true d a = refl
      by false d a = refl

      go : (x y : Answer × Call) → x.0 ≡ y.0 → (pick (is_done x.0 && zero_for n w) (ZeroVector, c) x).0 ≡ pick (is_done y.0 && zero_for n w) ZeroVector y.0
      go x y e = rw e (by (is_done y.0 && zero_for n w) x.1 y.0)

-- ---- while a call stands

module _ (c : Call) (busy : c.end ≡ closed_end → ⊥) (n i r : ℕ) (b : List ℕ) where
  -- a call that has an end is bad or stands
  no-busy : is_bad (standing c) ≡ false → stands (standing c) ≡ false → ⊥
  no-busy g e = true≢false (ap not (sym e) ∙ stands_some c (good_by c g) busy)

  pub join_busy : (m : ℕ) → Refusal (join_of c n i r m b).0 × ((join_of c n i r m b).1 ≡ c)
  unfolding join_of join_refusals key_refusals
  join_busy m =
      some_refuses c (join_refusals (standing c) n i r m b) (Done, written no_counts (joined (terms_of n (key_for b n i) r m))) refl (λ h. no-busy (search h) (search h))

  begin-busy : (end m : ℕ) (w : List ℕ) → Refusal (begun_of end c n i r m w b).0 × ((begun_of end c n i r m w b).1 ≡ c)
  unfolding begun_refusals vector_refusals key_refusals
  begin-busy end m w =
      some_refuses c (begun_refusals end (standing c) n i r m w b) (Done, written no_counts (begun end (terms_of n (key_for b n i) r m) (session_vector n w)))
      (vector-from-two (terms_right end r m) (is_bad (standing c)) (stands (standing c)) n i b w (eqb end sending_end)) (λ h. no-busy (search h) (search h))

  pub open_busy : (m : ℕ) (w : List ℕ) → Refusal (open_of c n i r m w b).0 × ((open_of c n i r m w b).1 ≡ c)
  unfolding open_of
  open_busy = begin-busy receiving_end

  pub start_busy : (w : List ℕ) → Refusal (start_of c n i r w b).0 × ((start_of c n i r w b).1 ≡ c)
  unfolding start_of
  start_busy = begin-busy sending_end by_default
