-- Which calls wait for a vector or have a next one, as the code tests it.
use mathlib.Core.Path.{◌≡◌, refl, sym, ap, ◌∙◌}
use mathlib.Core.Bool.{Bool, true, false, ◌&&◌, not, true≢false}
use mathlib.Core.List.{List}
use Prim.Native.Nat.{ℕ}
use lib.Dec.{eqb}
use borrow.Author.Tests.{eqb-true, eqb-false}
use Rattle.sizes.specs.Ciphers.{scrambles}
use Rattle.generator.specs.Generator.{next_vector}
use Rattle.answers.specs.declared.Answer.TheVariants.{Done}
use Rattle.answers.proofs.OutcomeLaws.{NoneHolds, none_settles, Refuses, answer_at, refused_at}
use Rattle.calls.specs.declared.call.Call.{Call}
use Rattle.calls.specs.Call.{sending_end, receiving_end, told_vector, good_call, told, Standing, receiving, standing, written}
use Rattle.calls.specs.Vector.{awaits, with_vector, announce_refusals, announce_of, generates, following, next_refusals, next_vector_of}
use Rattle.calls.proofs.CallLaws.{by_stands, unless_receiver, unless_sender, is_receiver, is-sender, is_told_lem}

module _ (c : Call) (good : good_call c ≡ true) where
  pub awaits_by : awaits (standing c) ≡ (eqb c.end receiving_end && (not (scrambles c.terms.cipher) && (eqb c.position 0 && not (eqb c.known told_vector))))
  awaits_by = go (eqb c.end receiving_end) refl
    where
      go : (t : Bool) → eqb c.end receiving_end ≡ t
          → awaits (standing c) ≡ (t && (not (scrambles c.terms.cipher) && (eqb c.position 0 && not (eqb c.known told_vector))))
      go true e = rw (is_receiver c good (eqb-true _ _ e), is_told_lem c.known c.vector)
      go false e = unless_receiver c good awaits refl (λ t p v. refl) (eqb-false _ _ e)

  pub generates_by : generates (standing c) ≡ (eqb c.end sending_end && not (scrambles c.terms.cipher))
  generates_by = go (eqb c.end sending_end) refl
    where
      go : (t : Bool) → eqb c.end sending_end ≡ t → generates (standing c) ≡ (t && not (scrambles c.terms.cipher))
      go true e = rw (is-sender c good (eqb-true _ _ e))
      go false e = unless_sender c good generates refl (λ t p k. refl) (eqb-false _ _ e)

  -- the struct of a receiver that has been told w
  pub told_is : awaits (standing c) ≡ true → (w : List ℕ)
      → written c.counts (with_vector w (standing c)) ≡ written c.counts (receiving c.terms c.position (told w))
  told_is a w =
      by_stands c good (λ o e s. absurd (true≢false (sym a ∙ ap awaits s))) (λ o e s. absurd (true≢false (sym a ∙ ap awaits s)))
      (λ o e s. ap (λ (t : Standing). written c.counts (with_vector w t)) s)

  pub following-is : generates (standing c) ≡ true → following (standing c) ≡ next_vector c.vector
  following-is a =
      by_stands c good (λ o e s. absurd (true≢false (sym a ∙ ap generates s))) (λ o e s. ap following s) (λ o e s. absurd (true≢false (sym a ∙ ap generates s)))

module _ (c : Call) (w : List ℕ) where
  pub announce_refused : (n : ℕ) → Refuses (announce_refusals (standing c) w) n → (answer_at (announce_refusals (standing c) w) n, c) ≡ announce_of c w
  unfolding announce_of
  announce_refused = refused_at c (announce_refusals (standing c) w) (Done, written c.counts (with_vector w (standing c)))

  pub announce_done : NoneHolds (announce_refusals (standing c) w) → (Done, written c.counts (with_vector w (standing c))) ≡ announce_of c w
  unfolding announce_of
  announce_done n = sym (none_settles (announce_refusals (standing c) w) c (Done, written c.counts (with_vector w (standing c))) n)

module _ (c : Call) (out : List ℕ) where
  pub next_refused : (n : ℕ) → Refuses (next_refusals (standing c) out) n → (answer_at (next_refusals (standing c) out) n, out) ≡ next_vector_of c out
  unfolding next_vector_of
  next_refused = refused_at out (next_refusals (standing c) out) (Done, following (standing c))

  pub next_done : NoneHolds (next_refusals (standing c) out) → (Done, following (standing c)) ≡ next_vector_of c out
  unfolding next_vector_of
  next_done n = sym (none_settles (next_refusals (standing c) out) out (Done, following (standing c)) n)
