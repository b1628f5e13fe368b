-- Which calls hear of vectors, as the code tests it, and when a call with what it keeps is good.
use mathlib.Core.Path.{◌≡◌, refl, sym, ap, ◌∙◌}
use mathlib.Core.Bool.{Bool, true, false, ◌&&◌, ◌||◌, not, and-true, true≢false}
use mathlib.Core.List.{List}
use Prim.Native.Nat.{ℕ}
use lib.Dec.{eqb}
use lib.ListN.{length}
use borrow.Author.Tests.{eqb-true, eqb-false}
use Rattle.octets.specs.Tests.{pick}
use Rattle.octets.specs.Lists.{all_zero}
use Rattle.octets.proofs.TestLaws.{and_left, and_right, and_false_r}
use Rattle.octets.proofs.ListLaws.{zeros_are}
use Rattle.sizes.specs.Ciphers.{vector_octets, scrambles}
use Rattle.sizes.proofs.SizeLaws.{no_vector-zero}
use Rattle.calls.specs.declared.call.Call.{Call}
use Rattle.calls.specs.Call.{receiving_end, told_vector, closed_tests, open_tests, is_closed, is_open, good_call, Standing, closed, bad, sending, receiving, standing}
use Rattle.calls.specs.Vector.{awaits}
use Rattle.calls.proofs.CallLaws.{is_told_lem, stands_bad, by_stands, unless_receiver, is_receiver}
use Rattle.calls.proofs.GoodLaws.{closed_good}
use Rattle.hearing.specs.declared.Hearing.{Hearing}
use Rattle.hearing.specs.Hearing.{none_kept, hears, under_way, kept_right, good_hearing, bad_call, call_of, alone, keeping, no_hearing}

-- ---- what a call hears

either : (a b : Bool) → not (a && not b) ≡ (not a || b)
either true true = refl
either true false = refl
either false b = refl

module _ (c : Call) where
  pub hears_by : good_call c ≡ true → hears (standing c) ≡ (eqb c.end receiving_end && not (scrambles c.terms.cipher))
  hears_by good = go (eqb c.end receiving_end) refl
    where
      go : (t : Bool) → eqb c.end receiving_end ≡ t → hears (standing c) ≡ (t && not (scrambles c.terms.cipher))
      go true e = rw (is_receiver c good (eqb-true _ _ e))
      go false e = unless_receiver c good hears refl (λ t p v. refl) (eqb-false _ _ e)

  -- past its session's first slot, or told that session's vector
  under-is : good_call c ≡ true → hears (standing c) ≡ true → under_way (standing c) ≡ (not (eqb c.position 0) || eqb c.known told_vector)
  under-is good h =
      by_stands c good (λ o e s. absurd (true≢false (sym h ∙ ap hears s))) (λ o e s. absurd (true≢false (sym h ∙ ap hears s)))
      (λ o e s. ap under_way s ∙ rw (sym (ap hears s) ∙ h, is_told_lem c.known c.vector) (either (eqb c.position 0) (eqb c.known told_vector)))

  pub under_by : under_way (standing c) ≡ (good_call c && (hears (standing c) && (not (eqb c.position 0) || eqb c.known told_vector)))
  under_by = go (good_call c) (hears (standing c)) refl refl
    where
      go : (g h : Bool) → good_call c ≡ g → hears (standing c) ≡ h
          → under_way (standing c) ≡ (g && (h && (not (eqb c.position 0) || eqb c.known told_vector)))
      go true true good hearing = under-is good hearing
      go true false good deaf = rw deaf
      go false h wrong e = rw (stands_bad c wrong)

-- a call that waits for its own session's hears of vectors, and is not under way
pub waits_hears : (s : Standing) → awaits s ≡ true → hears s ≡ true
waits_hears closed a = a
waits_hears bad a = a
waits_hears (sending t p v) a = a
waits_hears (receiving t p k) a = and_left _ _ a

pub waits_not : (s : Standing) → awaits s ≡ true → under_way s ≡ false
waits_not s a = rw a (and_false_r (hears s))

-- ---- the call that it is

-- the struct that stands for no call is bad
pub bad_bad : good_call bad_call ≡ false
unfolding good_call is_closed is_open closed_tests open_tests
bad_bad = refl

pub bad_stands : standing bad_call ≡ bad
bad_stands = stands_bad bad_call bad_bad

module _ (h : Hearing) where
  -- it is good just where the call that it is is good
  pub good-is : good_hearing h ≡ good_call (call_of h)
  unfolding good_hearing call_of
  good-is = go (kept_right h.kept h.next (standing h.call))
    where
      go : (t : Bool) → (good_call h.call && t) ≡ good_call (pick t h.call bad_call)
      go true = and-true (good_call h.call)
      go false = and_false_r (good_call h.call) ∙ sym bad_bad

  pub good_of : good_call (call_of h) ≡ true → good_hearing h ≡ true
  good_of g = good-is ∙ g

  module _ (good : good_hearing h ≡ true) where
    -- its own call is good
    pub good_call_lem : good_call h.call ≡ true
    unfolding good_hearing
    good_call_lem = and_left (good_call h.call) _ good

    pub good-kept : kept_right h.kept h.next (standing h.call) ≡ true
    unfolding good_hearing
    good-kept = and_right (good_call h.call) _ good

    -- and is the call that it is
    pub good_call_of : call_of h ≡ h.call
    unfolding call_of
    good_call_of = rw good-kept

    -- outside a session's middle nothing is kept
    pub keeps_none : under_way (standing h.call) ≡ false → length h.next ≡ vector_octets → h ≡ alone h.call
    unfolding kept_right
    keeps_none u l = go (eqb h.kept none_kept) refl (rw (u, and_false_r) at good-kept)
      where
        go : (t : Bool) → eqb h.kept none_kept ≡ t → pick t (all_zero h.next) false ≡ true → h ≡ alone h.call
        go true e z =
            ap (λ (k : ℕ). record { call = h.call; kept = k; next = h.next }) (eqb-true _ _ e)
            ∙ ap (λ (w : List ℕ). record { call = h.call; kept = none_kept; next = w }) (zeros_are h.next vector_octets l z)
        go false e z = absurd (true≢false (sym z))

-- ---- made

module _ (c : Call) where
  -- a call that keeps nothing is the call itself, good or bad
  pub alone_of : call_of (alone c) ≡ c
  unfolding call_of kept_right
  alone_of = rw no_vector-zero

  pub alone-good : good_call c ≡ true → good_hearing (alone c) ≡ true
  alone-good g = good-is (alone c) ∙ ap good_call alone_of ∙ g

  -- one is kept in the middle of a session
  pub keeping-good : (w : List ℕ) → good_call c ≡ true → under_way (standing c) ≡ true → good_hearing (keeping c w) ≡ true
  unfolding good_hearing kept_right
  keeping-good w g u = rw (g, u)

pub none-good : good_hearing no_hearing ≡ true
none-good = alone-good _ closed_good
