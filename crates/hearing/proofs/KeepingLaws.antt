-- What is kept and what is heard, by whether the call awaits a vector; and the order in which hearing refuses.
use mathlib.Core.Path.{◌≡◌, refl, sym}
use mathlib.Core.Bool.{Bool, true, false, ◌&&◌, not}
use mathlib.Core.List.{List, [], ◌∷◌}
use Prim.Native.Nat.{ℕ}
use lib.Dec.{eqb}
use lib.ListN.{length}
use borrow.Author.Tests.{eqb-true, ne_eqb}
use Rattle.octets.proofs.TestLaws.{and_left, and_right}
use Rattle.sizes.specs.Ciphers.{vector_octets}
use Rattle.answers.specs.declared.Answer.TheVariants.{Done}
use Rattle.answers.specs.Order.{numbers_of}
use Rattle.calls.specs.Call.{Standing, standing}
use Rattle.calls.specs.Vector.{awaits}
use Rattle.hearing.specs.declared.Hearing.{Hearing}
use Rattle.hearing.specs.Hearing.{none_kept, one_kept, hears, under_way, kept_right, good_hearing, keeping}
use Rattle.hearing.specs.Heard.{heard_refusals, heard_of}
use Rattle.hearing.proofs.HearingLaws.{good-kept}
use Rattle.hearing.proofs.HeardLaws.{heard-later}

-- 2, then 4, then 9
pub heard_order : (s : Standing) (w : List ℕ) → numbers_of (heard_refusals s w) ≡ 2 ∷ 4 ∷ 9 ∷ []
unfolding heard_refusals
heard_order s w = refl

not-awaits : (b : Bool) → not b ≡ true → b ≡ false
not-awaits true e = sym e
not-awaits false e = refl

-- what a good one keeps is one, and it is a receiver of DES or AES that awaits no vector
pub kept_only : (h : Hearing) → good_hearing h ≡ true → (h.kept ≡ none_kept → ⊥)
    → (h.kept ≡ one_kept) × ((hears (standing h.call) ≡ true) × (awaits (standing h.call) ≡ false))
unfolding kept_right
kept_only h g n =
    let e : (eqb h.kept one_kept && under_way (standing h.call)) ≡ true = rw (ne_eqb h.kept none_kept n) at (good-kept h g) in
    let u : under_way (standing h.call) ≡ true = and_right (eqb h.kept one_kept) _ e in
    (eqb-true _ _ (and_left (eqb h.kept one_kept) _ e), (and_left (hears (standing h.call)) _ u, not-awaits _ (and_right (hears (standing h.call)) _ u)))

-- and what such a one hears it keeps, whatever it kept
pub kept_unless_awaited : (h : Hearing) (w : List ℕ) → good_hearing h ≡ true → hears (standing h.call) ≡ true → awaits (standing h.call) ≡ false
    → length w ≡ vector_octets → heard_of h w ≡ (Done, keeping h.call w)
kept_unless_awaited h w g t a l = heard-later h w g (rw (t, a)) l
