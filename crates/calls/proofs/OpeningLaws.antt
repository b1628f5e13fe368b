-- How a call begins, as the code goes through it.
use mathlib.Core.Path.{◌≡◌, refl, ap, ◌∙◌}
use mathlib.Core.Bool.{Bool, true, false, not}
use mathlib.Core.List.{List}
use Prim.Native.Nat.{ℕ}
use lib.Dec.{eqb}
use Rattle.octets.specs.Tests.{pick}
use Rattle.sizes.specs.Ciphers.{scrambles, superframe_slots}
use Rattle.answers.specs.declared.Answer.{Answer}
use Rattle.answers.specs.declared.Answer.TheVariants.{Done}
use Rattle.answers.specs.Numbers.{is_done}
use Rattle.openings.specs.Ladder.{session_vector, opening_key_of, vector_key_of}
use Rattle.openings.proofs.BegunLaws.{Alike, both-bad, the_same, key-begun_refused, key-begun, vector-begun_refused, vector-begun}
use Rattle.calls.specs.declared.call.Terms.{Terms}
use Rattle.calls.specs.declared.call.Call.{Call}
use Rattle.calls.specs.Counts.{no_counts}
use Rattle.calls.specs.Call.{closed_end, sending_end, receiving_end, terms_right, good_call, untold, receiving, standing, terms_of, written, is_bad, stands}
use Rattle.calls.specs.Opening.{join_refusals, begun_refusals, begun, begun_of, joined, join_of}
use Rattle.calls.proofs.CallLaws.{by_stands, is_bad_lem}

-- the code and the definition refuse alike
call_alike : (call : Call) (good : Bool) → good ≡ good_call call
    → Alike (not good) (not (eqb call.end closed_end)) (is_bad (standing call)) (stands (standing call))
call_alike call good g = go (good_call call) refl
  where
    go : (t : Bool) → good_call call ≡ t → Alike (not good) (not (eqb call.end closed_end)) (is_bad (standing call)) (stands (standing call))
    go false t = both-bad (ap not (g ∙ t)) (is_bad_lem call t)
    go true t =
        by_stands call t (λ o e s. the_same (rw (g ∙ t, s)) (rw (s, e))) (λ o e s. the_same (rw (g ∙ t, s)) (rw (s, e)))
        (λ o e s. the_same (rw (g ∙ t, s)) (rw (s, e)))

-- scramble joins at position 0, DES and AES after the superframe
pub joined_at : (t : Terms) {p : ℕ} → p ≡ pick (scrambles t.cipher) 0 superframe_slots → written no_counts (receiving t p (untold t.cipher)) ≡ written no_counts (joined t)
joined_at t = ap (λ (p : ℕ). written no_counts (receiving t p (untold t.cipher)))

module _ (call : Call) (good : Bool) (g : good ≡ good_call call) (c i r m : ℕ) (b : List ℕ) where
  -- what the code says of the call
  abbrev busy : Bool
  busy = not (eqb call.end closed_end)

  module _ (a : Answer) (key : List ℕ) {t : Bool} (right : t ≡ terms_right receiving_end r m) (e : (a, key) ≡ opening_key_of t (not good) busy c i b) where
    pub join_refused : is_done a ≡ false → (a, call) ≡ join_of call c i r m b
    unfolding join_of join_refusals
    join_refused = key-begun_refused call (λ k. written no_counts (joined (terms_of c k r m))) (terms_right receiving_end r m) (not good) busy _ _ (call_alike call good g) c i b a key (rw right at e)

    pub join_done : is_done a ≡ true → (Done, written no_counts (joined (terms_of c key r m))) ≡ join_of call c i r m b
    unfolding join_of join_refusals
    join_done = key-begun call (λ k. written no_counts (joined (terms_of c k r m))) (terms_right receiving_end r m) (not good) busy _ _ (call_alike call good g) c i b a key (rw right at e)

  module _ (w : List ℕ) (end : ℕ) (a : Answer) (key : List ℕ) {t : Bool} (right : t ≡ terms_right end r m) (e : (a, key) ≡ vector_key_of (eqb end sending_end) t (not good) busy c i w b) where
    pub begun_refused : is_done a ≡ false → (a, call) ≡ begun_of end call c i r m w b
    unfolding begun_refusals
    begun_refused = vector-begun_refused call (λ k. written no_counts (begun end (terms_of c k r m) (session_vector c w))) (terms_right end r m) (not good) busy _ _ (call_alike call good g) c i b w (eqb end sending_end) a key (rw right at e)

    pub begun_done : is_done a ≡ true → (Done, written no_counts (begun end (terms_of c key r m) (session_vector c w))) ≡ begun_of end call c i r m w b
    unfolding begun_refusals
    begun_done = vector-begun call (λ k. written no_counts (begun end (terms_of c k r m) (session_vector c w))) (terms_right end r m) (not good) busy _ _ (call_alike call good g) c i b w (eqb end sending_end) a key (rw right at e)
