-- A vector heard, kept and announced: what it leaves, that this is good, and that a refusal changes nothing.
use mathlib.Core.Path.{◌≡◌, refl, sym, ap, ◌∙◌}
use mathlib.Core.Bool.{Bool, true, false, not, true≢false}
use mathlib.Core.List.{List}
use Prim.Native.Nat.{ℕ, ◌<◌}
use native.Mathlib.Omega.{arith}
use lib.Dec.{eqb, ltb}
use lib.ListN.{length}
use borrow.Author.Tests.{eq-eqb, ne_eqb, eqb-true, not-false, lt-ltb, le-ltb, ltb-true, ltb-false}
use Rattle.octets.specs.Tests.{pick}
use Rattle.octets.proofs.TestLaws.{and_left}
use Rattle.sizes.specs.Ciphers.{vector_octets}
use Rattle.answers.specs.declared.Answer.{Answer}
use Rattle.answers.specs.declared.Answer.TheVariants.{Done, WrongLength}
use Rattle.answers.specs.Numbers.{number_of}
use Rattle.answers.proofs.OutcomeLaws.{Refusal, NoneHolds, none_settles, Refuses, answer_at, refused_at, keeps, leaves}
use Rattle.calls.specs.declared.call.Call.{Call}
use Rattle.calls.specs.Call.{good_call, standing, written}
use Rattle.calls.specs.Vector.{awaits, with_vector, announce_refusals, announce_of}
use Rattle.calls.proofs.CallLaws.{good_by, not_bad}
use Rattle.calls.proofs.VectorLaws.{announce_refused, announce_done}
use Rattle.calls.proofs.GoodLaws.{announce_good}
use Rattle.hearing.specs.declared.Hearing.{Hearing}
use Rattle.hearing.specs.Hearing.{none_kept, one_kept, hears, under_way, good_hearing, call_of, alone, keeping}
use Rattle.hearing.specs.Heard.{handed, handed_on, carried, heard_refusals, heard_of}
use Rattle.hearing.proofs.HearingLaws.{waits_not, waits_hears, good_of, good_call_lem, good_call_of, keeps_none, alone_of, alone-good, keeping-good}

-- ---- handed on

module _ (w : List ℕ) (c : Call) where
  -- what holds where a vector stays kept, where it is announced, and where none was kept, holds of what is handed on
  by-handed : (P : Hearing → Type 0) (kept : ℕ) → (under_way (standing c) ≡ true → P (keeping c w)) → P (alone (announce_of c w).1) → P (alone c)
      → P (handed kept w c)
  unfolding handed
  by-handed P kept stays told none = go (eqb kept one_kept) (under_way (standing c)) refl
    where
      go : (k u : Bool) → under_way (standing c) ≡ u → P (pick k (pick u (keeping c w) (alone (announce_of c w).1)) (alone c))
      go true true e = stays e
      go true false e = told
      go false u e = none

  -- a good call stays good with it, whatever the vector
  pub handed-good : good_call c ≡ true → (kept : ℕ) → good_hearing (handed kept w c) ≡ true
  handed-good g kept =
      by-handed (λ h. good_hearing h ≡ true) kept (keeping-good c w g) (alone-good (announce_of c w).1 (announce_good c g w)) (alone-good c g)

  -- in the middle of a session it stays kept, and the call is as it was
  pub handed-later : under_way (standing c) ≡ true → handed one_kept w c ≡ keeping c w
  unfolding handed
  handed-later u = rw u

  module _ (u : under_way (standing c) ≡ false) where
    pub handed_now : handed one_kept w c ≡ alone (announce_of c w).1
    unfolding handed
    handed_now = rw u

    -- once announced it is not kept any longer
    pub kept_once : (kept : ℕ) → (handed kept w c).kept ≡ none_kept
    unfolding handed
    kept_once kept = rw u (go (eqb kept one_kept))
      where
        go : (k : Bool) → (pick k (alone (announce_of c w).1) (alone c)).kept ≡ none_kept
        go true = refl
        go false = refl

  -- a call that waits for its session's vector is told the one that was kept
  pub handed_told : good_call c ≡ true → awaits (standing c) ≡ true → length w ≡ vector_octets
      → handed one_kept w c ≡ alone (written c.counts (with_vector w (standing c)))
  unfolding announce_refusals
  handed_told g a l =
      handed_now (waits_not (standing c) a)
      ∙ ap (λ (r : Answer × Call). alone r.1) (sym (announce_done c w (ap not (eq-eqb (length w) vector_octets l), (not_bad c g, (ap not a, tt)))))

  -- what was kept is dropped where the call hears of vectors no longer, as after its end
  pub handed_dropped : hears (standing c) ≡ false → (kept : ℕ) → handed kept w c ≡ alone c
  unfolding announce_of announce_refusals
  handed_dropped n kept =
      by-handed (λ h. h ≡ alone c) kept (λ u. absurd (true≢false (sym (and_left (hears (standing c)) _ u) ∙ n)))
      (ap alone
      (leaves (λ d. d ≡ c) c (announce_refusals (standing c) w) (Done, written c.counts (with_vector w (standing c))) refl
      (λ none. absurd (true≢false (sym (waits_hears (standing c) (not-false _ none.1.1.0)) ∙ n))))) refl

-- ---- an operation on the call

module _ (h : Hearing) (a : Answer) (c : Call) where
  pub on_refused : Refusal a → handed_on h a c ≡ h
  unfolding handed_on
  on_refused r = rw (lt-ltb 1 (number_of a) r)

  module _ (l : number_of a < 2) where
    pub on_none : (h.kept ≡ one_kept → ⊥) → handed_on h a c ≡ alone c
    unfolding handed_on handed
    on_none n = rw (le-ltb 1 (number_of a) (omega arith), ne_eqb _ _ n)

    pub on_one : h.kept ≡ one_kept → handed_on h a c ≡ handed one_kept h.next c
    unfolding handed_on
    on_one e = rw (le-ltb 1 (number_of a) (omega arith), e)

  -- what holds of what was there, where it is refused, and of what is handed on, where it is taken
  by_answer : (P : Hearing → Type 0) → (Refusal a → P h) → (number_of a < 2 → P (handed h.kept h.next c)) → P (handed_on h a c)
  unfolding handed_on
  by_answer P kept taken = go (ltb 1 (number_of a)) refl
    where
      go : (t : Bool) → ltb 1 (number_of a) ≡ t → P (pick t h (handed h.kept h.next c))
      go true e = kept (ltb-true _ _ e)
      go false e = taken (omega (arith, ltb-false 1 (number_of a) e))

module _ {X : Type 0} (f : Call → Answer × (Call × X)) (h : Hearing) where
  -- as the code does it: the operation on the call, and then what `carry` says
  pub carried-is : {a b : Answer} {c : Call} {s : Hearing} {x : X} → (a, (c, x)) ≡ f (call_of h) → (b ≡ a) × (s ≡ handed_on h a c) → (b, (s, x)) ≡ carried f h
  unfolding carried
  carried-is p q = rw (q.0, q.1) (ap (λ (r : Answer × (Call × X)). (r.0, (handed_on h r.0 r.1.0, r.1.1))) p)

  -- a refusal leaves the call and what it keeps
  pub carried_keeps : Refusal (carried f h).0 → (carried f h).1.0 ≡ h
  unfolding carried
  carried_keeps = on_refused h (f (call_of h)).0 (f (call_of h)).1.0

  -- an operation that leaves its call good, where it is taken, leaves it good with what it keeps
  pub carried-good : good_hearing h ≡ true → (number_of (f h.call).0 < 2 → good_call (f h.call).1.0 ≡ true)
      → good_hearing (carried f h).1.0 ≡ true
  unfolding carried
  carried-good good left =
      let r = f h.call in
      rw (good_call_of h good)
      (by_answer h r.0 r.1.0 (λ s. good_hearing s ≡ true) (λ no. good) (λ l. handed-good h.next r.1.0 (left l) h.kept))

module _ {X : Type 0} (f : Call → Answer × (Call × X)) (c : Call) where
  -- a call that keeps nothing goes exactly as the call itself, good or bad
  pub carried-alone : (Refusal (f c).0 → (f c).1.0 ≡ c) → carried f (alone c) ≡ ((f c).0, (alone (f c).1.0, (f c).1.1))
  unfolding carried handed
  carried-alone same =
      rw (alone_of c)
      (ap (λ (s : Hearing). ((f c).0, (s, (f c).1.1)))
      (by_answer (alone c) (f c).0 (f c).1.0 (λ s. s ≡ alone (f c).1.0) (λ r. ap alone (sym (same r))) (λ l. refl)))

-- ---- heard, as the code settles it

module _ (h : Hearing) (w : List ℕ) {c : Call} (is : c ≡ call_of h) where
  pub heard_refused : (n : ℕ) → Refuses (heard_refusals (standing c) w) n → (answer_at (heard_refusals (standing c) w) n, h) ≡ heard_of h w
  unfolding heard_of
  heard_refused n = rw is (refused_at h (heard_refusals (standing (call_of h)) w) (Done, handed one_kept w h.call) n)

  pub heard_done : NoneHolds (heard_refusals (standing c) w) → (Done, handed one_kept w c) ≡ heard_of h w
  unfolding heard_of heard_refusals
  heard_done n =
      let its = good_call_of h (good_of h (sym (ap good_call is) ∙ good_by c n.1.0)) in
      ap (λ (d : Call). (Done, handed one_kept w d)) (is ∙ its)
      ∙ sym (none_settles (heard_refusals (standing (call_of h)) w) h (Done, handed one_kept w h.call) (rw is at n))

-- ---- heard

module _ (h : Hearing) (w : List ℕ) where
  abbrev asked : Type 0
  asked = NoneHolds (heard_refusals (standing (call_of h)) w)

  -- a refusal leaves the call and what it keeps
  pub heard_keeps : Refusal (heard_of h w).0 → (heard_of h w).1 ≡ h
  unfolding heard_of
  heard_keeps = keeps h (heard_refusals (standing (call_of h)) w) (Done, handed one_kept w h.call) (omega arith)

  by-heard : (P : Hearing → Type 0) → P h → (asked → P (handed one_kept w h.call)) → P (heard_of h w).1
  unfolding heard_of
  by-heard P = leaves P h (heard_refusals (standing (call_of h)) w) (Done, handed one_kept w h.call)

  module _ (good : good_hearing h ≡ true) where
    pub heard-good : good_hearing (heard_of h w).1 ≡ true
    heard-good = by-heard (λ s. good_hearing s ≡ true) good (λ n. handed-good w h.call (good_call_lem h good) one_kept)

    -- a vector of eight octets, to a call that hears of vectors
    heard-taken : hears (standing h.call) ≡ true → length w ≡ vector_octets → heard_of h w ≡ (Done, handed one_kept w h.call)
    unfolding heard_refusals
    heard-taken t l =
        sym (heard_done h w (sym (good_call_of h good)) (ap not (eq-eqb (length w) vector_octets l), (not_bad h.call (good_call_lem h good), (ap not t, tt))))

    -- in the middle of a session it is kept, and the call itself is as it was
    pub heard-later : under_way (standing h.call) ≡ true → length w ≡ vector_octets → heard_of h w ≡ (Done, keeping h.call w)
    heard-later u l = heard-taken (and_left (hears (standing h.call)) _ u) l ∙ ap (λ (s : Hearing). (Done, s)) (handed-later w h.call u)

    module _ (a : awaits (standing h.call) ≡ true) where
      -- a vector of eight octets is told to a call that waits for its session's, as if it were announced
      pub heard_told : length w ≡ vector_octets → heard_of h w ≡ ((announce_of h.call w).0, alone (announce_of h.call w).1)
      unfolding announce_refusals
      heard_told l =
          heard-taken (waits_hears (standing h.call) a) l
          ∙ ap (λ (s : Hearing). (Done, s)) (handed_now w h.call (waits_not (standing h.call) a))
          ∙ ap (λ (x : Answer). (x, alone (announce_of h.call w).1))
          (ap (λ (r : Answer × Call). r.0)
          (announce_done h.call w (ap not (eq-eqb (length w) vector_octets l), (not_bad h.call (good_call_lem h good), (ap not a, tt)))))

      -- and one of any other length is refused, as there
      pub heard_now_lem : length h.next ≡ vector_octets → heard_of h w ≡ ((announce_of h.call w).0, alone (announce_of h.call w).1)
      unfolding heard_refusals announce_refusals
      heard_now_lem l = go (eqb (length w) vector_octets) refl
        where
          go : (t : Bool) → eqb (length w) vector_octets ≡ t → heard_of h w ≡ ((announce_of h.call w).0, alone (announce_of h.call w).1)
          go true e = heard_told (eqb-true _ _ e)
          go false e =
              sym (heard_refused h w (sym (good_call_of h good)) 0 (ap not e))
              ∙ ap (λ (s : Hearing). (WrongLength, s)) (keeps_none h good (waits_not (standing h.call) a) l)
              ∙ ap (λ (r : Answer × Call). (r.0, alone r.1)) (announce_refused h.call w 0 (ap not e))
