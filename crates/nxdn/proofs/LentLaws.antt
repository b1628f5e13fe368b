-- Operations on what lent octets hold, whatever it is: what the code did is what the definition says, and a refusal leaves every lent element.
use mathlib.Core.Path.{◌≡◌, refl, sym, ap, ap₂, ◌∙◌}
use mathlib.Core.Bool.{Bool, true, false, ◌&&◌, true≢false}
use mathlib.Core.List.{List, []}
use Prim.Native.Nat.{ℕ, ◌≤◌, ◌<◌}
use native.Mathlib.Omega.{arith}
use lib.Dec.{eqb}
use lib.ListN.{length}
use borrow.Author.Tests.{eq-eqb, ne_eqb, eqb-true, lt-ltb, le-ltb}
use Rattle.std.specs.Prelude.{Ok, Err}
use Rattle.octets.specs.Tests.{pick}
use Rattle.answers.specs.declared.Answer.{Answer}
use Rattle.answers.specs.declared.Answer.TheVariants.{Done}
use Rattle.answers.specs.Numbers.{number_of, is_done}
use Rattle.answers.specs.Outcomes.{Refusals, outcome, result_of}
use Rattle.answers.proofs.OutcomeLaws.{Refusal, from_two, among_refuses, by_refusals}
use Rattle.nxdn.specs.Lent.{lent_after, answered, left_by, out_after, handed_into, on_lent}

-- ---- what is handed out

module _ (lent : List ℕ) (a : Answer) (out : List ℕ) where
  pub out_done : number_of a ≡ 0 → out_after lent a out ≡ out
  unfolding out_after
  out_done h = rw (eq-eqb (number_of a) 0 h)

  pub out-not : (number_of a ≡ 0 → ⊥) → out_after lent a out ≡ lent
  unfolding out_after
  out-not h = rw (ne_eqb (number_of a) 0 h)

-- an operation that is lent nothing, and one that leaves itself what it doesn't turn
pub out_none : (a : Answer) → [] ≡ out_after [] a []
unfolding out_after
out_none a = go (is_done a)
  where
    go : (t : Bool) → [] ≡ pick {A = List ℕ} t [] []
    go true = refl
    go false = refl

module _ (fits : Bool) (lent : List ℕ) (r : Answer × List ℕ) where
  pub misfit : fits ≡ false → (2, lent) ≡ handed_into fits lent r
  unfolding handed_into
  misfit e = rw e

  module _ {a : Answer} {out : List ℕ} (is : (a, out) ≡ r) (f : fits ≡ true) {n : ℕ} (p : n ≡ number_of a) where
    pub handed-is : {y : List ℕ} → y ≡ out_after lent a out → (n, y) ≡ handed_into fits lent r
    unfolding handed_into
    handed-is {y} e =
        ap₂ (λ (m : ℕ) (l : List ℕ). (m, l)) p e
        ∙ ap (λ (o : Answer × List ℕ). (number_of o.0, out_after lent o.0 o.1)) is
        ∙ sym (rw f)

    pub not-handed : (n ≡ 0 → ⊥) → (n, lent) ≡ handed_into fits lent r
    not-handed h = handed-is (sym (out-not lent a out (λ z. h (p ∙ z))))

    pub is-handed : n ≡ 0 → {y : List ℕ} → y ≡ out → (0, y) ≡ handed_into fits lent r
    is-handed h {y} e = ap (λ (m : ℕ). (m, y)) (sym h) ∙ handed-is (e ∙ sym (out_done lent a out (sym p ∙ h)))

-- ---- what is left in the octets

module _ {S : Type 0} (write : S → List ℕ) (x : List ℕ) (a : Answer) (s : S) where
  pub after_refused : 1 < number_of a → lent_after write x a s ≡ x
  unfolding lent_after
  after_refused h = rw (lt-ltb 1 (number_of a) h)

  pub after-written : number_of a ≤ 1 → lent_after write x a s ≡ write s
  unfolding lent_after
  after-written h = rw (le-ltb 1 (number_of a) h)

  -- as the code writes
  module _ {n : ℕ} (p : n ≡ number_of a) where
    pub keep_refused : 1 < n → (n, x) ≡ answered write x a s
    keep_refused h = ap₂ (λ (m : ℕ) (l : List ℕ). (m, l)) p (sym (after_refused (rw p at h)))

    pub keep_written : n ≤ 1 → {l : List ℕ} → l ≡ write s → (n, l) ≡ answered write x a s
    keep_written h e = ap₂ (λ (m : ℕ) (l : List ℕ). (m, l)) p (e ∙ sym (after-written (rw p at h)))

-- ---- a Result of it

-- where each refusal is 2 or more, what isn't done refuses: only a voice slot is held
pub undone_refuses : {S : Type 0} (before : S) (rs : Refusals) (after : S) → from_two rs ≡ true → is_done (outcome before rs after).0 ≡ false
    → Refusal (outcome before rs after).0
undone_refuses {S} before rs after t =
    by_refusals (λ (o : Answer × S). is_done o.0 ≡ false → Refusal o.0) before rs (Done, after) (λ a m d. among_refuses a rs t m) (λ n d. absurd (true≢false d))

-- there a Result leaves what its outcome does
pub left-is : {S : Type 0} (write : S → List ℕ) (x : List ℕ) (o : Answer × S) → (is_done o.0 ≡ false → Refusal o.0)
    → left_by write x (result_of o) ≡ answered write x o.0 o.1
left-is write x o refuses = go (is_done o.0) refl
  where
    go : (t : Bool) → is_done o.0 ≡ t → left_by write x (pick t (Ok o.1) (Err o.0)) ≡ answered write x o.0 o.1
    go true d = keep_written write x o.0 o.1 (sym (eqb-true (number_of o.0) 0 d)) (omega arith) refl
    go false d = keep_refused write x o.0 o.1 refl (refuses d)

module _ {S : Type 0} (size : ℕ) (read : List ℕ → S) (write : S → List ℕ) (fits : Bool) (f : S → Answer × (S × List ℕ)) (x lent : List ℕ) where
  abbrev taken : Answer × (S × List ℕ) → ℕ × (List ℕ × List ℕ)
  taken r = (number_of r.0, (lent_after write x r.0 r.1.0, out_after lent r.0 r.1.1))

  pub short : (length x ≡ size → ⊥) → (2, (x, lent)) ≡ on_lent size read write fits f x lent
  unfolding on_lent
  short h = rw (ne_eqb (length x) size h)

  pub unfit : length x ≡ size → fits ≡ false → (2, (x, lent)) ≡ on_lent size read write fits f x lent
  unfolding on_lent
  unfit h e = rw (eq-eqb (length x) size h, e)

  -- what the code did, and kept
  pub kept : length x ≡ size → fits ≡ true → {a : Answer} {s : S} {out : List ℕ} → (a, (s, out)) ≡ f (read x)
      → {n : ℕ} {l y : List ℕ} → (n, l) ≡ answered write x a s → y ≡ out_after lent a out → (n, (l, y)) ≡ on_lent size read write fits f x lent
  unfolding on_lent
  kept h e {a} {s} {out} d {n} {l} {y} p q =
      ap₂ (λ (r : ℕ × List ℕ) (o : List ℕ). (r.0, (r.1, o))) p q ∙ ap taken d ∙ sym (rw (eq-eqb (length x) size h, e))

  -- one law for all: a refusal leaves every lent element as it was
  pub refusal_leaves : 2 ≤ (on_lent size read write fits f x lent).0 → (on_lent size read write fits f x lent).1 ≡ (x, lent)
  unfolding on_lent
  refusal_leaves = go (eqb (length x) size && fits)
    where
      go : (t : Bool) → 2 ≤ (pick t (taken (f (read x))) (2, (x, lent))).0 → (pick t (taken (f (read x))) (2, (x, lent))).1 ≡ (x, lent)
      go true h =
          ap₂ (λ (l o : List ℕ). (l, o)) (after_refused write x (f (read x)).0 (f (read x)).1.0 h)
          (out-not lent (f (read x)).0 (f (read x)).1.1 (λ z. absurd (omega arith)))
      go false h = refl
