-- What each function's code did is what the interface's definition says of it.
use mathlib.Core.Path.{◌≡◌, refl, sym, ap, ◌∙◌}
use mathlib.Core.Bool.{Bool, true, false, not}
use mathlib.Core.List.{List, [], ◌∷◌}
use Prim.Native.Nat.{ℕ}
use native.Mathlib.Omega.{arith}
use mir.Val.{bool_byte}
use lib.ListN.{length, take, drop, length-drop}
use lib.Seq.{length-take-le}
use borrow.Rule.Slice.PartMut.{put_mid}
use borrow.Author.Tests.{eq-eqb, ne_eqb, eqb-false}
use Rattle.octets.specs.Tests.{pick}
use Rattle.octets.proofs.Front.{first_long, put_both}
use Rattle.answers.specs.declared.Answer.{Answer}
use Rattle.answers.specs.Numbers.{number_of}
use Rattle.answers.specs.Outcomes.{result_of}
use Rattle.answers.proofs.ResultLaws.{is_returned, is_refused}
use Rattle.std.specs.Prelude.{Ok, Err}
use Rattle.keybook.specs.History as book
use Rattle.keybook.specs.declared.screen.Shown.{Shown}
use Rattle.keybook.specs.Screen.{name_of, inventory_of}
use Rattle.calls.specs.declared.call.Call.{Call}
use Rattle.calls.specs.Call.{unknown_vector, good_call, standing}
use Rattle.voice.specs.Slot.{is_full}
use Rattle.calls.proofs.CallLaws.{knows-is, knows_no}
use Rattle.report.specs.Report.{report_of}
use Rattle.nxdn.specs.Operations.{ScreenOperation, Name, Inventory, listed, screen_step}
use Rattle.nxdn.specs.Shown.{turns_now, shown_call}
use Rattle.nxdn.specs.Interface.{on_book, screen_room, on_screen, on_report}
use Rattle.nxdn.proofs.LentLaws.{misfit, not-handed, is-handed}

-- ---- the book

pub booked : (o : book.Operation) (b : List ℕ) {after : List ℕ} {a : Answer} {n : ℕ} → (a, after) ≡ book.step o b → n ≡ number_of a → (n, after) ≡ on_book o b
unfolding on_book
booked o b {after} e p = ap (λ (m : ℕ). (m, after)) p ∙ ap (λ (r : Answer × List ℕ). (number_of r.0, r.1)) e

-- ---- what a screen shows of it

module _ (b : List ℕ) (o : ScreenOperation) (lent : List ℕ) where
  pub screen_misfit : (length lent ≡ screen_room o → ⊥) → (2, lent) ≡ on_screen b o lent
  unfolding on_screen
  screen_misfit h = misfit _ lent _ (ne_eqb (length lent) (screen_room o) h)

  module _ {a : Answer} {out : List ℕ} (is : (a, out) ≡ screen_step b o) (f : length lent ≡ screen_room o) {n : ℕ} (p : n ≡ number_of a) where
    pub screen_not : (n ≡ 0 → ⊥) → (n, lent) ≡ on_screen b o lent
    unfolding on_screen
    screen_not h = not-handed _ lent _ is (eq-eqb (length lent) (screen_room o) f) p h

    pub screen_done : n ≡ 0 → {y : List ℕ} → y ≡ out → (0, y) ≡ on_screen b o lent
    unfolding on_screen
    screen_done h e = is-handed _ lent _ is (eq-eqb (length lent) (screen_room o) f) p h e

pub named : (b : List ℕ) (c i : ℕ) {a : Answer} {out : List ℕ} → (a, out) ≡ name_of b c i → (a, out) ≡ screen_step b (Name c i)
unfolding screen_step
named b c i e = e

pub listed-is : (b : List ℕ) (k : ℕ) {a : Answer} {s : Shown} → (a, s) ≡ inventory_of b k → (a, listed s) ≡ screen_step b (Inventory k)
unfolding screen_step
listed-is b k e = ap (λ (r : Answer × Shown). (r.0, listed r.1)) e

-- its octets, laid in two parts
module _ (s : Shown) (d : List ℕ) (long : length d ≡ 20) (name : length s.name ≡ 16) {f : ℕ} (is : f ≡ pick s.ready 1 0) (p : List ℕ)
    (head : p ≡ s.cipher ∷ s.id ∷ s.loaded ∷ f ∷ []) where
  head-is : p ≡ s.cipher ∷ s.id ∷ s.loaded ∷ pick s.ready 1 0 ∷ []
  head-is = head ∙ ap (λ (n : ℕ). s.cipher ∷ s.id ∷ s.loaded ∷ n ∷ []) is

  pub entry_room : length (take 16 (drop 4 (put_mid 0 4 d p))) ≡ length s.name
  entry_room =
      let l = first_long d (s.cipher ∷ s.id ∷ s.loaded ∷ pick s.ready 1 0 ∷ []) s.name 4 16 refl name long p head-is in
      length-take-le 16 (drop 4 (put_mid 0 4 d p)) (simp length-drop (omega (arith, l))) ∙ sym name

  pub entry_laid : {q : List ℕ} → q ≡ s.name → put_mid 4 16 (put_mid 0 4 d p) q ≡ listed s
  entry_laid {q} e = put_both d (s.cipher ∷ s.id ∷ s.loaded ∷ pick s.ready 1 0 ∷ []) s.name 4 16 refl name long p head-is q e

-- a flag as the number that std makes of it
pub flag_is : (b : Bool) → bool_byte b ≡ pick b 1 0
flag_is true = refl
flag_is false = refl

-- ---- a report

module _ (counts lent : List ℕ) where
  pub report_misfit : (length lent ≡ 6 → ⊥) → (2, lent) ≡ on_report counts lent
  unfolding on_report
  report_misfit h = misfit _ lent _ (ne_eqb (length lent) 6 h)

  module _ {a : Answer} {out : List ℕ} (is : (a, out) ≡ report_of counts) (f : length lent ≡ 6) {n : ℕ} (p : n ≡ number_of a) where
    pub report_not : (n ≡ 0 → ⊥) → (n, lent) ≡ on_report counts lent
    unfolding on_report
    report_not h = not-handed _ lent _ is (eq-eqb (length lent) 6 f) p h

    pub report_done : n ≡ 0 → {y : List ℕ} → y ≡ out → (0, y) ≡ on_report counts lent
    unfolding on_report
    report_done h e = is-handed _ lent _ is (eq-eqb (length lent) 6 f) p h e

  -- by the Result that report answers
  pub report_refused : length lent ≡ 6 → (a : Answer) → Err a ≡ result_of (report_of counts) → {n : ℕ} → n ≡ number_of a → (n, lent) ≡ on_report counts lent
  report_refused f a e p =
      let w = is_refused (report_of counts) e refl in
      report_not (ap (λ (b : Answer). (b, (report_of counts).1)) (sym w.0)) f p (λ z. eqb-false (number_of a) 0 w.1 (sym p ∙ z))

  pub report_returned : length lent ≡ 6 → (l : List ℕ) → Ok l ≡ result_of (report_of counts) → {y : List ℕ} → y ≡ l → (0, y) ≡ on_report counts lent
  report_returned f l e q = report_done (sym (is_returned (report_of counts) e refl)) f refl refl q

-- ---- what a screen shows of a call

module _ (c : Call) where
  pub call_laid : {f : ℕ} → f ≡ pick (turns_now c) 1 0 → {l : List ℕ} → l ≡ c.end ∷ c.terms.cipher ∷ c.terms.rate ∷ c.position ∷ f ∷ [] → l ≡ shown_call c
  call_laid e h = h ∙ ap (λ (n : ℕ). c.end ∷ c.terms.cipher ∷ c.terms.rate ∷ c.position ∷ n ∷ []) e

  pub turns_not : c.known ≡ unknown_vector → false ≡ turns_now c
  unfolding turns_now
  turns_not e = sym (rw (knows_no c e))

  pub turns_unless : good_call c ≡ true → (c.known ≡ unknown_vector → ⊥) → not (is_full (standing c) c.counts) ≡ turns_now c
  unfolding turns_now
  turns_unless g h = sym (rw (knows-is c g, ne_eqb c.known unknown_vector h))
