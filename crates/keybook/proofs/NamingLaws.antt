-- The name rule (document 02, W-201) by the paper's numbers: of every entry in a good book, and of what begin refuses by 17.
use Prim.Native.Nat.{ℕ, ◌*◌, ◌<◌}
use native.Mathlib.Decide.{ℕ_discrete}
use mathlib.Core.Path.{◌≡◌, refl, sym, ap, subst, ◌∙◌}
use mathlib.Core.Bool.{Bool, true, false, not, true≢false}
use mathlib.Core.List.{List}
use lib.ListN.{length, take, drop}
use lib.Dec.{eqb}
use borrow.Author.Tests.{eq-eqb, eqb-true, not-true, not-false}
use Rattle.answers.specs.declared.Answer.TheVariants.{Done, BadName}
use Rattle.answers.specs.Numbers.{number_of}
use Rattle.answers.proofs.OutcomeLaws.{gives}
use Rattle.keyentry.specs.Name.{IsName, name_right}
use Rattle.keyentry.specs.Entry.{cipher_in, name_in, in_range}
use Rattle.keyentry.proofs.RightLaws.{used_of}
use Rattle.keyentry.proofs.NameLaws.{name_is-right, right-is_name, no_name_lem}
use Rattle.keyentry.proofs.WriteLaws.{name_length, blank_name}
use Rattle.keybook.specs.Book.{entry_of, good_book}
use Rattle.keybook.specs.Operations.{begin_refusals, begin_after, begin_of}
use Rattle.keybook.proofs.BookLaws.{entry_length}
use Rattle.keybook.proofs.GoodLaws.{good_sized, good_entry}
use Rattle.keybook.proofs.OperationLaws.{begin_bad_name}
use Rattle.keybook.proofs.UndoLaws.{free_blank}

-- each entry of a good book has a name at its octets 36 to 51: any other octets there make the book bad
pub good_named : (b : List ℕ) → good_book b ≡ true → (k : ℕ) → k < 16 → IsName (take 16 (drop 36 (take 52 (drop (k * 52) b))))
unfolding entry_of
good_named b g k l = go (ℕ_discrete (cipher_in (entry_of b k)) 0)
  where
    go : Dec (cipher_in (entry_of b k) ≡ 0) → IsName (name_in (entry_of b k))
    go (yes z) = subst IsName (sym (ap name_in (free_blank b k g l z) ∙ blank_name)) no_name_lem
    go (no u) =
        let e = entry_of b k in
        right-is_name (name_in e) (name_length e (entry_length b k (good_sized b g) l)) (used_of e u (good_entry b g k l)).name

-- any other number
other : {A T : Type 0} (n : ℕ) → eqb n 17 ≡ false → T → n ≡ 17 → A
other n f _ e = absurd (true≢false (sym (eq-eqb n 17 e) ∙ f))

-- a begin whose name has 16 octets and isn't one, where the book has its length, and cipher type and key ID are in range; whatever the book holds
pub record BadlyNamed (b : List ℕ) (c i : ℕ) (name : List ℕ) : Type 0 where
  pub name_long : length name ≡ 16
  pub long : length b ≡ 832
  pub in_range_lem : in_range c i ≡ true
  pub is_bad_lem : IsName name → ⊥

-- 17 is given there and nowhere else
module _ (b : List ℕ) (c i : ℕ) (name : List ℕ) where
  not_right : BadlyNamed b c i name → name_right name ≡ false
  not_right m = go (name_right name) refl
    where
      go : (t : Bool) → name_right name ≡ t → t ≡ false
      go true r = absurd (m.is_bad_lem (right-is_name name m.name_long r))
      go false r = refl

  only-badly : number_of (begin_of b c i name).0 ≡ 17 → BadlyNamed b c i name
  unfolding begin_of begin_refusals
  only-badly =
      gives (λ a. number_of a ≡ 17 → BadlyNamed b c i name) b (begin_refusals b c i name) (Done, begin_after b c i name)
      (other 2 refl, λ w. (other 2 refl, λ l. (other 3 refl, λ r. (named w l r, λ _. (other 4 refl, λ _. (other 11 refl, λ _. (other 12 refl, λ _. tt)))))))
      (other 0 refl (tt {0}))
    where
      named : not (eqb (length name) 16) ≡ false → not (eqb (length b) 832) ≡ false → not (in_range c i) ≡ false → not (name_right name) ≡ true
          → ◌≡◌ {A = ℕ} 17 17 → BadlyNamed b c i name
      named w l r t e =
          record {
            name_long = eqb-true _ _ (not-false _ w);
            long = eqb-true _ _ (not-false _ l);
            in_range_lem = not-false _ r;
            is_bad_lem = λ m. true≢false (sym (name_is-right name m) ∙ not-true _ t);
          }

  pub bad_name_exactly : (number_of (begin_of b c i name).0 ≡ 17 → BadlyNamed b c i name) × (BadlyNamed b c i name → begin_of b c i name ≡ (BadName, b))
  bad_name_exactly = (only-badly, λ m. sym (begin_bad_name b c i name m.name_long m.long m.in_range_lem (not_right m)))
