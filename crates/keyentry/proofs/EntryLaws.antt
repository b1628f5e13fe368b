-- The cases of an entry's rules, each as a way through the code meets it.
use Prim.Native.Nat.{ℕ, ◌+◌, ◌-◌, ◌≤◌, ◌<◌}
use native.Mathlib.Nat.{le_refl}
use mathlib.Core.Path.{◌≡◌, ap, ◌∙◌}
use mathlib.Core.Bool.{true, false}
use mathlib.Core.List.{List, append-nil}
use lib.ListN.{length, set, take, drop, length-drop}
use lib.Seq.{take_all}
use borrow.Author.Tests.{lt-ltb, le-ltb, le-leb, lt-leb, eq-eqb, ne_eqb}
use borrow.Rule.Slice.PartMut.{put_mid}
use Rattle.octets.specs.Lists.{all_zero, replaced}
use Rattle.octets.proofs.Parts.{put-replaced}
use Rattle.sizes.specs.Ciphers.{key_octets}
use Rattle.ciphers.specs.Keys.{key_allowed}
use Rattle.answers.specs.declared.Answer.{Answer}
use Rattle.answers.specs.declared.Answer.TheVariants.{Done, NotReady, NotAllowed, Already, TooMany}
use Rattle.answers.specs.Outcomes.{outcome}
use Rattle.keyentry.specs.Name.{name_octets, name_right}
use Rattle.keyentry.specs.Entry.{entry_octets, cipher_in, id_in, count_in, count_place, ready_place, ready_in, key_place, key_in, key_rest, name_in, name_place, in_range, lacks, ready_right, used_right, blank, new_entry, extend_refusals, extended, complete_refusals, completed}

module _ (e : List ℕ) where
  pub ready-none : ready_in e ≡ 0 → true ≡ ready_right e
  unfolding ready_right
  ready-none h = rw (eq-eqb _ _ h)

  pub ready_other : (ready_in e ≡ 0 → ⊥) → 1 < ready_in e → false ≡ ready_right e
  unfolding ready_right
  ready_other n h = rw (ne_eqb _ _ n, lt-leb _ _ h)

  pub ready_short : (ready_in e ≡ 0 → ⊥) → ready_in e ≤ 1 → (lacks e ≡ 0 → ⊥) → false ≡ ready_right e
  unfolding ready_right
  ready_short n h l = rw (ne_eqb _ _ n, le-leb _ _ h, ne_eqb _ _ l)

  pub ready-key : {k : List ℕ} → (ready_in e ≡ 0 → ⊥) → ready_in e ≤ 1 → lacks e ≡ 0 → k ≡ key_in e → key_allowed (cipher_in e) k ≡ ready_right e
  unfolding ready_right
  ready-key n h l q = rw (ne_eqb _ _ n, le-leb _ _ h, eq-eqb _ _ l, q)

  -- what the borrow checker says of a key lent from the count on
  pub rest-lent : {n : ℕ} {k : List ℕ} → n ≡ count_in e → k ≡ key_in e → take (length k - n) (drop n k) ≡ key_rest e
  rest-lent {n} {k} p q = take_all (length k - n) (drop n k) (simp length-drop (le_refl (length k - n))) ∙ rw (p, q)

  pub used_range : in_range (cipher_in e) (id_in e) ≡ false → false ≡ used_right e
  unfolding used_right
  used_range h = rw h

  module _ (h : in_range (cipher_in e) (id_in e) ≡ true) where
    pub used_count : key_octets (cipher_in e) < count_in e → false ≡ used_right e
    unfolding used_right
    used_count n = rw (h, lt-leb _ _ n)

    pub used-rest : count_in e ≤ key_octets (cipher_in e) → all_zero (key_rest e) ≡ false → false ≡ used_right e
    unfolding used_right
    used-rest n z = rw (h, le-leb _ _ n, z)

    module _ (n : count_in e ≤ key_octets (cipher_in e)) (z : all_zero (key_rest e) ≡ true) where
      pub used-ready : ready_right e ≡ false → false ≡ used_right e
      unfolding used_right
      used-ready r = rw (h, le-leb _ _ n, z, r)

      pub used_name : {n : List ℕ} → ready_right e ≡ true → n ≡ name_in e → name_right n ≡ used_right e
      unfolding used_right
      used_name r q = rw (h, le-leb _ _ n, z, r, q)

-- a blank entry has room for a name
pub name_fits : {e : List ℕ} (c i : ℕ) → e ≡ blank → entry_octets ≤ length (set (set e 0 c) 1 i)
unfolding blank
name_fits c i q = rw q (le_refl entry_octets)

-- what the borrow checker says of a blank entry whose name was lent and came back as n
pub new_written : {e n m : List ℕ} (c i : ℕ) → e ≡ blank → n ≡ m
    → put_mid name_place (entry_octets - name_place) (set (set e 0 c) 1 i) n ≡ new_entry c i m
unfolding blank new_entry replaced
new_written {e} {n} {m} c i q p =
    ap (λ (l : List ℕ). put_mid name_place (entry_octets - name_place) (set (set l 0 c) 1 i) n) q
    ∙ put-replaced (set (set blank 0 c) 1 i) n name_place name_octets ∙ rw (p, append-nil)

pub appended : {p : List ℕ} (e xs : List ℕ) {n : ℕ} → n ≡ count_in e → p ≡ xs
    → set (put_mid (key_place + n) (key_place + n + length xs - (key_place + n)) e p) count_place (n + length xs) ≡ extended e xs
unfolding extended
appended {p} e xs {n} q r =
    ap (λ (l : List ℕ). set l count_place (n + length xs)) (put-replaced e p (key_place + n) (length xs)) ∙ rw (q, r)

module _ (e xs : List ℕ) where
  abbrev pub loading : Answer × List ℕ
  loading = outcome e (extend_refusals e xs) (extended e xs)

  pub extend_already : ready_in e ≡ 1 → (Already, e) ≡ loading
  unfolding extend_refusals
  extend_already h = rw (eq-eqb _ _ h)

  pub extend_past : (ready_in e ≡ 1 → ⊥) → lacks e < length xs → (TooMany, e) ≡ loading
  unfolding extend_refusals
  extend_past n h = rw (ne_eqb _ _ n, lt-ltb _ _ h)

  pub extend_done : {f : List ℕ} → (ready_in e ≡ 1 → ⊥) → length xs ≤ lacks e → f ≡ extended e xs → (Done, f) ≡ loading
  unfolding extend_refusals
  extend_done n h q = rw (ne_eqb _ _ n, le-ltb _ _ h, q)

module _ (e : List ℕ) where
  abbrev pub completing : Answer × List ℕ
  completing = outcome e (complete_refusals e) (completed e)

  pub complete_already : ready_in e ≡ 1 → (Already, e) ≡ completing
  unfolding complete_refusals
  complete_already h = rw (eq-eqb _ _ h)

  pub complete_short : (ready_in e ≡ 1 → ⊥) → 0 < lacks e → (NotReady, e) ≡ completing
  unfolding complete_refusals
  complete_short n h = rw (ne_eqb _ _ n, lt-ltb _ _ h)

  module _ (n : ready_in e ≡ 1 → ⊥) (h : lacks e ≤ 0) {k : List ℕ} (q : k ≡ key_in e) where
    pub complete_refused : key_allowed (cipher_in e) k ≡ false → (NotAllowed, e) ≡ completing
    unfolding complete_refusals
    complete_refused a = rw (ne_eqb _ _ n, le-ltb _ _ h, ← q, a)

    pub complete_done : key_allowed (cipher_in e) k ≡ true → (Done, set e ready_place 1) ≡ completing
    unfolding complete_refusals completed
    complete_done a = rw (ne_eqb _ _ n, le-ltb _ _ h, ← q, a)
