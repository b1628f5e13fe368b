-- An entry's rules as facts.
use Prim.Native.Nat.{ℕ, ◌≤◌, ◌<◌}
use native.Mathlib.Decide.{ℕ_discrete, dec_lt}
use native.Mathlib.Omega.{arith}
use mathlib.Core.Path.{◌≡◌, refl}
use mathlib.Core.Bool.{Bool, true, false, ◌&&◌}
use mathlib.Core.List.{List}
use lib.ListN.{length, get_or, get_or-eq_default}
use lib.Dec.{leb, eqb}
use borrow.Author.Tests.{le-leb, leb-true, eq-eqb, ne_eqb, eqb-true}
use Rattle.octets.specs.Lists.{all_zero}
use Rattle.octets.specs.Tests.{pick}
use Rattle.sizes.proofs.SizeLaws.{key-at-most}
use Rattle.octets.proofs.TestLaws.{all-at, all_intro, and_left, and_right}
use Rattle.sizes.specs.Ciphers.{key_octets, key_room}
use Rattle.keyentry.specs.Entry.{cipher_in, id_in, count_in, count_place, ready_in, ready_place, is_ready, key_rest, name_in, in_range, ready_right, used_right, entry_right, is_for}
use Rattle.keyentry.specs.Name.{name_right}

pub zero-at : (xs : List ℕ) → all_zero xs ≡ true → (j : ℕ) → get_or xs j 0 ≡ 0
unfolding all_zero
zero-at xs z j = go (dec_lt j (length xs))
  where
    go : Dec (j < length xs) → get_or xs j 0 ≡ 0
    go (yes l) = eqb-true _ _ (all-at (λ i. eqb (get_or xs i 0) 0) (length xs) j l z)
    go (no n) = get_or-eq_default xs 0 (omega arith)

pub zeros : (xs : List ℕ) → ((j : ℕ) → get_or xs j 0 ≡ 0) → all_zero xs ≡ true
unfolding all_zero
zeros xs h = all_intro (λ j. eqb (get_or xs j 0) 0) (length xs) (λ j l. eq-eqb _ _ (h j))

pub record Used (e : List ℕ) : Type 0 where
  pub range : in_range (cipher_in e) (id_in e) ≡ true
  pub count : count_in e ≤ key_octets (cipher_in e)
  pub rest : all_zero (key_rest e) ≡ true
  pub ready : ready_right e ≡ true
  pub name : name_right (name_in e) ≡ true

module _ (e : List ℕ) where
  pub used_of : (cipher_in e ≡ 0 → ⊥) → entry_right e ≡ true → Used e
  unfolding entry_right used_right
  used_of n r =
      let u : used_right e ≡ true = rw (ne_eqb (cipher_in e) 0 n) at r in
      let v = and_right (in_range (cipher_in e) (id_in e)) _ u in
      let w = and_right (leb (count_in e) (key_octets (cipher_in e))) _ v in
      let x = and_right (all_zero (key_rest e)) _ w in
      record {
        range = and_left (in_range (cipher_in e) (id_in e)) _ u;
        count = leb-true _ _ (and_left (leb (count_in e) (key_octets (cipher_in e))) _ v);
        rest = and_left (all_zero (key_rest e)) _ w;
        ready = and_left (ready_right e) _ x;
        name = and_right (ready_right e) _ x;
      }

  pub of_used : (cipher_in e ≡ 0 → ⊥) → Used e → entry_right e ≡ true
  unfolding entry_right used_right
  of_used n u = rw (ne_eqb (cipher_in e) 0 n, u.range, le-leb _ _ u.count, u.rest, u.ready, u.name)

  pub free_zero : cipher_in e ≡ 0 → entry_right e ≡ true → (j : ℕ) → get_or e j 0 ≡ 0
  unfolding entry_right
  free_zero z r = zero-at e (rw (eq-eqb (cipher_in e) 0 z) at r)

  pub count_fits : entry_right e ≡ true → count_in e ≤ key_room
  count_fits r = go (ℕ_discrete (cipher_in e) 0)
    where
      go : Dec (cipher_in e ≡ 0) → count_in e ≤ key_room
      go (yes z) = omega (arith, free_zero z r count_place)
      go (no n) = omega (arith, (used_of n r).count, key-at-most (cipher_in e))

  -- octet 3 is 1 where the entry is ready, and else 0
  pub ready-octet : entry_right e ≡ true → pick (is_ready e) 1 0 ≡ ready_in e
  unfolding ready_right
  ready-octet r = go (ℕ_discrete (ready_in e) 0) (ℕ_discrete (cipher_in e) 0)
    where
      go : Dec (ready_in e ≡ 0) → Dec (cipher_in e ≡ 0) → pick (is_ready e) 1 0 ≡ ready_in e
      go (yes z) c = rw z
      go (no n) (yes z) = absurd (n (free_zero z r ready_place))
      go (no n) (no m) =
          let q : leb (ready_in e) 1 && _ ≡ true = rw (ne_eqb (ready_in e) 0 n) at (used_of m r).ready in
          let l : ready_in e ≤ 1 = leb-true _ _ (and_left (leb (ready_in e) 1) _ q) in
          let one : ready_in e ≡ 1 = omega arith in
          rw one

  module _ (c i : ℕ) where
    pub for_parts : is_for c i e ≡ true → (cipher_in e ≡ c) × (id_in e ≡ i)
    unfolding is_for
    for_parts h = (eqb-true _ _ (and_left (eqb (cipher_in e) c) _ h), eqb-true _ _ (and_right (eqb (cipher_in e) c) _ h))

    pub parts_for : cipher_in e ≡ c → id_in e ≡ i → is_for c i e ≡ true
    unfolding is_for
    parts_for p q = rw (eq-eqb _ _ p, eq-eqb _ _ q)

    pub not_for : (cipher_in e ≡ c → id_in e ≡ i → ⊥) → is_for c i e ≡ false
    not_for h = go (is_for c i e) refl
      where
        go : (t : Bool) → is_for c i e ≡ t → t ≡ false
        go true q = let n = for_parts q in absurd (h n.0 n.1)
        go false q = refl
