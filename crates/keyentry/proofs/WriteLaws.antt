-- What the operations write keeps an entry's rules, and which octets it then holds.
use Prim.Native.Nat.{ℕ, ◌+◌, ◌-◌, ◌≤◌, ◌<◌}
use native.Mathlib.Decide.{ℕ_discrete, dec_lt}
use native.Mathlib.Omega.{arith}
use mathlib.Core.Path.{◌≡◌, refl, sym, ap, ap₂, ◌∙◌}
use mathlib.Core.Bool.{true, false, ◌&&◌}
use mathlib.Core.List.{List, [], ◌++◌}
use lib.ListN.{length, get_or, take, drop, length-append, length-drop, length-set, get_or-append, get_or-eq_default}
use lib.Seq.{take_all, length-take-le, get_or-take, get_or-drop, get_or-append-add, get_or-set_same, get_or-set_other, drop-set-lt, ext_get_or}
use lib.Dec.{leb, eqb, leb-zero}
use borrow.Author.Tests.{leb-true, eq-eqb, ne_eqb, eqb-true, eqb-false}
use Rattle.octets.specs.Lists.{all_zero, replaced}
use Rattle.octets.proofs.Parts.{replaced-length, replaced-before, replaced_in, replaced-after, replaced-apart}
use Rattle.sizes.proofs.SizeLaws.{key-at-most}
use Rattle.octets.specs.Tests.{all_below}
use Rattle.octets.proofs.TestLaws.{and_left, and_right}
use Rattle.sizes.specs.Ciphers.{key_octets, key_room}
use Rattle.ciphers.specs.Keys.{key_allowed}
use Rattle.keyentry.specs.Name.{name_octets, no_name, name_right}
use Rattle.keyentry.specs.Entry.{entry_octets, cipher_in, id_in, count_place, count_in, ready_place, ready_in, is_ready, key_place, key_in, key_rest, name_place, name_in, in_range, lacks, ready_right, used_right, entry_right, blank, new_entry, extended, completed}
use Rattle.keyentry.proofs.RightLaws.{zero-at, zeros, Used}

-- the octets of the key that are loaded
abbrev pub key_loaded : List ℕ → List ℕ
key_loaded e = take (count_in e) (key_in e)

-- ---- a free entry, and a new one

pub blank-length : length blank ≡ entry_octets
unfolding blank
blank-length = refl

pub blank-cipher : cipher_in blank ≡ 0
unfolding blank
blank-cipher = refl

pub blank_name : name_in blank ≡ no_name
unfolding blank no_name
blank_name = refl

pub blank-right : entry_right blank ≡ true
unfolding blank entry_right all_zero all_below
blank-right = refl

pub in_range_used : (c i : ℕ) → in_range c i ≡ true → c ≡ 0 → ⊥
unfolding in_range
in_range_used c i n z = let l : 1 ≤ c = leb-true _ _ (and_left (leb 1 c) _ n) in omega arith

module _ (c i : ℕ) (n : List ℕ) where
  pub new_cipher : cipher_in (new_entry c i n) ≡ c
  unfolding new_entry
  new_cipher = refl

  pub new_id : id_in (new_entry c i n) ≡ i
  unfolding new_entry
  new_id = refl

  pub new_octets : key_loaded (new_entry c i n) ≡ []
  unfolding new_entry
  new_octets = refl

  pub new_not-ready : is_ready (new_entry c i n) ≡ false
  unfolding new_entry
  new_not-ready = refl

  module _ (w : length n ≡ name_octets) where
    pub new_length : length (new_entry c i n) ≡ entry_octets
    unfolding new_entry
    new_length = rw w

    pub new_name : name_in (new_entry c i n) ≡ n
    unfolding new_entry
    new_name = take_all name_octets n (omega arith)

    pub new_right : in_range c i ≡ true → name_right n ≡ true → entry_right (new_entry c i n) ≡ true
    unfolding new_entry entry_right used_right ready_right all_zero all_below
    new_right r t = rw (ne_eqb c 0 (in_range_used c i r), r, leb-zero, new_name, t)

-- ---- octets of the key

module _ (e : List ℕ) (w : length e ≡ entry_octets) where
  key-octet : (t : ℕ) → t < key_room → get_or (key_in e) t 0 ≡ get_or e (key_place + t) 0
  key-octet t l = get_or-take key_room (drop key_place e) t 0 l ∙ get_or-drop key_place e t 0

  pub key-length : length (key_in e) ≡ key_room
  key-length = length-take-le key_room (drop key_place e) (simp (length-drop, w) (omega arith))

  pub name_length : length (name_in e) ≡ name_octets
  name_length = length-take-le name_octets (drop name_place e) (simp (length-drop, w) (omega arith))

  pub loaded_count : count_in e ≤ key_room → length (key_loaded e) ≡ count_in e
  loaded_count l = length-take-le (count_in e) (key_in e) (rw key-length l)

-- ---- ready or not

-- what a ready entry's key is
pub record Whole (e : List ℕ) : Type 0 where
  pub full : count_in e ≡ key_octets (cipher_in e)
  pub allowed : key_allowed (cipher_in e) (key_in e) ≡ true

module _ (e : List ℕ) (u : Used e) where
  pub not-ready : is_ready e ≡ false → ready_in e ≡ 0
  unfolding ready_right
  not-ready n = go (ℕ_discrete (ready_in e) 0)
    where
      go : Dec (ready_in e ≡ 0) → ready_in e ≡ 0
      go (yes z) = z
      go (no m) =
          let s = rw (ne_eqb _ _ m) at u.ready in
          let l : ready_in e ≤ 1 = leb-true _ _ (and_left (leb (ready_in e) 1) _ s) in
          absurd (eqb-false (ready_in e) 1 n (omega arith))

  pub ready-whole : is_ready e ≡ true → Whole e
  unfolding ready_right lacks
  ready-whole h =
      let one : ready_in e ≡ 1 = eqb-true _ _ h in
      let s : (eqb (lacks e) 0 && key_allowed (cipher_in e) (key_in e)) ≡ true = rw one at u.ready in
      let l : lacks e ≡ 0 = eqb-true _ _ (and_left (eqb (lacks e) 0) _ s) in
      record { full = omega (arith, u.count); allowed = and_right (eqb (lacks e) 0) _ s }

-- ---- key octets are put after those that are there

module _ (e xs : List ℕ) (w : length e ≡ entry_octets) (u : Used e) (m : length xs ≤ lacks e) where
  -- the octets end within the key
  pub extend_fits : count_in e + length xs ≤ key_octets (cipher_in e)
  unfolding lacks
  extend_fits = omega (arith, u.count)

  in-room : count_in e + length xs ≤ key_room
  in-room = omega (arith, extend_fits, key-at-most (cipher_in e))

  abbrev at : ℕ
  at = key_place + count_in e

  fits : at + length xs ≤ length e
  fits = omega (arith, in-room)

  pub extend_length : length (extended e xs) ≡ entry_octets
  unfolding extended
  extend_length = length-set (replaced e at (length xs) xs) count_place (count_in e + length xs) ∙ replaced-length e xs at (length xs) refl fits ∙ w

  pub extend_count : count_in (extended e xs) ≡ count_in e + length xs
  unfolding extended
  extend_count =
      get_or-set_same (replaced e at (length xs) xs) count_place (count_in e + length xs) 0
      (rw (replaced-length e xs at (length xs) refl fits, w) (omega arith))

  other : (j : ℕ) → (j ≡ count_place → ⊥) → get_or (extended e xs) j 0 ≡ get_or (replaced e at (length xs) xs) j 0
  unfolding extended
  other j n = get_or-set_other (replaced e at (length xs) xs) count_place j (count_in e + length xs) 0 n

  before : (j : ℕ) → (j ≡ count_place → ⊥) → j < at → get_or (extended e xs) j 0 ≡ get_or e j 0
  before j n l = other j n ∙ replaced-before e xs at (length xs) refl fits j l

  pub extend_cipher : cipher_in (extended e xs) ≡ cipher_in e
  extend_cipher = before 0 (λ z. omega arith) (omega arith)

  pub extend_id : id_in (extended e xs) ≡ id_in e
  extend_id = before 1 (λ z. omega arith) (omega arith)

  extend-ready : ready_in (extended e xs) ≡ ready_in e
  extend-ready = before ready_place (λ z. omega arith) (omega arith)

  extend-rest : (j : ℕ) → get_or (key_rest (extended e xs)) j 0 ≡ 0
  extend-rest j = get_or-drop (count_in (extended e xs)) (key_in (extended e xs)) j 0 ∙ rw extend_count (go (dec_lt (count_in e + length xs + j) key_room))
    where
      n : ℕ
      n = count_in e + length xs + j

      go : Dec (n < key_room) → get_or (key_in (extended e xs)) n 0 ≡ 0
      go (yes l) =
          let z : count_in e + (length xs + j) ≡ n = omega arith in
          key-octet (extended e xs) extend_length n l
          ∙ other (key_place + n) (λ q. omega arith)
          ∙ replaced-after e xs at (length xs) refl fits (key_place + n) (omega arith)
          ∙ sym (key-octet e w n l)
          ∙ ap (λ (x : ℕ). get_or (key_in e) x 0) (sym z)
          ∙ sym (get_or-drop (count_in e) (key_in e) (length xs + j) 0)
          ∙ zero-at (key_rest e) u.rest (length xs + j)
      go (no a) = get_or-eq_default (key_in (extended e xs)) 0 (rw (key-length (extended e xs) extend_length) (omega arith))

  pub extend_name : name_in (extended e xs) ≡ name_in e
  unfolding extended
  extend_name =
      ap (take name_octets) (drop-set-lt name_place (replaced e at (length xs) xs) count_place (count_in e + length xs) (omega arith))
      ∙ replaced-apart e xs at (length xs) refl fits name_place name_octets (λ i l a b. omega (arith, in-room))

  -- the octets that are there, and then these
  pub extend_octets : key_loaded (extended e xs) ≡ key_loaded e ++ xs
  extend_octets =
      ext_get_or 0 (key_loaded (extended e xs)) (key_loaded e ++ xs)
      (long ∙ sym (length-append (key_loaded e) xs ∙ ap (λ (x : ℕ). x + length xs) short))
      (λ t q. let q' : t < count_in e + length xs = rw long at q in old t q' ∙ go t q' (dec_lt t (count_in e)))
    where
      long : length (key_loaded (extended e xs)) ≡ count_in e + length xs
      long = loaded_count (extended e xs) extend_length (rw extend_count in-room) ∙ extend_count

      short : length (key_loaded e) ≡ count_in e
      short = loaded_count e w (omega (arith, in-room))

      old : (t : ℕ) → t < count_in e + length xs → get_or (key_loaded (extended e xs)) t 0 ≡ get_or (replaced e at (length xs) xs) (key_place + t) 0
      old t q =
          get_or-take (count_in (extended e xs)) (key_in (extended e xs)) t 0 (rw extend_count q)
          ∙ key-octet (extended e xs) extend_length t (omega (arith, in-room))
          ∙ other (key_place + t) (λ z. omega arith)

      go : (t : ℕ) → t < count_in e + length xs → Dec (t < count_in e)
          → get_or (replaced e at (length xs) xs) (key_place + t) 0 ≡ get_or (key_loaded e ++ xs) t 0
      go t q (yes l) =
          replaced-before e xs at (length xs) refl fits (key_place + t) (omega arith)
          ∙ sym (get_or-append (key_loaded e) xs 0 t (rw short l) ∙ get_or-take (count_in e) (key_in e) t 0 l ∙ key-octet e w t (omega (arith, in-room)))
      go t q (no a) =
          let y : key_place + t ≡ at + (t - count_in e) = omega arith in
          let z : t ≡ count_in e + (t - count_in e) = omega arith in
          ap (λ (x : ℕ). get_or (replaced e at (length xs) xs) x 0) y
          ∙ replaced_in e xs at (length xs) refl fits (t - count_in e) (omega arith)
          ∙ sym (ap (λ (x : ℕ). get_or (key_loaded e ++ xs) x 0) (z ∙ ap (λ (x : ℕ). x + (t - count_in e)) (sym short))
          ∙ get_or-append-add (key_loaded e) xs (t - count_in e) 0)

  module _ (n : is_ready e ≡ false) where
    pub extend_not-ready : is_ready (extended e xs) ≡ false
    extend_not-ready = rw extend-ready n

    still : ready_right (extended e xs) ≡ true
    unfolding ready_right
    still = rw (extend-ready, eq-eqb _ _ (not-ready e u n))

    pub extend_used : Used (extended e xs)
    extend_used =
        record {
          range = rw (extend_cipher, extend_id) u.range;
          count = rw (extend_count, extend_cipher) extend_fits;
          rest = zeros (key_rest (extended e xs)) extend-rest;
          ready = still;
          name = rw extend_name u.name;
        }

-- ---- the entry is marked ready

module _ (e : List ℕ) (w : length e ≡ entry_octets) where
  keeps : (j : ℕ) → (j ≡ ready_place → ⊥) → get_or (completed e) j 0 ≡ get_or e j 0
  unfolding completed
  keeps j n = get_or-set_other e ready_place j 1 0 n

  pub complete_length : length (completed e) ≡ entry_octets
  unfolding completed
  complete_length = length-set e ready_place 1 ∙ w

  pub complete_cipher : cipher_in (completed e) ≡ cipher_in e
  complete_cipher = keeps 0 (λ z. omega arith)

  pub complete_id : id_in (completed e) ≡ id_in e
  complete_id = keeps 1 (λ z. omega arith)

  complete-count : count_in (completed e) ≡ count_in e
  complete-count = keeps count_place (λ z. omega arith)

  complete-key : key_in (completed e) ≡ key_in e
  unfolding completed
  complete-key = ap (λ (l : List ℕ). take key_room l) (drop-set-lt key_place e ready_place 1 (omega arith))

  pub complete_name : name_in (completed e) ≡ name_in e
  unfolding completed
  complete_name = ap (take name_octets) (drop-set-lt name_place e ready_place 1 (omega arith))

  pub complete_octets : key_loaded (completed e) ≡ key_loaded e
  complete_octets = ap₂ (λ (n : ℕ) (l : List ℕ). take n l) complete-count complete-key

  pub complete_ready : is_ready (completed e) ≡ true
  unfolding completed
  complete_ready = rw (get_or-set_same e ready_place 1 0 (rw w (omega arith)))

  pub complete_used : Used e → lacks e ≡ 0 → key_allowed (cipher_in e) (key_in e) ≡ true → Used (completed e)
  unfolding ready_right lacks
  complete_used u z a =
      let one : ready_in (completed e) ≡ 1 = eqb-true _ _ complete_ready in
      record {
        range = rw (complete_cipher, complete_id) u.range;
        count = rw (complete-count, complete_cipher) u.count;
        rest = rw (complete-count, complete-key) u.rest;
        ready = rw (one, complete_cipher, complete-count, z, complete-key, a);
        name = rw complete_name u.name;
      }
