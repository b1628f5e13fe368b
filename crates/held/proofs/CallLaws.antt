-- A call and its octets: what is written is read back, octets are what is written of the call that they hold, and all zeros is no call.
use mathlib.Core.Path.{◌≡◌, refl, sym, ap, ◌∙◌}
use mathlib.Core.List.{List, [], ◌∷◌, ◌++◌, append_assoc}
use Prim.Native.Nat.{ℕ, zero, suc, ◌+◌, ◌<◌}
use native.Mathlib.Omega.{arith}
use lib.ListN.{length, get_or, take, drop, set, replicate, length-append, length-drop}
use lib.Seq.{take_all, drop-cons, length-take-le}
use borrow.Rule.Slice.PartMut.{put_mid}
use Rattle.octets.specs.Bits.{Octets}
use Rattle.octets.proofs.BitLaws.{octets_append}
use Rattle.sizes.specs.Ciphers.{key_room, vector_octets}
use Rattle.calls.specs.declared.counts.Counts.{Counts}
use Rattle.calls.specs.declared.call.Terms.{Terms}
use Rattle.calls.specs.Counts.{counts_of}
use Rattle.calls.specs.Call.{terms_of, call_at}
use Rattle.hearing.specs.declared.Hearing.{Hearing}
use Rattle.hearing.specs.Hearing.{no_hearing}
use Rattle.held.specs.Number.{four_of}
use Rattle.held.specs.Call.{call_octets, counts_at, key_at, next_at, vector_at, counts_laid, octets_of, terms_in, counts_in, hearing_in}
use Rattle.held.proofs.NumberLaws.{four_sum, four_behind, four_written, four_small, four_octets}
use Rattle.held.proofs.RowLaws.{put_four, part_between, part_and-rest}

-- its numbers fit four octets each
pub record FourOctets (n : Counts) : Type 0 where
  pub opened : n.opened < 4294967296
  pub held : n.held < 4294967296
  pub replaced : n.replaced < 4294967296
  pub lost : n.lost < 4294967296

-- as long as its octets have room for, which every struct of the code is
pub record Sized (h : Hearing) : Type 0 where
  pub vector : length h.call.vector ≡ vector_octets
  pub next : length h.next ≡ vector_octets
  pub key : length h.call.terms.key ≡ key_room
  pub counts : FourOctets h.call.counts

-- ---- two calls with the same parts

pub same_counts : {a b c d : ℕ} (n : Counts) → a ≡ n.opened → b ≡ n.held → c ≡ n.replaced → d ≡ n.lost → counts_of a b c d ≡ n
same_counts n p q r s = rw (p, q, r, s)

pub same_terms : {k : List ℕ} (t : Terms) → k ≡ t.key → terms_of t.cipher k t.rate t.strictness ≡ t
same_terms t p = rw p

pub same_hearing : (h : Hearing) {v w : List ℕ} {t : Terms} {n : Counts} → v ≡ h.call.vector → w ≡ h.next → t ≡ h.call.terms → n ≡ h.call.counts
    → record { call = call_at h.call.end t h.call.position h.call.known v n; kept = h.kept; next = w } ≡ h
same_hearing h p q r s = rw (p, q, r, s)

-- ---- written, then read

counts_read : (pre : List ℕ) (n : Counts) → length pre ≡ counts_at → FourOctets n → counts_in (pre ++ counts_laid n) ≡ n
counts_read pre n l f =
    same_counts n
    (four_behind pre (counts_laid n) counts_at 0 (omega arith) ∙ four_sum n.opened f.opened)
    (four_behind pre (counts_laid n) (counts_at + 4) 4 (omega arith) ∙ four_sum n.held f.held)
    (four_behind pre (counts_laid n) (counts_at + 8) 8 (omega arith) ∙ four_sum n.replaced f.replaced)
    (four_behind pre (counts_laid n) (counts_at + 12) 12 (omega arith) ∙ four_sum n.lost f.lost)

module _ (h : Hearing) where
  abbrev v : List ℕ
  v = h.call.vector

  abbrev w : List ℕ
  w = h.next

  abbrev k : List ℕ
  k = h.call.terms.key

  abbrev n : List ℕ
  n = counts_laid h.call.counts

  -- the octets before a part
  abbrev before : List ℕ → List ℕ
  before l =
      h.call.end ∷ h.call.terms.cipher ∷ h.call.terms.rate ∷ h.call.terms.strictness ∷ h.call.position ∷ h.call.known ∷ h.kept ∷ l

  module _ (s : Sized h) where
    pub length_of : length (octets_of h) ≡ call_octets
    unfolding octets_of
    length_of = simp length-append (omega arith)

    -- each part by its place
    vector-read : take vector_octets (drop vector_at (octets_of h)) ≡ v
    unfolding octets_of
    vector-read = part_between (before []) v (w ++ (k ++ n)) vector_at vector_octets refl s.vector

    next-read : take vector_octets (drop next_at (octets_of h)) ≡ w
    unfolding octets_of
    next-read = part_between (before v) w (k ++ n) next_at vector_octets (omega arith) s.next

    key_read : take key_room (drop key_at (octets_of h)) ≡ k
    unfolding octets_of
    key_read =
        rw (← append_assoc v w (k ++ n))
        (part_between (before (v ++ w)) k n key_at key_room (simp length-append (omega arith)) s.key)

    all-counts-read : counts_in (octets_of h) ≡ h.call.counts
    unfolding octets_of
    all-counts-read =
        let e : before (v ++ (w ++ (k ++ n))) ≡ before (v ++ (w ++ k)) ++ n = simp append_assoc in
        ap counts_in e
        ∙ counts_read (before (v ++ (w ++ k))) h.call.counts (simp length-append (omega arith)) s.counts

    pub read_written : hearing_in (octets_of h) ≡ h
    unfolding hearing_in octets_of
    read_written = same_hearing h vector-read next-read (same_terms h.call.terms key_read) all-counts-read

-- ---- read, then written

module _ (o : List ℕ) (long : length o ≡ call_octets) where
  numbers : get_or o 0 0 ∷ get_or o 1 0 ∷ get_or o 2 0 ∷ get_or o 3 0 ∷ get_or o 4 0 ∷ get_or o 5 0 ∷ get_or o 6 0 ∷ drop vector_at o ≡ o
  numbers =
      let a : o ≡ get_or o 0 0 ∷ drop 1 o = drop-cons o 0 0 (omega arith) in
      let b : drop 1 o ≡ get_or o 1 0 ∷ drop 2 o = drop-cons o 1 0 (omega arith) in
      let c : drop 2 o ≡ get_or o 2 0 ∷ drop 3 o = drop-cons o 2 0 (omega arith) in
      let d : drop 3 o ≡ get_or o 3 0 ∷ drop 4 o = drop-cons o 3 0 (omega arith) in
      let e : drop 4 o ≡ get_or o 4 0 ∷ drop 5 o = drop-cons o 4 0 (omega arith) in
      let f : drop 5 o ≡ get_or o 5 0 ∷ drop 6 o = drop-cons o 5 0 (omega arith) in
      let g : drop 6 o ≡ get_or o 6 0 ∷ drop 7 o = drop-cons o 6 0 (omega arith) in
      cc

  module _ (octets : Octets o) where
    counts-written : counts_laid (counts_in o) ≡ drop counts_at o
    counts-written =
        let a = four_written o 55 octets (omega arith) in
        let b = four_written o 59 octets (omega arith) in
        let c = four_written o 63 octets (omega arith) in
        let d = four_written o 67 octets (omega arith) ∙ take_all 4 (drop 67 o) (simp length-drop (omega arith)) in
        let p = part_and-rest o 55 4 in
        let q = part_and-rest o 59 4 in
        let r = part_and-rest o 63 4 in
        cc

    pub written_read : octets_of (hearing_in o) ≡ o
    unfolding hearing_in octets_of
    written_read =
        rw (counts-written, part_and-rest o key_at key_room, part_and-rest o next_at vector_octets, part_and-rest o vector_at vector_octets) numbers

    pub sized_in : Sized (hearing_in o)
    unfolding hearing_in
    sized_in =
        record {
          vector = length-take-le vector_octets (drop vector_at o) (simp length-drop (omega arith));
          next = length-take-le vector_octets (drop next_at o) (simp length-drop (omega arith));
          key = length-take-le key_room (drop key_at o) (simp length-drop (omega arith));
          counts = record { opened = four_small o 55 octets; held = four_small o 59 octets; replaced = four_small o 63 octets; lost = four_small o 67 octets };
        }

-- no two lists of octets hold one call
pub one-reading : (a b : List ℕ) → length a ≡ call_octets → length b ≡ call_octets → Octets a → Octets b → hearing_in a ≡ hearing_in b → a ≡ b
one-reading a b la lb oa ob e = sym (written_read a la oa) ∙ ap octets_of e ∙ written_read b lb ob

-- ---- what is written are octets

-- its fields are octets, which those of every struct of the code are
pub record Octetwise (h : Hearing) : Type 0 where
  pub end : h.call.end < 256
  pub cipher : h.call.terms.cipher < 256
  pub rate : h.call.terms.rate < 256
  pub strictness : h.call.terms.strictness < 256
  pub position : h.call.position < 256
  pub known : h.call.known < 256
  pub kept : h.kept < 256
  pub vector : Octets h.call.vector
  pub next : Octets h.next
  pub key : Octets h.call.terms.key

counts_octets : (n : Counts) → Octets (counts_laid n)
counts_octets n =
    let d = four_of n.lost in
    let c = four_of n.replaced ++ d in
    let last : Octets d = four_octets n.lost [] (λ i. omega arith) in
    four_octets n.opened (four_of n.held ++ c) (four_octets n.held c (four_octets n.replaced d last))

module _ (h : Hearing) (s : Octetwise h) where
  lists-octets : Octets (v h ++ (w h ++ (k h ++ n h)))
  lists-octets =
      octets_append (v h) (w h ++ (k h ++ n h)) s.vector
      (octets_append (w h) (k h ++ n h) s.next (octets_append (k h) (n h) s.key (counts_octets h.call.counts)))

  pub octets_of_lem : Octets (octets_of h)
  unfolding octets_of
  octets_of_lem zero = s.end
  octets_of_lem (suc zero) = s.cipher
  octets_of_lem (suc (suc zero)) = s.rate
  octets_of_lem (suc (suc (suc zero))) = s.strictness
  octets_of_lem (suc (suc (suc (suc zero)))) = s.position
  octets_of_lem (suc (suc (suc (suc (suc zero))))) = s.known
  octets_of_lem (suc (suc (suc (suc (suc (suc zero)))))) = s.kept
  octets_of_lem (suc (suc (suc (suc (suc (suc (suc i))))))) = lists-octets i

-- ---- no call

pub none_read : hearing_in (replicate call_octets 0) ≡ no_hearing
unfolding hearing_in
none_read = refl

pub none_written : octets_of no_hearing ≡ replicate call_octets 0
unfolding octets_of
none_written = refl

-- ---- as the code reads and writes

pub reads : (o : List ℕ) {v w : List ℕ} {t : Terms} {n : Counts} → v ≡ take vector_octets (drop vector_at o) → w ≡ take vector_octets (drop next_at o)
    → t ≡ terms_in o → n ≡ counts_in o
    → record { call = call_at (get_or o 0 0) t (get_or o 4 0) (get_or o 5 0) v n; kept = get_or o 6 0; next = w } ≡ hearing_in o
unfolding hearing_in
reads o p q r s = same_hearing (hearing_in o) p q r s

-- the seven numbers
abbrev stored : Hearing → List ℕ → List ℕ
stored h o =
    let a = set (set (set o 0 h.call.end) 1 h.call.terms.cipher) 2 h.call.terms.rate in
    set (set (set (set a 3 h.call.terms.strictness) 4 h.call.position) 5 h.call.known) 6 h.kept

module _ (o : List ℕ) (long : length o ≡ call_octets) (h : Hearing) where
  is-stored : stored h o ≡ before h (drop vector_at o)
  is-stored = ap (stored h) (sym (numbers o long))

  pub writes : length h.call.vector ≡ vector_octets → length h.next ≡ vector_octets → length h.call.terms.key ≡ key_room
      → {x y z c : List ℕ} → x ≡ h.call.vector → y ≡ h.next → z ≡ h.call.terms.key → c ≡ counts_laid h.call.counts
      → put_mid 55 16 (put_mid 23 32 (put_mid 15 8 (put_mid 7 8 (stored h o) x) y) z) c ≡ octets_of h
  unfolding octets_of
  writes lv ln lk {x} {y} {z} {c} p q r s =
      let n = counts_laid h.call.counts in
      let e : put_mid 48 16 (put_mid 16 32 (put_mid 8 8 (put_mid 0 8 (drop 7 o) x) y) z) c ≡ h.call.vector ++ (h.next ++ (h.call.terms.key ++ n)) =
      put_four (drop 7 o) h.call.vector h.next h.call.terms.key n 8 8 32 16 lv ln lk refl (simp length-drop (omega arith)) x y z c p q r s in
      ap (λ (l : List ℕ). put_mid 55 16 (put_mid 23 32 (put_mid 15 8 (put_mid 7 8 l x) y) z) c) is-stored ∙ ap (before h) e
