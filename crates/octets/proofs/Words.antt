-- A list of words of n octets each, one after the other: what they settle, and the words turned where they stand.
use mathlib.Core.Path.{◌≡◌, refl, sym, ap, ap₂, subst, ◌∙◌}
use mathlib.Core.List.{List, ◌++◌}
use Prim.Native.Nat.{ℕ, zero, suc, ◌+◌, ◌*◌, ◌≤◌, ◌<◌}
use native.Mathlib.Nat.{le_refl, mul-zero, mul-suc, mul_assoc, mul-le-mul_left}
use native.Mathlib.Decide.{dec_lt}
use native.Mathlib.Omega.{arith}
use lib.ListN.{length, take, drop, length-drop}
use lib.Seq.{length-take-le, take_all, take-add}
use Rattle.octets.specs.Bits.{bit, flip, Octets}
use Rattle.octets.specs.Turn.{within, turned, turned_in}
use Rattle.octets.proofs.BitLaws.{octets_ext, octets_append}
use Rattle.octets.proofs.Turning.{length-turned, octets-turned, bit-turned, turned-within, turned_twice}
use Rattle.octets.proofs.Parts.{part_octets, part_bit, replaced_there, replaced-apart, length-turned_in}

module _ (n : ℕ) where
  -- word w, counted from 0
  abbrev word_of : ℕ → List ℕ → List ℕ
  word_of w xs = take n (drop (n * w) xs)

  -- a word ends where a later one begins, or before
  pub word-ends : (v w : ℕ) → v < w → n * v + n ≤ n * w
  word-ends v w h = rw mul-suc at (mul-le-mul_left n h)

  word-long : (w : ℕ) (xs : List ℕ) → n * w + n ≤ length xs → length (word_of w xs) ≡ n
  word-long w xs h = length-take-le n (drop (n * w) xs) (simp length-drop (omega arith))

  pub word-bit : (w : ℕ) (xs : List ℕ) (j : ℕ) → j < 8 * n → bit (word_of w xs) j ≡ bit xs (8 * n * w + j)
  word-bit w xs j h = rw (mul_assoc 8 n w) (part_bit (n * w) n xs j h)

  -- ---- k words

  same-words : (k : ℕ) (xs ys : List ℕ) → ((w : ℕ) → w < k → word_of w xs ≡ word_of w ys) → take (n * k) xs ≡ take (n * k) ys
  same-words zero xs ys e = rw mul-zero
  same-words (suc k) xs ys e =
      rw (mul-suc n k, take-add (n * k) n xs, take-add (n * k) n ys) (ap₂ ◌++◌ (same-words k xs ys (λ w l. e w (omega arith))) (e k (le_refl (suc k))))

  octet-words : (k : ℕ) (xs : List ℕ) → ((w : ℕ) → w < k → Octets (word_of w xs)) → Octets (take (n * k) xs)
  octet-words zero xs o = rw mul-zero (λ i. omega arith)
  octet-words (suc k) xs o =
      rw (mul-suc n k, take-add (n * k) n xs) (octets_append (take (n * k) xs) (word_of k xs) (octet-words k xs (λ w l. o w (omega arith))) (o k (le_refl (suc k))))

  module _ (k : ℕ) (xs : List ℕ) (long : length xs ≡ n * k) where
    whole : take (n * k) xs ≡ xs
    whole = take_all (n * k) xs (omega arith)

    words-octets : ((w : ℕ) → w < k → Octets (word_of w xs)) → Octets xs
    words-octets o = subst Octets whole (octet-words k xs o)

    -- they settle the list, and their bits settle each
    module _ (ys : List ℕ) (same : length ys ≡ n * k) where
      pub words_ext : ((w : ℕ) → w < k → word_of w xs ≡ word_of w ys) → xs ≡ ys
      words_ext e = sym whole ∙ same-words k xs ys e ∙ take_all (n * k) ys (omega arith)

      pub word_ext : Octets xs → Octets ys → (w : ℕ) → w < k → ((j : ℕ) → j < 8 * n → bit xs (8 * n * w + j) ≡ bit ys (8 * n * w + j)) → word_of w xs ≡ word_of w ys
      word_ext ox oy w l e =
          let lx : length (word_of w xs) ≡ n = word-long w xs (omega (arith, word-ends w k l)) in
          octets_ext (word_of w xs) (word_of w ys) (part_octets (n * w) n xs ox) (part_octets (n * w) n ys oy)
          (lx ∙ sym (word-long w ys (omega (arith, word-ends w k l))))
          (λ j h. let g : j < 8 * n = omega (arith, lx) in word-bit w xs j g ∙ e j g ∙ sym (word-bit w ys j g))

  -- ---- word w turned where it stands

  module _ (w s : ℕ) (ks : ℕ → ℕ) (xs : List ℕ) (fits : n * w + n ≤ length xs) where
    long : length (turned s ks (word_of w xs)) ≡ n
    long = length-turned s ks (word_of w xs) ∙ word-long w xs fits

    word-turned : word_of w (turned_in (n * w) n s ks xs) ≡ turned s ks (word_of w xs)
    unfolding turned_in
    word-turned = replaced_there xs (turned s ks (word_of w xs)) (n * w) n long fits

    others_stay : (v : ℕ) → (v ≡ w → ⊥) → word_of v (turned_in (n * w) n s ks xs) ≡ word_of v xs
    unfolding turned_in
    others_stay v o = replaced-apart xs (turned s ks (word_of w xs)) (n * w) n long fits (n * v) n (λ i l. go i l (dec_lt v w) (dec_lt w v))
      where
        go : (i : ℕ) → i < n → Dec (v < w) → Dec (w < v) → n * w ≤ n * v + i → n * v + i < n * w + n → ⊥
        go i l (yes h) g a b = omega (arith, word-ends v w h)
        go i l (no h) (yes g) a b = omega (arith, word-ends w v g)
        go i l (no h) (no g) a b = o (omega arith)

  -- ---- the first words turned in turn, word w by ks w in its first s w bits

  module _ (s : ℕ → ℕ) (ks : ℕ → ℕ → ℕ) where
    abbrev pub in_turn : ℕ → List ℕ → List ℕ
    in_turn zero xs = xs
    in_turn (suc k) xs = turned_in (n * k) n (s k) (ks k) (in_turn k xs)

    -- of a list of c words
    module _ (c : ℕ) (xs : List ℕ) (long : length xs ≡ n * c) where
      turn-long : (k : ℕ) → k ≤ c → length (in_turn k xs) ≡ n * c
      turn-long zero h = long
      turn-long (suc k) h =
          let l = turn-long k (omega arith) in
          length-turned_in (n * k) n (s k) (ks k) (in_turn k xs) (omega (arith, word-ends k c h)) ∙ l

      fits : (k : ℕ) → k < c → n * k + n ≤ length (in_turn k xs)
      fits k h = omega (arith, word-ends k c h, turn-long k (omega arith))

      -- a word whose turn has not come, and one whose turn has
      to-come : (k : ℕ) → k ≤ c → (w : ℕ) → k ≤ w → word_of w (in_turn k xs) ≡ word_of w xs
      to-come zero h w l = refl
      to-come (suc k) h w l = others_stay k (s k) (ks k) (in_turn k xs) (fits k h) w (λ e. omega arith) ∙ to-come k (omega arith) w (omega arith)

      had : (k : ℕ) → k ≤ c → (w : ℕ) → w < k → word_of w (in_turn k xs) ≡ turned (s w) (ks w) (word_of w xs)
      had zero h w l = absurd (omega arith)
      had (suc k) h w l = go (had k (omega arith) w) (dec_lt w k)
        where
          go : (w < k → word_of w (in_turn k xs) ≡ turned (s w) (ks w) (word_of w xs)) → Dec (w < k)
              → word_of w (in_turn (suc k) xs) ≡ turned (s w) (ks w) (word_of w xs)
          go before (yes a) = others_stay k (s k) (ks k) (in_turn k xs) (fits k h) w (λ e. omega arith) ∙ before a
          go before (no a) =
              let e : w ≡ k = omega arith in
              rw e (word-turned k (s k) (ks k) (in_turn k xs) (fits k h) ∙ ap (turned (s k) (ks k)) (to-come k (omega arith) k (le_refl k)))

      -- all of them
      pub turned_long : length (in_turn c xs) ≡ n * c
      turned_long = turn-long c (le_refl c)

      pub turned-word : (w : ℕ) → w < c → word_of w (in_turn c xs) ≡ turned (s w) (ks w) (word_of w xs)
      turned-word = had c (le_refl c)

      pub turned_bit : (w : ℕ) → w < c → (j : ℕ) → j < 8 * n → bit (in_turn c xs) (8 * n * w + j) ≡ flip (bit xs (8 * n * w + j)) (within (s w) (ks w) j)
      turned_bit w l j h =
          sym (word-bit w (in_turn c xs) j h)
          ∙ ap (λ (word : List ℕ). bit word j) (turned-word w l)
          ∙ bit-turned (s w) (ks w) (word_of w xs) j (omega (arith, word-long w xs (omega (arith, word-ends w c l))))
          ∙ ap (λ (b : ℕ). flip b (within (s w) (ks w) j)) (word-bit w xs j h)

      pub turned-octets : Octets (in_turn c xs)
      turned-octets = words-octets c (in_turn c xs) turned_long (λ w l. rw (turned-word w l) (octets-turned (s w) (ks w) (word_of w xs)))

    pub words_twice : (c : ℕ) (xs : List ℕ) → length xs ≡ n * c → Octets xs → in_turn c (in_turn c xs) ≡ xs
    words_twice c xs long o =
        let once : length (in_turn c xs) ≡ n * c = turned_long c xs long in
        words_ext c (in_turn c (in_turn c xs)) (turned_long c (in_turn c xs) once) xs long
        (λ w l.
        turned-word c (in_turn c xs) once w l
        ∙ ap (turned (s w) (ks w)) (turned-word c xs long w l)
        ∙ turned_twice (s w) (ks w) (word_of w xs) (part_octets (n * w) n xs o))

  -- by bits that agree
  pub words_same : (s : ℕ → ℕ) (ks ls : ℕ → ℕ → ℕ) (k : ℕ) → ((w : ℕ) → w < k → (j : ℕ) → j < s w → ks w j ≡ ls w j)
      → (xs : List ℕ) → in_turn s ks k xs ≡ in_turn s ls k xs
  unfolding turned_in
  words_same s ks ls zero e xs = refl
  words_same s ks ls (suc k) e xs =
      rw (words_same s ks ls k (λ w l. e w (omega arith)) xs, turned-within (s k) (ks k) (ls k) (e k (le_refl (suc k))) (word_of k (in_turn s ls k xs)))
