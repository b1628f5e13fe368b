-- A protected frame, word by word and bit by bit, over the width, by the laws of words of any length.
use mathlib.Core.Path.{◌≡◌, refl, sym, ap, ◌∙◌}
use mathlib.Core.List.{List}
use mathlib.Core.Bool.{Bool, true, false}
use mathlib.Core.Logic.{◌⊎◌, inl, inr}
use Prim.Native.Nat.{ℕ, ◌+◌, ◌-◌, ◌*◌, ◌/◌, ◌%◌, ◌^◌, ◌≤◌, ◌<◌}
use native.Mathlib.Nat.{zero-div, add_assoc}
use native.Mathlib.Numerals.{add-one}
use native.Mathlib.Omega.{arith}
use borrow.Author.Tests.{eq-eqb, ne_eqb}
use borrow.Rule.Slice.PartMut.{put_mid}
use lib.ListN.{length, take, drop}
use Rattle.octets.specs.Tests.{pick}
use Rattle.octets.specs.Bits.{bit, flip, Octets}
use Rattle.octets.specs.Turn.{within, turned}
use Rattle.octets.proofs.BitLaws.{flip-zero, bit_lt}
use Rattle.octets.proofs.Turning.{within_in, within-out, turned_none, turned_same}
use Rattle.octets.proofs.Parts.{part_octets, put-turned, turned_in-none}
use Rattle.octets.proofs.Words as any
use Rattle.sizes.specs.Frame.{words, word_octets, word_bits, frame_octets, slot_bits}
use Rattle.voice.specs.Frame.{IsFrame, word, of_slot, turned_bits, of_word, word_turned, protect}
use Rattle.calls.specs.Counts.{in_mask}

module _ (width : ℕ) where
  -- bits of a word are bits of the frame
  pub word-bit : (w : ℕ) (frame : List ℕ) (j : ℕ) → j < word_bits width → bit (word width w frame) j ≡ bit frame (word_bits width * w + j)
  word-bit = any.word-bit (word_octets width)

  -- a word is what its bits say
  pub word_ext : (w : ℕ) → w < words → (f g : List ℕ) → IsFrame width f → IsFrame width g
      → ((j : ℕ) → j < word_bits width → bit f (word_bits width * w + j) ≡ bit g (word_bits width * w + j)) → word width w f ≡ word width w g
  word_ext w l f g a b = any.word_ext (word_octets width) words f a.long g b.long a.octets b.octets w l

  -- at most a word's speech is turned
  at_most : (mask w : ℕ) → turned_bits width mask w ≤ width
  at_most mask w = go (in_mask mask w)
    where
      go : (t : Bool) → pick t width 0 ≤ width
      go true = omega arith
      go false = omega arith

  module _ (slot : ℕ → ℕ) (mask : ℕ) (frame : List ℕ) (long : length frame ≡ frame_octets width) where
    pub protect_frame : IsFrame width (protect width slot mask frame)
    unfolding protect word_turned
    protect_frame =
        record {
          long = any.turned_long (word_octets width) (turned_bits width mask) (of_word width slot) words frame long;
          octets = any.turned-octets (word_octets width) (turned_bits width mask) (of_word width slot) words frame long;
        }

    module _ (w : ℕ) (low : w < words) where
      -- each word is turned
      pub word_protected : word width w (protect width slot mask frame) ≡ turned (turned_bits width mask w) (of_word width slot w) (word width w frame)
      unfolding protect word_turned
      word_protected = any.turned-word (word_octets width) (turned_bits width mask) (of_word width slot) words frame long w low

      module _ (j : ℕ) (h : j < word_bits width) where
        protect-bit : bit (protect width slot mask frame) (word_bits width * w + j)
            ≡ flip (bit frame (word_bits width * w + j)) (within (turned_bits width mask w) (of_word width slot w) j)
        unfolding protect word_turned
        protect-bit = any.turned_bit (word_octets width) (turned_bits width mask) (of_word width slot) words frame long w low j h

        -- a spare bit stays as it came, and so does a bit of a word outside the mask
        pub other_bit : (width ≤ j) ⊎ (in_mask mask w ≡ false) → bit (protect width slot mask frame) (word_bits width * w + j) ≡ bit frame (word_bits width * w + j)
        other_bit o =
            protect-bit
            ∙ ap (flip (bit frame (word_bits width * w + j))) (within-out (turned_bits width mask w) (of_word width slot w) j (past o))
            ∙ flip-zero (bit frame (word_bits width * w + j)) (bit_lt frame (word_bits width * w + j))
          where
            past : (width ≤ j) ⊎ (in_mask mask w ≡ false) → turned_bits width mask w ≤ j
            past (inl l) = omega (arith, at_most mask w)
            past (inr e) = rw e (omega arith)

  -- in slot p of a session a speech bit of a word in the mask is turned by stream bit 196 p + 49 w + j, or at full rate 288 p + 72 w + j
  pub speech_bit : (ks : ℕ → ℕ) (p mask : ℕ) (frame : List ℕ) → length frame ≡ frame_octets width → (w : ℕ) → w < words → (j : ℕ) → j < width → in_mask mask w ≡ true
      → bit (protect width (of_slot width ks p) mask frame) (word_bits width * w + j) ≡ flip (bit frame (word_bits width * w + j)) (ks (slot_bits width * p + width * w + j))
  speech_bit ks p mask frame long w low j l e =
      protect-bit (of_slot width ks p) mask frame long w low j (omega arith)
      ∙ ap (flip (bit frame (word_bits width * w + j))) (rw (e, add_assoc (slot_bits width * p) (width * w) j) (within_in width (of_word width (of_slot width ks p) w) j l))

  -- a word outside the mask stays as it came
  pub word_stays : (slot : ℕ → ℕ) (mask w : ℕ) (frame : List ℕ) → IsFrame width frame → w < words → in_mask mask w ≡ false
      → word width w (protect width slot mask frame) ≡ word width w frame
  word_stays slot mask w frame f l e =
      word_protected slot mask frame f.long w l
      ∙ rw e (turned_none (of_word width slot w) (word width w frame) (part_octets (word_octets width * w) (word_octets width) frame f.octets))

  module _ (slot : ℕ → ℕ) (mask : ℕ) (frame : List ℕ) (f : IsFrame width frame) where
    -- a mask of no words leaves the frame as it came
    pub protect-none : mask ≡ 0 → protect width slot mask frame ≡ frame
    protect-none e =
        any.words_ext (word_octets width) words (protect width slot mask frame) (protect_frame slot mask frame f.long).long frame f.long
        (λ w l. word_stays slot mask w frame f l (rw (e, zero-div)))

    -- protected and opened it is what it was
    pub protect_twice : protect width slot mask (protect width slot mask frame) ≡ frame
    unfolding protect word_turned
    protect_twice = any.words_twice (word_octets width) (turned_bits width mask) (of_word width slot) words frame f.long f.octets

  -- a slot rests on its own bits alone
  pub protect_same : (one two : ℕ → ℕ) (mask : ℕ) → ((n : ℕ) → n < slot_bits width → one n ≡ two n) → (frame : List ℕ)
      → protect width one mask frame ≡ protect width two mask frame
  unfolding protect word_turned
  protect_same one two mask same =
      any.words_same (word_octets width) (turned_bits width mask) (of_word width one) (of_word width two) words
      (λ w l j h. same (width * w + j) (omega (arith, any.word-ends width w words l, at_most mask w)))

  -- the code's step
  module _ (slot : ℕ → ℕ) (mask w : ℕ) (f : List ℕ) where
    pub word_out : Octets f → (mask / 2 ^ w % 2 ≡ 1 → ⊥) → f ≡ word_turned width slot mask w f
    unfolding word_turned
    word_out o n =
        let out : in_mask mask w ≡ false = ne_eqb _ _ n in
        rw out (sym (turned_in-none (word_octets width * w) (word_octets width) (of_word width slot w) f o))

    pub word_in_lem : (a n : ℕ) → n ≡ word_octets width → a ≡ word_octets width * w → (m : List ℕ) (ks : ℕ → ℕ) → mask / 2 ^ w % 2 ≡ 1
        → ((k : ℕ) → ks k ≡ of_word width slot w k) → m ≡ turned width ks (take (a + n - a) (drop a f)) → put_mid a (a + n - a) f m ≡ word_turned width slot mask w f
    unfolding word_turned
    word_in_lem a n p r m ks e same q =
        let its : in_mask mask w ≡ true = eq-eqb _ _ e in
        rw (its, sym r, sym p) (put-turned a n width (of_word width slot w) f m (q ∙ turned_same width ks (of_word width slot w) same _))

  -- four steps one by one
  pub four_turned : (slot : ℕ → ℕ) (mask : ℕ) (a b c d e : List ℕ) → b ≡ word_turned width slot mask 0 a → c ≡ word_turned width slot mask 1 b
      → d ≡ word_turned width slot mask 2 c → e ≡ word_turned width slot mask 3 d → e ≡ protect width slot mask a
  unfolding protect
  four_turned slot mask a b c d e p q r s =
      s ∙ ap (word_turned width slot mask 3) (r ∙ ap (word_turned width slot mask 2) (q ∙ ap (word_turned width slot mask 1) p))

  module _ (slot : ℕ → ℕ) (mask : ℕ) (a : List ℕ) where
    -- a with its words below w turned, one after the other
    pub record TurnedTo (w : ℕ) (b : List ℕ) : Type 0 where
      pub is : b ≡ any.in_turn (word_octets width) (turned_bits width mask) (of_word width slot) w a

    pub to_none : TurnedTo 0 a
    to_none = record { is = refl }

    pub to_next : {w : ℕ} {b c : List ℕ} → TurnedTo w b → c ≡ word_turned width slot mask w b → TurnedTo (w + 1) c
    unfolding word_turned
    to_next {w} t e = record { is = rw (add-one w) (e ∙ ap (word_turned width slot mask w) t.is) }

    pub to_all : {w : ℕ} {b : List ℕ} → TurnedTo w b → w ≡ words → b ≡ protect width slot mask a
    unfolding protect word_turned
    to_all t e = rw e at t.is
