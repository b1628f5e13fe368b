-- The protected voice frame (001, 5.4.2, 5.4.4.1 and 5.4.6), over the width: four words, each with its speech bits first and then, at half rate, spare bits.
use Rattle.std.specs.Prelude.{◌≡◌, List, ℕ, ◌+◌, ◌*◌, length, take, drop}
use Rattle.octets.specs.Tests.{pick}
use Rattle.octets.specs.Bits.{Octets}
use Rattle.octets.specs.Turn.{turned_in}
use Rattle.sizes.specs.Frame.{word_octets, frame_octets, slot_bits}
use Rattle.calls.specs.Counts.{in_mask}

module _ (width : ℕ) where
  -- 28 octets at half rate, 36 at full rate
  pub record IsFrame (frame : List ℕ) : Type 0 where
    pub long : length frame ≡ frame_octets width
    pub octets : Octets frame

  -- word w of a frame, counted from 0
  abbrev pub word : ℕ → List ℕ → List ℕ
  word w frame = take (word_octets width) (drop (word_octets width * w) frame)

  -- the bits of slot p of a session: at half rate 196 p to 196 p + 195, at full rate 288 p to 288 p + 287
  abbrev pub of_slot : (ℕ → ℕ) → ℕ → ℕ → ℕ
  of_slot ks p n = ks (slot_bits width * p + n)

  -- how many bits of word w are turned: its speech, where the mask has the word, and else none
  abbrev pub turned_bits : ℕ → ℕ → ℕ
  turned_bits mask w = pick (in_mask mask w) width 0

  -- the slot's bits for word w: bit 49 w + j for its bit j, or 72 w + j
  abbrev pub of_word : (ℕ → ℕ) → ℕ → ℕ → ℕ
  of_word slot w j = slot (width * w + j)

  -- the frame with word w turned where it stands
  unfoldable pub word_turned : (ℕ → ℕ) → ℕ → ℕ → List ℕ → List ℕ
  word_turned slot mask w frame = turned_in (word_octets width * w) (word_octets width) (turned_bits mask w) (of_word slot w) frame

  -- a frame protected, or opened: its four words turned, one after the other
  unfoldable pub protect : (ℕ → ℕ) → ℕ → List ℕ → List ℕ
  protect slot mask frame = word_turned slot mask 3 (word_turned slot mask 2 (word_turned slot mask 1 (word_turned slot mask 0 frame)))
