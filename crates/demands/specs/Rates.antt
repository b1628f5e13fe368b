-- What a rate makes of a voice frame (001, 5.4.2 and 5.4.4.1; documents 01 and 02): the numbers as the paper and the standard have them, beside those that
-- follow from the width in crates/sizes.
use Rattle.std.specs.Prelude.{◌≡◌, List, ℕ, ◌*◌, eqb, length, take, drop}
use Rattle.octets.specs.Tests.{pick}
use Rattle.octets.specs.Bits.{Octets}

pub record Layout : Type 0 where
  -- the speech bits of a word, its octets, and all its bits
  pub speech : ℕ
  pub octets : ℕ
  pub bits : ℕ
  -- the octets of a frame of four words, and the keystream bits of a slot
  pub frame : ℕ
  pub slot : ℕ

abbrev pub half : Layout
half = record { speech = 49; octets = 7; bits = 56; frame = 28; slot = 196 }

abbrev pub full : Layout
full = record { speech = 72; octets = 9; bits = 72; frame = 36; slot = 288 }

-- of a rate: 0 is half, 1 is full
abbrev pub layout : ℕ → Layout
layout rate = pick (eqb rate 1) full half

module _ (l : Layout) where
  -- a frame
  pub record FrameAt (frame : List ℕ) : Type 0 where
    pub long : length frame ≡ l.frame
    pub octets : Octets frame

  -- word w of a frame, counted from 0
  abbrev pub word_at : ℕ → List ℕ → List ℕ
  word_at w frame = take l.octets (drop (l.octets * w) frame)
