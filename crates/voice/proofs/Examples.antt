-- An example past slot 0 and word 0 at each rate.
use mathlib.Core.Path.{◌≡◌, refl, sym, ap, ◌∙◌}
use mathlib.Core.List.{List, [], ◌∷◌, ◌++◌}
use Prim.Native.Nat.{ℕ, ◌+◌, ◌*◌, ◌%◌}
use native.Mathlib.Omega.{arith}
use lib.ListN.{replicate}
use Rattle.octets.specs.Lists.{replaced, iterate}
use Rattle.octets.specs.Bits.{octet, octets_from}
use Rattle.octets.specs.Turn.{within, turned, turned_in}
use Rattle.octets.proofs.ListLaws.{iterate_add}
use Rattle.scramble.specs.Sequence.{key_number, stepped, P}
use Rattle.ciphers.specs.Keystream.{stream}
use Rattle.sizes.specs.Ciphers.{no_vector}
use Rattle.openings.specs.Samples.{scramble0001}
use Rattle.sizes.specs.Frame.{half_rate, full_rate, width, frame_octets, slot_bits}
use Rattle.voice.specs.Frame.{of_slot, word_turned, protect}
use Rattle.voice.proofs.FrameLaws.{protect_same}

-- slot 3, words 1 and 3: 00000000000000A043C1888533000000000000000080BD038E092400, by a script of the recurrence P(n+15) = P(n+1) xor P(n);
-- and at full rate, by the same: 000000000000000000BEBF8781110666155400000000000000000090176073412B86F916
abbrev past : ℕ → List ℕ
past w = protect w (of_slot w (stream 1 scramble0001 no_vector) 3) 10 (replicate (frame_octets w) 0)

-- by what the register holds as the slot begins
from : (w register : ℕ) → iterate stepped (slot_bits w * 3) (key_number scramble0001) ≡ register
    → past w ≡ protect w (λ n. iterate stepped n register % 2) 10 (replicate (frame_octets w) 0)
unfolding stream P
from w register e =
    protect_same w (of_slot w (stream 1 scramble0001 no_vector) 3) (λ n. iterate stepped n register % 2) 10
    (λ n l.
    let sum : slot_bits w * 3 + n ≡ n + slot_bits w * 3 = omega arith in
    ap (λ (r : ℕ). r % 2)
    (ap (λ (k : ℕ). iterate stepped k (key_number scramble0001)) sum ∙ sym (iterate_add stepped n (slot_bits w * 3) (key_number scramble0001)) ∙ ap (iterate stepped n) e))
    (replicate (frame_octets w) 0)

pub example_past : past (width half_rate) ≡ replicate 7 0 ++ (0xA0 ∷ 0x43 ∷ 0xC1 ∷ 0x88 ∷ 0x85 ∷ 0x33 ∷ replicate 8 0 ++ (0x80 ∷ 0xBD ∷ 0x03 ∷ 0x8E ∷ 0x09 ∷ 0x24 ∷ 0x00 ∷ []))
unfolding protect word_turned turned_in turned within replaced octets_from octet iterate stepped key_number
example_past = from (width half_rate) 0x19E6 refl

pub example_past-full : past (width full_rate)
    ≡ replicate 9 0 ++ (0xBE ∷ 0xBF ∷ 0x87 ∷ 0x81 ∷ 0x11 ∷ 0x06 ∷ 0x66 ∷ 0x15 ∷ 0x54 ∷ replicate 9 0
    ++ (0x90 ∷ 0x17 ∷ 0x60 ∷ 0x73 ∷ 0x41 ∷ 0x2B ∷ 0x86 ∷ 0xF9 ∷ 0x16 ∷ []))
unfolding protect word_turned turned_in turned within replaced octets_from octet iterate stepped key_number
example_past-full = from (width full_rate) 0x58BE refl
