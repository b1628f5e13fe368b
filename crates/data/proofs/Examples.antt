-- A message of each kind past a packet's first, and bad and good packets of every kind.
use mathlib.Core.Path.{◌≡◌, refl}
use mathlib.Core.Bool.{Bool, true, ◌&&◌, not}
use mathlib.Core.List.{List, [], ◌∷◌, ◌++◌}
use Prim.Native.Nat.{ℕ}
use lib.ListN.{replicate}
use Rattle.octets.specs.Tests.{all_below}
use Rattle.octets.specs.Lists.{replaced, all_zero, iterate}
use Rattle.octets.specs.Bits.{octet, octets_from}
use Rattle.octets.specs.Turn.{within, turned, turned_in}
use Rattle.scramble.specs.Sequence.{key_number, stepped, P}
use Rattle.ciphers.specs.Keys.{odd_octet, scramble_key, des_key, key_allowed, key_right}
use Rattle.ciphers.specs.Keystream.{stream}
use Rattle.sizes.specs.Ciphers.{no_vector}
use Rattle.openings.specs.Samples.{scramble0001, des_abcd, seed}
use Rattle.data.specs.declared.packet.Packet.{Packet}
use Rattle.data.specs.Kinds.{is_kind}
use Rattle.data.specs.Packet.{closed_tests, open_tests, is_closed, is_open, good_packet, no_packet}
use Rattle.data.specs.Message.{message_turned}

-- a scramble packet of a kind that has had n messages
abbrev pub scrambling : ℕ → ℕ → Packet
scrambling kind n = record { kind = kind; cipher = 1; key = scramble0001; count = n; vector = no_vector }

-- an all-zero message by that key, the second of kinds 1 to 3 and the third of kind 4, by a script of the recurrence P(n+15) = P(n+1) xor P(n):
-- 000014787911166675553FFE80070012006C01680770, 00007F81010606141478791116667555, the same with 0000 behind it, and 00000106061414787911
pub past : (message_turned (scrambling 1 1) (replicate 22 0)
    ≡ 0 ∷ 0 ∷ 0x14 ∷ 0x78 ∷ 0x79 ∷ 0x11 ∷ 0x16 ∷ 0x66 ∷ 0x75 ∷ 0x55 ∷ 0x3F ∷ 0xFE ∷ 0x80 ∷ 0x07 ∷ 0x00 ∷ 0x12 ∷ 0x00 ∷ 0x6C ∷ 0x01 ∷ 0x68 ∷ 0x07 ∷ 0x70 ∷ [])
    × (message_turned (scrambling 2 1) (replicate 16 0)
    ≡ 0 ∷ 0 ∷ 0x7F ∷ 0x81 ∷ 0x01 ∷ 0x06 ∷ 0x06 ∷ 0x14 ∷ 0x14 ∷ 0x78 ∷ 0x79 ∷ 0x11 ∷ 0x16 ∷ 0x66 ∷ 0x75 ∷ 0x55 ∷ [])
    × (message_turned (scrambling 3 1) (replicate 18 0)
    ≡ 0 ∷ 0 ∷ 0x7F ∷ 0x81 ∷ 0x01 ∷ 0x06 ∷ 0x06 ∷ 0x14 ∷ 0x14 ∷ 0x78 ∷ 0x79 ∷ 0x11 ∷ 0x16 ∷ 0x66 ∷ 0x75 ∷ 0x55 ∷ 0 ∷ 0 ∷ [])
    × (message_turned (scrambling 4 2) (replicate 10 0) ≡ 0 ∷ 0 ∷ 0x01 ∷ 0x06 ∷ 0x06 ∷ 0x14 ∷ 0x14 ∷ 0x78 ∷ 0x79 ∷ 0x11 ∷ [])
unfolding message_turned turned_in replaced turned within octets_from octet stream P iterate stepped key_number
past = (refl, refl, refl, refl)

abbrev packet : ℕ → ℕ → List ℕ → ℕ → List ℕ → Packet
packet kind cipher key count vector = record { kind = kind; cipher = cipher; key = key; count = count; vector = vector }

abbrev pub bad_packets : List Packet
bad_packets =
    -- no such kind, no such cipher
    packet 5 2 des_abcd 0 seed
    ∷ packet 1 4 des_abcd 0 seed
    -- closed, with a cipher, a count, a key, a vector, or all of an open one
    ∷ packet 0 1 (replicate 32 0) 0 no_vector
    ∷ packet 0 0 (replicate 32 0) 1 no_vector
    ∷ packet 0 0 (replicate 31 0 ++ (1 ∷ [])) 0 no_vector
    ∷ packet 0 0 (replicate 32 0) 0 seed
    ∷ packet 0 2 des_abcd 0 seed
    -- a key of even parity, a key octet past the length
    ∷ packet 1 2 (0xAA ∷ 0xCD ∷ 0xEF ∷ 0x01 ∷ 0x23 ∷ 0x45 ∷ 0x67 ∷ 0x89 ∷ replicate 24 0) 0 seed
    ∷ packet 1 2 (0xAB ∷ 0xCD ∷ 0xEF ∷ 0x01 ∷ 0x23 ∷ 0x45 ∷ 0x67 ∷ 0x89 ∷ 1 ∷ replicate 23 0) 0 seed
    -- more messages than a packet has
    ∷ packet 1 2 des_abcd 1001 seed
    -- a scramble vector that isn't zeros
    ∷ packet 1 1 scramble0001 0 seed
    ∷ []

-- a DES vector may be zeros, and a packet may have had its last message
abbrev pub good_packets : List Packet
good_packets =
    no_packet ∷ packet 1 2 des_abcd 0 seed ∷ packet 2 2 des_abcd 0 no_vector ∷ packet 3 2 des_abcd 1000 seed ∷ packet 4 1 scramble0001 1000 no_vector ∷ []

abbrev each : (Packet → Bool) → List Packet → Bool
each f [] = true
each f (p ∷ ps) = f p && each f ps

pub each_kind : (each (λ p. not (good_packet p)) bad_packets ≡ true) × (each good_packet good_packets ≡ true)
unfolding good_packet is_closed closed_tests is_open open_tests is_kind key_right key_allowed scramble_key des_key odd_octet all_zero all_below
each_kind = (refl, refl)
