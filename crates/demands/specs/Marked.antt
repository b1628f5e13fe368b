-- The build paper's marked examples in one table, each as a statement about the definitions; calls are at half rate, of either strictness m.
use Rattle.std.specs.Prelude.{◌≡◌, List, [], ◌∷◌, ◌++◌, ℕ, ◌-◌, ◌*◌, ◌≤◌, length, replicate}
use Rattle.octets.specs.Bits.{bit, octets_from}
use Rattle.scramble.specs.Sequence.{P}
use Rattle.generator.specs.Generator.{next_vector, aes_vector}
use Rattle.des.specs.Des.{des}
use Rattle.aes.specs.Cipher.{aes}
use Rattle.ciphers.specs.Keystream.{used_block, stream}
use Rattle.answers.specs.declared.Answer.TheVariants.{Done, Held, NotNow, ZeroVector}
use Rattle.answers.specs.Numbers.{number_of}
use Rattle.keyentry.specs.Name.{no_name}
use Rattle.keyentry.specs.Entry.{entry_octets, key_place}
use Rattle.keybook.specs.Book.{book_octets}
use Rattle.keybook.specs.Operations.{finish_of}
use Rattle.calls.specs.declared.counts.Counts.{Counts}
use Rattle.calls.specs.declared.call.Call.{Call}
use Rattle.calls.specs.Counts.{words_in, counts_of, no_counts}
use Rattle.sizes.specs.Frame.{half_rate}
use Rattle.sizes.specs.Ciphers.{vector_octets, no_vector}
use Rattle.openings.specs.Samples.{scramble0001, des_abcd, seed}
use Rattle.calls.specs.Call.{unknown, told, receiving, terms_of, no_call, written}
use Rattle.calls.specs.Opening.{open_of, start_of, join_of}
use Rattle.voice.specs.Slot.{top_mask, voice_of}
use Rattle.calls.specs.Vector.{announce_of}
use Rattle.data.specs.declared.packet.Packet.{Packet}
use Rattle.data.specs.Opening.{new_packet}
use Rattle.data.specs.Message.{counted, of_message, message_of}

-- scramble key 0001
abbrev pub key0001 : List ℕ
key0001 = 0x00 ∷ 0x01 ∷ []

-- a book whose first entry has the octets k loaded, for cipher type c and key ID 0, and that is else all zero
abbrev pub holding : ℕ → List ℕ → List ℕ
holding c k = c ∷ 0 ∷ length k ∷ 0 ∷ (k ++ replicate (book_octets - key_place - length k) 0)

-- the number that finish answers of it
unfoldable pub finish_number : ℕ → List ℕ → ℕ
finish_number c k = number_of (finish_of (holding c k) c 0).0

-- an entry for cipher type c and key ID 0, without a name, whose key of n octets is ready
abbrev pub ready_entry : ℕ → ℕ → List ℕ → List ℕ
ready_entry c n key = c ∷ 0 ∷ n ∷ 1 ∷ (key ++ no_name)

-- a book that has key 0001 and DES key ABCDEF0123456789 ready, as key ID 0
abbrev pub book_of_two : List ℕ
book_of_two = ready_entry 1 2 scramble0001 ++ (ready_entry 2 8 des_abcd ++ replicate (14 * entry_octets) 0)

-- at half rate a scramble receiver at position p, and a DES receiver at position p that does not know its session's vector, by what they have counted
abbrev pub scrambling : ℕ → ℕ → Counts → Call
scrambling m p n = written n (receiving (terms_of 1 scramble0001 half_rate m) p (told no_vector))

abbrev pub waiting : ℕ → ℕ → Counts → Call
waiting m p n = written n (receiving (terms_of 2 des_abcd half_rate m) p unknown)

-- after s held slots of one mask
abbrev pub held_counts : ℕ → ℕ → Counts
held_counts mask s = counts_of 0 (s * words_in mask) (s * (4 - words_in mask)) 0

-- 8001000600140000F002200CC0000000000000000000000000000000
abbrev pub frame8001 : List ℕ
frame8001 =
    0x80 ∷ 0x01 ∷ 0x00 ∷ 0x06 ∷ 0x00 ∷ 0x14 ∷ 0x00 ∷ 0x00 ∷ 0xF0 ∷ 0x02 ∷ 0x20 ∷ 0x0C ∷ 0xC0 ∷ 0x00 ∷ replicate 14 0

-- a scramble packet of DCALL messages under key 0001, before its first
abbrev pub dcalls : Packet
dcalls = new_packet 1 1 no_vector scramble0001

-- ABCDEFGHIJKLMNOPQRST, and C143434245524730485A4D2C580E30D150545540
abbrev pub letters : List ℕ
letters =
    0x41 ∷ 0x42 ∷ 0x43 ∷ 0x44 ∷ 0x45 ∷ 0x46 ∷ 0x47 ∷ 0x48 ∷ 0x49 ∷ 0x4A ∷ 0x4B ∷ 0x4C ∷ 0x4D ∷ 0x4E ∷ 0x4F ∷ 0x50 ∷ 0x51 ∷ 0x52 ∷ 0x53 ∷ 0x54 ∷ []

abbrev pub letters_turned : List ℕ
letters_turned =
    0xC1 ∷ 0x43 ∷ 0x43 ∷ 0x42 ∷ 0x45 ∷ 0x52 ∷ 0x47 ∷ 0x30 ∷ 0x48 ∷ 0x5A ∷ 0x4D ∷ 0x2C ∷ 0x58 ∷ 0x0E ∷ 0x30 ∷ 0xD1 ∷ 0x50 ∷ 0x54 ∷ 0x55 ∷ 0x40 ∷ []

pub record Marked : Type 0 where
  -- scramble key 0001: P0 to P31 are 80010006
  pub example_1 : octets_from 4 (P key0001) ≡ 0x80 ∷ 0x01 ∷ 0x00 ∷ 0x06 ∷ []
  -- an all-zero frame, mask 3, that key, slot 0: the frame above
  pub example_2 : (m : ℕ) → m ≤ 1 → voice_of (scrambling m 0 no_counts) 3 (replicate 28 0) ≡ (Done, (scrambling m 1 (counts_of 2 0 2 0), frame8001))
  -- "ABCDEFGHIJKLMNOPQRST", that key: C143434245524730485A4D2C580E30D150545540. Whatever the two octets before them
  pub example_3 : (h0 h1 : ℕ) → message_of dcalls (h0 ∷ h1 ∷ letters) ≡ (Done, (counted dcalls, h0 ∷ h1 ∷ letters_turned))
  -- L(ABCDEF1234567890) = 8B8DDEEB890F4CF1
  pub example_4 : next_vector seed ≡ 0x8B ∷ 0x8D ∷ 0xDE ∷ 0xEB ∷ 0x89 ∷ 0x0F ∷ 0x4C ∷ 0xF1 ∷ []
  -- L of that = C83AB2073A8D80E8
  pub example_5 : next_vector (next_vector seed) ≡ 0xC8 ∷ 0x3A ∷ 0xB2 ∷ 0x07 ∷ 0x3A ∷ 0x8D ∷ 0x80 ∷ 0xE8 ∷ []
  -- the AES vector of the seed in 4: the seed, then the result of 4
  pub example_6 : aes_vector seed ≡ seed ++ (0x8B ∷ 0x8D ∷ 0xDE ∷ 0xEB ∷ 0x89 ∷ 0x0F ∷ 0x4C ∷ 0xF1 ∷ [])
  -- bit 1,567 of a session is bit 31 of the 25th used DES block and of the 13th AES block, blocks counted from 1, bits from 0
  pub example_7 : (key vector : List ℕ)
      → (stream 2 key vector 1567 ≡ bit (used_block (des key) vector 24) 31) × (stream 3 key vector 1567 ≡ bit (used_block (aes key) (aes_vector vector) 12) 31)
  -- scramble keys 0000 and 8000: 7. Key 7FFF: 0
  pub example_8 : finish_number 1 (0x00 ∷ 0x00 ∷ []) ∷ finish_number 1 (0x80 ∷ 0x00 ∷ []) ∷ finish_number 1 (0x7F ∷ 0xFF ∷ []) ∷ [] ≡ 7 ∷ 7 ∷ 0 ∷ []
  -- DES key ABCDEF0123456789: 0; ending 88: 7
  pub example_9 :
      finish_number 2 (0xAB ∷ 0xCD ∷ 0xEF ∷ 0x01 ∷ 0x23 ∷ 0x45 ∷ 0x67 ∷ 0x89 ∷ [])
      ∷ finish_number 2 (0xAB ∷ 0xCD ∷ 0xEF ∷ 0x01 ∷ 0x23 ∷ 0x45 ∷ 0x67 ∷ 0x88 ∷ []) ∷ [] ≡ 0 ∷ 7 ∷ []
  -- the second UPCH message starts at bit 48 of DES block 2, blocks counted from 1. Inbound and outbound, for every key and vector
  pub example_10 : (key vector : List ℕ)
      → (of_message (stream 2 key vector) 2 1 0 ≡ bit (used_block (des key) vector 1) 48)
      × (of_message (stream 2 key vector) 3 1 0 ≡ bit (used_block (des key) vector 1) 48)
  -- a DES join, then four voice slots: 1 each; then announce: 0. Announce after three: 9. With any mask, any frame and any vector
  pub example_11 : (m : ℕ) → m ≤ 1
      → (join_of no_call 2 0 half_rate m book_of_two ≡ (Done, waiting m 4 no_counts))
      × ((mask : ℕ) (frame : List ℕ) → mask ≤ top_mask → length frame ≡ 28
      → (voice_of (waiting m 4 no_counts) mask frame ≡ (Held, (waiting m 5 (held_counts mask 1), frame)))
      × (voice_of (waiting m 5 (held_counts mask 1)) mask frame ≡ (Held, (waiting m 6 (held_counts mask 2), frame)))
      × (voice_of (waiting m 6 (held_counts mask 2)) mask frame ≡ (Held, (waiting m 7 (held_counts mask 3), frame)))
      × (voice_of (waiting m 7 (held_counts mask 3)) mask frame ≡ (Held, (waiting m 0 (held_counts mask 4), frame))))
      × ((mask : ℕ) (w : List ℕ) → length w ≡ vector_octets
      → (announce_of (waiting m 0 (held_counts mask 4)) w ≡ (Done, written (held_counts mask 4) (receiving (terms_of 2 des_abcd half_rate m) 0 (told w))))
      × (announce_of (waiting m 7 (held_counts mask 3)) w ≡ (NotNow, waiting m 7 (held_counts mask 3))))
  -- vector zero, as document 02 has it: DES open 0, DES start 8; scramble open 0
  pub example_12 : (m : ℕ) → m ≤ 1
      → (open_of no_call 2 0 half_rate m no_vector book_of_two ≡ (Done, written no_counts (receiving (terms_of 2 des_abcd half_rate m) 0 (told no_vector))))
      × (start_of no_call 2 0 half_rate no_vector book_of_two ≡ (ZeroVector, no_call))
      × (open_of no_call 1 0 half_rate m no_vector book_of_two ≡ (Done, scrambling m 0 no_counts))
