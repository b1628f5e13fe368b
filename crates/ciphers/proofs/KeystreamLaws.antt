-- A keystream is bits, and rests on the key's own octets alone.
use mathlib.Core.Path.{◌≡◌, refl, sym, ap, ◌∙◌}
use mathlib.Core.List.{List, ◌++◌, append-nil}
use Prim.Native.Nat.{ℕ, ◌-◌, ◌/◌, ◌%◌, ◌≤◌, ◌<◌}
use native.Mathlib.Omega.{arith}
use lib.ListN.{length, replicate, get_or-append}
use lib.Seq.{take_at}
use Rattle.octets.specs.Bits.{Bits}
use Rattle.octets.proofs.BitLaws.{bit_lt}
use Rattle.scramble.specs.Sequence.{key_number, P}
use Rattle.scramble.proofs.Recurrence.{P-bit}
use Rattle.generator.specs.Generator.{aes_vector}
use Rattle.des.specs.Des.{des}
use Rattle.des.proofs.DesLaws.{first_eight}
use Rattle.joineddes.proofs.BothEngines.{both_engines}
use Rattle.aes.specs.Cipher.{aes}
use Rattle.sizes.specs.Ciphers.{by_cipher, block_bits, key_octets}
use Rattle.ciphers.specs.Keystream.{used_block, feedback, stream}
use Rattle.ciphers.specs.DesEngines.{DesEngine, Plain, Joined, des_by, stream_by}
use Rattle.sizes.proofs.Cases.{by_each, by_range}
use Rattle.ciphers.proofs.EngineLaws.{feedback_same}

feedback_lt : (encipher : List ℕ → List ℕ) (width : ℕ) (vector : List ℕ) (n : ℕ) → feedback encipher width vector n < 2
unfolding feedback
feedback_lt encipher width vector n = bit_lt (used_block encipher vector (n / width)) (n % width)

pub bits-stream : (c : ℕ) (key vector : List ℕ) → Bits (stream c key vector)
unfolding stream
bits-stream c key vector n =
    by_each c (λ (b : ℕ). b < 2) (P key n) (feedback (des key) (block_bits 2) vector n) (feedback (aes key) (block_bits 3) (aes_vector vector) n) 0
    (P-bit key n) (feedback_lt (des key) (block_bits 2) vector n) (feedback_lt (aes key) (block_bits 3) (aes_vector vector) n) (omega arith)

-- zeros behind a key reach no bit of it
module _ (key rest v : List ℕ) where
  scramble-key : length key ≡ 2 → key_number (key ++ rest) ≡ key_number key
  unfolding key_number
  scramble-key l = rw (get_or-append key rest 0 0 (omega arith), get_or-append key rest 0 1 (omega arith))

  scramble-rest : length key ≡ 2 → (n : ℕ) → stream 1 (key ++ rest) v n ≡ stream 1 key v n
  unfolding stream P
  scramble-rest l n = rw (scramble-key l)

  des-key : length key ≡ 8 → (block : List ℕ) → des (key ++ rest) block ≡ des key block
  des-key l block = sym (first_eight (key ++ rest) block) ∙ ap (λ (k : List ℕ). des k block) (take_at key rest 8 l)

  des-rest : length key ≡ 8 → (n : ℕ) → stream 2 (key ++ rest) v n ≡ stream 2 key v n
  unfolding stream
  des-rest l n = feedback_same (des (key ++ rest)) (des key) (block_bits 2) v (des-key l) n

pub stream-rest : (c : ℕ) → (1 ≤ c) × (c ≤ 3) → (key v : List ℕ) → length key ≡ key_octets c → (n : ℕ)
    → stream c (key ++ replicate (32 - key_octets c) 0) v n ≡ stream c key v n
stream-rest c r key v =
    by_range (λ m. length key ≡ key_octets m → (n : ℕ) → stream m (key ++ replicate (32 - key_octets m) 0) v n ≡ stream m key v n)
    (scramble-rest key (replicate 30 0) v) (des-rest key (replicate 24 0) v) (λ l n. rw append-nil) c r

-- ---- by either engine of DES

either_block : (e : DesEngine) (key block : List ℕ) → des_by e key block ≡ des key block
either_block Plain key block = refl
either_block Joined key block = both_engines key block

-- it is the one keystream
pub either_stream : (e : DesEngine) (c : ℕ) (key vector : List ℕ) (n : ℕ) → stream_by (des_by e) c key vector n ≡ stream c key vector n
unfolding stream_by stream
either_stream e c key vector n =
    ap (λ (b : ℕ). by_cipher c (P key n) b (feedback (aes key) (block_bits 3) (aes_vector vector) n) 0)
    (feedback_same (des_by e key) (des key) (block_bits 2) vector (either_block e key) n)
