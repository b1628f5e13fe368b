-- Where a session ends (001, 5.4.4.1 and 5.4.4.2; document 02, W-205): how many bits it has, and by which its last bit is turned.
use Rattle.std.specs.Prelude.{◌≡◌, List, true, ℕ, ◌+◌, ◌*◌, ◌<◌}
use Rattle.octets.specs.Bits.{bit, flip}
use Rattle.scramble.specs.Sequence.{P}
use Rattle.des.specs.Des.{des}
use Rattle.aes.specs.Cipher.{aes}
use Rattle.generator.specs.Generator.{aes_vector}
use Rattle.ciphers.specs.Keystream.{used_block}
use Rattle.answers.specs.Numbers.{number_of}
use Rattle.sizes.specs.Ciphers.{session_slots}
use Rattle.calls.specs.declared.call.Call.{Call}
use Rattle.calls.specs.Counts.{in_mask}
use Rattle.calls.specs.Call.{receiving_end, good_call}
use Rattle.voice.specs.Slot.{lost_of, voice_of}
use Rattle.demands.specs.Rates.{half, full}
use Rattle.demands.specs.Demand1.{BelowLimit}

-- a slot that is done, and whose mask has its last word
pub record LastWord (call : Call) (mask : ℕ) (frame : List ℕ) : Type 0 where
  pub done : number_of (voice_of call mask frame).0 ≡ 0
  pub masked : in_mask mask 3 ≡ true

-- bit k of its frame is turned by b
abbrev pub TurnedBy : Call → ℕ → List ℕ → ℕ → ℕ → Type 0
TurnedBy call mask frame k b = bit (voice_of call mask frame).1.1 k ≡ flip (bit frame k) b

pub record SessionEnds : Type 0 where
  -- scramble, DES and AES at half rate, and at full rate
  pub half-bits : (half.slot * session_slots 1 ≡ 784) × (half.slot * session_slots 2 ≡ 1568) × (half.slot * session_slots 3 ≡ 1568)
  pub full-bits : (full.slot * session_slots 1 ≡ 1152) × (full.slot * session_slots 2 ≡ 2304) × (full.slot * session_slots 3 ≡ 2304)
  -- the last bit of a full-rate session: P1151; bit 63 of the 36th used DES block; bit 127 of the 18th used AES block, blocks counted from 1, bits from 0
  pub scramble_last : (call : Call) (mask : ℕ) (frame : List ℕ) → call.terms.rate ≡ 1 → call.terms.cipher ≡ 1 → call.position ≡ 3 → LastWord call mask frame
      → TurnedBy call mask frame 287 (P call.terms.key 1151)
  pub des-last : (call : Call) (mask : ℕ) (frame : List ℕ) → call.terms.rate ≡ 1 → call.terms.cipher ≡ 2 → call.position ≡ 7 → LastWord call mask frame
      → TurnedBy call mask frame 287 (bit (used_block (des call.terms.key) call.vector 35) 63)
  pub aes-last : (call : Call) (mask : ℕ) (frame : List ℕ) → call.terms.rate ≡ 1 → call.terms.cipher ≡ 3 → call.position ≡ 7 → LastWord call mask frame
      → TurnedBy call mask frame 287 (bit (used_block (aes call.terms.key) (aes_vector call.vector) 17) 127)
  -- and after the last slot, done or held, a call is at position 0 under the same terms, its rate among them, at either end
  pub next : (call : Call) → call.position + 1 ≡ session_slots call.terms.cipher → (mask : ℕ) (frame : List ℕ) → number_of (voice_of call mask frame).0 < 2
      → ((voice_of call mask frame).1.0.position ≡ 0) × ((voice_of call mask frame).1.0.terms ≡ call.terms)
  -- and so is a good receiver after a lost one, below its limit
  pub next-lost : (call : Call) → good_call call ≡ true → call.end ≡ receiving_end → BelowLimit call → call.position + 1 ≡ session_slots call.terms.cipher
      → ((lost_of call).1.position ≡ 0) × ((lost_of call).1.terms ≡ call.terms)
