-- The keystream rests on the engine: by one that gives each block back it is another.
use mathlib.Core.Path.{◌≡◌, refl}
use mathlib.Core.List.{List}
use Prim.Native.Nat.{ℕ}
use native.Mathlib.Omega.{arith}
use Rattle.octets.specs.Lists.{tab, iterate}
use Rattle.octets.specs.Bits.{octet, octets_from}
use Rattle.des.specs.Tables.{ip, ip⁻¹, table_e, table_p, pc_1, pc_2, left_shifts, table_s}
use Rattle.des.specs.Des.{enciphered, rounds, halved, preoutput, cipher_f, box_input, substituted, box_place, xor_bits, permuted, round_key, key_state, rotated}
use Rattle.des.proofs.BlockNumbers.{octets, bits, octets_work}
use Rattle.ciphers.specs.Keystream.{used_block, feedback, stream}
use Rattle.ciphers.specs.DesEngines.{stream_by}

-- the key and the vector of 001's DES messages (7.2.2), the vector's encipherment, and that one's, the first block that is used
abbrev key : ℕ
key = 0xABCDEF0123456789

abbrev vector : ℕ
vector = 0xABCDEF1234567890

abbrev fed : ℕ
fed = 0xCBAB32C3479C5E7E

abbrev used : ℕ
used = 0xBF46E1EF6C9688E6

fed-bits : enciphered (round_key (bits key)) (bits vector) ≡ bits fed
unfolding tab ip ip⁻¹ table_e table_p pc_1 pc_2 left_shifts table_s enciphered rounds halved preoutput cipher_f box_input substituted box_place xor_bits permuted round_key key_state rotated
fed-bits = refl

used-bits : enciphered (round_key (bits key)) (bits fed) ≡ bits used
unfolding tab ip ip⁻¹ table_e table_p pc_1 pc_2 left_shifts table_s enciphered rounds halved preoutput cipher_f box_input substituted box_place xor_bits permuted round_key key_state rotated
used-bits = refl

-- bit 3 of the session
ours : stream 2 (octets key) (octets vector) 3 ≡ 1
unfolding stream feedback used_block iterate octets_from octet
ours = rw (octets_work key vector fed fed-bits, octets_work key fed used used-bits)

given_back : stream_by (λ k block. block) 2 (octets key) (octets vector) 3 ≡ 0
unfolding stream_by feedback used_block iterate octets_from octet
given_back = refl

pub another_engine : ((c : ℕ) (k v : List ℕ) (n : ℕ) → stream_by (λ k block. block) c k v n ≡ stream c k v n) → ⊥
another_engine same =
    let e : stream_by (λ k block. block) 2 (octets key) (octets vector) 3 ≡ stream 2 (octets key) (octets vector) 3 = same 2 (octets key) (octets vector) 3 in
    omega (arith, given_back, ours, e)
