-- Worked blocks of DES: a textbook's, and rows of SP 500-20's and SP 800-17's known answers, so chosen that together they look at each of the 512 selection
-- entries; and blocks under the sample key of the paper's examples.
use mathlib.Core.Path.{◌≡◌, refl, ap, ◌∙◌}
use mathlib.Core.List.{List, [], ◌∷◌}
use Prim.Native.Nat.{ℕ}
use Rattle.octets.specs.Lists.{tab, Each}
use Rattle.octets.specs.Bits.{bit, octet, octets_from}
use Rattle.des.specs.Tables.{ip, ip⁻¹, table_e, table_p, pc_1, pc_2, left_shifts, table_s}
use Rattle.des.specs.Des.{des, enciphered, rounds, halved, preoutput, cipher_f, box_input, substituted, box_place, xor_bits, permuted, round_key, key_state, rotated}
use Rattle.des.proofs.BlockNumbers.{octets, bits, octets_work}

-- key, block and enciphered block
pub rows : List (ℕ × ℕ × ℕ)
rows =
    (0x133457799BBCDFF1, 0x0123456789ABCDEF, 0x85E813540F0AB405)
    ∷ (0x0140010101010101, 0x0000000000000000, 0xDF3B99D6577397C8)
    ∷ (0x1002911698100101, 0x0000000000000000, 0x1AEAC39A61F0A464)
    ∷ (0x0101010101080101, 0x0000000000000000, 0x5495C6ABF1E5DF51)
    ∷ (0x0120010101010101, 0x0000000000000000, 0x31FE17369B5288C9)
    ∷ (0x0101010101010101, 0x55579380D77138EF, 0x0400000000000000)
    ∷ (0x0101010101010110, 0x0000000000000000, 0x0875041E64C570F7)
    ∷ (0x3107911598090140, 0x0000000000000000, 0x406A9A6AB43399AE)
    ∷ (0x0101010101010101, 0xCE332329248F3228, 0x0000000000001000)
    ∷ (0x0101010101010101, 0xE7FCE22557D23C97, 0x0000080000000000)
    ∷ (0x0101010101010101, 0xF02B263B328E2B60, 0x0000002000000000)
    ∷ (0x0101010101010101, 0x4BD388FF6CD81D4F, 0x1000000000000000)
    ∷ (0x0108010101010101, 0x0000000000000000, 0x178C83CE2B399D94)
    ∷ []

bits_work : Each (λ (r : ℕ × ℕ × ℕ). enciphered (round_key (bits r.0)) (bits r.1) ≡ bits r.2) rows
unfolding rows tab ip ip⁻¹ table_e table_p pc_1 pc_2 left_shifts table_s enciphered rounds halved preoutput cipher_f box_input substituted box_place xor_bits permuted round_key key_state rotated
bits_work = (refl, (refl, (refl, (refl, (refl, (refl, (refl, (refl, (refl, (refl, (refl, (refl, (refl, tt)))))))))))))

each_works : (rs : List (ℕ × ℕ × ℕ)) → Each (λ (r : ℕ × ℕ × ℕ). enciphered (round_key (bits r.0)) (bits r.1) ≡ bits r.2) rs
    → Each (λ (r : ℕ × ℕ × ℕ). des (octets r.0) (octets r.1) ≡ octets r.2) rs
each_works [] w = tt
each_works (r ∷ rs) w = (octets_work r.0 r.1 r.2 w.0, each_works rs w.1)

pub worked : Each (λ (r : ℕ × ℕ × ℕ). des (octets r.0) (octets r.1) ≡ octets r.2) rows
worked = each_works rows bits_work

-- ---- under the key ABCDEF0123456789

abbrev sample_key : ℕ
sample_key = 0xABCDEF0123456789

-- zeros; and of 001's first vector and of its second one (7.2.3) the first block, which is not used, and the one that is
sample_bits : (enciphered (round_key (bits sample_key)) (bits 0) ≡ bits 0x7229F9D30656652A)
    × (enciphered (round_key (bits sample_key)) (bits 0xABCDEF1234567890) ≡ bits 0xCBAB32C3479C5E7E)
    × (enciphered (round_key (bits sample_key)) (bits 0xCBAB32C3479C5E7E) ≡ bits 0xBF46E1EF6C9688E6)
    × (enciphered (round_key (bits sample_key)) (bits 0x8B8DDEEB890F4CF1) ≡ bits 0x113F0F01B9D85D3D)
    × (enciphered (round_key (bits sample_key)) (bits 0x113F0F01B9D85D3D) ≡ bits 0xEF4D6E93AEAD3769)
unfolding tab ip ip⁻¹ table_e table_p pc_1 pc_2 left_shifts table_s enciphered rounds halved preoutput cipher_f box_input substituted box_place xor_bits permuted round_key key_state rotated
sample_bits = (refl, refl, refl, refl, refl)

-- bit 1 of zeros enciphered is 1
pub zeros : bit (des (octets sample_key) (octets 0)) 1 ≡ 1
unfolding octet octets_from
zeros = ap (λ (x : List ℕ). bit x 1) (octets_work sample_key 0 0x7229F9D30656652A sample_bits.0)

-- and the two sessions differ in it
pub sessions-differ : (bit (des (octets sample_key) (des (octets sample_key) (octets 0xABCDEF1234567890))) 1 ≡ 0)
    × (bit (des (octets sample_key) (des (octets sample_key) (octets 0x8B8DDEEB890F4CF1))) 1 ≡ 1)
unfolding octet octets_from
sessions-differ = (
  ap (λ (x : List ℕ). bit (des (octets sample_key) x) 1) (octets_work sample_key 0xABCDEF1234567890 0xCBAB32C3479C5E7E sample_bits.1)
      ∙ ap (λ (x : List ℕ). bit x 1) (octets_work sample_key 0xCBAB32C3479C5E7E 0xBF46E1EF6C9688E6 sample_bits.2),
  ap (λ (x : List ℕ). bit (des (octets sample_key) x) 1) (octets_work sample_key 0x8B8DDEEB890F4CF1 0x113F0F01B9D85D3D sample_bits.3)
      ∙ ap (λ (x : List ℕ). bit x 1) (octets_work sample_key 0x113F0F01B9D85D3D 0xEF4D6E93AEAD3769 sample_bits.4),
)
