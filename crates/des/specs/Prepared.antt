-- A key as `prepare` leaves it for the blocks that come. Other crates pass it on and name `Prepared` and `key_of` alone; its form is cited by this crate's own
-- contracts only. Of what the keys of the rounds are read from, the second engine's name `shifts_to` and `twice_over`.
use Rattle.std.specs.Prelude.{◌≡◌, List, ◌++◌, ℕ, zero, suc, ◌+◌, get_or, take, drop}
use Rattle.octets.specs.Lists.{tab}
use Rattle.octets.specs.Bits.{bit}
use Rattle.des.specs.Tables.{ip, ip⁻¹, table_e, table_p, pc_1, pc_2, left_shifts, table_s}
use Rattle.des.specs.Des.{permuted, round_key}

-- the tables of a block, one after the other
unfoldable pub cipher_tables : List ℕ
cipher_tables = ip ++ (table_e ++ (table_p ++ (table_s ++ (ip⁻¹ ++ pc_2))))

-- C and D of a key of 64 bits, before the first shift
abbrev pub c_of : List ℕ → List ℕ
c_of key = take 28 (permuted pc_1 key)

abbrev pub d_of : List ℕ → List ℕ
d_of key = drop 28 (permuted pc_1 key)

-- how far n rounds shift them in all
unfoldable pub shifts_to : ℕ → ℕ
shifts_to zero = 0
shifts_to (suc n) = shifts_to n + get_or left_shifts n 0

-- the shifts so far, for each round
unfoldable pub shift_sums : List ℕ
shift_sums = tab (λ n. shifts_to (suc n)) 16

-- C and D, each twice over
unfoldable pub twice_over : List ℕ → List ℕ
twice_over key = (c_of key ++ c_of key) ++ (d_of key ++ d_of key)

-- what the keys of the rounds are read from: C and D twice over, and the shifts so far
unfoldable pub schedule_of : List ℕ → List ℕ
schedule_of key = twice_over key ++ shift_sums

-- the key that was prepared: it stands behind the tables
unfoldable pub key_of : List ℕ → List ℕ
key_of p = take 8 (drop 768 p)

-- the keys of its rounds
abbrev pub keys_of : List ℕ → ℕ → List ℕ
keys_of p = round_key (tab (bit (key_of p)) 64)

-- the tables, the key, and what the keys of its rounds are read from
pub record Prepared (p : List ℕ) : Type 0 where
  pub parts : p ≡ cipher_tables ++ (key_of p ++ schedule_of (tab (bit (key_of p)) 64))
