-- FIPS 197, section 5: the forward cipher of AES-256 (Nb = 4, Nk = 8, Nr = 14), and its key expansion. A state is a list of 16 octets, octet
-- r + 4 c being the standard's s[r, c], so that the input block is the first state and the last state is the output. A word is a list of
-- 4 octets, and a key schedule the list of the octets of its 60 words, in order.
use Rattle.std.specs.Prelude.{ℕ, zero, suc, ◌+◌, ◌*◌, ◌/◌, ◌%◌, ◌-◌, List, [], ◌∷◌, ◌++◌, eqb, get_or}
use Rattle.std.specs.Int.Bits.{bit_xor}
use Rattle.octets.specs.Tests.{pick}
use Rattle.octets.specs.Lists.{tab}
use Rattle.aes.specs.Field.{xtime, mul, sbox_of}

-- word i of a schedule, or column i of a state
unfoldable pub word : List ℕ → ℕ → List ℕ
word w i = tab (λ k. get_or w (4 * i + k) 0) 4

-- the sum of two words
unfoldable pub xors : List ℕ → List ℕ → List ℕ
xors a b = tab (λ i. bit_xor (get_or a i 0) (get_or b i 0)) 4

-- s[r, c]
abbrev pub cell : List ℕ → ℕ → ℕ → ℕ
cell s r c = get_or s (r + 4 * c) 0

-- 5.1.1, SubBytes: the S-box at each octet
unfoldable pub sub_bytes : List ℕ → List ℕ
sub_bytes s = tab (λ i. sbox_of (get_or s i 0)) 16

-- 5.1.2, ShiftRows: s'[r, c] = s[r, (c + r) mod 4]
unfoldable pub shift_rows : List ℕ → List ℕ
shift_rows s = tab (λ i. cell s (i % 4) ((i / 4 + i % 4) % 4)) 16

-- 5.1.3, MixColumns: s'[r, c] = {02} • s[r, c] ⊕ {03} • s[r + 1, c] ⊕ s[r + 2, c] ⊕ s[r + 3, c], the rows mod 4
unfoldable pub mixed : List ℕ → ℕ → ℕ → ℕ
mixed s r c =
    bit_xor (bit_xor (bit_xor (mul (cell s r c) 2) (mul (cell s ((r + 1) % 4) c) 3)) (cell s ((r + 2) % 4) c))
    (cell s ((r + 3) % 4) c)

unfoldable pub mix_columns : List ℕ → List ℕ
mix_columns s = tab (λ i. mixed s (i % 4) (i / 4)) 16

-- 5.1.4, AddRoundKey: column c of s, and word 4 n + c of the schedule w, in round n
unfoldable pub add_round_key : List ℕ → List ℕ → ℕ → List ℕ
add_round_key w s n = tab (λ i. bit_xor (get_or s i 0) (get_or w (16 * n + i) 0)) 16

-- 5.1: the state after n rounds, of which round 0 is the first AddRoundKey
unfoldable pub rounds : List ℕ → List ℕ → ℕ → List ℕ
rounds w s zero = add_round_key w s 0
rounds w s (suc n) = add_round_key w (mix_columns (shift_rows (sub_bytes (rounds w s n)))) (suc n)

-- 5.1: the block s enciphered under the schedule w. Round 14, the last, has no MixColumns
unfoldable pub cipher : List ℕ → List ℕ → List ℕ
cipher w s = add_round_key w (shift_rows (sub_bytes (rounds w s 13))) 14

-- 5.2, RotWord: [a0, a1, a2, a3] to [a1, a2, a3, a0]
unfoldable pub rot_word : List ℕ → List ℕ
rot_word t = tab (λ i. get_or t ((i + 1) % 4) 0) 4

-- 5.2, SubWord: the S-box at each octet
unfoldable pub sub_word : List ℕ → List ℕ
sub_word t = tab (λ i. sbox_of (get_or t i 0)) 4

-- 5.2: the round constant Rcon[j], for j from 1, is the word [{02}^(j - 1), {00}, {00}, {00}]; this is its first octet
unfoldable pub rcon_of : ℕ → ℕ
rcon_of zero = 0
rcon_of (suc zero) = 1
rcon_of (suc (suc j)) = xtime (rcon_of (suc j))

-- 5.2: what is added to word i - 8 to make word i, where t is word i - 1
unfoldable pub temp : List ℕ → ℕ → List ℕ
temp t i =
    pick (eqb (i % 8) 0) (xors (sub_word (rot_word t)) (rcon_of (i / 8) ∷ 0 ∷ 0 ∷ 0 ∷ []))
    (pick (eqb (i % 8) 4) (sub_word t) t)

-- 5.2: word i, made of the words before it
unfoldable pub next_word : List ℕ → ℕ → List ℕ
next_word w i = xors (word w (i - 8)) (temp (word w (i - 1)) i)

-- 5.2: the key k, which is words 0 to 7, and the n words after it
unfoldable pub expanded : List ℕ → ℕ → List ℕ
expanded k zero = k
expanded k (suc n) = expanded k n ++ next_word (expanded k n) (8 + n)

-- 5.2: the key schedule of the key k
unfoldable pub key_expansion : List ℕ → List ℕ
key_expansion k = expanded k 52

-- 5: AES-256 of the block s under the key k
unfoldable pub aes : List ℕ → List ℕ → List ℕ
aes k s = cipher (key_expansion k) s
