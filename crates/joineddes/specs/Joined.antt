-- The second engine of DES, by joined tables: the selection functions and P after them are one look-up for each box, and between a block and the one that is
-- made of it neither the inverse of the initial permutation nor the initial permutation is done. All else is as in des's Des.
use Rattle.std.specs.Prelude.{◌≡◌, Bool, ◌&&◌, ◌||◌, not, List, [], ◌∷◌, ◌++◌, ℕ, zero, suc, ◌+◌, ◌-◌, ◌*◌, ◌/◌, ◌%◌, ◌^◌, ◌<◌, eqb, ltb, leb, length, get_or}
use Rattle.std.specs.Int.Bits.{bit_xor}
use Rattle.octets.specs.Tests.{pick, all_below}
use Rattle.octets.specs.Lists.{tab}
use Rattle.octets.specs.Bits.{bit, octets_from}
use Rattle.des.specs.Tables.{ip, ip⁻¹, table_p, table_s}
use Rattle.des.specs.Des.{permuted, xor_bits, box_input, Halves, halved, round_key}
use Rattle.joineddes.specs.declared.Carried.{Carried}

-- ---- numbers and their bits

-- the w bits of a number, the leftmost first
unfoldable pub bits_in : ℕ → ℕ → List ℕ
bits_in w x = tab (λ i. x / 2 ^ (w - suc i) % 2) w

-- bits as one number
unfoldable pub as_number : List ℕ → ℕ
as_number [] = 0
as_number (b ∷ bs) = b * 2 ^ length bs + as_number bs

-- ---- the tables, 64 entries to a box, one box after the other

-- what box n / 64 selects by the six bits n % 64: the first and the last are the row, the four between the column
unfoldable pub selected : ℕ → ℕ
selected n = get_or table_s (64 * (n / 64) + (16 * (2 * (n / 32 % 2) + n % 2) + n / 2 % 16)) 0

-- bit k of the 32 that P is given for entry n: the four of box n / 64 are what it selects, the others 0
abbrev pub selected_bit : ℕ → ℕ → ℕ
selected_bit n k = pick (eqb (k / 4) (n / 64)) (selected n / 2 ^ (3 - k % 4) % 2) 0

-- entry n: P of them
unfoldable pub joined_entry : ℕ → ℕ
joined_entry n = as_number (permuted table_p (tab (selected_bit n) 32))

unfoldable pub joined_tables : List ℕ
joined_tables = tab joined_entry 512

-- ---- a block

-- where box i, counted from 0, looks: its six bits, as they come
unfoldable pub entry_place : List ℕ → ℕ → ℕ
entry_place b i =
    let o = 6 * i in
    64 * i + (32 * get_or b o 0 + 16 * get_or b (o + 1) 0 + 8 * get_or b (o + 2) 0 + 4 * get_or b (o + 3) 0 + 2 * get_or b (o + 4) 0 + get_or b (o + 5) 0)

-- the sum of f 0 to f (n - 1), bit by bit modulo 2
unfoldable pub summed : (ℕ → ℕ) → ℕ → ℕ
summed f zero = 0
summed f (suc n) = bit_xor (summed f n) (f n)

-- f(R, K): the sum of the eight boxes' entries
unfoldable pub joined_f : List ℕ → List ℕ → List ℕ
joined_f r k = bits_in 32 (summed (λ i. joined_entry (entry_place (box_input r k) i)) 8)

unfoldable pub joined_rounds : (ℕ → List ℕ) → Halves → ℕ → Halves
joined_rounds keys h zero = h
joined_rounds keys h (suc n) =
    record {
      left = (joined_rounds keys h n).right;
      right = xor_bits (joined_rounds keys h n).left (joined_f (joined_rounds keys h n).right (keys n));
    }

-- the halves of a block, past the initial permutation
unfoldable pub first_halves : List ℕ → Halves
first_halves block = halved (permuted ip (tab (bit block) 64))

-- those of the block that is made of it: the preoutput's
unfoldable pub carried_on : (ℕ → List ℕ) → Halves → Halves
carried_on keys h = record { left = (joined_rounds keys h 16).right; right = (joined_rounds keys h 16).left }

-- the block of halves: the inverse of the initial permutation, packed
unfoldable pub block_of : Halves → List ℕ
block_of h = octets_from 8 (λ k. get_or (permuted ip⁻¹ (h.left ++ h.right)) k 0)

-- DES by this engine, of a block and a key of eight octets
unfoldable pub joined_des : List ℕ → List ℕ → List ℕ
joined_des key block = block_of (carried_on (round_key (tab (bit key) 64)) (first_halves block))

-- ---- as the code has them

-- the halves that are carried, in two numbers
abbrev pub halves_in : Carried → Halves
halves_in c = record { left = bits_in 32 c.left; right = bits_in 32 c.right }

-- 48 bits in two numbers, as the boxes take them: the six of box i are the top ones of octet i / 2, in the first number for each even i, in the second for each odd one
unfoldable pub box_bits : ℕ → ℕ → List ℕ
box_bits even odd = tab (λ k. pick (eqb (k / 6 % 2) 0) even odd / 2 ^ (31 - (8 * (k / 12) + k % 6)) % 2) 48

-- the rounds' keys, two numbers to a round
abbrev pub keys_in : List ℕ → ℕ → List ℕ
keys_in words n = box_bits (get_or words (2 * n) 0) (get_or words (2 * n + 1) 0)

-- numbers that hold the keys of a key's sixteen rounds
pub record Scheduled (key words : List ℕ) : Type 0 where
  pub long : length words ≡ 32
  pub keys : (n : ℕ) → n < 16 → keys_in words n ≡ round_key (tab (bit key) 64) n

-- a number of 64 bits has a 1 at place i, counted from 0 and from the left
abbrev pub has_bit : ℕ → ℕ → Bool
has_bit x i = eqb (x / 2 ^ (64 - suc i) % 2) 1

-- each bit that a mask has is exchanged with the one that stands s places before it: there is such a one, and the mask does not have it too
unfoldable pub exchanges : ℕ → ℕ → Bool
exchanges s mask = ltb s 64 && all_below (λ i. not (has_bit mask i) || (leb s i && not (has_bit (mask * 2 ^ s) i))) 64

-- as a table of places
unfoldable pub exchanged : ℕ → ℕ → List ℕ
exchanged s mask = tab (λ i. pick (has_bit mask i) (suc i - s) (pick (has_bit (mask * 2 ^ s) i) (suc i + s) (suc i))) 64
