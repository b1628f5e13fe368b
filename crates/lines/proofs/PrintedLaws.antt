-- A record's line stands for the record.
use mathlib.Core.Path.{◌≡◌, refl, ap, ◌∙◌}
use mathlib.Core.Bool.{true, false}
use mathlib.Core.List.{List, [], ◌∷◌, ◌++◌}
use Prim.Native.Nat.{ℕ, zero, suc, ◌+◌, ◌/◌, ◌≤◌}
use native.Mathlib.Omega.{arith}
use lib.Dec.{eqb}
use lib.ListN.{length, length-append}
use borrow.Author.Tests.{le-ltb, le-leb}
use Rattle.octets.specs.Bits.{Octets}
use Rattle.text.specs.Parted.{tab_octet}
use Rattle.text.specs.Decimal.{decimal}
use Rattle.text.specs.Hex.{is_hex, hex_octets, octets_in, hex_text}
use Rattle.text.specs.Fields.{field_at}
use Rattle.text.proofs.PartedLaws.{Lacks, AllLack, rejoined, parted-rejoined}
use Rattle.text.proofs.DecimalLaws.{decimal-is, decimal_round, decimal_size, decimal-lacks}
use Rattle.text.proofs.HexLaws.{length-hex_text, hex_text-hex, hex_round, hex-lacks}
use Rattle.sizes.specs.Ciphers.{key_room, vector_octets}
use Rattle.lines.specs.Record.{Record, Load, Open, Join, Voice, Announce, Lost, End, Malformed, record_frame, most_number, line_octets, is_pair, is_key, of_parts, line_of, printed, Fine}

-- ---- the parts of a printed line lack a tab

letter-lacks : (x : ℕ) → eqb x tab_octet ≡ false → Lacks tab_octet (x ∷ [])
letter-lacks x e zero l = e
letter-lacks x e (suc k) l = absurd (omega arith)

number-lacks : (n : ℕ) → n ≤ most_number → Lacks tab_octet (decimal n)
number-lacks n h = decimal-lacks most_number (decimal n) (decimal-is most_number n h) tab_octet (omega arith)

octets_lack : (xs : List ℕ) → Lacks tab_octet (hex_text xs)
octets_lack xs = hex-lacks (hex_text xs) (length xs) tab_octet (omega arith) (hex_text-hex xs)

-- ---- octets in hex

module _ (xs : List ℕ) where
  half : length (hex_text xs) / 2 ≡ length xs
  half = omega (arith, length-hex_text xs)

  octets-back : Octets xs → octets_in (hex_text xs) ≡ xs
  octets-back o = ap (hex_octets (hex_text xs)) half ∙ hex_round xs o

  key-is : 1 ≤ length xs → length xs ≤ key_room → is_key (hex_text xs) ≡ true
  key-is h l = rw (half, hex_text-hex xs, le-leb 1 (length xs) h, le-leb (length xs) key_room l)

  hex-is : (n : ℕ) → length xs ≡ n → is_hex n (hex_text xs) ≡ true
  hex-is n e = rw e at (hex_text-hex xs)

-- ---- a line and its parts

-- a line that is not too long stands for what its parts say
by_parts : (p : List ℕ) (ps : List (List ℕ)) → AllLack tab_octet (p ∷ ps) → length (rejoined tab_octet (p ∷ ps)) ≤ line_octets → line_of (rejoined tab_octet (p ∷ ps)) ≡ of_parts (p ∷ ps)
unfolding line_of
by_parts p ps h l = rw (le-ltb line_octets (length (rejoined tab_octet (p ∷ ps))) l, parted-rejoined tab_octet p ps h)

-- lengths of lines with one, two and three fields
module _ (x : ℕ) (a : List ℕ) where
  one_size : length (rejoined tab_octet ((x ∷ []) ∷ a ∷ [])) ≡ 2 + length a
  one_size = omega arith

  two_size : (b : List ℕ) → length (rejoined tab_octet ((x ∷ []) ∷ a ∷ b ∷ [])) ≡ 3 + length a + length b
  two_size b = omega (arith, length-append a (tab_octet ∷ b))

  three-size : (b c : List ℕ) → length (rejoined tab_octet ((x ∷ []) ∷ a ∷ b ∷ c ∷ [])) ≡ 4 + length a + length b + length c
  three-size b c = omega (arith, length-append a (tab_octet ∷ (b ++ (tab_octet ∷ c))), length-append b (tab_octet ∷ c))

-- every fine record's line stands for it
pub printed_parses : (r : Record) → Fine r → line_of (printed r) ≡ r
unfolding printed field_at is_pair
printed_parses (Load c i k) f =
    by_parts (0x4B ∷ []) (decimal c ∷ decimal i ∷ hex_text k ∷ []) (letter-lacks 0x4B refl, (number-lacks c f.0, (number-lacks i f.1, (octets_lack k, tt))))
    (omega (arith, three-size 0x4B (decimal c) (decimal i) (hex_text k), decimal_size 2 c (omega arith), decimal_size 2 i (omega arith), length-hex_text k, f.3))
    ∙ rw (decimal-is most_number c f.0, decimal-is most_number i f.1, key-is k f.2 f.3, decimal_round c, decimal_round i, octets-back k f.4)
printed_parses (Open c i v) f =
    by_parts (0x4F ∷ []) (decimal c ∷ decimal i ∷ hex_text v ∷ []) (letter-lacks 0x4F refl, (number-lacks c f.0, (number-lacks i f.1, (octets_lack v, tt))))
    (omega (arith, three-size 0x4F (decimal c) (decimal i) (hex_text v), decimal_size 2 c (omega arith), decimal_size 2 i (omega arith), length-hex_text v, f.2))
    ∙ rw (decimal-is most_number c f.0, decimal-is most_number i f.1, hex-is v vector_octets f.2, decimal_round c, decimal_round i, octets-back v f.3)
printed_parses (Join c i) f =
    by_parts (0x4A ∷ []) (decimal c ∷ decimal i ∷ []) (letter-lacks 0x4A refl, (number-lacks c f.0, (number-lacks i f.1, tt)))
    (omega (arith, two_size 0x4A (decimal c) (decimal i), decimal_size 2 c (omega arith), decimal_size 2 i (omega arith)))
    ∙ rw (decimal-is most_number c f.0, decimal-is most_number i f.1, decimal_round c, decimal_round i)
printed_parses (Voice m v) f =
    by_parts (0x56 ∷ []) (decimal m ∷ hex_text v ∷ []) (letter-lacks 0x56 refl, (number-lacks m f.0, (octets_lack v, tt)))
    (omega (arith, two_size 0x56 (decimal m) (hex_text v), decimal_size 2 m (omega arith), length-hex_text v, f.1))
    ∙ rw (decimal-is most_number m f.0, hex-is v record_frame f.1, decimal_round m, octets-back v f.2)
printed_parses (Announce v) f =
    by_parts (0x49 ∷ []) (hex_text v ∷ []) (letter-lacks 0x49 refl, (octets_lack v, tt))
    (omega (arith, one_size 0x49 (hex_text v), length-hex_text v, f.0))
    ∙ rw (hex-is v vector_octets f.0, octets-back v f.1)
printed_parses Lost f = by_parts (0x4C ∷ []) [] (letter-lacks 0x4C refl, tt) (omega arith)
printed_parses End f = by_parts (0x45 ∷ []) [] (letter-lacks 0x45 refl, tt) (omega arith)
printed_parses Malformed f = absurd f
