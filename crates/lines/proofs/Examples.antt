-- The lines of document 01, "The receiver program", others, and lines that stand for nothing, read by the definitions.
use mathlib.Core.Path.{◌≡◌, refl}
use mathlib.Core.List.{List, [], ◌∷◌}
use Prim.Native.Nat.{ℕ}
use lib.ListN.{replicate}
use Rattle.octets.specs.Tests.{all_below}
use Rattle.octets.specs.Lists.{tab, Each}
use Rattle.text.specs.Parted.{tab_octet, parted}
use Rattle.text.specs.Decimal.{value_to, is_decimal}
use Rattle.text.specs.Hex.{hex_value, is_hex, hex_octets}
use Rattle.text.specs.Fields.{field_at}
use Rattle.lines.specs.Record.{Record, Load, Open, Join, Voice, Announce, Lost, End, Malformed, is_pair, line_of}

-- lines, each with the record that it stands for
pub read_as : Each (λ (e : List ℕ × Record). line_of e.0 ≡ e.1)
    ((0x4B ∷ tab_octet ∷ 0x31 ∷ tab_octet ∷ 0x30 ∷ tab_octet ∷ 0x30 ∷ 0x30 ∷ 0x30 ∷ 0x31 ∷ [], Load 1 0 (0x00 ∷ 0x01 ∷ []))
    ∷ (0x4F ∷ tab_octet ∷ 0x31 ∷ tab_octet ∷ 0x30 ∷ tab_octet ∷ replicate 16 0x30, Open 1 0 (replicate 8 0))
    ∷ (0x56 ∷ tab_octet ∷ 0x33 ∷ tab_octet ∷ replicate 56 0x30, Voice 3 (replicate 28 0))
    ∷ (0x4A ∷ tab_octet ∷ 0x32 ∷ 0x35 ∷ 0x35 ∷ tab_octet ∷ 0x36 ∷ 0x33 ∷ [], Join 255 63)
    ∷ (0x49 ∷ tab_octet ∷ 0x41 ∷ 0x42 ∷ 0x43 ∷ 0x44 ∷ 0x45 ∷ 0x46 ∷ 0x31 ∷ 0x32 ∷ 0x33 ∷ 0x34 ∷ 0x35 ∷ 0x36 ∷ 0x37 ∷ 0x38 ∷ 0x39 ∷ 0x30 ∷ [], Announce (0xAB ∷ 0xCD ∷ 0xEF ∷ 0x12 ∷ 0x34 ∷ 0x56 ∷ 0x78 ∷ 0x90 ∷ []))
    ∷ (0x4C ∷ [], Lost)
    ∷ (0x45 ∷ [], End)
    ∷ [])
unfolding line_of parted field_at is_pair value_to is_decimal is_hex hex_octets hex_value tab all_below
read_as = (refl, (refl, (refl, (refl, (refl, (refl, (refl, tt)))))))

-- an empty line, a carriage return, a trailing tab, lower case, a leading zero, a number of 256, an odd digit, no key, two letters
pub malformed : Each (λ line. line_of line ≡ Malformed)
    (([])
    ∷ (0x45 ∷ 0x0D ∷ [])
    ∷ (0x4A ∷ tab_octet ∷ 0x31 ∷ tab_octet ∷ 0x30 ∷ tab_octet ∷ [])
    ∷ (0x4B ∷ tab_octet ∷ 0x31 ∷ tab_octet ∷ 0x30 ∷ tab_octet ∷ 0x30 ∷ 0x30 ∷ 0x61 ∷ 0x62 ∷ [])
    ∷ (0x4A ∷ tab_octet ∷ 0x30 ∷ 0x31 ∷ tab_octet ∷ 0x30 ∷ [])
    ∷ (0x4A ∷ tab_octet ∷ 0x31 ∷ tab_octet ∷ 0x32 ∷ 0x35 ∷ 0x36 ∷ [])
    ∷ (0x4B ∷ tab_octet ∷ 0x31 ∷ tab_octet ∷ 0x30 ∷ tab_octet ∷ 0x30 ∷ 0x30 ∷ 0x31 ∷ [])
    ∷ (0x4B ∷ tab_octet ∷ 0x31 ∷ tab_octet ∷ 0x30 ∷ tab_octet ∷ [])
    ∷ (0x4C ∷ 0x4C ∷ [])
    ∷ [])
unfolding line_of parted field_at is_pair value_to is_decimal is_hex hex_octets hex_value tab all_below
malformed = (refl, (refl, (refl, (refl, (refl, (refl, (refl, (refl, (refl, tt)))))))))
