-- A line of text as a record (document 01, "The receiver program"). Its first letter decides; fields are parted by one tab.
use Rattle.std.specs.Prelude.{List, [], ◌∷◌, ◌++◌, Bool, ◌&&◌, ◌≡◌, ℕ, ◌/◌, ◌≤◌, max, ltb, leb, eqb, length, get_or, take, drop, Option, Some, None}
use Rattle.octets.specs.Tests.{pick}
use Rattle.octets.specs.Bits.{Octets}
use Rattle.text.specs.Parted.{tab_octet, parted}
use Rattle.text.specs.Decimal.{is_decimal, decimal_value, decimal}
use Rattle.text.specs.Hex.{is_hex, octets_in, hex_text}
use Rattle.text.specs.Fields.{field_at, are_fields}
use Rattle.sizes.specs.Ciphers.{key_room, vector_octets}
use Rattle.sizes.specs.Frame.{half_rate, width, frame_octets}
use Rattle.lines.specs.declared.record.Parsed.{Parsed}
use Rattle.lines.specs.declared.record.Parsed.TheVariants as code

-- the most octets of a line, without its line end
abbrev pub line_octets : ℕ
line_octets = 96

-- the octets of a V record's frame: the receiver program is at half rate
abbrev pub record_frame : ℕ
record_frame = frame_octets (width half_rate)

pub data Record : Type 0 where
  -- K: cipher, key ID and key
  Load : ℕ → ℕ → List ℕ → Record
  -- O: cipher, key ID and vector
  Open : ℕ → ℕ → List ℕ → Record
  -- J: cipher and key ID
  Join : ℕ → ℕ → Record
  -- V: mask and frame
  Voice : ℕ → List ℕ → Record
  -- I: vector
  Announce : List ℕ → Record
  -- L, E, and anything else
  Lost End Malformed : Record

-- ---- read

-- the most that a number is
abbrev pub most_number : ℕ
most_number = 255

abbrev pub is_number : List ℕ → Bool
is_number = is_decimal most_number

-- hex of 1 to 32 octets
abbrev pub is_key : List ℕ → Bool
is_key field = is_hex (length field / 2) field && (leb 1 (length field / 2) && leb (length field / 2) key_room)

-- the first two are a cipher and a key ID
unfoldable pub is_pair : List (List ℕ) → Bool
is_pair fields = is_number (field_at fields 0) && is_number (field_at fields 1)

abbrev pub load_record : List (List ℕ) → Record
load_record fields =
    pick (are_fields 3 fields && (is_pair fields && is_key (field_at fields 2)))
    (Load (decimal_value (field_at fields 0)) (decimal_value (field_at fields 1)) (octets_in (field_at fields 2))) Malformed

abbrev pub open_record : List (List ℕ) → Record
open_record fields =
    pick (are_fields 3 fields && (is_pair fields && is_hex vector_octets (field_at fields 2)))
    (Open (decimal_value (field_at fields 0)) (decimal_value (field_at fields 1)) (octets_in (field_at fields 2))) Malformed

abbrev pub join_record : List (List ℕ) → Record
join_record fields = pick (are_fields 2 fields && is_pair fields) (Join (decimal_value (field_at fields 0)) (decimal_value (field_at fields 1))) Malformed

abbrev pub voice_record : List (List ℕ) → Record
voice_record fields =
    pick (are_fields 2 fields && (is_number (field_at fields 0) && is_hex record_frame (field_at fields 1)))
    (Voice (decimal_value (field_at fields 0)) (octets_in (field_at fields 1))) Malformed

abbrev pub announce_record : List (List ℕ) → Record
announce_record fields = pick (are_fields 1 fields && is_hex vector_octets (field_at fields 0)) (Announce (octets_in (field_at fields 0))) Malformed

-- a record without fields
abbrev pub alone : Record → List (List ℕ) → Record
alone r fields = pick (are_fields 0 fields) r Malformed

-- the seven letters
abbrev pub by_letter : ℕ → List (List ℕ) → Record
by_letter letter fields =
    pick (eqb letter 0x4B) (load_record fields)  -- K
    (pick (eqb letter 0x4F) (open_record fields)  -- O
    (pick (eqb letter 0x4A) (join_record fields)  -- J
    (pick (eqb letter 0x56) (voice_record fields)  -- V
    (pick (eqb letter 0x49) (announce_record fields)  -- I
    (pick (eqb letter 0x4C) (alone Lost fields)  -- L
    (pick (eqb letter 0x45) (alone End fields) Malformed))))))  -- E

-- the letter stands alone in the first part
abbrev pub of_parts : List (List ℕ) → Record
of_parts parts = pick (eqb (length (field_at parts 0)) 1) (by_letter (get_or (field_at parts 0) 0 0) (drop 1 parts)) Malformed

unfoldable pub line_of : List ℕ → Record
line_of line = pick (ltb line_octets (length line)) Malformed (of_parts (parted tab_octet line))

-- ---- printed

abbrev pub field : List ℕ → List ℕ
field xs = tab_octet ∷ xs

-- a record as its line; what is malformed has none
unfoldable pub printed : Record → List ℕ
printed (Load c i k) = 0x4B ∷ (field (decimal c) ++ (field (decimal i) ++ field (hex_text k)))  -- K
printed (Open c i v) = 0x4F ∷ (field (decimal c) ++ (field (decimal i) ++ field (hex_text v)))  -- O
printed (Join c i) = 0x4A ∷ (field (decimal c) ++ field (decimal i))  -- J
printed (Voice m f) = 0x56 ∷ (field (decimal m) ++ field (hex_text f))  -- V
printed (Announce v) = 0x49 ∷ field (hex_text v)  -- I
printed Lost = 0x4C ∷ []  -- L
printed End = 0x45 ∷ []  -- E
printed Malformed = []

-- a record that a line can stand for
abbrev pub Fine : Record → Type 0
Fine (Load c i k) = (c ≤ most_number) × (i ≤ most_number) × (1 ≤ length k) × (length k ≤ key_room) × Octets k
Fine (Open c i v) = (c ≤ most_number) × (i ≤ most_number) × (length v ≡ vector_octets) × Octets v
Fine (Join c i) = (c ≤ most_number) × (i ≤ most_number)
Fine (Voice m f) = (m ≤ most_number) × (length f ≡ record_frame) × Octets f
Fine (Announce v) = (length v ≡ vector_octets) × Octets v
Fine Lost = Unit {0}
Fine End = Unit {0}
Fine Malformed = ⊥

-- ---- a record as the code has it: its octets are the first of those that stand beside it; None is malformed

-- the room for a record's octets: the larger of a key's and a frame's
abbrev pub record_room : ℕ
record_room = max key_room record_frame

abbrev pub record_in : Option Parsed → List ℕ → Record
record_in (Some (code.Load c i n)) xs = Load c i (take n xs)
record_in (Some (code.Open c i)) xs = Open c i (take vector_octets xs)
record_in (Some (code.Join c i)) xs = Join c i
record_in (Some (code.Voice m)) xs = Voice m (take record_frame xs)
record_in (Some code.Announce) xs = Announce (take vector_octets xs)
record_in (Some code.Lost) xs = Lost
record_in (Some code.End) xs = End
record_in None xs = Malformed

-- how many of them are a key's
abbrev pub key_count : Option Parsed → ℕ
key_count (Some (code.Load c i n)) = n
key_count (Some (code.Open c i)) = 0
key_count (Some (code.Join c i)) = 0
key_count (Some (code.Voice m)) = 0
key_count (Some code.Announce) = 0
key_count (Some code.Lost) = 0
key_count (Some code.End) = 0
key_count None = 0
