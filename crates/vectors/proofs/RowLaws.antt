-- A field of a row that is read as hex.
use mathlib.Core.Path.{◌≡◌, sym, ap, ◌∙◌}
use mathlib.Core.Bool.{Bool, true, false, false≢true}
use mathlib.Core.List.{List}
use Prim.Native.Nat.{ℕ, ◌≤◌}
use native.Mathlib.Omega.{arith}
use lib.ListN.{length}
use Rattle.octets.specs.Bits.{Octets}
use Rattle.text.specs.Hex.{is_hex, hex_text, most_octets, read_hex}
use Rattle.text.proofs.HexLaws.{read_of, length-hex_text, hex_back, hex_round, hex_text-hex}

pub read_law : (field f out read : List ℕ) (r : Bool) → f ≡ field → r ≡ is_hex (length out) f → read ≡ read_hex f out
    → (r ≡ true → field ≡ hex_text read) × (is_hex (length out) field ≡ true → length out ≤ most_octets → r ≡ true)
read_law field f out read r e t q =
    (λ h. rw (q, read_of f out (sym t ∙ h)) (sym e ∙ sym (hex_back f (length out) (sym t ∙ h))), λ h l. t ∙ rw (sym e) at h)

-- octets that are written alike are the same
pub hex_same : (a b : List ℕ) → Octets a → Octets b → hex_text a ≡ hex_text b → a ≡ b
hex_same a b oa ob e =
    let l : length a ≡ length b = omega (arith, length-hex_text a, length-hex_text b, ap length e) in
    sym (hex_round a oa) ∙ rw (e, l) (hex_round b ob)

-- what a comparison of octets says of a field, where it cannot be read, and where it was
pub not_read : (field octets : List ℕ) (n : ℕ) (r : Bool) → n ≡ length octets → (is_hex n field ≡ true → n ≤ most_octets → r ≡ true) → r ≡ false
    → (false ≡ true → field ≡ hex_text octets) × (field ≡ hex_text octets → length octets ≤ most_octets → false ≡ true)
not_read field octets n r l h f =
    (λ t. absurd (false≢true t), λ e m. sym f ∙ h (rw (l, e) (hex_text-hex octets)) (omega arith))

pub read_same : (field octets read : List ℕ) (r : Bool) → Octets read → Octets octets → field ≡ hex_text read → (r ≡ true → read ≡ octets) × (read ≡ octets → r ≡ true)
    → (r ≡ true → field ≡ hex_text octets) × (field ≡ hex_text octets → length octets ≤ most_octets → r ≡ true)
read_same field octets read r or oo e h = (λ t. e ∙ ap hex_text (h.0 t), λ q m. h.1 (hex_same read octets or oo (sym e ∙ q)))
