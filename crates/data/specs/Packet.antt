-- A packet (document 01, "Answer numbers" and "Data"): one session of messages; the rules of the struct, and its end.
use Rattle.std.specs.Prelude.{List, [], ◌∷◌, Bool, ◌||◌, not, ℕ, leb, eqb, replicate}
use Rattle.octets.specs.Tests.{every}
use Rattle.octets.specs.Lists.{all_zero}
use Rattle.answers.specs.declared.Answer.{Answer}
use Rattle.answers.specs.declared.Answer.TheVariants.{Bad, NotNow}
use Rattle.answers.specs.Outcomes.{Refusals, outcome}
use Rattle.sizes.specs.Ciphers.{key_room, no_vector, scrambles}
use Rattle.ciphers.specs.Keys.{key_right}
use Rattle.data.specs.declared.packet.Packet.{Packet}
use Rattle.data.specs.Kinds.{is_kind}

-- the most messages of a packet
abbrev pub most_messages : ℕ
most_messages = 1000

-- ---- the rules

-- closed, all else zero
unfoldable pub closed_tests : Packet → List Bool
closed_tests p = eqb p.kind 0 ∷ eqb p.cipher 0 ∷ eqb p.count 0 ∷ all_zero p.key ∷ all_zero p.vector ∷ []

-- its kind, cipher, allowed key, count of messages, and vector, which is always known: scramble's is zeros, that of DES and AES any
unfoldable pub open_tests : Packet → List Bool
open_tests p =
    is_kind p.kind ∷ key_right p.cipher p.key ∷ leb p.count most_messages ∷ (not (scrambles p.cipher) || all_zero p.vector) ∷ []

unfoldable pub is_closed : Packet → Bool
is_closed p = every (closed_tests p)

unfoldable pub is_open : Packet → Bool
is_open p = every (open_tests p)

-- a packet that breaks this, or holds anything besides that disagrees with it, is bad
unfoldable pub good_packet : Packet → Bool
good_packet p = is_closed p || is_open p

-- no packet: all zero
abbrev pub no_packet : Packet
no_packet = record { kind = 0; cipher = 0; key = replicate key_room 0; count = 0; vector = no_vector }

-- ---- its end

-- end closes it; 4, 9 without a packet
unfoldable pub end_refusals : Packet → Refusals
end_refusals p = (not (good_packet p), Bad) ∷ (is_closed p, NotNow) ∷ []

unfoldable pub end_of : Packet → Answer × Packet
end_of p = outcome p (end_refusals p) no_packet
