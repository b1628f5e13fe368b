-- How a packet begins (document 01, "Data"; document 02, W-204): with the book, vector and order of a voice call, and the kind and the end besides.
use Rattle.std.specs.Prelude.{List, Bool, ◌&&◌, ◌||◌, not, ℕ, eqb}
use Rattle.answers.specs.declared.Answer.{Answer}
use Rattle.answers.specs.Outcomes.{Refusals, outcome}
use Rattle.openings.specs.Ladder.{session_vector, key_for, vector_refusals}
use Rattle.data.specs.declared.packet.Packet.{Packet}
use Rattle.data.specs.Kinds.{is_kind}
use Rattle.data.specs.Packet.{is_closed, good_packet}

-- what a packet is opened for; it doesn't keep this. A call's ends are another thing, which it keeps: 0 closed, 1 sending, 2 receiving
abbrev pub to_receive : ℕ
to_receive = 0

abbrev pub to_send : ℕ
to_send = 1

unfoldable pub is_end : ℕ → Bool
is_end end = eqb end to_receive || eqb end to_send

-- 2 of vector and book, 3 of end, kind, cipher and key ID, 4 of the packet, 9 with one, 4 of the book, 5, 6, and 8 where it is to send
unfoldable pub open_refusals : Packet → ℕ → ℕ → ℕ → ℕ → List ℕ → List ℕ → Refusals
open_refusals p end kind c i w b = vector_refusals (eqb end to_send) (is_end end && is_kind kind) (not (good_packet p)) (not (is_closed p)) c i w b

-- a packet before its first message
abbrev pub new_packet : ℕ → ℕ → List ℕ → List ℕ → Packet
new_packet kind c w k = record { kind = kind; cipher = c; key = k; count = 0; vector = session_vector c w }

unfoldable pub open_of : Packet → ℕ → ℕ → ℕ → ℕ → List ℕ → List ℕ → Answer × Packet
open_of p end kind c i w b = outcome p (open_refusals p end kind c i w b) (new_packet kind c w (key_for b c i))
