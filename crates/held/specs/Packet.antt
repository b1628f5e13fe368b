-- A packet in 44 lent octets: 0 kind, 1 cipher, 2 and 3 the count of messages, 4 to 11 the vector, 12 to 43 the key. All zeros is no packet.
use Rattle.std.specs.Prelude.{List, ◌∷◌, ◌++◌, ℕ, ◌+◌, get_or, take, drop}
use Rattle.sizes.specs.Ciphers.{key_room, vector_octets}
use Rattle.data.specs.declared.packet.Packet.{Packet}
use Rattle.held.specs.Number.{two_of, two_at}

abbrev pub vector_at : ℕ
vector_at = 4

abbrev pub key_at : ℕ
key_at = vector_at + vector_octets

abbrev pub packet_octets : ℕ
packet_octets = key_at + key_room

unfoldable pub octets_of : Packet → List ℕ
octets_of p = p.kind ∷ p.cipher ∷ (two_of p.count ++ (p.vector ++ p.key))

unfoldable pub packet_in : List ℕ → Packet
packet_in o =
    record {
      kind = get_or o 0 0;
      cipher = get_or o 1 0;
      key = take key_room (drop key_at o);
      count = two_at o 2;
      vector = take vector_octets (drop vector_at o);
    }
