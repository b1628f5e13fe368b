-- A packet and its octets: what is written is read back, octets are what is written of the packet that they hold, and all zeros is no packet.
use mathlib.Core.Path.{◌≡◌, refl, sym, ap, ◌∙◌}
use mathlib.Core.List.{List, [], ◌∷◌, ◌++◌}
use Prim.Native.Nat.{ℕ, zero, suc, ◌<◌}
use native.Mathlib.Omega.{arith}
use lib.ListN.{length, get_or, take, drop, set, replicate, length-append, length-drop}
use lib.Seq.{take_all, drop_at, drop-cons, length-take-le}
use borrow.Rule.Slice.PartMut.{put_mid}
use Rattle.octets.specs.Bits.{Octets}
use Rattle.octets.proofs.BitLaws.{octets_append}
use Rattle.sizes.specs.Ciphers.{key_room, vector_octets}
use Rattle.data.specs.declared.packet.Packet.{Packet}
use Rattle.data.specs.Packet.{no_packet}
use Rattle.held.specs.Number.{two_of, two_at}
use Rattle.held.specs.Packet.{packet_octets, key_at, vector_at, octets_of, packet_in}
use Rattle.held.proofs.NumberLaws.{two-sum, two-written, two_small, two-octets}
use Rattle.held.proofs.RowLaws.{put_three, part_between, part_and-rest}

-- as long as its octets have room for, which every struct of the code is
pub record PacketSized (p : Packet) : Type 0 where
  pub vector : length p.vector ≡ vector_octets
  pub key : length p.key ≡ key_room
  pub count : p.count < 65536

-- ---- written, then read

module _ (p : Packet) (s : PacketSized p) where
  abbrev before : List ℕ → List ℕ
  before l = p.kind ∷ p.cipher ∷ (two_of p.count ++ l)

  pub packet-length_of : length (octets_of p) ≡ packet_octets
  unfolding octets_of
  packet-length_of = simp length-append (omega arith)

  vector-read : take vector_octets (drop vector_at (octets_of p)) ≡ p.vector
  unfolding octets_of
  vector-read = part_between (before []) p.vector p.key vector_at vector_octets refl s.vector

  key_read : take key_room (drop key_at (octets_of p)) ≡ p.key
  unfolding octets_of
  key_read = rw (drop_at (before p.vector) p.key key_at (omega arith)) (take_all key_room p.key (omega arith))

  pub packet_read_written : packet_in (octets_of p) ≡ p
  unfolding packet_in octets_of
  packet_read_written = rw (vector-read, key_read, two-sum p.count s.count)

-- ---- read, then written

module _ (o : List ℕ) (long : length o ≡ packet_octets) where
  numbers : get_or o 0 0 ∷ get_or o 1 0 ∷ drop 2 o ≡ o
  numbers =
      let a : o ≡ get_or o 0 0 ∷ drop 1 o = drop-cons o 0 0 (omega arith) in
      let b : drop 1 o ≡ get_or o 1 0 ∷ drop 2 o = drop-cons o 1 0 (omega arith) in
      cc

  module _ (octets : Octets o) where
    pub packet-written_read : octets_of (packet_in o) ≡ o
    unfolding packet_in octets_of
    packet-written_read =
        rw (take_all key_room (drop key_at o) (simp length-drop (omega arith)), part_and-rest o vector_at vector_octets)
        (ap (λ (l : List ℕ). get_or o 0 0 ∷ get_or o 1 0 ∷ (l ++ drop vector_at o)) (two-written o 2 octets (omega arith)) ∙ rw (part_and-rest o 2 2) numbers)

    pub packet_sized_in : PacketSized (packet_in o)
    unfolding packet_in
    packet_sized_in =
        record {
          vector = length-take-le vector_octets (drop vector_at o) (simp length-drop (omega arith));
          key = length-take-le key_room (drop key_at o) (simp length-drop (omega arith));
          count = two_small o 2 octets;
        }

-- no two lists of octets hold one packet
pub one-packet-reading : (a b : List ℕ) → length a ≡ packet_octets → length b ≡ packet_octets → Octets a → Octets b → packet_in a ≡ packet_in b → a ≡ b
one-packet-reading a b la lb oa ob e = sym (packet-written_read a la oa) ∙ ap octets_of e ∙ packet-written_read b lb ob

-- ---- what is written are octets

-- its fields are octets, which those of every struct of the code are
pub record PacketOctetwise (p : Packet) : Type 0 where
  pub kind : p.kind < 256
  pub cipher : p.cipher < 256
  pub vector : Octets p.vector
  pub key : Octets p.key

pub packet-octets_of : (p : Packet) → PacketOctetwise p → Octets (octets_of p)
unfolding octets_of
packet-octets_of p s zero = s.kind
packet-octets_of p s (suc zero) = s.cipher
packet-octets_of p s (suc (suc i)) = two-octets p.count (p.vector ++ p.key) (octets_append p.vector p.key s.vector s.key) i

-- ---- no packet

pub no_packet_read : packet_in (replicate packet_octets 0) ≡ no_packet
unfolding packet_in
no_packet_read = refl

pub no_packet-written : octets_of no_packet ≡ replicate packet_octets 0
unfolding octets_of
no_packet-written = refl

-- ---- as the code reads and writes

pub reads : (o : List ℕ) {v k : List ℕ} {n : ℕ} → v ≡ take vector_octets (drop vector_at o) → k ≡ take key_room (drop key_at o) → n ≡ two_at o 2
    → record { kind = get_or o 0 0; cipher = get_or o 1 0; key = k; count = n; vector = v } ≡ packet_in o
unfolding packet_in
reads o p q r = rw (p, q, r)

-- the two numbers before the count
abbrev stored : Packet → List ℕ → List ℕ
stored p o = set (set o 0 p.kind) 1 p.cipher

module _ (o : List ℕ) (long : length o ≡ packet_octets) (p : Packet) where
  is-stored : stored p o ≡ p.kind ∷ p.cipher ∷ drop 2 o
  is-stored = ap (stored p) (sym (numbers o long))

  pub writes : length p.vector ≡ vector_octets → length p.key ≡ key_room → {n v k : List ℕ} → n ≡ two_of p.count → v ≡ p.vector → k ≡ p.key
      → put_mid 12 32 (put_mid 4 8 (put_mid 2 2 (stored p o) n) v) k ≡ octets_of p
  unfolding octets_of
  writes lv lk {n} {v} {k} q r s =
      let e : put_mid 10 32 (put_mid 2 8 (put_mid 0 2 (drop 2 o) n) v) k ≡ two_of p.count ++ (p.vector ++ p.key) =
      put_three (drop 2 o) (two_of p.count) p.vector p.key 2 8 32 refl lv lk (simp length-drop (omega arith)) n v k q r s in
      ap (λ (l : List ℕ). put_mid 12 32 (put_mid 4 8 (put_mid 2 2 l n) v) k) is-stored ∙ ap (λ (l : List ℕ). p.kind ∷ p.cipher ∷ l) e
