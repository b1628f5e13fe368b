-- With its key in a good book a packet is opened: for end 0, to receive, whatever the vector; for end 1, to send, unless that is zeros with DES or AES.
use mathlib.Core.Path.{◌≡◌, sym, ◌∙◌}
use mathlib.Core.Bool.{true, false}
use mathlib.Core.List.{List}
use Prim.Native.Nat.{ℕ}
use lib.ListN.{length}
use borrow.Author.Tests.{eq-eqb}
use Rattle.octets.specs.Lists.{all_zero}
use Rattle.answers.specs.declared.Answer.TheVariants.{Done, ZeroVector}
use Rattle.keybook.proofs.GoodLaws.{good_sized}
use Rattle.sizes.specs.Ciphers.{scrambles}
use Rattle.openings.specs.Ladder.{key_for, key_refusals, zero_for, zero_refusals, vector_refusals}
use Rattle.openings.proofs.LadderLaws.{not-zero_for}
use Rattle.data.specs.Kinds.{is_kind}
use Rattle.data.specs.Packet.{is_closed, no_packet}
use Rattle.data.specs.Opening.{is_end, open_refusals, new_packet, open_of}
use Rattle.data.proofs.PacketLaws.{kind_closed}
use Rattle.data.proofs.GoodLaws.{closed_good, to_send_lem}
use Rattle.demands.specs.Talk.{HasKey}
use Rattle.demands.proofs.Standing.{pair_in_range}

none_closed : is_closed no_packet ≡ true
none_closed = sym (kind_closed no_packet closed_good)

module _ (b : List ℕ) (c i : ℕ) (key : List ℕ) (h : HasKey b c i key) (kind : ℕ) (k : is_kind kind ≡ true) (v : List ℕ) (l : length v ≡ 8) where
  pub packet-heard : open_of no_packet 0 kind c i v b ≡ (Done, new_packet kind c v (key_for b c i))
  unfolding open_of open_refusals is_end vector_refusals key_refusals zero_refusals
  packet-heard =
      rw (closed_good, none_closed, k, eq-eqb _ _ l, eq-eqb _ _ (good_sized b h.good), pair_in_range b c i key h, h.good, h.there, h.ready)

  pub packet_sent : (scrambles c ≡ false → all_zero v ≡ false) → open_of no_packet 1 kind c i v b ≡ (Done, new_packet kind c v (key_for b c i))
  packet_sent s = to_send_lem no_packet kind c i v b ∙ rw (packet-heard, not-zero_for c v s)

  pub packet-not_sent : scrambles c ≡ false → all_zero v ≡ true → open_of no_packet 1 kind c i v b ≡ (ZeroVector, no_packet)
  unfolding zero_for
  packet-not_sent e z = to_send_lem no_packet kind c i v b ∙ rw (packet-heard, e, z)
