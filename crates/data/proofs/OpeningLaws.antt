-- How a packet begins, as the code goes through it.
use mathlib.Core.Path.{◌≡◌, refl, ap, ◌∙◌}
use mathlib.Core.Bool.{Bool, true, false, ◌&&◌, not}
use mathlib.Core.List.{List}
use Prim.Native.Nat.{ℕ}
use lib.Dec.{eqb}
use Rattle.answers.specs.declared.Answer.{Answer}
use Rattle.answers.specs.declared.Answer.TheVariants.{Done}
use Rattle.answers.specs.Numbers.{is_done}
use Rattle.openings.specs.Ladder.{vector_key_of}
use Rattle.openings.proofs.BegunLaws.{Alike, both-bad, the_same, vector-begun_refused, vector-begun}
use Rattle.data.specs.declared.packet.Packet.{Packet}
use Rattle.data.specs.Kinds.{is_kind}
use Rattle.data.specs.Packet.{is_closed, good_packet}
use Rattle.data.specs.Opening.{to_send, is_end, open_refusals, new_packet, open_of}
use Rattle.data.proofs.PacketLaws.{kind_closed}

-- the code and the definition refuse alike
packet_alike : (p : Packet) (good : Bool) → good ≡ good_packet p
    → Alike (not good) (not (eqb p.kind 0)) (not (good_packet p)) (not (is_closed p))
packet_alike p good g = go (good_packet p) refl
  where
    go : (t : Bool) → good_packet p ≡ t → Alike (not good) (not (eqb p.kind 0)) (not (good_packet p)) (not (is_closed p))
    go false t = both-bad (ap not (g ∙ t)) (ap not t)
    go true t = the_same (ap not g) (ap not (kind_closed p t))

module _ (p : Packet) (end kind c i : ℕ) (w b : List ℕ) (is good : Bool) (k : is ≡ (is_end end && is_kind kind)) (g : good ≡ good_packet p) (a : Answer) (key : List ℕ)
    (e : (a, key) ≡ vector_key_of (eqb end to_send) is (not good) (not (eqb p.kind 0)) c i w b) where
  pub open_refused : is_done a ≡ false → (a, p) ≡ open_of p end kind c i w b
  unfolding open_of open_refusals
  open_refused =
      vector-begun_refused p (new_packet kind c w) (is_end end && is_kind kind) (not good) (not (eqb p.kind 0)) _ _ (packet_alike p good g) c i b w (eqb end to_send) a key
      (rw k at e)

  pub open_done : is_done a ≡ true → (Done, new_packet kind c w key) ≡ open_of p end kind c i w b
  unfolding open_of open_refusals
  open_done =
      vector-begun p (new_packet kind c w) (is_end end && is_kind kind) (not good) (not (eqb p.kind 0)) _ _ (packet_alike p good g) c i b w (eqb end to_send) a key
      (rw k at e)
