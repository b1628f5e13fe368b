-- Each operation's statement settles its outcome: any two outcomes that meet it are equal. And a refusal, any answer but 0, changes
-- nothing.
use mathlib.Core.Path.{◌≡◌, sym, ap, ◌∙◌}
use mathlib.Core.Bool.{false, ◌&&◌, not, true≢false}
use mathlib.Core.List.{List, ◌++◌}
use Prim.Native.Nat.{ℕ}
use lib.Dec.{eqb}
use native.Mathlib.Omega.{arith}
use Rattle.octets.specs.Bits.{bit}
use Rattle.answers.specs.declared.Answer.{Answer}
use Rattle.answers.specs.declared.Answer.TheVariants.{Done}
use Rattle.answers.proofs.OutcomeLaws.{Refusal, keeps, some_refuses, one-outcome}
use Rattle.openings.specs.Ladder.{key_for, key_refusals, vector_refusals}
use Rattle.openings.proofs.LadderLaws.{vector-from-two}
use Rattle.data.specs.declared.packet.Packet.{Packet}
use Rattle.data.specs.Kinds.{is_kind}
use Rattle.data.specs.Packet.{is_closed, good_packet, no_packet, end_refusals, end_of}
use Rattle.data.specs.Opening.{to_send, is_end, open_refusals, new_packet, open_of}
use Rattle.data.specs.Message.{counted, lost_refusals, lost_of, message_refusals, message_turned_by, message_turned, message_of, short_refusals, message_by_octets, packet_stream_of}
use Rattle.data.proofs.PacketLaws.{not_closed}

-- ---- any two outcomes are equal

module _ (a b : Answer) (x y : Packet) (p : Packet) where
  pub one_end : (a, x) ≡ end_of p → (b, y) ≡ end_of p → (a ≡ b) × (x ≡ y)
  one_end = one-outcome a b x y

  pub one_open : (end kind c i : ℕ) (w book : List ℕ) → (a, x) ≡ open_of p end kind c i w book → (b, y) ≡ open_of p end kind c i w book → (a ≡ b) × (x ≡ y)
  one_open end kind c i w book = one-outcome a b x y

  pub one-lost : (a, x) ≡ lost_of p → (b, y) ≡ lost_of p → (a ≡ b) × (x ≡ y)
  one-lost = one-outcome a b x y

  module _ (f g : List ℕ) where
    both : {o : Answer × (Packet × List ℕ)} → (a, (x, f)) ≡ o → (b, (y, g)) ≡ o → (a ≡ b) × (x ≡ y) × (f ≡ g)
    both e h =
        let s = one-outcome a b (x, f) (y, g) e h in
        (s.0, ap (λ (r : Packet × List ℕ). r.0) s.1, ap (λ (r : Packet × List ℕ). r.1) s.1)

    pub one_message : (message : List ℕ) → (a, (x, f)) ≡ message_of p message → (b, (y, g)) ≡ message_of p message → (a ≡ b) × (x ≡ y) × (f ≡ g)
    one_message message = both

    pub one_message_by : (lent message : List ℕ) → (a, (x, f)) ≡ message_by_octets lent p message → (b, (y, g)) ≡ message_by_octets lent p message
        → (a ≡ b) × (x ≡ y) × (f ≡ g)
    one_message_by lent message = both

pub one-stream : (f g : List ℕ) (p : Packet) (out : List ℕ) → f ≡ packet_stream_of p out → g ≡ packet_stream_of p out → f ≡ g
one-stream f g p out e h = e ∙ sym h

-- ---- a refusal changes nothing

module _ (p : Packet) where
  pub end_keeps : Refusal (end_of p).0 → (end_of p).1 ≡ p
  unfolding end_of
  end_keeps = keeps p (end_refusals p) (Done, no_packet) (omega arith)

  pub open_keeps : (end kind c i : ℕ) (w b : List ℕ) → Refusal (open_of p end kind c i w b).0 → (open_of p end kind c i w b).1 ≡ p
  unfolding open_of
  open_keeps end kind c i w b = keeps p (open_refusals p end kind c i w b) (Done, new_packet kind c w (key_for b c i)) (omega arith)

  pub lost_keeps : Refusal (lost_of p).0 → (lost_of p).1 ≡ p
  unfolding lost_of
  lost_keeps = keeps p (lost_refusals p) (Done, counted p) (omega arith)

  pub message_keeps : (message : List ℕ) → Refusal (message_of p message).0 → (message_of p message).1 ≡ (p, message)
  unfolding message_of
  message_keeps message = keeps (p, message) (message_refusals p message) (Done, (counted p, message_turned p message)) (omega arith)

  pub message_by_keeps : (lent message : List ℕ) → Refusal (message_by_octets lent p message).0 → (message_by_octets lent p message).1 ≡ (p, message)
  unfolding message_by_octets
  message_by_keeps lent message =
      keeps (p, message) (message_refusals p message ++ short_refusals p lent)
      (Done, (counted p, message_turned_by (bit lent) p message)) (omega arith)

-- ---- while a packet stands

-- nothing opens another
pub open_busy : (p : Packet) → (p.kind ≡ 0 → ⊥) → (end kind c i : ℕ) (w b : List ℕ) → Refusal (open_of p end kind c i w b).0 × ((open_of p end kind c i w b).1 ≡ p)
unfolding open_of open_refusals vector_refusals key_refusals
open_busy p busy end kind c i w b =
    some_refuses p (open_refusals p end kind c i w b) (Done, new_packet kind c w (key_for b c i))
    (vector-from-two (is_end end && is_kind kind) (not (good_packet p)) (not (is_closed p)) c i b w (eqb end to_send))
    (λ n. let closed : not (is_closed p) ≡ false = search n in true≢false (sym (ap not (not_closed p busy)) ∙ closed))
