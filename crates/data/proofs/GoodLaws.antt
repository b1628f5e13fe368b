-- A good packet stays good under every operation, and what open leaves is a good open packet, the same for either end.
use mathlib.Core.Path.{◌≡◌, refl, sym, ap, ◌∙◌}
use mathlib.Core.Bool.{Bool, true, false, ◌&&◌, ◌||◌, not, true≢false}
use mathlib.Core.Logic.{◌⊎◌, inl, inr}
use mathlib.Core.List.{List, ◌++◌}
use Prim.Native.Nat.{ℕ, ◌+◌, ◌≤◌, ◌<◌}
use native.Mathlib.Omega.{arith}
use lib.Dec.{eqb}
use lib.ListN.{length}
use borrow.Author.Tests.{eq-eqb, ne_eqb, le-leb}
use Rattle.octets.specs.Tests.{pick, all_below}
use Rattle.octets.specs.Lists.{all_zero}
use Rattle.octets.specs.Bits.{bit}
use Rattle.octets.proofs.TestLaws.{and_right}
use Rattle.answers.specs.declared.Answer.{Answer}
use Rattle.answers.specs.declared.Answer.TheVariants.{Done, WrongLength, OutOfRange, ZeroVector}
use Rattle.answers.specs.Numbers.{is_done}
use Rattle.answers.proofs.OutcomeLaws.{NoneHolds, never_done, none_left, none_settles, leaves, done_none}
use Rattle.sizes.specs.Ciphers.{scrambles}
use Rattle.openings.specs.Ladder.{session_vector, key_for, key_refusals, zero_for, vector_refusals}
use Rattle.ciphers.specs.Keys.{key_right}
use Rattle.sizes.proofs.SizeLaws.{no_vector-zero}
use Rattle.openings.proofs.LadderLaws.{vector-never, vector-none, sends_more}
use Rattle.openings.proofs.ReadyLaws.{none_ranged, none-key}
use Rattle.data.specs.declared.packet.Packet.{Packet}
use Rattle.data.specs.Kinds.{is_kind}
use Rattle.data.specs.Packet.{most_messages, closed_tests, open_tests, is_closed, is_open, good_packet, no_packet, end_refusals, end_of}
use Rattle.data.specs.Opening.{to_receive, to_send, is_end, open_refusals, new_packet, open_of}
use Rattle.data.specs.Message.{counted, lost_refusals, lost_of, message_refusals, message_turned_by, message_turned, message_of, short_refusals, message_by_octets}
use Rattle.data.proofs.PacketLaws.{open_kind, open_key, open_vector, open_is-good}
use Rattle.data.proofs.MessageLaws.{none_open, none_few, none-lost}

pub closed_good : good_packet no_packet ≡ true
unfolding good_packet is_closed closed_tests all_zero all_below
closed_good = refl

-- a struct that keeps the rules of an open packet
pub opens : (kind c : ℕ) (k : List ℕ) (n : ℕ) (v : List ℕ) → is_kind kind ≡ true → key_right c k ≡ true → n ≤ most_messages
    → (not (scrambles c) || all_zero v) ≡ true → is_open (record { kind = kind; cipher = c; key = k; count = n; vector = v }) ≡ true
unfolding is_open open_tests
opens kind c k n v is key few vector = rw (is, key, le-leb _ _ few, vector)

-- an open packet, with another count
abbrev pub at_count : Packet → ℕ → Packet
at_count p n = record { kind = p.kind; cipher = p.cipher; key = p.key; count = n; vector = p.vector }

module _ (p : Packet) (o : is_open p ≡ true) where
  pub at_open : (n : ℕ) → n ≤ most_messages → is_open (at_count p n) ≡ true
  at_open n h = opens p.kind p.cipher p.key n p.vector (open_kind p o) (open_key p o) h (open_vector p o)

  pub counted_open : p.count < most_messages → is_open (counted p) ≡ true
  counted_open h = at_open (p.count + 1) (omega arith)

-- ---- an opening

session-right : (c : ℕ) (w : List ℕ) → (not (scrambles c) || all_zero (session_vector c w)) ≡ true
session-right c w = go (scrambles c) refl
  where
    go : (t : Bool) → scrambles c ≡ t → (not (scrambles c) || all_zero (session_vector c w)) ≡ true
    go true e = rw (e, no_vector-zero)
    go false e = rw e

module _ (p : Packet) (end kind c i : ℕ) (w b : List ℕ) where
  opened-open : NoneHolds (open_refusals p end kind c i w b) → is_open (new_packet kind c w (key_for b c i)) ≡ true
  unfolding open_refusals
  opened-open n =
      let m = vector-none (is_end end && is_kind kind) (not (good_packet p)) (not (is_closed p)) c i b w (eqb end to_send) n in
      let own = (none_ranged (is_end end && is_kind kind) (not (good_packet p)) (not (is_closed p)) c i b m).0 in
      opens kind c (key_for b c i) 0 (session_vector c w) (and_right (is_end end) (is_kind kind) own)
      (none-key (is_end end && is_kind kind) (not (good_packet p)) (not (is_closed p)) c i b m) (omega arith) (session-right c w)

  open-never : never_done (open_refusals p end kind c i w b) ≡ true
  unfolding open_refusals
  open-never = vector-never (is_end end && is_kind kind) (not (good_packet p)) (not (is_closed p)) c i b w (eqb end to_send)

  -- done, it leaves the one packet before its first message, which is open and so good
  pub open_leaves : is_done (open_of p end kind c i w b).0 ≡ true
      → ((open_of p end kind c i w b).1 ≡ new_packet kind c w (key_for b c i)) × (is_open (open_of p end kind c i w b).1 ≡ true)
  unfolding open_of
  open_leaves d =
      let n = done_none (open_refusals p end kind c i w b) p (new_packet kind c w (key_for b c i)) open-never d in
      let e = ap (λ (o : Answer × Packet). o.1) (none_settles (open_refusals p end kind c i w b) p (Done, new_packet kind c w (key_for b c i)) n) in
      (e, ap is_open e ∙ opened-open n)

-- ---- either end

module _ (p : Packet) (kind c i : ℕ) (w b : List ℕ) where
  -- opened to send, 1, it is what it is to receive, 0, answer and packet; but 8 where that would be done with zeros, of DES or AES
  pub to_send_lem : open_of p 1 kind c i w b ≡ pick (is_done (open_of p 0 kind c i w b).0 && zero_for c w) (ZeroVector, p) (open_of p 0 kind c i w b)
  unfolding open_of open_refusals is_end
  to_send_lem = sends_more (is_kind kind) (not (good_packet p)) (not (is_closed p)) c i b w p (new_packet kind c w (key_for b c i))

  -- so what is opened to send is opened to receive, and is the same packet
  pub either_end : is_done (open_of p 1 kind c i w b).0 ≡ true → open_of p 0 kind c i w b ≡ open_of p 1 kind c i w b
  either_end d = go (is_done (open_of p 0 kind c i w b).0 && zero_for c w) to_send_lem
    where
      go : (t : Bool) → open_of p 1 kind c i w b ≡ pick t (ZeroVector, p) (open_of p 0 kind c i w b) → open_of p 0 kind c i w b ≡ open_of p 1 kind c i w b
      go true e = absurd (true≢false (sym d ∙ ap (λ (o : Answer × Packet). is_done o.0) e))
      go false e = sym e

-- whatever else is asked, for any end: a wrong length is 2; and then any other end is 3
module _ (p : Packet) (end kind c i : ℕ) (w b : List ℕ) where
  pub lengths_first : (length w ≡ 8 → ⊥) ⊎ (length b ≡ 832 → ⊥) → open_of p end kind c i w b ≡ (WrongLength, p)
  unfolding open_of open_refusals vector_refusals key_refusals
  lengths_first (inl n) = rw (ne_eqb _ _ n)
  lengths_first (inr n) = rw (ne_eqb _ _ n) (go (eqb (length w) 8))
    where
      go : (t : Bool) → ◌≡◌ {A = Answer × Packet} (pick (not t) (WrongLength, p) (WrongLength, p)) (WrongLength, p)
      go true = refl
      go false = refl

  pub no_other_end : length w ≡ 8 → length b ≡ 832 → 2 ≤ end → open_of p end kind c i w b ≡ (OutOfRange, p)
  unfolding open_of open_refusals is_end vector_refusals key_refusals
  no_other_end l m h =
      rw (eq-eqb _ _ l, eq-eqb _ _ m, ne_eqb end to_receive (λ e. omega (arith, e)), ne_eqb end to_send (λ e. omega (arith, e)))

-- ---- the operations

module _ (p : Packet) (good : good_packet p ≡ true) where
  abbrev Good : Packet → Type 0
  Good q = good_packet q ≡ true

  pub end_good : good_packet (end_of p).1 ≡ true
  unfolding end_of
  end_good = leaves Good p (end_refusals p) (Done, no_packet) good (λ n. closed_good)

  pub open_good : (end kind c i : ℕ) (w b : List ℕ) → good_packet (open_of p end kind c i w b).1 ≡ true
  unfolding open_of
  open_good end kind c i w b =
      leaves Good p (open_refusals p end kind c i w b) (Done, new_packet kind c w (key_for b c i)) good
      (λ n. open_is-good (new_packet kind c w (key_for b c i)) (opened-open p end kind c i w b n))

  on-good : NoneHolds (lost_refusals p) → good_packet (counted p) ≡ true
  on-good n = open_is-good (counted p) (counted_open p (none_open p n) (none_few p n))

  pub lost-good : good_packet (lost_of p).1 ≡ true
  unfolding lost_of
  lost-good = leaves Good p (lost_refusals p) (Done, counted p) good on-good

  pub message_good : (message : List ℕ) → good_packet (message_of p message).1.0 ≡ true
  unfolding message_of
  message_good message =
      leaves (λ (o : Packet × List ℕ). Good o.0) (p, message) (message_refusals p message) (Done, (counted p, message_turned p message)) good
      (λ n. on-good (none-lost p message n))

  pub message_by_good : (lent message : List ℕ) → good_packet (message_by_octets lent p message).1.0 ≡ true
  unfolding message_by_octets
  message_by_good lent message =
      leaves (λ (o : Packet × List ℕ). Good o.0) (p, message) (message_refusals p message ++ short_refusals p lent)
      (Done, (counted p, message_turned_by (bit lent) p message)) good
      (λ n. on-good (none-lost p message (none_left (message_refusals p message) (short_refusals p lent) n)))
