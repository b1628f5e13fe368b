-- Messages sent over one packet and received over another with the same key and vector are handed out as they were said, whichever are lost on
-- the way; and the message after n others starts at bit protected_bits * n.
use mathlib.Core.Path.{◌≡◌, refl, sym, ap, ap₂, ◌∙◌}
use mathlib.Core.Bool.{Bool, true, false, not}
use mathlib.Core.List.{List, [], ◌∷◌}
use Prim.Native.Nat.{ℕ, suc, ◌+◌, ◌*◌, ◌≤◌, ◌<◌}
use native.Mathlib.Nat.{zero-add}
use native.Mathlib.Omega.{arith}
use lib.ListN.{length}
use borrow.Author.Tests.{lt-leb}
use Rattle.octets.specs.Tests.{pick}
use Rattle.octets.specs.Bits.{bit, flip, Octets}
use Rattle.answers.specs.declared.Answer.{Answer}
use Rattle.answers.specs.declared.Answer.TheVariants.{Done}
use Rattle.answers.specs.Numbers.{is_done}
use Rattle.answers.proofs.OutcomeLaws.{NoneHolds}
use Rattle.ciphers.specs.Keystream.{stream}
use Rattle.openings.specs.Ladder.{session_vector, key_for}
use Rattle.octets.proofs.Parts.{turned_in_twice}
use Rattle.data.specs.declared.packet.Packet.{Packet}
use Rattle.data.specs.Kinds.{message_octets, head_octets, protected_octets, protected_bits}
use Rattle.data.specs.Packet.{most_messages, is_open, no_packet}
use Rattle.data.specs.Opening.{new_packet, open_of}
use Rattle.data.specs.Message.{counted, lost_refusals, lost_of, of_message, message_turned, message_of}
use Rattle.octets.specs.Lists.{Each}
use Rattle.data.specs.Exchange.{Message, on_air, handed_out, after, arrived, Fit}
use Rattle.data.proofs.PacketLaws.{open_kind, open_some, open_is-good}
use Rattle.data.proofs.MessageLaws.{now_is, lost_done, message_done}
use Rattle.data.proofs.GoodLaws.{at_count, at_open, counted_open, open_leaves}
use Rattle.data.proofs.MessageBits.{fits, turned-length, turned_inside}

-- ---- a message of a packet that has not had its last

module _ (p : Packet) (o : is_open p ≡ true) (few : p.count < most_messages) where
  goes_on : NoneHolds (lost_refusals p)
  unfolding lost_refusals
  goes_on = (ap not (open_is-good p o), (now_is p (open_some p o) (lt-leb _ _ few), tt))

  lost-on : (lost_of p).1 ≡ counted p
  lost-on = ap (λ (r : Answer × Packet). r.1) (sym (lost_done p goes_on))

  module _ (m : List ℕ) (long : length m ≡ message_octets p.kind) where
    pub taken : message_of p m ≡ (Done, (counted p, message_turned p m))
    taken = sym (message_done p m goes_on long)

    module _ (octets : Octets m) where
      -- sent and received it is as it was
      turned_back : message_turned p (message_turned p m) ≡ m
      unfolding message_turned
      turned_back =
          turned_in_twice head_octets (protected_octets p.kind) (protected_bits p.kind)
          (of_message (stream p.cipher p.key p.vector) p.kind p.count) m (fits p m (open_kind p o) long) octets

      pub heard : message_of p (message_turned p m) ≡ (Done, (counted p, m))
      heard =
          sym (message_done p (message_turned p m) goes_on (turned-length p m (open_kind p o) long ∙ long))
          ∙ ap (λ (xs : List ℕ). (Done, (counted p, xs))) turned_back

-- ---- the exchange, over packets that agree

both : (p : Packet) → is_open p ≡ true → (ms : List Message) → p.count + length ms ≤ most_messages
    → Each (λ m. length m.octets ≡ message_octets p.kind) ms → Each (λ m. Octets m.octets) ms → handed_out p (on_air p ms) ≡ arrived ms
unfolding handed_out on_air arrived
both p o [] few long octets = refl
both p o (m ∷ ms) few long octets =
    let l : p.count < most_messages = omega arith in
    let rest : handed_out (counted p) (on_air (counted p) ms) ≡ arrived ms =
    both (counted p) (counted_open p o l) ms (omega arith) long.1 octets.1 in
    rw (taken p o l m.octets long.0, heard p o l m.octets long.0 octets.0, lost-on p o l, rest)

-- ---- the place of each message

-- arrived or lost, a message moves the packet one on
told_one : (p : Packet) → is_open p ≡ true → p.count < most_messages → (m : Message) → length m.octets ≡ message_octets p.kind
    → pick m.arrives (message_of p m.octets).1.0 (lost_of p).1 ≡ counted p
told_one p o few m long = go m.arrives
  where
    go : (t : Bool) → pick t (message_of p m.octets).1.0 (lost_of p).1 ≡ counted p
    go true = ap (λ (r : Answer × (Packet × List ℕ)). r.1.0) (taken p o few m.octets long)
    go false = lost-on p o few

told : (p : Packet) → is_open p ≡ true → (ms : List Message) → p.count + length ms ≤ most_messages
    → Each (λ m. length m.octets ≡ message_octets p.kind) ms → after p ms ≡ at_count p (p.count + length ms)
unfolding after
told p o [] few long = let e : p.count ≡ p.count + 0 = omega arith in ap (at_count p) e
told p o (m ∷ ms) few long =
    let l : p.count < most_messages = omega arith in
    let e : p.count + 1 + length ms ≡ p.count + suc (length ms) = omega arith in
    ap (λ (q : Packet). after q ms) (told_one p o l m long.0)
    ∙ told (counted p) (counted_open p o l) ms (omega arith) long.1
    ∙ ap (at_count p) e

-- ---- packets that were opened

module _ (end kind c i : ℕ) (v b : List ℕ) (p : Packet) (e : open_of no_packet end kind c i v b ≡ (Done, p)) where
  is-opened : p ≡ new_packet kind c v (key_for b c i)
  is-opened =
      sym (ap (λ (r : Answer × Packet). r.1) e)
      ∙ (open_leaves no_packet end kind c i v b (ap (λ (r : Answer × Packet). is_done r.0) e)).0

  is_open_lem : is_open p ≡ true
  is_open_lem =
      ap (λ (r : Answer × Packet). is_open r.1) (sym e)
      ∙ (open_leaves no_packet end kind c i v b (ap (λ (r : Answer × Packet). is_done r.0) e)).1

  first-open : is_open (new_packet kind c v (key_for b c i)) ≡ true
  first-open = sym (ap is_open is-opened) ∙ is_open_lem

  module _ (before : List Message) (long : Each (λ m. length m.octets ≡ message_octets kind) before) where
    -- the packet after any messages, arrived or lost
    pub after_is : length before ≤ most_messages → after p before ≡ at_count (new_packet kind c v (key_for b c i)) (length before)
    after_is few =
        ap (λ (q : Packet). after q before) is-opened
        ∙ told (new_packet kind c v (key_for b c i)) first-open before (omega arith) long
        ∙ ap (at_count (new_packet kind c v (key_for b c i))) (zero-add (length before))

    -- it has counted them all
    pub nth_count : length before ≤ most_messages → (after p before).count ≡ length before
    nth_count few = ap (λ (q : Packet). q.count) (after_is few)

    -- so the next message is taken, and its bit 16 + k is turned by stream bit protected_bits kind * n + k
    module _ (few : length before < most_messages) (message : List ℕ) (is : length message ≡ message_octets kind) where
      abbrev place : Packet
      place = at_count (new_packet kind c v (key_for b c i)) (length before)

      place_open : is_open place ≡ true
      place_open = at_open (new_packet kind c v (key_for b c i)) first-open (length before) (omega arith)

      pub nth_taken : message_of (after p before) message ≡ (Done, (counted place, message_turned place message))
      nth_taken =
          ap (λ (q : Packet). message_of q message) (after_is (omega arith))
          ∙ taken place place_open few message is

      pub nth_place : (k : ℕ) → k < protected_bits kind
          → bit (message_of (after p before) message).1.1 (16 + k)
          ≡ flip (bit message (16 + k)) (stream c (key_for b c i) (session_vector c v) (protected_bits kind * length before + k))
      nth_place k h =
          ap (λ (r : Answer × (Packet × List ℕ)). bit r.1.1 (16 + k)) nth_taken
          ∙ turned_inside place message (open_kind place place_open) is k h

-- what is said over a packet is what is handed out over any other of the same kind, cipher, key and vector, each opened for whichever end, and whichever
-- messages are lost
pub round_trip : (end end' kind c i j : ℕ) (v b d : List ℕ) (sender receiver : Packet)
    → open_of no_packet end kind c i v b ≡ (Done, sender) → open_of no_packet end' kind c j v d ≡ (Done, receiver) → key_for b c i ≡ key_for d c j
    → (said : List Message) → Fit kind said → handed_out receiver (on_air sender said) ≡ arrived said
round_trip end end' kind c i j v b d sender receiver opens heard-by same said fit =
    let here : Packet = new_packet kind c v (key_for b c i) in
    let s : sender ≡ here = is-opened end kind c i v b sender opens in
    let r : receiver ≡ here = is-opened end' kind c j v d receiver heard-by ∙ ap (new_packet kind c v) (sym same) in
    ap₂ (λ (x y : Packet). handed_out x (on_air y said)) r s
    ∙ both here (first-open end kind c i v b sender opens) said (omega (arith, fit.few)) fit.long fit.octets
