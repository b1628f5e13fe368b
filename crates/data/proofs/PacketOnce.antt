-- A packet's keystream, made once: a message turned by it is the message of the packet, and it holds from message to message.
use mathlib.Core.Path.{◌≡◌, refl, sym, ap, ◌∙◌}
use mathlib.Core.Bool.{true, false}
use mathlib.Core.List.{List, ◌++◌}
use Prim.Native.Nat.{ℕ, ◌+◌, ◌-◌, ◌*◌, ◌≤◌, ◌<◌}
use native.Mathlib.Nat.{zero-add, mul_assoc, mul-add, mul-le-mul, le_refl}
use native.Mathlib.Omega.{arith}
use lib.ListN.{length}
use borrow.Author.Tests.{lt-ltb, le-ltb}
use Rattle.octets.specs.Bits.{bit, octets_from}
use Rattle.octets.proofs.BitLaws.{bit-octets_from, length-octets_from, octets_from_same}
use Rattle.answers.specs.declared.Answer.{Answer}
use Rattle.answers.specs.declared.Answer.TheVariants.{Done, WrongLength}
use Rattle.answers.specs.Numbers.{is_done}
use Rattle.answers.specs.Outcomes.{settled}
use Rattle.answers.proofs.OutcomeLaws.{NoneHolds, none_left, in_a_row, none_first, side_by_side, leaves}
use Rattle.ciphers.proofs.KeystreamLaws.{bits-stream}
use Rattle.data.specs.declared.packet.Packet.{Packet}
use Rattle.data.specs.Kinds.{protected_octets, protected_bits}
use Rattle.data.specs.Packet.{most_messages, is_open}
use Rattle.data.specs.Message.{counted, lost_refusals, lost_of, message_refusals, of_message, turned_by, message_turned_by, stream_of, message_turned, message_of, stream_octets, short_refusals, message_by_octets, packet_stream_of, IsStream}
use Rattle.data.proofs.MessageLaws.{none_open, none_few, none-lost, turned_alike, done_none_holds, step-first}
use Rattle.data.proofs.GoodLaws.{at_count, at_open}

-- ---- a message by lent octets

module _ (lent : List ℕ) (p : Packet) (message : List ℕ) where
  abbrev last : Answer × (Packet × List ℕ)
  last = (Done, (counted p, message_turned_by (bit lent) p message))

  -- where they reach its end
  by_long : NoneHolds (message_refusals p message) → stream_octets p.kind (p.count + 1) ≤ length lent → message_by_octets lent p message ≡ last
  unfolding message_by_octets short_refusals
  by_long n l = none_first (message_refusals p message) (short_refusals p lent) (p, message) last n ∙ rw (le-ltb _ _ l)

  -- as the code goes
  pub lent_refused : {a : Answer} → (message_of p message).0 ≡ a → is_done a ≡ false → (a, (p, message)) ≡ message_by_octets lent p message
  unfolding message_by_octets
  lent_refused r d = step-first p message r d (short_refusals p lent) last

  module _ (n : NoneHolds (message_refusals p message)) (part end : ℕ) (is_part_lem : part ≡ protected_octets p.kind) (is-end : end ≡ part * (p.count + 1)) where
    reach : end ≡ stream_octets p.kind (p.count + 1)
    reach = is-end ∙ ap (λ (n : ℕ). n * (p.count + 1)) is_part_lem

    -- the message's bits lie before it, and begin there
    pub part_before : part ≤ end
    part_before = omega (arith, mul-add part p.count 1)

    place : 8 * (end - part) ≡ protected_bits p.kind * p.count
    place =
        let e : end - part ≡ part * p.count = omega (arith, mul-add part p.count 1) in
        rw (e, is_part_lem) (sym (mul_assoc 8 (protected_octets p.kind) p.count))

    pub lent_short : length lent < end → (WrongLength, (p, message)) ≡ message_by_octets lent p message
    unfolding message_by_octets short_refusals
    lent_short l =
        sym (none_first (message_refusals p message) (short_refusals p lent) (p, message) last n ∙ rw (lt-ltb _ _ (rw reach at l)))

    pub lent-turned : {q : Packet} → q ≡ counted p → end ≤ length lent → {m : List ℕ} → m ≡ turned_by (λ k. bit lent (8 * (end - part) + k)) p.kind message
        → (Done, (q, m)) ≡ message_by_octets lent p message
    lent-turned c l t = rw (c, t, place) (sym (by_long n (rw reach at l)))

-- ---- how many octets are enough

-- a message that is done as it is, is done by lent octets too where they reach the last of its bits, and is 2 where they don't
module _ (lent : List ℕ) (p : Packet) (message : List ℕ) (d : is_done (message_of p message).0 ≡ true) where
  none : NoneHolds (message_refusals p message)
  none = done_none_holds p message d

  pub lent_enough : protected_bits p.kind * (p.count + 1) ≤ 8 * length lent → message_by_octets lent p message ≡ (Done, (counted p, message_turned_by (bit lent) p message))
  lent_enough l = by_long lent p message none (omega (arith, mul_assoc 8 (protected_octets p.kind) (p.count + 1)))

  pub lent_too_few : 8 * length lent < protected_bits p.kind * (p.count + 1) → message_by_octets lent p message ≡ (WrongLength, (p, message))
  lent_too_few l =
      sym
      (lent_short lent p message none (protected_octets p.kind) _ refl refl
      (omega (arith, mul_assoc 8 (protected_octets p.kind) (p.count + 1))))

-- ---- a packet's keystream, made

module _ (p : Packet) (out : List ℕ) where
  pub stream_stays : is_open p ≡ false → out ≡ packet_stream_of p out
  unfolding packet_stream_of
  stream_stays e = rw e

  module _ (o : is_open p ≡ true) where
    stream-made : packet_stream_of p out ≡ octets_from (length out) (stream_of p)
    unfolding packet_stream_of
    stream-made = rw o

    -- as the code writes it
    pub stream-written : (g : List ℕ) → g ≡ octets_from (length out) (λ k. stream_of p (0 + k)) → g ≡ packet_stream_of p out
    stream-written g e = e ∙ octets_from_same (length out) (λ k. stream_of p (0 + k)) (stream_of p) (λ k. ap (stream_of p) (zero-add k)) ∙ sym stream-made

    -- octets enough for n messages, 20 of them for each DCALL, hold it once it is written there
    pub stream_holds : (n : ℕ) → stream_octets p.kind n ≤ length out → IsStream p n (packet_stream_of p out)
    stream_holds n room =
        record {
          stands = o;
          long = rw (stream-made, length-octets_from (length out) (stream_of p)) room;
          bits = λ k l.
              ap (λ (xs : List ℕ). bit xs k) stream-made
              ∙ bit-octets_from (length out) (stream_of p) (bits-stream p.cipher p.key p.vector) k
              (omega (arith, mul_assoc 8 (protected_octets p.kind) n));
        }

-- ---- and held

-- for fewer messages too
stream_fewer : (p : Packet) (n : ℕ) (lent : List ℕ) → IsStream p n lent → (m : ℕ) → m ≤ n → IsStream p m lent
stream_fewer p n lent i m h =
    record {
      stands = i.stands;
      long = omega (arith, i.long, mul-le-mul (le_refl (protected_octets p.kind)) h);
      bits = λ k l. i.bits k (omega (arith, mul-le-mul (le_refl (protected_bits p.kind)) h));
    }

-- it is the packet's whatever its count
pub stream-kept : (p : Packet) (n : ℕ) (lent : List ℕ) → IsStream p n lent → (m : ℕ) → m ≤ most_messages → IsStream (at_count p m) n lent
stream-kept p n lent i m h = record { stands = at_open p i.stands m h; long = i.long; bits = i.bits }

-- so after any message, arrived or lost
module _ (p : Packet) (n : ℕ) (lent : List ℕ) (i : IsStream p n lent) where
  counted-kept : NoneHolds (lost_refusals p) → IsStream (counted p) n lent
  counted-kept h = stream-kept p n lent i (p.count + 1) (omega (arith, none_few p h))

  pub stream-kept-lost : IsStream (lost_of p).1 n lent
  unfolding lost_of
  stream-kept-lost = leaves (λ (q : Packet). IsStream q n lent) p (lost_refusals p) (Done, counted p) i counted-kept

  module _ (message : List ℕ) where
    pub stream-kept_message : IsStream (message_of p message).1.0 n lent
    unfolding message_of
    stream-kept_message =
        leaves (λ (o : Packet × List ℕ). IsStream o.0 n lent) (p, message) (message_refusals p message) (Done, (counted p, message_turned p message)) i
        (λ h. counted-kept (none-lost p message h))

    pub stream-kept_by : (by : List ℕ) → IsStream (message_by_octets by p message).1.0 n lent
    unfolding message_by_octets
    stream-kept_by by =
        leaves (λ (o : Packet × List ℕ). IsStream o.0 n lent) (p, message) (message_refusals p message ++ short_refusals p by) (last by p message) i
        (λ h. counted-kept (none-lost p message (none_left (message_refusals p message) (short_refusals p by) h)))

-- ---- a message by octets that hold its packet's keystream is the packet's message

-- refused alike, or turned by the same bits
alike : (lent : List ℕ) (p : Packet) (message : List ℕ) → (is_open p ≡ true → p.count < most_messages → IsStream p (p.count + 1) lent)
    → message_by_octets lent p message ≡ message_of p message
unfolding message_by_octets message_of message_turned short_refusals
alike lent p message held =
    in_a_row (message_refusals p message) (short_refusals p lent) (p, message) (last lent p message)
    ∙ side_by_side (λ a b. a ≡ b) (p, message) (p, message) (message_refusals p message) _ (Done, (counted p, message_turned p message)) (λ a. refl) same
  where
    same : NoneHolds (message_refusals p message)
        → settled {S = Packet × List ℕ} (p, message) (short_refusals p lent) (last lent p message) ≡ (Done, (counted p, message_turned p message))
    same n =
        let i = held (none_open p (none-lost p message n)) (none_few p (none-lost p message n)) in
        rw (le-ltb _ _ i.long)
        (ap (λ (xs : List ℕ). (Done, (counted p, xs)))
        (turned_alike (of_message (bit lent) p.kind p.count) (of_message (stream_of p) p.kind p.count) p.kind
        (λ k l. i.bits (protected_bits p.kind * p.count + k) (omega (arith, mul-add (protected_bits p.kind) p.count 1))) message))

-- octets that hold the stream as far as the message's end
pub message_by_is_message : (p : Packet) (n : ℕ) (lent : List ℕ) → IsStream p n lent → p.count < n → (message : List ℕ)
    → message_by_octets lent p message ≡ message_of p message
message_by_is_message p n lent i h message = alike lent p message (λ o f. stream_fewer p n lent i (p.count + 1) (omega arith))

-- what was written for the packet, at whatever count, as far as the last of the message's bits: for every packet, open or not
pub made-is_message : (p : Packet) (m : ℕ) → m ≤ most_messages → (out : List ℕ) → protected_bits p.kind * (p.count + 1) ≤ 8 * length out → (message : List ℕ)
    → message_by_octets (packet_stream_of (at_count p m) out) p message ≡ message_of p message
made-is_message p m h out room message =
    alike (packet_stream_of (at_count p m) out) p message
    (λ o f.
    let i = stream_holds (at_count p m) out (at_open p o m h) (p.count + 1) (omega (arith, mul_assoc 8 (protected_octets p.kind) (p.count + 1))) in
    record { stands = o; long = i.long; bits = i.bits })
