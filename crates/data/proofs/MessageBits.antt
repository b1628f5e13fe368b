-- Demand 2 for data: a message after the operation, bit by bit, sent or received.
use mathlib.Core.Path.{◌≡◌, ap, ◌∙◌}
use mathlib.Core.Bool.{true}
use mathlib.Core.List.{List}
use Prim.Native.Nat.{ℕ, ◌+◌, ◌*◌, ◌≤◌, ◌<◌}
use native.Mathlib.Omega.{arith}
use lib.ListN.{length, get_or, take, drop, length-drop}
use lib.Seq.{length-take-le}
use borrow.Author.Tests.{eq-eqb}
use Rattle.octets.specs.Bits.{bit, flip, Octets}
use Rattle.octets.specs.Turn.{turned, turned_in}
use Rattle.octets.proofs.Turning.{length-turned, within_in}
use Rattle.octets.proofs.Parts.{replaced-before, replaced-after, length-turned_in, octets-turned_in, bit_inside, bit_outside}
use Rattle.answers.specs.declared.Answer.TheVariants.{Done}
use Rattle.answers.specs.Numbers.{number_of}
use Rattle.answers.proofs.OutcomeLaws.{NoneHolds, refusal_keeps, none_settles}
use Rattle.ciphers.specs.Keystream.{stream}
use Rattle.data.specs.declared.packet.Packet.{Packet}
use Rattle.data.specs.Kinds.{is_kind, message_octets, head_octets, protected_octets, protected_bits}
use Rattle.data.specs.Packet.{is_open}
use Rattle.data.specs.Message.{counted, message_refusals, of_message, message_turned, message_of}
use Rattle.data.proofs.KindLaws.{kind_fits}
use Rattle.data.proofs.PacketLaws.{open_kind}
use Rattle.data.proofs.MessageLaws.{none_open, done_none_holds, none-lost, none_long}

-- a message of a kind's length, turned
module _ (p : Packet) (message : List ℕ) (is : is_kind p.kind ≡ true) (long : length message ≡ message_octets p.kind) where
  abbrev n : ℕ
  n = protected_octets p.kind

  abbrev ks : ℕ → ℕ
  ks = of_message (stream p.cipher p.key p.vector) p.kind p.count

  pub fits : head_octets + n ≤ length message
  fits = rw long (kind_fits p.kind is)

  pub turned-length : length (message_turned p message) ≡ length message
  unfolding message_turned
  turned-length = length-turned_in head_octets n (8 * n) ks message fits

  pub turned-octets : Octets message → Octets (message_turned p message)
  unfolding message_turned
  turned-octets = octets-turned_in head_octets n (8 * n) ks message fits

  -- bit k of the protected ones is turned by stream bit protected_bits * count + k
  pub turned_inside : (k : ℕ) → k < protected_bits p.kind
      → bit (message_turned p message) (16 + k) ≡ flip (bit message (16 + k)) (stream p.cipher p.key p.vector (protected_bits p.kind * p.count + k))
  unfolding message_turned
  turned_inside k h = bit_inside head_octets n (8 * n) ks message fits k h ∙ ap (flip (bit message (16 + k))) (within_in (8 * n) ks k h)

  -- every other bit is as it came
  pub turned_outside : (k : ℕ) → (16 ≤ k → k < 16 + protected_bits p.kind → ⊥) → bit (message_turned p message) k ≡ bit message k
  unfolding message_turned
  turned_outside k h = bit_outside head_octets n (8 * n) ks message fits k (λ a b. h a (omega arith))

  lm : length (turned (8 * n) ks (take n (drop head_octets message))) ≡ n
  lm = length-turned (8 * n) ks (take n (drop head_octets message)) ∙ length-take-le n (drop head_octets message) (simp length-drop (omega (arith, fits)))

  pub turned-before : (i : ℕ) → i < head_octets → get_or (message_turned p message) i 0 ≡ get_or message i 0
  unfolding message_turned turned_in
  turned-before = replaced-before message (turned (8 * n) ks (take n (drop head_octets message))) head_octets n lm fits

  pub turned-after : (i : ℕ) → head_octets + n ≤ i → get_or (message_turned p message) i 0 ≡ get_or message i 0
  unfolding message_turned turned_in
  turned-after = replaced-after message (turned (8 * n) ks (take n (drop head_octets message))) head_octets n lm fits

-- answer 0
module _ (p : Packet) (message : List ℕ) (done : number_of (message_of p message).0 ≡ 0) where
  -- the message afterwards
  abbrev pub after : List ℕ
  after = (message_of p message).1.1

  none : NoneHolds (message_refusals p message)
  none = done_none_holds p message (eq-eqb _ _ done)

  -- it is one of an open packet
  pub done_open : is_open p ≡ true
  done_open = none_open p (none-lost p message none)

  is : is_kind p.kind ≡ true
  is = open_kind p done_open

  pub done_long : length message ≡ message_octets p.kind
  done_long = none_long p message none

  pub done_turned : (message_of p message).1 ≡ (counted p, message_turned p message)
  unfolding message_of
  done_turned = ap (λ o. o.1) (none_settles (message_refusals p message) (p, message) _ none)

  turned-is : after ≡ message_turned p message
  turned-is = ap (λ (o : Packet × List ℕ). o.1) done_turned

  -- a protected bit is turned by its bit of the packet's keystream
  pub message_turned_lem : (k : ℕ) → k < protected_bits p.kind
      → bit after (16 + k) ≡ flip (bit message (16 + k)) (stream p.cipher p.key p.vector (protected_bits p.kind * p.count + k))
  message_turned_lem k h = ap (λ (xs : List ℕ). bit xs (16 + k)) turned-is ∙ turned_inside p message is done_long k h

  -- the two octets before are as they came, and those after: of kind 3 the last two
  pub head_stays : (k : ℕ) → k < 16 → bit after k ≡ bit message k
  head_stays k h = ap (λ (xs : List ℕ). bit xs k) turned-is ∙ turned_outside p message is done_long k (λ a b. omega arith)

  pub tail_stays : (k : ℕ) → 16 + protected_bits p.kind ≤ k → bit after k ≡ bit message k
  tail_stays k h = ap (λ (xs : List ℕ). bit xs k) turned-is ∙ turned_outside p message is done_long k (λ a b. omega arith)

  pub length_stays : length after ≡ length message
  length_stays = ap length turned-is ∙ turned-length p message is done_long

  -- the same by octets
  pub head_octets_stay : (i : ℕ) → i < head_octets → get_or after i 0 ≡ get_or message i 0
  head_octets_stay i h = ap (λ (xs : List ℕ). get_or xs i 0) turned-is ∙ turned-before p message is done_long i h

  pub tail_octets_stay : (i : ℕ) → head_octets + protected_octets p.kind ≤ i → get_or after i 0 ≡ get_or message i 0
  tail_octets_stay i h = ap (λ (xs : List ℕ). get_or xs i 0) turned-is ∙ turned-after p message is done_long i h

-- a message that is not done stays as it came
pub undone_stays : (p : Packet) (message : List ℕ) → 1 ≤ number_of (message_of p message).0 → (message_of p message).1.1 ≡ message
unfolding message_of
undone_stays p message l =
    ap (λ (r : Packet × List ℕ). r.1)
    (refusal_keeps (p, message) (message_refusals p message) (Done, (counted p, message_turned p message)) (λ e. omega (arith, ap number_of e)))
