-- A message of a packet, as the code goes through it.
use mathlib.Core.Path.{◌≡◌, refl, sym, ap, ◌∙◌}
use mathlib.Core.Bool.{true, false, ◌||◌, not, or-true, true≢false}
use mathlib.Core.List.{List, [], ◌∷◌, ◌++◌, append-nil}
use Prim.Native.Nat.{ℕ, ◌+◌, ◌-◌, ◌*◌, ◌/◌, ◌≤◌, ◌<◌}
use native.Mathlib.Nat.{zero-add, mul_assoc, mul-le-mul}
use native.Mathlib.Omega.{arith}
use lib.Dec.{leb, eqb}
use lib.ListN.{length, take, drop, length-append, length-drop, get_or-append}
use lib.Seq.{length-take-le}
use borrow.Author.Tests.{eq-eqb, ne_eqb, eqb-true, not-false, leb-false}
use borrow.Rule.Slice.PartMut.{put_mid}
use Rattle.octets.specs.Lists.{replaced}
use Rattle.octets.specs.Bits.{bit, octets_from, Bits}
use Rattle.octets.specs.Turn.{turned, turned_in}
use Rattle.octets.proofs.BitLaws.{bit-octets_from, length-octets_from}
use Rattle.octets.proofs.Parts.{put-turned}
use Rattle.answers.specs.declared.Answer.{Answer}
use Rattle.answers.specs.declared.Answer.TheVariants.{Done, WrongLength}
use Rattle.answers.specs.Numbers.{is_done}
use Rattle.answers.specs.Outcomes.{Refusals, settled, outcome}
use Rattle.answers.proofs.OutcomeLaws.{NoneHolds, never_done, none_left, none_right, none_settles, none_first, Refuses, answer_at, refused_at, first_refuses, done_none}
use Rattle.ciphers.proofs.KeystreamLaws.{bits-stream}
use Rattle.octets.proofs.TestLaws.{or_right, or_neither}
use Rattle.octets.proofs.Turning.{turned-within}
use Rattle.data.specs.declared.packet.Packet.{Packet}
use Rattle.data.specs.Kinds.{is_kind, message_octets, head_octets, protected_octets, protected_bits}
use Rattle.data.specs.Packet.{most_messages, is_closed, is_open, good_packet}
use Rattle.data.specs.Message.{counted, lost_refusals, lost_of, message_refusals, of_message, turned_by, stream_of, message_turned, message_of}
use Rattle.data.proofs.KindLaws.{kind_fits, kind_most}
use Rattle.data.proofs.PacketLaws.{not_closed, closed_by}

-- ---- a lost message

module _ (p : Packet) where
  pub lost_refused : (n : ℕ) → Refuses (lost_refusals p) n → (answer_at (lost_refusals p) n, p) ≡ lost_of p
  unfolding lost_of
  lost_refused = refused_at p (lost_refusals p) (Done, counted p)

  pub lost_done : NoneHolds (lost_refusals p) → (Done, counted p) ≡ lost_of p
  unfolding lost_of
  lost_done n = sym (none_settles (lost_refusals p) p (Done, counted p) n)

  -- 9: without a packet, or past the last message
  pub not_now_closed : good_packet p ≡ true → p.kind ≡ 0 → (is_closed p || leb most_messages p.count) ≡ true
  not_now_closed good z = rw (closed_by p good z)

  pub not_now_over : leb most_messages p.count ≡ true → (is_closed p || leb most_messages p.count) ≡ true
  not_now_over h = rw (h, or-true)

  -- and else not
  pub now_is : (p.kind ≡ 0 → ⊥) → leb most_messages p.count ≡ false → (is_closed p || leb most_messages p.count) ≡ false
  now_is n h = rw (not_closed p n) h

  module _ (n : NoneHolds (lost_refusals p)) where
    pub none-good : good_packet p ≡ true
    unfolding lost_refusals
    none-good = not-false _ n.0

    neither : (is_closed p ≡ false) × (leb most_messages p.count ≡ false)
    unfolding lost_refusals
    neither = or_neither (is_closed p) (leb most_messages p.count) n.1.0

    pub none_open : is_open p ≡ true
    unfolding good_packet
    none_open = or_right (is_closed p) (is_open p) none-good (λ e. true≢false (sym e ∙ neither.0))

    pub none_few : p.count < most_messages
    none_few = leb-false most_messages p.count neither.1

  lost-never : never_done (lost_refusals p) ≡ true
  unfolding lost_refusals
  lost-never = refl

  pub lost-none : {q : Packet} → lost_of p ≡ (Done, q) → NoneHolds (lost_refusals p)
  unfolding lost_of
  lost-none e = done_none (lost_refusals p) p (counted p) lost-never (ap (λ (o : Answer × Packet). is_done o.0) e)

-- ---- its octets

-- bits that agree as far as the protected ones turn a message alike
pub turned_alike : (ks ls : ℕ → ℕ) (kind : ℕ) → ((k : ℕ) → k < protected_bits kind → ks k ≡ ls k) → (message : List ℕ)
    → turned_by ks kind message ≡ turned_by ls kind message
unfolding turned_in
turned_alike ks ls kind same message =
    ap (replaced message head_octets (protected_octets kind))
    (turned-within (protected_bits kind) ks ls same (take (protected_octets kind) (drop head_octets message)))

-- as the code turns it
pub put_part : (ks : ℕ → ℕ) (kind part : ℕ) (message m : List ℕ) → part ≡ protected_octets kind
    → m ≡ turned (8 * part) ks (take (head_octets + part - head_octets) (drop head_octets message))
    → put_mid head_octets (head_octets + part - head_octets) message m ≡ turned_by ks kind message
put_part ks kind part message m is_part_lem e = put-turned head_octets part (8 * part) ks message m e ∙ rw is_part_lem

-- a buffer whose front was written by a keystream
module _ (part : ℕ) (own buffer : List ℕ) (ks : ℕ → ℕ) (room : part ≤ length buffer) (is-own : own ≡ octets_from (length (take part buffer)) ks) where
  own_is : own ≡ octets_from part ks
  own_is = is-own ∙ rw (length-take-le part buffer room)

  own-size : length own ≡ part
  own-size = ap length own_is ∙ length-octets_from part ks

  -- it is as long as it was
  pub own-length : length buffer ≡ length (own ++ drop part buffer)
  own-length = rw (length-append own (drop part buffer), own-size, length-drop part buffer) (omega arith)

  own-bit : Bits ks → (k : ℕ) → k < 8 * part → bit (own ++ drop part buffer) (0 + k) ≡ ks k
  own-bit bits k h =
      let l : k / 8 < length own = omega (arith, own-size) in
      ap (bit (own ++ drop part buffer)) (zero-add k)
      ∙ rw (get_or-append own (drop part buffer) 0 (k / 8) l) (ap (λ (xs : List ℕ). bit xs k) own_is ∙ bit-octets_from part ks bits k h)

-- where it was the message's own bits, it turns the message as the packet does
module _ (p : Packet) (message : List ℕ) (part from : ℕ) (own buffer m : List ℕ)
    (is_part_lem : part ≡ protected_octets p.kind) (is-from : from ≡ part * p.count) (room : part ≤ length buffer)
    (is-own : own ≡ octets_from (length (take part buffer)) (λ k. stream_of p (8 * from + k))) where
  abbrev ks : ℕ → ℕ
  ks = of_message (stream_of p) p.kind p.count

  message-bit : (k : ℕ) → k < protected_bits p.kind → bit (own ++ drop part buffer) (0 + k) ≡ ks k
  message-bit k h =
      let e : 8 * from ≡ protected_bits p.kind * p.count = rw (is-from, is_part_lem) (sym (mul_assoc 8 (protected_octets p.kind) p.count)) in
      own-bit part own buffer (λ i. stream_of p (8 * from + i)) room is-own
      (λ i. bits-stream p.cipher p.key p.vector (8 * from + i)) k (omega (arith, is_part_lem))
      ∙ rw e

  pub by_own : m ≡ turned_by (λ k. bit (own ++ drop part buffer) (0 + k)) p.kind message → m ≡ message_turned p message
  unfolding message_turned
  by_own e = e ∙ turned_alike (λ k. bit (own ++ drop part buffer) (0 + k)) ks p.kind message-bit message

-- where they lie
pub part_most : (kind : ℕ) → is_kind kind ≡ true → {part : ℕ} → part ≡ protected_octets kind → part ≤ 20
part_most kind is e = rw e (kind_most kind is)

pub part_ends : (kind : ℕ) (message : List ℕ) → is_kind kind ≡ true → {part : ℕ} → part ≡ protected_octets kind
    → length message ≡ message_octets kind → head_octets + part ≤ length message
part_ends kind message is e l = rw (e, l) (kind_fits kind is)

pub place-fits : (part n : ℕ) → part ≤ 20 → n ≤ most_messages → part * n ≤ 20000
place-fits part n a b = omega (arith, mul-le-mul a b)

-- ---- a message

module _ (p : Packet) (message : List ℕ) where
  abbrev right : Refusals
  right = (not (eqb (length message) (message_octets p.kind)), WrongLength) ∷ []

  abbrev last : Answer × (Packet × List ℕ)
  last = (Done, (counted p, message_turned p message))

  -- its answer, and the packet after it
  abbrev pub step_of : Answer × Packet
  step_of = ((message_of p message).0, (message_of p message).1.0)

  pub parted : {a : Answer} {q : Packet} {m : List ℕ} → (a, (q, m)) ≡ message_of p message → (a, q) ≡ step_of
  parted e = ap (λ (o : Answer × (Packet × List ℕ)). (o.0, o.1.0)) e

  -- what a lost message would be refused, a message is
  pub lost_decides : {a : Answer} → (lost_of p).0 ≡ a → is_done a ≡ false → (a, (p, message)) ≡ message_of p message
  unfolding lost_of message_of message_refusals
  lost_decides r d =
      ap (λ (x : Answer). (x, (p, message))) (sym r)
      ∙ sym (first_refuses (lost_refusals p) right p (counted p) (p, message) last (ap is_done r ∙ d))

  module _ (n : NoneHolds (lost_refusals p)) where
    left : message_of p message ≡ outcome (p, message) right (counted p, message_turned p message)
    unfolding message_of message_refusals
    left = none_first (lost_refusals p) right (p, message) last n

    pub message_length : (length message ≡ message_octets p.kind → ⊥) → (WrongLength, (p, message)) ≡ message_of p message
    message_length h = sym (left ∙ rw (ne_eqb _ _ h))

    pub message_done : length message ≡ message_octets p.kind → (Done, (counted p, message_turned p message)) ≡ message_of p message
    message_done h = sym (left ∙ rw (eq-eqb _ _ h))

  -- the packet is then the one that a lost message leaves
  pub lost-leaves : {q : Packet} → lost_of p ≡ (Done, q) → length message ≡ message_octets p.kind
      → (Done, (q, message_turned p message)) ≡ message_of p message
  lost-leaves e h =
      let n = lost-none p e in
      ap (λ (x : Answer × Packet). (x.0, (x.1, message_turned p message))) (sym e ∙ sym (lost_done p n)) ∙ message_done n h

  -- ---- where nothing refuses it

  never : never_done (message_refusals p message) ≡ true
  unfolding message_refusals lost_refusals
  never = refl

  pub done_none_holds : is_done (message_of p message).0 ≡ true → NoneHolds (message_refusals p message)
  unfolding message_of
  done_none_holds = done_none (message_refusals p message) (p, message) (counted p, message_turned p message) never

  module _ (n : NoneHolds (message_refusals p message)) where
    pub none-lost : NoneHolds (lost_refusals p)
    unfolding message_refusals
    none-lost = none_left (lost_refusals p) right n

    pub none_long : length message ≡ message_octets p.kind
    unfolding message_refusals
    none_long = eqb-true _ _ (not-false _ (none_right (lost_refusals p) right n).0)

-- ---- as the code goes: an answer and a packet, and the message turned after them where it is done

module _ (p : Packet) (message : List ℕ) where
  -- refused, all is as it was, whatever else would be refused
  module _ {a : Answer} (r : (message_of p message).0 ≡ a) (d : is_done a ≡ false) where
    pub step-first : (rest : Refusals) (end : Answer × (Packet × List ℕ)) → (a, (p, message)) ≡ settled (p, message) (message_refusals p message ++ rest) end
    unfolding message_of
    step-first rest end =
        ap (λ (x : Answer). (x, (p, message))) (sym r)
        ∙ sym (first_refuses (message_refusals p message) rest (p, message) (counted p, message_turned p message) (p, message) end (ap is_done r ∙ d))

    pub step_refused : (a, (p, message)) ≡ message_of p message
    unfolding message_of
    step_refused = rw append-nil at (step-first [] (last p message))

  -- done, the packet is one message on
  module _ {q : Packet} (e : step_of p message ≡ (Done, q)) where
    pub step-none : NoneHolds (message_refusals p message)
    step-none = done_none_holds p message (ap (λ (o : Answer × Packet). is_done o.0) e)

    done : (Done, (counted p, message_turned p message)) ≡ message_of p message
    done = message_done p message (none-lost p message step-none) (none_long p message step-none)

    pub step_counts : q ≡ counted p
    step_counts = ap (λ (o : Answer × Packet). o.1) (sym e) ∙ sym (ap (λ (o : Answer × Packet). o.1) (parted p message done))

    pub step-turned : {m : List ℕ} → m ≡ message_turned p message → (Done, (q, m)) ≡ message_of p message
    step-turned t = rw (step_counts, t) done
