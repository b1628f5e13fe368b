-- What an operation is not refused was right and in time, what is not done leaves the lent octets, and only a slot whose vector is unknown is held, and it is
-- never done.
use mathlib.Core.Path.{◌≡◌, refl, sym, ap, ◌∙◌}
use mathlib.Core.Bool.{Bool, true, false, ◌&&◌, ◌||◌, not, true≢false}
use mathlib.Core.List.{List}
use Prim.Native.Nat.{ℕ, zero, suc, ◌≤◌, ◌<◌}
use native.Mathlib.Omega.{arith}
use lib.Dec.{leb, eqb}
use lib.ListN.{length, replicate}
use borrow.Author.Tests.{eq-eqb, eqb-true, ne_eqb, leb-true, ltb-true, ltb-false, not-false}
use Rattle.octets.specs.Tests.{all_below}
use Rattle.octets.specs.Lists.{all_zero}
use Rattle.octets.proofs.TestLaws.{and_left, and_right}
use Rattle.answers.specs.declared.Answer.{Answer}
use Rattle.answers.specs.declared.Answer.TheVariants.{Done}
use Rattle.answers.specs.Numbers.{number_of}
use Rattle.answers.specs.Outcomes.{Refusals, outcome}
use Rattle.answers.proofs.OutcomeLaws.{NoneHolds, Refusal, refusal_keeps}
use Rattle.answers.proofs.TableLaws.{Settles, not_refused}
use Rattle.keyentry.specs.Entry.{in_range}
use Rattle.keyentry.specs.Name.{name_octets, name_right}
use Rattle.keyentry.proofs.NameLaws.{right-is_name}
use Rattle.keybook.specs.Book.{book_octets, good_book, book_refusals}
use Rattle.keybook.specs.Operations.{begin_refusals, add_refusals, finish_refusals, entry_refusals}
use Rattle.keybook.specs.Screen.{inventory_refusals}
use Rattle.keybook.specs.History as book
use Rattle.sizes.specs.Ciphers.{vector_octets}
use Rattle.sizes.specs.Frame.{is_rate}
use Rattle.sizes.proofs.SizeLaws.{by_rate}
use Rattle.openings.specs.Ladder as ladder
use Rattle.calls.specs.Counts.{no_counts}
use Rattle.calls.specs.declared.counts.Counts.{Counts}
use Rattle.calls.specs.declared.call.Call.{Call}
use Rattle.calls.specs.Call.{sending_end, receiving_end, unknown_vector, by_default, strict, terms_right, good_call, standing, knows, end_refusals, after_end, end_of}
use Rattle.calls.specs.Opening.{join_refusals, begun_refusals}
use Rattle.voice.specs.Slot.{lost_refusals, voice_refusals, stream_of, voice_of}
use Rattle.calls.specs.Vector.{announce_refusals, following, next_refusals, next_vector_of}
use Rattle.calls.proofs.CallLaws.{good_by, is-sender, or_receiver, knows_no}
use Rattle.voice.proofs.SlotLaws.{none_long, undone_stays}
use Rattle.voice.proofs.Exactly.{done_exactly, held_exactly}
use Rattle.data.specs.declared.packet.Packet.{Packet}
use Rattle.data.specs.Kinds.{is_kind, message_octets}
use Rattle.data.proofs.KindLaws.{kind_range}
use Rattle.data.specs.Packet as packet
use Rattle.data.specs.Opening as opening
use Rattle.data.specs.Message as message
use Rattle.nxdn.specs.Operations.{ScreenOperation, Name, Inventory, screen_step, lent_screen, CallOperation, Open, Start, Join, Voice, Lost, End, Announce, NextVector, call_step, lent_call, PacketOperation, OpenPacket, Message, LostMessage, EndPacket, packet_step, lent_packet, handed_out}
use Rattle.demands.specs.Device.{Device, Operation, OfBook, OfScreen, OfCall, OfPacket, step, lent}
use Rattle.demands.specs.Refusals.{key_refusals, screen_refusals, call_refusals, packet_refusals, refusals_of}
use Rattle.demands.specs.Demand1.{Keyed, RightBook, RightScreen, NotZeros, RightCall, RightPacket, RightInput, InTime, Unknown, slot}
use Rattle.demands.specs.Rates.{Layout}
use Rattle.demands.proofs.Layouts.{layout_is}
use Rattle.demands.proofs.TimeLaws.{unrefused_in_time}
use Rattle.demands.proofs.DeviceLaws.{book_settles, screen_settles, call_settles, packet_settles, unrefused_only}

-- ---- what nothing refuses is right

-- a length that is asked for
sized : (n m : ℕ) → not (eqb n m) ≡ false → n ≡ m
sized n m e = eqb-true n m (not-false (eqb n m) e)

keyed : (b : List ℕ) (c i : ℕ) (own : Bool) → not (eqb (length b) book_octets) ≡ false → not (own && in_range c i) ≡ false → not (good_book b) ≡ false → Keyed b c i
unfolding in_range
keyed b c i own l n g =
    let m : in_range c i ≡ true = and_right own (in_range c i) (not-false (own && in_range c i) n) in
    let r = and_right (leb 1 c) (leb c 3 && leb i 63) m in
    record {
      long = sized (length b) book_octets l;
      good = not-false (good_book b) g;
      cipher = (leb-true 1 c (and_left (leb 1 c) (leb c 3 && leb i 63) m), leb-true c 3 (and_left (leb c 3) (leb i 63) r));
      id = leb-true i 63 (and_right (leb c 3) (leb i 63) r);
    }

key_right_lem : (b : List ℕ) (o : book.Operation) → NoneHolds (key_refusals b o) → RightBook b o
unfolding begin_refusals add_refusals finish_refusals entry_refusals book_refusals
key_right_lem b (book.Begin c i name) n =
    (keyed b c i true n.1.0 n.1.1.0 n.1.1.1.1.0, right-is_name name (sized (length name) name_octets n.0) (not-false (name_right name) n.1.1.1.0))
key_right_lem b (book.Add c i xs) n = (keyed b c i true n.1.0 n.1.1.0 n.1.1.1.0, ltb-false 32 (length xs) n.0)
key_right_lem b (book.Finish c i) n = keyed b c i true n.0 n.1.0 n.1.1.0
key_right_lem b (book.Erase c i) n = keyed b c i true n.0 n.1.0 n.1.1.0

screen_right : (b : List ℕ) (o : ScreenOperation) → NoneHolds (screen_refusals b o) → RightScreen b o
unfolding entry_refusals book_refusals inventory_refusals
screen_right b (Name c i) n = keyed b c i true n.0 n.1.0 n.1.1.0
screen_right b (Inventory k) n =
    let l : k < 16 = ltb-true k 16 (not-false _ n.1.0) in
    (sized (length b) book_octets n.0, omega arith, not-false (good_book b) n.1.1.0)

-- a vector that is not all zero
not_zeros : (w : List ℕ) → all_zero w ≡ false → w ≡ replicate 8 0 → ⊥
unfolding all_zero all_below
not_zeros w f e = true≢false (sym (ap all_zero e) ∙ f)

sender-not-zeros : (c : ℕ) (w : List ℕ) → NoneHolds (ladder.zero_refusals true c w) → NotZeros c w
unfolding ladder.zero_refusals ladder.zero_for
sender-not-zeros c w n s = not_zeros w (sym (ap (λ (t : Bool). not t && all_zero w) (ne_eqb c 1 s)) ∙ n.0)

-- a rate and a strictness that are asked for
ways_range : (end c i r s : ℕ) → not (terms_right end r s && in_range c i) ≡ false → (r ≤ 1) × (s ≤ 1)
unfolding terms_right
ways_range end c i r s n =
    let right = and_left (terms_right end r s) (in_range c i) (not-false (terms_right end r s && in_range c i) n) in
    let low = and_right (is_rate r) _ right in
    (by_rate (λ r. r ≤ 1) (omega arith) (omega arith) r (and_left (is_rate r) _ right), go (eqb s by_default) refl low)
  where
    go : (t : Bool) → eqb s by_default ≡ t → (t || (eqb s strict && eqb end receiving_end)) ≡ true → s ≤ 1
    go true e h = omega (arith, eqb-true s by_default e)
    go false e h = omega (arith, eqb-true s strict (and_left (eqb s strict) _ h))

-- open and start
begun-right : (end : ℕ) (b : List ℕ) (c : Call) (m i r s : ℕ) (w : List ℕ) → NoneHolds (begun_refusals end (standing c) m i r s w b)
    → Keyed b m i × ((r ≤ 1) × (s ≤ 1)) × (length w ≡ 8) × (good_call c ≡ true) × NoneHolds (ladder.zero_refusals (eqb end sending_end) m w)
unfolding begun_refusals ladder.vector_refusals ladder.key_refusals
begun-right end b c m i r s w n = (
  keyed b m i (terms_right end r s) n.1.0 n.1.1.0 n.1.1.1.1.1.0,
  ways_range end m i r s n.1.1.0,
  sized (length w) vector_octets n.0,
  good_by c n.1.1.1.0,
  n.1.1.1.1.1.1.1.1,
)

call_right : (b : List ℕ) (c : Call) (o : CallOperation) → NoneHolds (call_refusals b c o) → RightCall b c o
unfolding join_refusals ladder.key_refusals voice_refusals lost_refusals end_refusals announce_refusals next_refusals
call_right b c (Open m i r s w) n = let q = begun-right receiving_end b c m i r s w n in (q.0, q.1.0, q.1.1, q.2, q.3)
call_right b c (Start m i r w) n = let q = begun-right sending_end b c m i r by_default w n in (q.0, q.1.0, q.2, sender-not-zeros m w q.4, q.3)
call_right b c (Join m i r s) n =
    let q = ways_range receiving_end m i r s n.1.0 in
    (keyed b m i (terms_right receiving_end r s) n.0 n.1.0 n.1.1.1.1.0, q.0, q.1, good_by c n.1.1.0)
call_right b c (Voice mask frame) n = (
  ltb-false 15 mask n.0,
  good_by c n.1.0,
  none_long c mask frame n ∙ ap (λ (l : Layout). l.frame) (sym (layout_is c.terms.rate)),
)
call_right b c Lost n = good_by c n.0
call_right b c End n = good_by c n.0
call_right b c (Announce w) n = (sized (length w) vector_octets n.0, good_by c n.1.0)
call_right b c (NextVector out) n = (sized (length out) vector_octets n.0, good_by c n.1.0)

end_range : (end : ℕ) → opening.is_end end ≡ true → end ≤ 1
unfolding opening.is_end
end_range end e = go (eqb end opening.to_receive) refl e
  where
    go : (t : Bool) → eqb end opening.to_receive ≡ t → (t || eqb end opening.to_send) ≡ true → end ≤ 1
    go true z e = omega (arith, eqb-true end opening.to_receive z)
    go false z e = omega (arith, eqb-true end opening.to_send e)

packet-right : (b : List ℕ) (p : Packet) (o : PacketOperation) → NoneHolds (packet_refusals b p o) → RightPacket b p o
unfolding opening.open_refusals ladder.vector_refusals ladder.key_refusals message.message_refusals message.lost_refusals packet.end_refusals
packet-right b p (OpenPacket end kind c i w) n =
    let own = opening.is_end end && is_kind kind in
    let r : own ≡ true = and_left own (in_range c i) (not-false (own && in_range c i) n.1.1.0) in (
      keyed b c i own n.1.0 n.1.1.0 n.1.1.1.1.1.0,
      end_range end (and_left (opening.is_end end) (is_kind kind) r),
      kind_range kind (and_right (opening.is_end end) (is_kind kind) r),
      sized (length w) vector_octets n.0,
      λ e. sender-not-zeros c w (rw (eq-eqb end opening.to_send e) at n.1.1.1.1.1.1.1.1),
      not-false (packet.good_packet p) n.1.1.1.0,
    )
packet-right b p (Message octets) n = (sized (length octets) (message_octets p.kind) n.1.1.0, not-false (packet.good_packet p) n.0)
packet-right b p LostMessage n = not-false (packet.good_packet p) n.0
packet-right b p EndPacket n = not-false (packet.good_packet p) n.0

unrefused-right : (d : Device) (o : Operation) → NoneHolds (refusals_of d o) → RightInput d o
unrefused-right d (OfBook o) = key_right_lem d.book o
unrefused-right d (OfScreen o) = screen_right d.book o
unrefused-right d (OfCall n o) = call_right d.book (d.calls n) o
unrefused-right d (OfPacket n o) = packet-right d.book (d.packets n) o

from-two : (n : ℕ) → (n < 2 → ⊥) → 2 ≤ n
from-two zero f = absurd (f (omega arith))
from-two (suc zero) f = absurd (f (omega arith))
from-two (suc (suc n)) f = omega arith

pub wrong_is_refused : (d : Device) (o : Operation) → (RightInput d o → ⊥) → Refusal (step d o).0
wrong_is_refused d o w = from-two (number_of (step d o).0) (λ l. w (unrefused-right d o (unrefused_only d o l)))

pub untimely_is_refused : (d : Device) (o : Operation) → (InTime d o → ⊥) → Refusal (step d o).0
untimely_is_refused d o w = from-two (number_of (step d o).0) (λ l. w (unrefused_in_time d o (unrefused_only d o l)))

-- ---- what is not done leaves the lent octets; and what is held

-- an operation that is done where nothing refuses it: what is not done leaves all as it was
undone : {S : Type 0} (before after : S) (rs : Refusals) → (number_of (outcome before rs after).0 ≡ 0 → ⊥) → (outcome before rs after).1 ≡ before
undone before after rs n = refusal_keeps before rs (Done, after) (λ e. n (ap number_of e))

call_untouched : (b : List ℕ) (c : Call) (o : CallOperation) → (number_of (call_step b c o).0 ≡ 0 → ⊥) → (call_step b c o).1.1 ≡ lent_call o
unfolding call_step next_vector_of end_of
call_untouched b c (Open m i r s w) n = refl
call_untouched b c (Start m i r w) n = refl
call_untouched b c (Join m i r s) n = refl
call_untouched b c (Voice mask frame) n = undone_stays stream_of c mask frame n
call_untouched b c Lost n = refl
call_untouched b c End n =
    ap (λ (x : Call × Counts). handed_out x.1) (undone {S = Call × Counts} (c, no_counts) (after_end c) (end_refusals (standing c)) n)
call_untouched b c (Announce w) n = refl
call_untouched b c (NextVector out) n = undone out (following (standing c)) (next_refusals (standing c) out) n

packet_untouched : (b : List ℕ) (p : Packet) (o : PacketOperation) → (number_of (packet_step b p o).0 ≡ 0 → ⊥) → (packet_step b p o).1.1 ≡ lent_packet o
unfolding packet_step message.message_of
packet_untouched b p (OpenPacket end kind c i w) n = refl
packet_untouched b p (Message octets) n =
    ap (λ (r : Packet × List ℕ). r.1) (undone (p, octets) (message.counted p, message.message_turned p octets) (message.message_refusals p octets) n)
packet_untouched b p LostMessage n = refl
packet_untouched b p EndPacket n = refl

screen_untouched : (b : List ℕ) (o : ScreenOperation) → (number_of (screen_step b o).0 ≡ 0 → ⊥) → (screen_step b o).1 ≡ lent_screen o
screen_untouched b o n = let s = screen_settles b o in s.keeps (from-two (number_of (screen_step b o).0) (λ l. n (ap number_of (not_refused s l))))

pub undone_untouched : (d : Device) (o : Operation) → (number_of (step d o).0 ≡ 0 → ⊥) → (step d o).1.1 ≡ lent o
unfolding step
undone_untouched d (OfBook o) n = refl
undone_untouched d (OfScreen o) n = screen_untouched d.book o n
undone_untouched d (OfCall m o) n = call_untouched d.book (d.calls m) o n
undone_untouched d (OfPacket m o) n = packet_untouched d.book (d.packets m) o n

-- nor is it ever held
not-held : {S : Type 0} {before : S} {rs : Refusals} {o : Answer × S} → Settles before rs Done o → number_of o.0 ≡ 1 → ⊥
not-held {o = o} s z = let e = ap number_of (not_refused s (omega arith)) in omega arith

slot_held : (c : Call) (mask : ℕ) (frame : List ℕ) → number_of (voice_of c mask frame).0 ≡ 1 → (c.end ≡ receiving_end) × (c.known ≡ unknown_vector)
slot_held c mask frame z =
    let t = (held_exactly c mask frame).0 z in
    let u : c.known ≡ unknown_vector = eqb-true _ _ (not-false _ t.vector) in
    (or_receiver c t.good t.stands (λ e. true≢false (sym (ap knows (is-sender c t.good e)) ∙ knows_no c u)), u)

call_held : (d : Device) (n : ℕ) (o : CallOperation) → number_of (call_step d.book (d.calls n) o).0 ≡ 1 → Unknown d (OfCall n o)
unfolding call_step
call_held d n (Open c i r s w) z = absurd (not-held (call_settles d.book (d.calls n) (Open c i r s w)) z)
call_held d n (Start c i r w) z = absurd (not-held (call_settles d.book (d.calls n) (Start c i r w)) z)
call_held d n (Join c i r s) z = absurd (not-held (call_settles d.book (d.calls n) (Join c i r s)) z)
call_held d n (Voice mask frame) z = let h = slot_held (d.calls n) mask frame z in slot n mask frame h.0 h.1
call_held d n Lost z = absurd (not-held (call_settles d.book (d.calls n) Lost) z)
call_held d n End z = absurd (not-held (call_settles d.book (d.calls n) End) z)
call_held d n (Announce w) z = absurd (not-held (call_settles d.book (d.calls n) (Announce w)) z)
call_held d n (NextVector out) z = absurd (not-held (call_settles d.book (d.calls n) (NextVector out)) z)

pub only_slots-held : (d : Device) (o : Operation) → number_of (step d o).0 ≡ 1 → Unknown d o
unfolding step
only_slots-held d (OfBook o) z = absurd (not-held (book_settles d.book o) z)
only_slots-held d (OfScreen o) z = absurd (not-held (screen_settles d.book o) z)
only_slots-held d (OfCall n o) z = call_held d n o z
only_slots-held d (OfPacket n o) z = absurd (not-held (packet_settles d.book (d.packets n) o) z)

-- and no such slot is done
pub unknown_not_done : (d : Device) (o : Operation) → Unknown d o → number_of (step d o).0 ≡ 0 → ⊥
unfolding step call_step
unknown_not_done d _ (slot n mask frame e k) z = true≢false (sym ((done_exactly (d.calls n) mask frame).0 z).vector ∙ ap not (eq-eqb _ _ k))
