-- Functions on a call's octets, and on a packet's: what the code read, did and kept is what the interface's definition says.
use mathlib.Core.Path.{◌≡◌, refl, sym, ap, ap₂, subst, ◌∙◌}
use mathlib.Core.Bool.{Bool, true, false, ◌&&◌, true≢false}
use mathlib.Core.List.{List, []}
use Prim.Native.Nat.{ℕ, zero, suc, ◌≤◌}
use native.Mathlib.Omega.{arith}
use lib.Dec.{eqb, ltb, leb}
use lib.ListN.{length, replicate}
use native.Mathlib.Decide.{ℕ_discrete}
use mir.Val.{bool_byte}
use borrow.Author.Tests.{eq-eqb, ne_eqb, eqb-true, eqb-false, le-ltb, leb-true, leb-false}
use Rattle.std.specs.Prelude.{Result, Ok, Err, MatchResult}
use Rattle.octets.specs.Tests.{pick}
use Rattle.answers.specs.declared.Answer.{Answer}
use Rattle.answers.specs.declared.Answer.TheVariants.{Done, Bad}
use Rattle.answers.specs.Numbers.{number_of, is_done}
use Rattle.answers.specs.Outcomes.{result_of}
use Rattle.answers.proofs.OutcomeLaws.{Refusal, refusal_keeps}
use Rattle.answers.proofs.ResultLaws.{is_returned, is_refused}
use Rattle.openings.specs.Ladder.{key_refusals}
use Rattle.openings.proofs.LadderLaws.{vector-from-two}
use Rattle.calls.specs.declared.call.Call.{Call}
use Rattle.calls.specs.declared.counts.Counts.{Counts}
use Rattle.calls.specs.Counts.{no_counts}
use Rattle.calls.specs.Call.{sending_end, receiving_end, by_default, good_call, standing, end_refusals, end_of}
use Rattle.calls.specs.Opening.{begun_refusals, open_of, start_of, join_refusals, join_of}
use Rattle.calls.specs.Vector.{announce_refusals, announce_of, following, next_refusals, next_vector_of}
use Rattle.calls.proofs.CallLaws.{is_bad_lem, not_bad}
use Rattle.voice.specs.declared.slot.Slot.{Slot}
use Rattle.voice.specs.Slot as slot
use Rattle.voice.specs.Slot.{stream_of, voice_of}
use Rattle.voice.specs.Told.{slot_of}
use Rattle.voice.proofs.SlotLaws.{undone_stays}
use Rattle.hearing.specs.declared.Hearing.{Hearing}
use Rattle.hearing.specs.Hearing.{call_of}
use Rattle.hearing.specs.Heard.{handed, handed_on, carried, heard_refusals, heard_of}
use Rattle.data.specs.declared.packet.Packet.{Packet}
use Rattle.data.specs.Opening as opening
use Rattle.data.specs.Message as message
use Rattle.data.specs.Packet as data_packet
use Rattle.data.proofs.MessageBits as messages
use Rattle.held.specs.Call as call
use Rattle.held.specs.Packet as packet
use Rattle.nxdn.specs.Operations.{CallOperation, Open, Start, Join, Voice, Lost, End, Announce, NextVector, handed_out, call_step, PacketOperation, OpenPacket, Message, LostMessage, EndPacket, packet_step, lent_packet}
use Rattle.nxdn.specs.Shown.{shown_octets, shown_call, show_of}
use Rattle.nxdn.specs.Lent.{lent_after, answered, left_by, out_after}
use Rattle.nxdn.specs.Interface.{Asked, Of, Heard, asked_step, end_fits, fits, on_call, call_left, Look, look_of, look_fits, on_look, on_packet}
use Rattle.nxdn.proofs.LentLaws.{out_done, out-not, out_none, misfit, handed-is, not-handed, is-handed, keep_refused, keep_written, undone_refuses, left-is, short, unfit, kept}

-- what an operation doesn't turn it leaves
pub out-left : (lent : List ℕ) (a : Answer) (out : List ℕ) → ((number_of a ≡ 0 → ⊥) → out ≡ lent) → out ≡ out_after lent a out
out-left lent a out stays = go (ℕ_discrete (number_of a) 0)
  where
    go : Dec (number_of a ≡ 0) → out ≡ out_after lent a out
    go (yes z) = sym (out_done lent a out z)
    go (no z) = stays z ∙ sym (out-not lent a out z)

-- what isn't done
from_one : (n : ℕ) → (n ≡ 0 → ⊥) → 1 ≤ n
from_one zero h = absurd (h refl)
from_one (suc n) h = omega arith

next_undone : (c : Call) (out : List ℕ) → (number_of (next_vector_of c out).0 ≡ 0 → ⊥) → (next_vector_of c out).1 ≡ out
unfolding next_vector_of
next_undone c out n = refusal_keeps out (next_refusals (standing c) out) (Done, following (standing c)) (λ e. n (ap number_of e))

pub next-left : (c : Call) (lent : List ℕ) {after : List ℕ} {a : Answer} → (a, after) ≡ next_vector_of c lent → after ≡ out_after lent a after
next-left c lent {after} {a} e =
    out-left lent a after
    (λ n. ap (λ (r : Answer × List ℕ). r.1) e ∙ next_undone c lent (λ z. n (ap (λ (r : Answer × List ℕ). number_of r.0) e ∙ z)))

module _ (b : List ℕ) (a : Asked) (x lent : List ℕ) where
  pub call_short : (length x ≡ call.call_octets → ⊥) → (2, (x, lent)) ≡ on_call b a x lent
  unfolding on_call
  call_short h = short call.call_octets call.hearing_in call.octets_of (fits a lent) (asked_step b a) x lent h

  pub call_unfit : length x ≡ call.call_octets → fits a lent ≡ false → (2, (x, lent)) ≡ on_call b a x lent
  unfolding on_call
  call_unfit h f = unfit call.call_octets call.hearing_in call.octets_of (fits a lent) (asked_step b a) x lent h f

-- an operation on the call, by the outcome that it comes to: read, carried and kept
module _ (b : List ℕ) (o : CallOperation) (x lent : List ℕ) (long : length x ≡ call.call_octets) (fit : end_fits o lent ≡ true) where
  abbrev its : Answer × (Call × List ℕ)
  its = call_step b (call_of (call.hearing_in x)) o

  pub call_settled : {n : ℕ} {l y : List ℕ} → (n, l) ≡ answered call.octets_of x its.0 (handed_on (call.hearing_in x) its.0 its.1.0) → y ≡ out_after lent its.0 its.1.1
      → (n, (l, y)) ≡ on_call b (Of o) x lent
  unfolding on_call carried
  call_settled = kept call.call_octets call.hearing_in call.octets_of (end_fits o lent) (asked_step b (Of o)) x lent long fit refl

-- each but a voice slot is done or refuses
abbrev settles : CallOperation → Bool
settles (Open c i r s w) = true
settles (Start c i r w) = true
settles (Join c i r s) = true
settles (Voice mask frame) = false
settles Lost = true
settles End = true
settles (Announce w) = true
settles (NextVector out) = true

call_refuses : (b : List ℕ) (c : Call) (o : CallOperation) → settles o ≡ true → is_done (call_step b c o).0 ≡ false → Refusal (call_step b c o).0
unfolding call_step open_of begun_refusals start_of join_of join_refusals key_refusals slot.lost_of slot.lost_refusals end_of end_refusals announce_of announce_refusals next_vector_of next_refusals
call_refuses b c (Open m i r s w) e =
    undone_refuses c (begun_refusals receiving_end (standing c) m i r s w b) _ (vector-from-two _ _ _ m i b w (eqb receiving_end sending_end))
call_refuses b c (Start m i r w) e =
    undone_refuses c (begun_refusals sending_end (standing c) m i r by_default w b) _ (vector-from-two _ _ _ m i b w (eqb sending_end sending_end))
call_refuses b c (Join m i r s) e = undone_refuses c (join_refusals (standing c) m i r s b) _ refl
call_refuses b c (Voice mask frame) e = absurd (true≢false (sym e))
call_refuses b c Lost e = undone_refuses c (slot.lost_refusals c) _ refl
call_refuses b c End e = undone_refuses (c, no_counts) (end_refusals (standing c)) _ refl
call_refuses b c (Announce w) e = undone_refuses c (announce_refusals (standing c) w) _ refl
call_refuses b c (NextVector out) e = undone_refuses out (next_refusals (standing c) out) _ refl

-- so its Result leaves what the operation does
left-settled : (b : List ℕ) (o : CallOperation) (x : List ℕ) → settles o ≡ true
    → let s = call_step b (call_of (call.hearing_in x)) o in
    call_left x (result_of (s.0, s.1.0)) ≡ answered call.octets_of x s.0 (handed_on (call.hearing_in x) s.0 s.1.0)
unfolding lent_after handed_on
left-settled b o x e =
    let h = call.hearing_in x in
    let s = call_step b (call_of h) o in
    left-is (λ (c : Call). call.octets_of (handed h.kept h.next c)) x (s.0, s.1.0) (call_refuses b (call_of h) o e)
    ∙ go h s.0 s.1.0 (ltb 1 (number_of s.0))
  where
    go : (h : Hearing) (a : Answer) (c : Call) (t : Bool)
        → ◌≡◌ {A = ℕ × List ℕ} (number_of a, pick t x (call.octets_of (handed h.kept h.next c))) (number_of a, pick t x (call.octets_of (pick t h (handed h.kept h.next c))))
    go h a c true = refl
    go h a c false = refl

-- as the code goes through it, for an operation that is lent nothing else
module _ (b : List ℕ) (o : CallOperation) (x : List ℕ) (fit : end_fits o [] ≡ true) (whole : settles o ≡ true) (P : Result Call Answer → Type 0) where
  abbrev of-it : Answer × (Call × List ℕ)
  of-it = call_step b (call_of (call.hearing_in x)) o

  pub operated : {n : ℕ} {y : List ℕ} → ((length x ≡ call.call_octets → ⊥) → (n ≡ 2) × (y ≡ x))
      → (length x ≡ call.call_octets → (r : Result Call Answer) × P r × ((n, y) ≡ call_left x r))
      → ((r : Result Call Answer) → P r → r ≡ result_of (of-it.0, of-it.1.0)) → of-it.1.1 ≡ []
      → (n, (y, [])) ≡ on_call b (Of o) x []
  operated {n} {y} shorter longer says none = go (eqb (length x) call.call_octets) refl
    where
      go : (t : Bool) → eqb (length x) call.call_octets ≡ t → (n, (y, [])) ≡ on_call b (Of o) x []
      go true e =
          let long = eqb-true (length x) call.call_octets e in
          let w = longer long in
          call_settled b o x [] long fit (w.2 ∙ ap (call_left x) (says w.0 w.1) ∙ left-settled b o x whole)
          (out_none of-it.0 ∙ ap (λ (l : List ℕ). out_after [] of-it.0 l) (sym none))
      go false e =
          let h = eqb-false (length x) call.call_octets e in
          let w = shorter h in
          ap₂ (λ (m : ℕ) (l : List ℕ). (m, (l, []))) w.0 w.1 ∙ call_short b (Of o) x [] h

-- ---- a voice slot

pub voice_left : (c : Call) (mask : ℕ) (frame : List ℕ) {d : Call} {after : List ℕ} {a : Answer} → (a, (d, after)) ≡ voice_of c mask frame → after ≡ out_after frame a after
voice_left c mask frame {d} {after} {a} e =
    out-left frame a after
    (λ n. ap (λ (r : Answer × (Call × List ℕ)). r.1.1) e
    ∙ undone_stays stream_of c mask frame (λ z. n (ap (λ (r : Answer × (Call × List ℕ)). number_of r.0) e ∙ z)))

module _ (mask : ℕ) (x frame : List ℕ) (long : length x ≡ call.call_octets) {h : Hearing} (read : h ≡ call.hearing_in x) {c : Call} (its-call : c ≡ call_of h)
    {r : Result Slot Answer} {y : List ℕ} (e : (r, y) ≡ slot_of (voice_of c mask frame)) where
  abbrev voiced : Answer × (Call × List ℕ)
  voiced = voice_of (call_of (call.hearing_in x)) mask frame

  as_slot : (r, y) ≡ slot_of voiced
  as_slot = e ∙ ap (λ (d : Call). slot_of (voice_of d mask frame)) (its-call ∙ ap call_of read)

  turned-left : y ≡ out_after frame voiced.0 voiced.1.1
  turned-left = ap (λ (p : Result Slot Answer × List ℕ). p.1) as_slot ∙ voice_left (call_of (call.hearing_in x)) mask frame refl

  abbrev Says : Result Slot Answer → Type 0
  Says q = MatchResult q (λ s. (number_of voiced.0 ≤ 1) × (bool_byte s.held ≡ number_of voiced.0) × (s.call ≡ voiced.1.0)) (λ a. Refusal voiced.0 × (a ≡ voiced.0))

  says : Says r
  says = subst Says (sym (ap (λ (p : Result Slot Answer × List ℕ). p.0) as_slot)) (go (leb (number_of voiced.0) 1) refl)
    where
      held-number : (n : ℕ) → n ≤ 1 → bool_byte (eqb n 1) ≡ n
      held-number zero l = refl
      held-number (suc zero) l = refl
      held-number (suc (suc n)) l = absurd (omega arith)

      go : (t : Bool) → leb (number_of voiced.0) 1 ≡ t → Says (pick t (Ok (record { held = eqb (number_of voiced.0) 1; call = voiced.1.0 })) (Err voiced.0))
      go true l = (leb-true _ _ l, held-number (number_of voiced.0) (leb-true _ _ l), refl)
      go false l = (omega (arith, leb-false _ _ l), refl)

  voice-is : {n : ℕ} {l : List ℕ} → (n, l) ≡ answered call.octets_of x voiced.0 (handed_on (call.hearing_in x) voiced.0 voiced.1.0)
      → (n, (l, y)) ≡ on_call [] (Of (Voice mask frame)) x frame
  unfolding call_step
  voice-is k = call_settled [] (Voice mask frame) x frame long refl k turned-left

  pub voice_refused : {a : Answer} → r ≡ Err a → {n : ℕ} → n ≡ number_of a → (n, (x, y)) ≡ on_call [] (Of (Voice mask frame)) x frame
  voice_refused p q =
      let w = subst Says p says in
      voice-is (keep_refused call.octets_of x voiced.0 _ (q ∙ ap number_of w.1) (rw (q ∙ ap number_of w.1) w.0))

  pub voice_taken : {s : Slot} → r ≡ Ok s → {n : ℕ} → n ≡ bool_byte s.held → {g : Hearing} → g ≡ handed h.kept h.next s.call → {l : List ℕ} → l ≡ call.octets_of g
      → (n, (l, y)) ≡ on_call [] (Of (Voice mask frame)) x frame
  unfolding handed_on
  voice_taken {s} p q {g} carries wrote =
      let w = subst Says p says in
      let t : g ≡ handed_on (call.hearing_in x) voiced.0 voiced.1.0 =
      carries ∙ ap₂ (λ (k : Hearing) (d : Call). handed k.kept k.next d) read w.2 ∙ sym (rw (le-ltb 1 (number_of voiced.0) w.0)) in
      voice-is (keep_written call.octets_of x voiced.0 _ (q ∙ w.1) (rw (q ∙ w.1) w.0) (wrote ∙ ap call.octets_of t))

-- ---- its end

module _ (x lent : List ℕ) (long : length x ≡ call.call_octets) (fit : eqb (length lent) 4 ≡ true) {h : Hearing} (read : h ≡ call.hearing_in x) {c : Call} (its-call : c ≡ call_of h)
    {r : Result (Call × Counts) Answer} (e : r ≡ result_of (end_of c)) where
  abbrev ended : Answer × (Call × Counts)
  ended = end_of (call_of (call.hearing_in x))

  as-end : r ≡ result_of ended
  as-end = e ∙ ap (λ (d : Call). result_of (end_of d)) (its-call ∙ ap call_of read)

  end-is : {n : ℕ} {l y : List ℕ} → (n, l) ≡ answered call.octets_of x ended.0 (handed_on (call.hearing_in x) ended.0 ended.1.0) → y ≡ out_after lent ended.0 (handed_out ended.1.1)
      → (n, (l, y)) ≡ on_call [] (Of End) x lent
  unfolding call_step
  end-is = call_settled [] End x lent long fit

  pub end-refused : {a : Answer} → r ≡ Err a → {n : ℕ} → n ≡ number_of a → (n, (x, lent)) ≡ on_call [] (Of End) x lent
  unfolding call_step
  end-refused p q =
      let w = is_refused ended as-end p in
      let z = q ∙ sym (ap number_of w.0) in
      let f = call_refuses [] (call_of (call.hearing_in x)) End refl (ap is_done w.0 ∙ w.1) in
      end-is (keep_refused call.octets_of x ended.0 _ z (rw z f)) (sym (out-not lent ended.0 _ (λ i. absurd (omega (arith, i, f)))))

  pub end-done : {d : Call} {m : Counts} → r ≡ Ok (d, m) → {g : Hearing} → g ≡ handed h.kept h.next d → {l : List ℕ} → l ≡ call.octets_of g → {y : List ℕ} → y ≡ handed_out m
      → (0, (l, y)) ≡ on_call [] (Of End) x lent
  unfolding handed_on
  end-done {d} {m} p {g} carries wrote laid =
      let w = is_returned ended as-end p in
      let z : 0 ≡ number_of ended.0 = sym (ap (λ (o : Answer × (Call × Counts)). number_of o.0) w) in
      let t : g ≡ handed_on (call.hearing_in x) ended.0 ended.1.0 =
      carries ∙ ap (λ (k : Hearing). handed k.kept k.next d) read ∙ sym (rw w) in
      end-is (keep_written call.octets_of x ended.0 _ z (omega arith) (wrote ∙ ap call.octets_of t))
      (laid ∙ sym (ap (λ (o : Answer × (Call × Counts)). handed_out o.1.1) w) ∙ sym (out_done lent ended.0 _ (sym z)))

-- ---- a vector is heard

module _ (w x : List ℕ) (long : length x ≡ call.call_octets) {h : Hearing} (read : h ≡ call.hearing_in x) {r : Result Hearing Answer} (e : r ≡ result_of (heard_of h w)) where
  abbrev of-heard : Answer × Hearing
  of-heard = heard_of (call.hearing_in x) w

  heard_refuses : is_done of-heard.0 ≡ false → Refusal of-heard.0
  unfolding heard_of heard_refusals
  heard_refuses = undone_refuses (call.hearing_in x) (heard_refusals (standing (call_of (call.hearing_in x))) w) _ refl

  heard-is : {n : ℕ} {l : List ℕ} → (n, l) ≡ left_by call.octets_of x r → (n, (l, [])) ≡ on_call [] (Heard w) x []
  unfolding on_call
  heard-is k =
      kept call.call_octets call.hearing_in call.octets_of true (asked_step [] (Heard w)) x [] long refl refl
      (k ∙ ap (left_by call.octets_of x) (e ∙ ap (λ (g : Hearing). result_of (heard_of g w)) read) ∙ left-is call.octets_of x of-heard heard_refuses) (out_none of-heard.0)

  pub heard-refused : {a : Answer} → r ≡ Err a → {n : ℕ} → n ≡ number_of a → (n, (x, [])) ≡ on_call [] (Heard w) x []
  heard-refused {a} p q = heard-is (ap (λ (m : ℕ). (m, x)) q ∙ ap (left_by call.octets_of x) (sym p))

  pub heard_taken : {g : Hearing} → r ≡ Ok g → {l : List ℕ} → l ≡ call.octets_of g → (0, (l, [])) ≡ on_call [] (Heard w) x []
  heard_taken p {l} wrote = heard-is (ap (λ (m : List ℕ). (zero, m)) wrote ∙ ap (left_by call.octets_of x) (sym p))

-- ---- what only looks

module _ (l : Look) (x lent : List ℕ) where
  pub look_short : (length x ≡ call.call_octets → ⊥) → (2, lent) ≡ on_look l x lent
  unfolding on_look
  look_short h = misfit _ lent _ (rw (ne_eqb (length x) call.call_octets h))

  pub look_unfit : length x ≡ call.call_octets → look_fits l lent ≡ false → (2, lent) ≡ on_look l x lent
  unfolding on_look
  look_unfit h f = misfit _ lent _ (rw (eq-eqb (length x) call.call_octets h, f))

  module _ (long : length x ≡ call.call_octets) (fit : look_fits l lent ≡ true) {h : Hearing} (read : h ≡ call.hearing_in x) {d : Call} (its : d ≡ call_of h)
      {a : Answer} {out : List ℕ} (seen : (a, out) ≡ look_of l lent d) {n : ℕ} (p : n ≡ number_of a) where
    its_own : (a, out) ≡ look_of l lent (call_of (call.hearing_in x))
    its_own = seen ∙ ap (λ (e : Call). look_of l lent e) (its ∙ ap call_of read)

    fits-it : (eqb (length x) call.call_octets && look_fits l lent) ≡ true
    fits-it = rw (eq-eqb (length x) call.call_octets long, fit)

    pub look_is : {y : List ℕ} → y ≡ out_after lent a out → (n, y) ≡ on_look l x lent
    unfolding on_look
    look_is e = handed-is _ lent _ its_own fits-it p e

    pub look_not : (n ≡ 0 → ⊥) → (n, lent) ≡ on_look l x lent
    unfolding on_look
    look_not h = not-handed _ lent _ its_own fits-it p h

    pub look_done : n ≡ 0 → {y : List ℕ} → y ≡ out → (0, y) ≡ on_look l x lent
    unfolding on_look
    look_done h e = is-handed _ lent _ its_own fits-it p h e

-- what a screen shows
module _ (c : Call) where
  pub show_bad : good_call c ≡ false → (Bad, replicate shown_octets 0) ≡ show_of c
  unfolding show_of
  show_bad g = sym (rw (is_bad_lem c g))

  pub show_good : good_call c ≡ true → (Done, shown_call c) ≡ show_of c
  unfolding show_of
  show_good g = sym (rw (not_bad c g))

-- ---- a packet

module _ (b : List ℕ) (o : PacketOperation) (x lent : List ℕ) where
  pub packet_short : (length x ≡ packet.packet_octets → ⊥) → (2, (x, lent)) ≡ on_packet b o x lent
  unfolding on_packet
  packet_short h = short packet.packet_octets packet.packet_in packet.octets_of true (λ p. packet_step b p o) x lent h

-- each operation is done or refuses
packet_refuses : (b : List ℕ) (p : Packet) (o : PacketOperation) → is_done (packet_step b p o).0 ≡ false → Refusal (packet_step b p o).0
unfolding packet_step opening.open_of opening.open_refusals message.message_of message.message_refusals message.lost_of message.lost_refusals data_packet.end_of data_packet.end_refusals
packet_refuses b p (OpenPacket end kind c i w) = undone_refuses p (opening.open_refusals p end kind c i w b) _ (vector-from-two _ _ _ c i b w (eqb end opening.to_send))
packet_refuses b p (Message octets) = undone_refuses (p, octets) (message.message_refusals p octets) _ refl
packet_refuses b p LostMessage = undone_refuses p (message.lost_refusals p) _ refl
packet_refuses b p EndPacket = undone_refuses p (data_packet.end_refusals p) _ refl

-- and leaves what it doesn't turn
message_undone : (p : Packet) (octets : List ℕ) → (number_of (message.message_of p octets).0 ≡ 0 → ⊥) → (message.message_of p octets).1.1 ≡ octets
message_undone p octets n = messages.undone_stays p octets (from_one (number_of (message.message_of p octets).0) n)

packet_left : (b : List ℕ) (p : Packet) (o : PacketOperation) → (packet_step b p o).1.1 ≡ out_after (lent_packet o) (packet_step b p o).0 (packet_step b p o).1.1
unfolding packet_step
packet_left b p (OpenPacket end kind c i w) = out_none _
packet_left b p (Message octets) = out-left octets (message.message_of p octets).0 (message.message_of p octets).1.1 (message_undone p octets)
packet_left b p LostMessage = out_none _
packet_left b p EndPacket = out_none _

-- so what its Result leaves is what the operation does
pub packet-kept : (b : List ℕ) (o : PacketOperation) (x : List ℕ) → length x ≡ packet.packet_octets → {p : Packet} → p ≡ packet.packet_in x
    → {r : Result Packet Answer} → r ≡ result_of ((packet_step b p o).0, (packet_step b p o).1.0) → {y : List ℕ} → y ≡ (packet_step b p o).1.1
    → {n : ℕ} {l : List ℕ} → (n, l) ≡ left_by packet.octets_of x r → (n, (l, y)) ≡ on_packet b o x (lent_packet o)
unfolding on_packet
packet-kept b o x long {p} read {r} e {y} f k =
    let s = packet_step b (packet.packet_in x) o in
    kept packet.packet_octets packet.packet_in packet.octets_of true (λ q. packet_step b q o) x (lent_packet o) long refl refl
    (k ∙ ap (left_by packet.octets_of x) (e ∙ ap (λ (q : Packet). result_of ((packet_step b q o).0, (packet_step b q o).1.0)) read)
    ∙ left-is packet.octets_of x (s.0, s.1.0) (packet_refuses b (packet.packet_in x) o))
    (f ∙ ap (λ (q : Packet). (packet_step b q o).1.1) read ∙ packet_left b (packet.packet_in x) o)
